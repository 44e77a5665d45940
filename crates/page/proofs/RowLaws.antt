-- RowLaws: records filled value by value, and rows laid one behind the other.
-- Assumes nothing.
use mathlib.Core.Path.{◌≡◌, refl, sym, ap, ◌∙◌, subst}
use mathlib.Core.Bool.{false}
use mathlib.Core.List.{List, [], ◌∷◌, ◌++◌, append_assoc, append-nil}
use Prim.Native.Nat.{ℕ, zero, suc, ◌+◌, ◌*◌, ◌≤◌, ◌<◌}
use native.Mathlib.Omega.{arith}
use borrow.Author.Tests.{ne_eqb}
use lib.ListN.{length, take, drop, get_or, length-append}
use lib.Seq.{take_at, drop_at, drop-drop, drop-append-le, length-take-le}
use Rattle.paper.specs.Lists.{concat}
use Rattle.paper.specs.Fields.{M, fields_of}
use Rattle.paper.specs.Plan.{Slots, Row}
use Rattle.paper.specs.Judging.{broken}
use Rattle.paper.specs.Layout.{Span, spans_from, row_values, rows_values}
use Rattle.room.specs.Laid.{laid}
use Rattle.room.proofs.LaidLaws.{Laying, start, next_piece, all_laid}
use Rattle.fields.specs.Places.{kind_at, no_field}
use Rattle.fields.proofs.TableLaws.{code_back}
use Rattle.plan.specs.Numbers.{flat, padded, kind_number, record_with, row_numbers, rows_numbers}
use Rattle.plan.proofs.Shown.{concat_append}
use Rattle.plan.proofs.Spans.{padded_long, record_size}
use Rattle.page.specs.Laying.{Room, Lays, row_from, LaysRow, Fills}
use Rattle.page.proofs.ContentLaws.{flat_long, summed}
use Rattle.page.proofs.HeadLaws.{kept_at, short_kept}

-- ---- one record

padded_split : (k : ℕ) (q : List ℕ) → length q ≤ k → padded k 0 q ≡ q ++ drop (length q) (padded k 0 [])
padded_split k [] h = refl
padded_split zero (c ∷ q) h = absurd (omega arith)
padded_split (suc k) (c ∷ q) h = ap (λ (l : List ℕ). c ∷ l) (padded_split k q (omega arith))

blank_long : (k : ℕ) → length {A = ℕ} (padded k 0 []) ≡ k
blank_long k = padded_long 0 k []

-- spans laid into an open record make the record of these spans
pub record_filled : (rows rows₁ rows₂ : List ℕ) (a k n : ℕ) (ss : List Span) → a + 48 ≤ length rows → length (flat ss) ≤ 46 → rows₁ ≡ laid rows a (record_with k n []) → rows₂ ≡ laid rows₁ (a + 2) (flat ss)
    → rows₂ ≡ laid rows a (record_with k n ss)
unfolding record_with
record_filled rows rows₁ rows₂ a k n ss h l e f =
    let zeros : List ℕ = padded 46 0 [] in
    let q : List ℕ = flat ss in
    let pre : List ℕ = take a rows in
    let post : List ℕ = drop (a + 48) rows in
    let long : length pre ≡ a = length-take-le a rows (omega arith) in
    let size : a + length (k ∷ n ∷ zeros) ≡ a + 48 = omega (arith, blank_long 46) in
    let open₁ : rows₁ ≡ (pre ++ (k ∷ n ∷ [])) ++ (zeros ++ post) = e ∙ ap (λ (m : ℕ). pre ++ ((k ∷ n ∷ zeros) ++ drop m rows)) size ∙ sym (append_assoc pre (k ∷ n ∷ []) (zeros ++ post)) in
    let two : length (pre ++ (k ∷ n ∷ [])) ≡ a + 2 = length-append pre (k ∷ n ∷ []) ∙ ap (λ (m : ℕ). m + 2) long in
    let fore : take (a + 2) rows₁ ≡ pre ++ (k ∷ n ∷ []) = ap (take (a + 2)) open₁ ∙ take_at (pre ++ (k ∷ n ∷ [])) (zeros ++ post) (a + 2) two in
    let aft : drop (a + 2 + length q) rows₁ ≡ drop (length q) zeros ++ post =
    sym (drop-drop (length q) (a + 2) rows₁) ∙ ap (λ (x : List ℕ). drop (length q) (drop (a + 2) x)) open₁
    ∙ ap (drop (length q)) (drop_at (pre ++ (k ∷ n ∷ [])) (zeros ++ post) (a + 2) two) ∙ drop-append-le (length q) zeros post (omega (arith, blank_long 46)) in
    let whole : a + length (k ∷ n ∷ padded 46 0 q) ≡ a + 48 = omega (arith, record_size k n ss) in
    let full : padded 46 0 q ++ post ≡ q ++ (drop (length q) zeros ++ post) = ap (λ (x : List ℕ). x ++ post) (padded_split 46 q l) ∙ append_assoc q (drop (length q) zeros) post in
    f ∙ ap (λ (x : List ℕ). x ++ (q ++ drop (a + 2 + length q) rows₁)) fore ∙ ap (λ (x : List ℕ). (pre ++ (k ∷ n ∷ [])) ++ (q ++ x)) aft
    ∙ append_assoc pre (k ∷ n ∷ []) (q ++ (drop (length q) zeros ++ post)) ∙ ap (λ (x : List ℕ). pre ++ (k ∷ n ∷ x)) (sym full)
    ∙ ap (λ (m : ℕ). pre ++ ((k ∷ n ∷ padded 46 0 q) ++ drop m rows)) (sym whole)

-- a row is laid, once its record is open and its values are laid
pub row_laid : (r : Row) {vs : Slots} {text text' : List ℕ} {n e : ℕ} {rows rows₁ rows₂ : List ℕ} (i : ℕ) → vs ≡ row_values r → rows₁ ≡ laid rows (i * 48) (record_with (kind_number r.kind) r.pzn [])
    → Lays vs text text' n e rows₁ rows₂ (i * 48 + 2) → (i + 1) * 48 ≤ length rows → length vs ≤ 23 → LaysRow r text text' n e rows rows₂ i
row_laid r {vs} {text} {text'} {n} {e} {rows} {rows₁} {rows₂} i q o L h s =
    let f = flat_long n vs in
    record {
      end_is = L.end_is ∙ rw q;
      text_is = L.text_is ∙ rw q;
      rows_are = record_filled rows rows₁ rows₂ (i * 48) (kind_number r.kind) r.pzn (spans_from n vs) (omega arith) (omega arith) o L.numbers_are ∙ rw q;
    }

-- ---- headings, recipes and notes

module _ (k : ℕ) (h : k < 10) (o : k ≡ 6 → ⊥) (vs : Slots) where
  plain_row : (ws : List Slots) → row_from (kind_at k) vs ws ≡ record { kind = kind_at k; pzn = 0; slots = vs; ws = [] }
  unfolding row_from
  plain_row ws = rw (code_back k h, ne_eqb k 6 o)

  -- W are a medication's alone
  pub plain_ws : (ws : List Slots) → row_from (kind_at k) vs ws ≡ row_from (kind_at k) vs []
  plain_ws ws = plain_row ws ∙ sym (plain_row [])

  pub plain_values : row_values (row_from (kind_at k) vs []) ≡ vs
  plain_values = ap row_values (plain_row []) ∙ append-nil vs

  pub plain_laid : {text text' : List ℕ} {n e m : ℕ} {rows rows₁ rows₂ : List ℕ} (i : ℕ) → m ≡ kind_number (kind_at k) → rows₁ ≡ laid rows (i * 48) (record_with m 0 [])
      → Lays vs text text' n e rows₁ rows₂ (i * 48 + 2) → (i + 1) * 48 ≤ length rows → length vs ≤ 23 → LaysRow (row_from (kind_at k) vs []) text text' n e rows rows₂ i
  plain_laid {text} {text'} {n} {e} {m} {rows} {rows₁} {rows₂} i q g L w s =
      subst (λ (r : Row). LaysRow r text text' n e rows rows₂ i) (sym (plain_row []))
      (row_laid (record { kind = kind_at k; pzn = 0; slots = vs; ws = [] }) i (sym (append-nil vs)) (g ∙ rw q) L w s)

-- ---- medications

p_most : (get_or (fields_of M) 0 no_field).most ≡ 8
unfolding fields_of
p_most = refl

m_long : length (fields_of M) ≡ 14
unfolding fields_of
m_long = refl

-- it has at most eight digits
pub package_short : (vs : Slots) → broken (fields_of M) vs ≡ false → length (get_or vs 0 []) ≤ 8
package_short vs b = let s = short_kept (get_or (fields_of M) 0 no_field) (get_or vs 0 []) (kept_at (fields_of M) vs 0 b (omega (arith, m_long))) in omega (arith, p_most)

-- ---- rows one behind the other

-- rows are being laid: what is to be laid is what is laid and what is left, of their values and of their records
pub record Filling (all rest : List Row) (text₀ text : List ℕ) (n m : ℕ) (rows₀ rows : List ℕ) (i k : ℕ) : Type 0 where
  pub text_so : Laying text₀ text n m (concat (rows_values all)) (concat (rows_values rest))
  pub rows_so : Laying rows₀ rows (i * 48) (k * 48) (rows_numbers n all) (rows_numbers m rest)
  pub counted : k + length rest ≡ i + length all

pub begin_rows : (all : List Row) (text : List ℕ) (n : ℕ) (rows : List ℕ) (i : ℕ) → n ≤ length text → i * 48 ≤ length rows → Filling all all text text n n rows rows i i
begin_rows all text n rows i h g = record { text_so = start text n (concat (rows_values all)) h; rows_so = start rows (i * 48) (rows_numbers n all) g; counted = refl }

-- the same rows are left, in other words
pub refill : {all rest rest' : List Row} {text₀ text : List ℕ} {n m : ℕ} {rows₀ rows : List ℕ} {i k : ℕ} → rest ≡ rest' → Filling all rest text₀ text n m rows₀ rows i k → Filling all rest' text₀ text n m rows₀ rows i k
refill {all} {rest} {rest'} {text₀} {text} {n} {m} {rows₀} {rows} {i} {k} e F = subst (λ (l : List Row). Filling all l text₀ text n m rows₀ rows i k) e F

module _ {all rest : List Row} {r : Row} {text₀ text : List ℕ} {n m : ℕ} {rows₀ rows : List ℕ} {i k : ℕ} (F : Filling all (r ∷ rest) text₀ text n m rows₀ rows i k)
    (Q : Room (rows_values all) text₀ n) (g : (i + length all) * 48 ≤ length rows₀) where
  -- there is room for the next row
  pub row_room : Room (row_values r) text m
  row_room =
      let f = Q.fits in
      let s = Q.short in
      let l = F.text_so.long in
      let e = summed F.text_so (omega arith) in
      let a : length (concat (row_values r ++ rows_values rest)) ≡ length (concat (row_values r)) + length (concat (rows_values rest)) =
      ap length (concat_append (row_values r) (rows_values rest)) ∙ length-append (concat (row_values r)) (concat (rows_values rest)) in
      record { fits = omega arith; short = omega arith }

  pub row_space : (k + 1) * 48 ≤ length rows
  row_space = let l = F.rows_so.long in let c = F.counted in omega arith

  -- the next row is laid
  pub row_turn : {text' : List ℕ} {e : ℕ} {rows' : List ℕ} → LaysRow r text text' m e rows rows' k → Filling all rest text₀ text' n e rows₀ rows' i (k + 1)
  row_turn L =
      let f = row_room.fits in
      let l = F.text_so.long in
      let c = F.counted in
      let size : length (row_numbers m r) ≡ 48 = record_size (kind_number r.kind) r.pzn (spans_from m (row_values r)) in
      let next : k * 48 + length (row_numbers m r) ≡ (k + 1) * 48 = omega arith in
      record {
        text_so = rw (L.text_is, L.end_is) (next_piece F.text_so (concat (row_values r)) (concat (rows_values rest)) (concat_append (row_values r) (rows_values rest)) (omega arith));
        rows_so = rw (L.rows_are, L.end_is, ← next) (next_piece F.rows_so (row_numbers m r) (rows_numbers (m + length (concat (row_values r))) rest) refl (omega arith));
        counted = omega arith;
      }

-- all rows are laid
pub finish_rows : {all : List Row} {text₀ text : List ℕ} {n m : ℕ} {rows₀ rows : List ℕ} {i k : ℕ} → Filling all [] text₀ text n m rows₀ rows i k → n ≤ length text₀ → i * 48 ≤ length rows₀
    → Fills all text₀ text n m rows₀ rows i k
finish_rows {k = k} F h g =
    let c = F.counted in
    record { end_is = (all_laid h F.text_so).0; next_is = omega arith; text_is = (all_laid h F.text_so).1; rows_are = (all_laid g F.rows_so).1 }
