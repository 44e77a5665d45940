-- JoiningLaws: the pages of a call one at a time; heads that are the same; rows of pages laid one page behind the other.
-- Assumes nothing.
use mathlib.Core.Path.{◌≡◌, refl, sym, ap, ◌∙◌, subst}
use mathlib.Core.Bool.{Bool, true, false, ◌&&◌}
use mathlib.Core.List.{List, [], ◌∷◌, ◌++◌, append_assoc, append-nil}
use Prim.Native.Nat.{ℕ, zero, suc, ◌+◌, ◌*◌, ◌-◌, ◌≤◌, ◌<◌}
use native.Mathlib.Nat.{add-zero}
use native.Mathlib.Numerals.{add-one}
use native.Mathlib.Omega.{arith}
use lib.Dec.{eqb}
use lib.ListN.{length, take, drop, get_or, set, length-append, length-drop, drop_of_length-le}
use lib.Seq.{drop-cons, take-length, take-suc-set}
use Rattle.paper.specs.Lists.{concat}
use Rattle.paper.specs.Plan.{Head, Row, Plan, same_head}
use Rattle.paper.specs.Judging.{Sheet}
use Rattle.paper.specs.Reading.{page9, has, rows_at, joined}
use Rattle.paper.specs.Calls.{inside, pages_at}
use Rattle.paper.specs.Layout.{head_values, row_values, rows_values, text_of}
use Rattle.paper.proofs.CallLaws.{inside_true, pages_count}
use Rattle.room.specs.Laid.{laid}
use Rattle.markup.specs.Walk.{tags_at}
use Rattle.room.proofs.LaidLaws.{Laying, start, next_piece, all_laid}
use Rattle.plan.specs.Numbers.{row_numbers, rows_numbers, plan_numbers, plan_rows}
use Rattle.plan.specs.declared.Span as Code
use Rattle.plan.specs.declared.Plan as Numbers
use Rattle.plan.proofs.Shown.{concat_append, rows_size, text_parts}
use Rattle.reader.specs.Pages.{nos_of, place_of}
use Rattle.sheet.specs.Content.{head_from, rows_from, content_of}
use Rattle.page.specs.Laying.{Room, LaysHead, Fills}
use Rattle.reader.specs.Joining.{sheets_of, sheet_at, like_first, PageFits, AllFit, Called, first_other, count_said, plan_in, no_plan}
use Rattle.reader.proofs.CallFacts.{page_at_lem}
use Rattle.reader.proofs.PageLaws.{place_rows, place_none}

-- ---- one page of the call

-- a page is the part of the buffer from its start on, as long as it is
pub part_at : (b ss ns : List ℕ) (i : ℕ) → inside b ss ns ≡ true → i < length ss
    → take (get_or ns i 0) (take (length b - get_or ss i 0) (drop (get_or ss i 0) b)) ≡ get_or (pages_at b ss ns) i []
part_at b ss ns i h l =
    let v : List ℕ = drop (get_or ss i 0) b in
    let k : i < length ns = omega (arith, (inside_true b ss ns h).alike) in
    ap (λ (m : ℕ). take (get_or ns i 0) (take m v)) (sym (length-drop (get_or ss i 0) b)) ∙ (ap (take (get_or ns i 0)) (take-length v) ∙ sym (page_at_lem b ss ns i l k))

-- every page fits
pub fits_at : (ws : List (List ℕ)) (i : ℕ) → AllFit ws → i < length ws → PageFits (get_or ws i [])
fits_at [] i f h = absurd (omega arith)
fits_at (w ∷ ws) zero f h = f.0
fits_at (w ∷ ws) (suc i) f h = fits_at ws i f.1 (omega arith)

-- page i of a call, as the code holds it, fits
pub page_fits : {b ss ns : List ℕ} {i : ℕ} {w : List ℕ} → Called b ss ns → i < length ss → w ≡ get_or (pages_at b ss ns) i [] → PageFits w
page_fits {b} {ss} {ns} {i} C h e = subst PageFits (sym e) (fits_at (pages_at b ss ns) i C.fit (omega (arith, pages_count b ss ns C.lie)))

-- as many sheets as pages
pub sheets_count : (ws : List (List ℕ)) → length (sheets_of ws) ≡ length ws
sheets_count [] = refl
sheets_count (w ∷ ws) = ap suc (sheets_count ws)

-- as many sheets as starts
pub call_count : (b ss ns : List ℕ) → Called b ss ns → length (sheets_of (pages_at b ss ns)) ≡ length ss
call_count b ss ns C = sheets_count (pages_at b ss ns) ∙ pages_count b ss ns C.lie

-- the sheet of page i
pub sheet_at_lem : (ws : List (List ℕ)) (i : ℕ) (d : Sheet) → i < length ws → get_or (sheets_of ws) i d ≡ sheet_at ws i
sheet_at_lem [] i d h = absurd (omega arith)
sheet_at_lem (w ∷ ws) zero d h = refl
sheet_at_lem (w ∷ ws) (suc i) d h = sheet_at_lem ws i d (omega arith)

-- the sheets from page i on
pub sheets_from : (ws : List (List ℕ)) (i : ℕ) → i < length ws → sheets_of (drop i ws) ≡ sheet_at ws i ∷ sheets_of (drop (i + 1) ws)
sheets_from ws i h = rw (add-one i, drop-cons ws i [] h)

-- ---- the first page that is another

-- the first i pages are alike
abbrev pub AlikeTo : List (List ℕ) → ℕ → Type 0
AlikeTo ws i = first_other (sheets_of ws) ≡ page9 (sheet_at ws 0) (i + 1) (sheets_of (drop i ws))

pub alike_one : (ws : List (List ℕ)) → 1 ≤ length ws → AlikeTo ws 1
alike_one [] h = absurd (omega arith)
alike_one (w ∷ ws) h = refl

module _ (ws : List (List ℕ)) (i : ℕ) (h : i < length ws) (E : AlikeTo ws i) where
  -- one page more is alike
  pub alike_more : like_first ws i ≡ true → AlikeTo ws (i + 1)
  alike_more e = E ∙ rw (sheets_from ws i h, e, add-one (i + 1))

  -- page i is another
  pub other_here_lem : like_first ws i ≡ false → first_other (sheets_of ws) ≡ i + 1
  other_here_lem e = E ∙ rw (sheets_from ws i h, e)

-- all are alike
pub none_other : (ws : List (List ℕ)) (i : ℕ) → length ws ≤ i → AlikeTo ws i → first_other (sheets_of ws) ≡ 0
none_other ws i h E = E ∙ rw (drop_of_length-le ws h)

-- ---- the pages' numbers

-- the numbers of the first i pages stand in the array
abbrev pub Numbered : List (List ℕ) → List ℕ → ℕ → Type 0
Numbered ws nos i = nos_of (sheets_of ws) ≡ take i nos ++ nos_of (sheets_of (drop i ws))

pub numbered_more : (ws : List (List ℕ)) (nos : List ℕ) (i x : ℕ) → i < length ws → i < length nos → x ≡ (sheet_at ws i).no → Numbered ws nos i → Numbered ws (set nos i x) (i + 1)
numbered_more ws nos i x h g e N =
    let f : take (i + 1) (set nos i x) ≡ take i nos ++ (x ∷ []) = ap (λ (k : ℕ). take k (set nos i x)) (add-one i) ∙ take-suc-set nos i x g in
    N ∙ (ap (λ (l : List Sheet). take i nos ++ nos_of l) (sheets_from ws i h) ∙ rw (f, e) (sym (append_assoc (take i nos) ((sheet_at ws i).no ∷ []) (nos_of (sheets_of (drop (i + 1) ws))))))

pub numbered_all : (ws : List (List ℕ)) (nos : List ℕ) (i : ℕ) → length ws ≡ i → Numbered ws nos i → take i nos ≡ nos_of (sheets_of ws)
numbered_all ws nos i h N = let g : length ws ≤ i = omega arith in sym (N ∙ rw (drop_of_length-le ws g) (append-nil (take i nos)))

-- the count is the first page's
pub count_first : (ws : List (List ℕ)) → 1 ≤ length ws → (sheet_at ws 0).of ≡ count_said (sheets_of ws)
count_first [] h = absurd (omega arith)
count_first (w ∷ ws) h = refl

-- ---- heads and rows

-- what a page says of its head and its rows
pub head_said : (w : List ℕ) → (content_of (tags_at w 0)).head ≡ head_from (tags_at w 0)
unfolding content_of
head_said w = refl

pub rows_said : (w : List ℕ) → (content_of (tags_at w 0)).rows ≡ rows_from (tags_at w 0)
unfolding content_of
rows_said w = refl

-- page i is compared with the first page
pub alike_first : (ws : List (List ℕ)) (i : ℕ) (v w : List ℕ) (r : Bool) → v ≡ get_or ws 0 [] → w ≡ get_or ws i []
    → r ≡ (eqb (content_of (tags_at w 0)).of (content_of (tags_at v 0)).of && same_head (head_from (tags_at w 0)) (head_from (tags_at v 0))) → r ≡ like_first ws i
alike_first ws i v w r p q h = h ∙ rw (p, q, head_said (get_or ws 0 []), head_said (get_or ws i []))

-- ---- the page of a number

-- no page has that number
pub lost : (n : ℕ) (l : List Sheet) → place_of n l ≡ length l → rows_at n l ≡ []
lost n l e = at (has n l) refl
  where
    at : (b : Bool) → has n l ≡ b → rows_at n l ≡ []
    at true q = let d : Sheet = record { no = 0; of = 0; head = no_plan.head; rows = [] } in let h = (place_rows n l d q).0 in absurd (omega arith)
    at false q = (place_none n l q).1

-- a page has it
pub found_at : (n : ℕ) (ws : List (List ℕ)) → (place_of n (sheets_of ws) ≡ length ws → ⊥) → (place_of n (sheets_of ws) < length ws) × (rows_at n (sheets_of ws) ≡ (sheet_at ws (place_of n (sheets_of ws))).rows)
found_at n ws h = at (has n (sheets_of ws)) refl
  where
    at : (b : Bool) → has n (sheets_of ws) ≡ b → (place_of n (sheets_of ws) < length ws) × (rows_at n (sheets_of ws) ≡ (sheet_at ws (place_of n (sheets_of ws))).rows)
    at true q =
        let d : Sheet = record { no = 0; of = 0; head = no_plan.head; rows = [] } in
        let r = place_rows n (sheets_of ws) d q in
        let g : place_of n (sheets_of ws) < length ws = omega (arith, r.0, sheets_count ws) in
        (g, r.2 ∙ ap (λ (s : Sheet). s.rows) (sheet_at_lem ws (place_of n (sheets_of ws)) d g))
    at false q = absurd (h ((place_none n (sheets_of ws) q).0 ∙ sheets_count ws))

-- where the page of number k stands in a call: it is not there, or page i is that page, and gives the number's rows
module _ {b ss ns : List ℕ} (C : Called b ss ns) (k : ℕ) where
  pub no_page : place_of k (sheets_of (pages_at b ss ns)) ≡ length ss → rows_at k (sheets_of (pages_at b ss ns)) ≡ []
  no_page h = lost k (sheets_of (pages_at b ss ns)) (h ∙ sym (call_count b ss ns C))

  pub page_rows : {i : ℕ} → i ≡ place_of k (sheets_of (pages_at b ss ns)) → i < length ss → {w : List ℕ} → w ≡ get_or (pages_at b ss ns) i []
      → rows_at k (sheets_of (pages_at b ss ns)) ≡ rows_from (tags_at w 0)
  page_rows {i} e h q =
      let c = pages_count b ss ns C.lie in
      (found_at k (pages_at b ss ns) (λ z. omega (arith, c, e, z))).1
      ∙ (ap (λ (j : ℕ). (sheet_at (pages_at b ss ns) j).rows) (sym e) ∙ (rows_said (get_or (pages_at b ss ns) i []) ∙ ap (λ (v : List ℕ). rows_from (tags_at v 0)) (sym q)))

-- ---- rows of pages, one page behind the other

-- the rows of the pages from number k + 1 on: those of the next page, and those behind it
pub joined_next : (l : List Sheet) (k z : ℕ) → k < z → joined l (k + 1) (z - k) ≡ rows_at (k + 1) l ++ joined l (k + 1 + 1) (z - (k + 1))
joined_next l k z h = let e : z - k ≡ suc (z - (k + 1)) = omega arith in rw (e, add-one (k + 1))

-- the rows up to page k are counted
abbrev pub Counted : List Sheet → ℕ → ℕ → ℕ → Type 0
Counted l z k total = length (joined l 1 z) ≡ total + length (joined l (k + 1) (z - k))

-- none is counted yet
pub counted_start : (l : List Sheet) (z : ℕ) → Counted l z 0 0
counted_start l z = let e : z ≡ z - 0 = omega arith in ap (λ (k : ℕ). length (joined l 1 k)) e ∙ sym (zero_sum (length (joined l 1 (z - 0))))
  where
    zero_sum : (n : ℕ) → 0 + n ≡ n
    zero_sum n = omega arith

pub counted_more : (l : List Sheet) (z k total count : ℕ) → k < z → count ≡ length (rows_at (k + 1) l) → Counted l z k total → Counted l z (k + 1) (total + count)
counted_more l z k total count h e C =
    let f : length (joined l (k + 1) (z - k)) ≡ length (rows_at (k + 1) l) + length (joined l (k + 1 + 1) (z - (k + 1))) =
    ap length (joined_next l k z h) ∙ length-append (rows_at (k + 1) l) (joined l (k + 1 + 1) (z - (k + 1))) in
    omega (arith, C, e, f)

pub counted_all : (l : List Sheet) (z k total : ℕ) → z ≤ k → Counted l z k total → total ≡ length (joined l 1 z)
counted_all l z k total h C = let e : z - k ≡ 0 = omega arith in sym (C ∙ rw e (add-zero total))

-- two pieces laid one behind the other are one piece laid
laid_twice : (room a b : List ℕ) (n : ℕ) → n + length (a ++ b) ≤ length room → laid (laid room n a) (n + length a) b ≡ laid room n (a ++ b)
laid_twice room a b n h =
    let l = length-append a b in
    let s : Laying room room n n (a ++ b) (a ++ b) = start room n (a ++ b) (omega arith) in
    let f : Laying room (laid room n a) n (n + length a) (a ++ b) b = next_piece s a b refl (omega arith) in
    let g : Laying room (laid (laid room n a) (n + length a) b) n (n + length a + length b) (a ++ b) [] = next_piece f b [] (sym (append-nil b)) (omega arith) in
    (all_laid (omega arith) g).1

rows_values_lem : (a b : List Row) → rows_values (a ++ b) ≡ rows_values a ++ rows_values b
rows_values_lem [] b = refl
rows_values_lem (r ∷ a) b = rw (rows_values_lem a b) (sym (append_assoc (row_values r) (rows_values a) (rows_values b)))

pub values_parts : (a b : List Row) → concat (rows_values (a ++ b)) ≡ concat (rows_values a) ++ concat (rows_values b)
values_parts a b = ap concat (rows_values_lem a b) ∙ concat_append (rows_values a) (rows_values b)

pub values_long : (a b : List Row) → length (concat (rows_values (a ++ b))) ≡ length (concat (rows_values a)) + length (concat (rows_values b))
values_long a b = ap length (values_parts a b) ∙ length-append (concat (rows_values a)) (concat (rows_values b))

numbers_parts : (n : ℕ) (a b : List Row) → rows_numbers n (a ++ b) ≡ rows_numbers n a ++ rows_numbers (n + length (concat (rows_values a))) b
numbers_parts n [] b = rw (add-zero n)
numbers_parts n (r ∷ a) b =
    let m : ℕ = n + length (concat (row_values r)) in
    let e : m + length (concat (rows_values a)) ≡ n + length (concat (row_values r ++ rows_values a)) =
    omega (arith, ap length (concat_append (row_values r) (rows_values a)) ∙ length-append (concat (row_values r)) (concat (rows_values a))) in
    ap (λ (l : List ℕ). row_numbers n r ++ l) (numbers_parts m a b)
    ∙ (sym (append_assoc (row_numbers n r) (rows_numbers m a) (rows_numbers (m + length (concat (rows_values a))) b))
    ∙ ap (λ (k : ℕ). (row_numbers n r ++ rows_numbers m a) ++ rows_numbers k b) e)

laid_nothing : (room : List ℕ) (n : ℕ) → n ≤ length room → room ≡ laid room n []
laid_nothing room n h = (all_laid h (start room n [] h)).1

-- no row is laid
pub fills_none : (text rows : List ℕ) (n i : ℕ) → n ≤ length text → i * 48 ≤ length rows → Fills [] text text n n rows rows i i
fills_none text rows n i h g = record { end_is = sym (add-zero n); next_is = sym (add-zero i); text_is = laid_nothing text n h; rows_are = laid_nothing rows (i * 48) g }

-- so where there is no row
pub fills_empty : (rs : List Row) (text rows : List ℕ) (n i : ℕ) → rs ≡ [] → Room (rows_values rs) text n → (i + length rs) * 48 ≤ length rows → Fills rs text text n n rows rows i i
fills_empty rs text rows n i e R h =
    let r = R.fits in
    subst (λ (x : List Row). Fills x text text n n rows rows i i) (sym e) (fills_none text rows n i (omega arith) (omega arith))

-- the records of the same rows
pub records_of : (rs qs : List Row) (i n : ℕ) → rs ≡ qs → (i + length rs) * 48 ≤ n → (i + length qs) * 48 ≤ n
records_of rs qs i n e h = omega (arith, ap length e, h)

-- rows laid behind rows
pub fills_then : (a b : List Row) {text t₁ t₂ rows r₁ r₂ : List ℕ} {n m e i j k : ℕ} → n + length (concat (rows_values (a ++ b))) ≤ length text → (i + length (a ++ b)) * 48 ≤ length rows
    → Fills a text t₁ n m rows r₁ i j → Fills b t₁ t₂ m e r₁ r₂ j k → Fills (a ++ b) text t₂ n e rows r₂ i k
fills_then a b {text} {t₁} {t₂} {rows} {r₁} {r₂} {n} {m} {e} {i} {j} {k} h g F G =
    let va : List ℕ = concat (rows_values a) in
    let vb : List ℕ = concat (rows_values b) in
    let na : List ℕ = rows_numbers n a in
    let nb : List ℕ = rows_numbers (n + length va) b in
    let lv = values_long a b in
    let lr = length-append a b in
    let sa = rows_size n a in
    let sb = rows_size (n + length va) b in
    let sl = length-append na nb in
    let hv : n + length (va ++ vb) ≤ length text = omega (arith, h, ap length (values_parts a b)) in
    let hr : i * 48 + length (na ++ nb) ≤ length rows = omega (arith, g, lr, sa, sb, sl) in
    let at : j * 48 ≡ i * 48 + length na = omega (arith, F.next_is, sa) in
    record {
      end_is = omega (arith, G.end_is, F.end_is, lv);
      next_is = omega (arith, G.next_is, F.next_is, lr);
      text_is = G.text_is ∙ (rw (F.text_is, F.end_is) (laid_twice text va vb n hv) ∙ ap (laid text n) (sym (values_parts a b)));
      rows_are = G.rows_are ∙ (rw (F.rows_are, at, F.end_is) (laid_twice rows na nb (i * 48) hr) ∙ ap (laid rows (i * 48)) (sym (numbers_parts n a b)));
    }

-- the rows of the pages up to number k are laid
pub record Filling (l : List Sheet) (z k : ℕ) (text₀ text : List ℕ) (n m : ℕ) (rows₀ rows : List ℕ) (i : ℕ) : Type 0 where
  pub done : List Row
  pub high : k ≤ z
  pub all : joined l 1 z ≡ done ++ joined l (k + 1) (z - k)
  pub fills : Fills done text₀ text n m rows₀ rows 0 i
  pub text_long : length text ≡ length text₀
  pub rows_long : length rows ≡ length rows₀

-- there is room for all rows
pub record Place (l : List Sheet) (z : ℕ) (text rows : List ℕ) (n : ℕ) : Type 0 where
  pub room : Room (rows_values (joined l 1 z)) text n
  pub records : length (joined l 1 z) * 48 ≤ length rows

pub filling_start : (l : List Sheet) (z : ℕ) (text rows : List ℕ) (n : ℕ) → Place l z text rows n → Filling l z 0 text text n n rows rows 0
filling_start l z text rows n H =
    let r = H.room.fits in
    let e : z ≡ z - 0 = omega arith in
    record { done = []; high = omega arith; all = ap (joined l 1) e; fills = fills_none text rows n 0 (omega arith) (omega arith); text_long = refl; rows_long = refl }

module _ {l : List Sheet} {z k : ℕ} {text₀ text : List ℕ} {n m : ℕ} {rows₀ rows : List ℕ} {i : ℕ} (F : Filling l z k text₀ text n m rows₀ rows i) (H : Place l z text₀ rows₀ n) where
  -- what is laid, and the next page's rows
  parted : k < z → joined l 1 z ≡ (F.done ++ rows_at (k + 1) l) ++ joined l (k + 1 + 1) (z - (k + 1))
  parted h = F.all ∙ (ap (λ (r : List Row). F.done ++ r) (joined_next l k z h) ∙ sym (append_assoc F.done (rows_at (k + 1) l) (joined l (k + 1 + 1) (z - (k + 1)))))

  -- the values and the rows so far and of the next page are not too many
  values_fit : k < z → n + length (concat (rows_values (F.done ++ rows_at (k + 1) l))) ≤ n + length (concat (rows_values (joined l 1 z)))
  values_fit h =
      omega (arith, ap (λ (r : List Row). length (concat (rows_values r))) (parted h), values_long (F.done ++ rows_at (k + 1) l) (joined l (k + 1 + 1) (z - (k + 1))))

  rows_fit : k < z → length (F.done ++ rows_at (k + 1) l) ≤ length (joined l 1 z)
  rows_fit h = omega (arith, ap length (parted h), length-append (F.done ++ rows_at (k + 1) l) (joined l (k + 1 + 1) (z - (k + 1))))

  -- there is room for the next page's values
  pub next_room : k < z → Room (rows_values (rows_at (k + 1) l)) text m
  next_room h =
      let v = values_fit h in
      let w = values_long F.done (rows_at (k + 1) l) in
      record {
        fits = omega (arith, v, w, F.fills.end_is, F.text_long, H.room.fits);
        short = omega (arith, v, w, F.fills.end_is, H.room.short);
      }

  -- and for its records
  pub next_records : k < z → (i + length (rows_at (k + 1) l)) * 48 ≤ length rows
  next_records h = omega (arith, rows_fit h, length-append F.done (rows_at (k + 1) l), F.fills.next_is, F.rows_long, H.records)

  -- one page more is laid
  pub filling_more : {text' rows' : List ℕ} {e j : ℕ} → k < z → length text' ≡ length text → length rows' ≡ length rows → Fills (rows_at (k + 1) l) text text' m e rows rows' i j
      → Filling l z (k + 1) text₀ text' n e rows₀ rows' j
  filling_more h t r G = record {
    done = F.done ++ rows_at (k + 1) l;
    high = omega arith;
    all = parted h;
    fills = fills_then F.done (rows_at (k + 1) l) (omega (arith, values_fit h, H.room.fits)) (omega (arith, rows_fit h, H.records)) F.fills G;
    text_long = t ∙ F.text_long;
    rows_long = r ∙ F.rows_long;
  }

  -- all are laid
  pub filling_all : z ≤ k → Fills (joined l 1 z) text₀ text n m rows₀ rows 0 i
  filling_all h =
      let e : z - k ≡ 0 = omega arith in
      let q : joined l 1 z ≡ F.done = F.all ∙ rw e (append-nil F.done) in
      subst (λ (r : List Row). Fills r text₀ text n m rows₀ rows 0 i) (sym q) F.fills

-- ---- the plan

-- the plan of the pages of a call
abbrev pub plan_at : List (List ℕ) → Plan
plan_at ws = plan_in (sheets_of ws) no_plan

pub plan_head : (ws : List (List ℕ)) → 1 ≤ length ws → (plan_at ws).head ≡ head_from (tags_at (get_or ws 0 []) 0)
plan_head [] h = absurd (omega arith)
plan_head (w ∷ ws) h = head_said w

pub plan_rows_lem : (ws : List (List ℕ)) → 1 ≤ length ws → (plan_at ws).rows ≡ joined (sheets_of ws) 1 (count_said (sheets_of ws))
plan_rows_lem [] h = absurd (omega arith)
plan_rows_lem (w ∷ ws) h = refl

-- how long the head's values and the rows' are
pub text_long : (p : Plan) → length (text_of p) ≡ length (concat (head_values p.head)) + length (concat (rows_values p.rows))
text_long p = ap length (text_parts p) ∙ length-append (concat (head_values p.head)) (concat (rows_values p.rows))

-- a plan laid: its head, and then its rows
pub plan_laid : (p : Plan) (text t₁ t₂ rows r₂ : List ℕ) (m e patch count : ℕ) (spans : List Code.Span) → length (text_of p) ≤ length text
    → LaysHead p.head text t₁ 0 m patch spans → Fills p.rows t₁ t₂ m e rows r₂ 0 count
    → (◌≡◌ {A = Numbers.Plan} (record { patch = patch; rows = count; head = spans }) (plan_numbers p)) × (t₂ ≡ laid text 0 (text_of p)) × (r₂ ≡ laid rows 0 (plan_rows p))
plan_laid p text t₁ t₂ rows r₂ m e patch count spans h H F =
    let hv : List ℕ = concat (head_values p.head) in
    let rv : List ℕ = concat (rows_values p.rows) in
    let q : 0 + length (hv ++ rv) ≤ length text = omega (arith, h, ap length (text_parts p)) in
    let c : count ≡ length p.rows = omega (arith, F.next_is) in
    let k : m ≡ length hv = omega (arith, H.end_is) in
    (rw (H.patch_is, c, H.spans_are), F.text_is ∙ (rw (H.text_is, H.end_is) (laid_twice text hv rv 0 q) ∙ ap (laid text 0) (sym (text_parts p))), F.rows_are ∙ ap (λ (x : ℕ). laid rows 0 (rows_numbers x p.rows)) k)

-- where the rows of a plan go
module _ (ws : List (List ℕ)) (z : ℕ) (some : 1 ≤ length ws) (count : z ≡ count_said (sheets_of ws)) where
  rows_are : (plan_at ws).rows ≡ joined (sheets_of ws) 1 z
  rows_are = plan_rows_lem ws some ∙ ap (joined (sheets_of ws) 1) (sym count)

  -- how long the text is
  parts_long : length (text_of (plan_at ws)) ≡ length (concat (head_values (head_from (tags_at (get_or ws 0 []) 0)))) + length (concat (rows_values (joined (sheets_of ws) 1 z)))
  parts_long = text_long (plan_at ws) ∙ rw (plan_head ws some, rows_are)

  -- the head has room
  pub head_place : (w text : List ℕ) → w ≡ get_or ws 0 [] → length (text_of (plan_at ws)) ≤ 12600 → 12600 ≤ length text → Room (head_values (head_from (tags_at w 0))) text 0
  head_place w text e h l =
      let k : length (concat (head_values (head_from (tags_at w 0)))) ≤ 12600 = rw e (omega (arith, h, parts_long)) in
      record { fits = omega (arith, k, l); short = omega (arith, k) }

  -- the rows have, behind it
  pub rows_place : (w text rows : List ℕ) (m : ℕ) → w ≡ get_or ws 0 [] → length (plan_at ws).rows ≤ 256 → 12288 ≤ length rows → length (text_of (plan_at ws)) ≤ 12600 → 12600 ≤ length text
      → m ≡ 0 + length (concat (head_values (head_from (tags_at w 0)))) → Place (sheets_of ws) z text rows m
  rows_place w text rows m e c g h l k =
      let v = ap (λ (v : List ℕ). length (concat (head_values (head_from (tags_at v 0))))) e in
      let q : m ≡ length (concat (head_values (head_from (tags_at (get_or ws 0 []) 0)))) = omega (arith, k, v) in
      record {
        room = record { fits = omega (arith, q, h, l, parts_long); short = omega (arith, q, h, parts_long) };
        records = omega (arith, c, g, ap length rows_are);
      }

  -- they are not too many
  pub rows_few : length (plan_at ws).rows ≤ 256 → length (joined (sheets_of ws) 1 z) ≤ 256
  rows_few h = omega (arith, h, ap length rows_are)

  -- the plan of the pages is laid
  pub plan_made : (w text t₁ t₂ rows r₂ : List ℕ) (m e patch count : ℕ) (spans : List Code.Span) → w ≡ get_or ws 0 [] → length (text_of (plan_at ws)) ≤ length text
      → LaysHead (head_from (tags_at w 0)) text t₁ 0 m patch spans → Fills (joined (sheets_of ws) 1 z) t₁ t₂ m e rows r₂ 0 count
      → (◌≡◌ {A = Numbers.Plan} (record { patch = patch; rows = count; head = spans }) (plan_numbers (plan_at ws))) × (t₂ ≡ laid text 0 (text_of (plan_at ws))) × (r₂ ≡ laid rows 0 (plan_rows (plan_at ws)))
  plan_made w text t₁ t₂ rows r₂ m e patch count spans q h H F =
      let g : (plan_at ws).head ≡ head_from (tags_at w 0) = plan_head ws some ∙ ap (λ (v : List ℕ). head_from (tags_at v 0)) (sym q) in
      plan_laid (plan_at ws) text t₁ t₂ rows r₂ m e patch count spans h
      (subst (λ (x : Head). LaysHead x text t₁ 0 m patch spans) (sym g) H) (subst (λ (x : List Row). Fills x t₁ t₂ m e rows r₂ 0 count) (sym rows_are) F)
