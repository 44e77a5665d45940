-- Placed: rows spelled one behind the other. A page takes a stretch of them, and what it adds at both ends depends on its first row alone.
-- Assumes nothing.
use mathlib.Core.Path.{◌≡◌, refl, sym, ap, ◌∙◌}
use mathlib.Core.Bool.{Bool, true, false}
use mathlib.Core.List.{List, [], ◌∷◌, ◌++◌, map, append_assoc}
use Prim.Native.Nat.{ℕ, suc, ◌+◌, ◌*◌, ◌-◌, ◌/◌, ◌≤◌}
use native.Mathlib.Omega.{arith}
use lib.ListN.{length, take, drop, length-append, length-take, length-drop}
use lib.Seq.{slice, take-take, take_at, drop_at, drop-append_seam}
use Rattle.paper.specs.Lists.{bytes, if, concat}
use Rattle.paper.specs.Fields.{MP, S}
use Rattle.paper.specs.Plan.{Slots, Head, Row}
use Rattle.paper.specs.Writing.{row_slots, opening, closing, body_text, heading, rows_text, page, pages}
use Rattle.markup.proofs.WalkLaws.{take_drop}
use Rattle.plan.specs.Numbers.{show_rows}
use Rattle.plan.proofs.Shown.{rows_shown}
use Rattle.room.specs.Written.{Wrote}
use Rattle.writer.specs.Spelling.{row_text, head_text, rows_between}
use Rattle.writer.specs.Tags.{gap_text, placed_text, rows_placed, rows_page, Opened}
use Rattle.writer.specs.Cutting.{measure_of, size_in, sizes_in}
use Rattle.writer.proofs.Paged.{placed_first, page_front}
use Rattle.writer.proofs.Stretches.{rows_split}

-- ---- the rows of a page

pub placed_append : (a b : List Row) → rows_placed (a ++ b) ≡ rows_placed a ++ rows_placed b
unfolding rows_placed
placed_append [] b = refl
placed_append (r ∷ a) b = ap (λ (w : List ℕ). placed_text true r ++ w) (placed_append a b) ∙ sym (append_assoc (placed_text true r) (rows_placed a) (rows_placed b))

-- rows behind others, and what comes after them
behind_others : (rs : List Row) (x : List ℕ) → rows_text true rs x ≡ rows_placed rs ++ closing S x
unfolding rows_placed
behind_others [] x = refl
behind_others (r ∷ rs) x =
    placed_first true r rs x
    ∙ ap (λ (w : List ℕ). placed_text true r ++ w) (behind_others rs x)
    ∙ sym (append_assoc (placed_text true r) (rows_placed rs) (closing S x))

-- a row has bytes
row_some : (r : Row) → 1 ≤ length (row_text r)
unfolding row_text
row_some r = at (heading r) r.ws
  where
    at : (b : Bool) (ws : List Slots) → 1 ≤ length (if b (opening S r.slots []) (body_text ws r.kind (row_slots r) []))
    at true ws = omega arith
    at false [] = omega arith
    at false (w ∷ ws) = omega arith

-- whether the first row is a heading
abbrev pub headed : List Row → Bool
headed [] = false
headed (r ∷ rs) = heading r

page_of_lem : (w : List ℕ) (b : Bool) → 1 ≤ length w → rows_page b w ≡ gap_text false b ++ (drop (length (gap_text true b)) w ++ bytes "</S></MP>")
page_of_lem [] b h = absurd (omega arith)
page_of_lem (c ∷ w) b h = refl

opened_of : (w : List ℕ) (b : Bool) → length (gap_text true b) ≤ length w → Opened b w
opened_of [] b h = tt
opened_of (c ∷ w) b h = h

module _ (r : Row) (rs : List Row) where
  abbrev g : List ℕ
  g = gap_text true (heading r)

  long : length (rows_placed (r ∷ rs)) ≡ length g + length (row_text r) + length (rows_placed rs)
  unfolding rows_placed placed_text
  long = length-append (g ++ row_text r) (rows_placed rs) ∙ ap (λ (k : ℕ). k + length (rows_placed rs)) (length-append g (row_text r))

  begun : rows_text false (r ∷ rs) (closing MP []) ≡ rows_page (heading r) (rows_placed (r ∷ rs))
  unfolding rows_placed placed_text
  begun =
      let f : List ℕ = gap_text false (heading r) in
      let t : List ℕ = row_text r in
      let w : List ℕ = rows_placed rs in
      let e : List ℕ = bytes "</S></MP>" in
      placed_first false r rs (closing MP [])
      ∙ ap (λ (z : List ℕ). (f ++ t) ++ z) (behind_others rs (closing MP []))
      ∙ append_assoc f t (w ++ e)
      ∙ ap (λ (z : List ℕ). f ++ z) (sym (append_assoc t w e) ∙ ap (λ (z : List ℕ). z ++ e) (sym (ap (drop (length g)) (append_assoc g t w) ∙ drop-append_seam g (t ++ w))))
      ∙ sym (page_of_lem (rows_placed (r ∷ rs)) (heading r) (omega (arith, long, row_some r)))

-- the rows of a page and its end, by the stretch of its rows
pub page_rows : (rs : List Row) (b : Bool) → (1 ≤ length rs → b ≡ headed rs) → rows_text false rs (closing MP []) ≡ rows_page b (rows_placed rs)
unfolding rows_placed
page_rows [] b h = refl
page_rows (r ∷ rs) b h = begun r rs ∙ ap (λ (c : Bool). rows_page c (rows_placed (r ∷ rs))) (sym (h (omega arith)))

pub page_opened : (rs : List Row) (b : Bool) → (1 ≤ length rs → b ≡ headed rs) → Opened b (rows_placed rs)
unfolding rows_placed
page_opened [] b h = tt
page_opened (r ∷ rs) b h = rw (h (omega arith)) (opened_of (rows_placed (r ∷ rs)) (heading r) (omega (arith, long r rs)))

-- the page
pub page_placed : (h : Head) (rs : List Row) (a z : ℕ) (b : Bool) → (1 ≤ length rs → b ≡ headed rs) → page h rs a z ≡ head_text h a z ++ rows_page b (rows_placed rs)
page_placed h rs a z b e = page_front h rs a z ∙ ap (λ (x : List ℕ). head_text h a z ++ x) (page_rows rs b e)

-- ---- sizes

-- what a row adds to a page is what it is spelled with behind others
pub placed_size : (r : Row) → size_in (measure_of r) ≡ length (placed_text true r)
unfolding placed_text
placed_size r = at (heading r) ∙ sym (length-append (gap_text true (heading r)) (row_text r))
  where
    at : (b : Bool) → (2 * (length (row_text r) + if b 4 0) + if b 1 0) / 2 ≡ length (gap_text true b) + length (row_text r)
    at true = omega arith
    at false = omega arith

pub sizes_placed : (rs : List Row) → sizes_in (map measure_of rs) ≡ length (rows_placed rs)
unfolding rows_placed
sizes_placed [] = refl
sizes_placed (r ∷ rs) = omega (arith, placed_size r, sizes_placed rs, length-append (placed_text true r) (rows_placed rs))

-- a page is no shorter than its rows
page_holds : (h : Head) (rs : List Row) (a z : ℕ) → length (rows_placed rs) ≤ length (page h rs a z)
page_holds h rs a z = omega (arith, ap length (page_placed h rs a z (headed rs) (λ e. refl)), length-append (head_text h a z) (rows_page (headed rs) (rows_placed rs)), at (headed rs) (rows_placed rs) (page_opened rs (headed rs) (λ e. refl)))
  where
    closed : (b : Bool) (w : List ℕ) → length (gap_text true b) ≤ length w → length w ≤ length (gap_text false b ++ (drop (length (gap_text true b)) w ++ bytes "</S></MP>"))
    closed true w k = omega (arith, length-append (drop 4 w) (bytes "</S></MP>"), length-drop 4 w)
    closed false w k = omega (arith, length-append w (bytes "</S></MP>"))

    at : (b : Bool) (w : List ℕ) → Opened b w → length w ≤ length (rows_page b w)
    at b [] o = omega arith
    at b (c ∷ w) o = closed b (c ∷ w) o

-- and so for all pages
pub pages_hold : (h : Head) (z a : ℕ) (qs : List (List Row)) → length (rows_placed (concat qs)) ≤ length (concat (pages h z a qs))
unfolding rows_placed
pages_hold h z a [] = omega arith
pages_hold h z a (q ∷ qs) =
    omega (
      arith,
      ap length (placed_append q (concat qs)),
      length-append (rows_placed q) (rows_placed (concat qs)),
      length-append (page h q a z) (concat (pages h z (suc a) qs)),
      page_holds h q a z,
      pages_hold h z (suc a) qs,
    )

-- ---- a stretch of the rows

map_append : (a b : List Row) → map measure_of (a ++ b) ≡ map measure_of a ++ map measure_of b
map_append [] b = refl
map_append (r ∷ a) b = ap (λ (l : List ℕ). measure_of r ∷ l) (map_append a b)

map_long : (a : List Row) → length (map measure_of a) ≡ length a
map_long [] = refl
map_long (r ∷ a) = ap suc (map_long a)

-- of a list whose beginning is known, a stretch of that
cut_out : (l a b c : List ℕ) (n p q : ℕ) → take n l ≡ (a ++ b) ++ c → length a ≡ p → length (a ++ b) ≡ q → q ≤ n → slice p q l ≡ b
cut_out l a b c n p q e i j k =
    ap (drop p) (sym (take-take q n l k) ∙ ap (take q) e ∙ take_at (a ++ b) c q j) ∙ drop_at a b p i

-- what is taken whole is there
pub all_there : (l w : List ℕ) → take (length w) l ≡ w → length w ≤ length l
all_there l w e = omega (arith, ap length e, length-take (length w) l)

module _ (t rows : List ℕ) (n from to : ℕ) (h : from ≤ to) (k : to ≤ n) where
  abbrev all : List Row
  all = show_rows t n rows

  abbrev front : List Row
  front = show_rows t from rows

  abbrev these : List Row
  these = rows_between t rows from to

  abbrev others : List Row
  others = show_rows t (n - to) (drop (to * 48) rows)

  upto : show_rows t to rows ≡ front ++ these
  upto = rows_split t from (to - from) to rows (omega arith)

  parts : all ≡ (front ++ these) ++ others
  parts = rows_split t to (n - to) n rows (omega arith) ∙ ap (λ (l : List Row). l ++ others) upto

  -- their numbers
  pub stretch_sizes : (ms : List ℕ) → take n ms ≡ map measure_of all → sizes_in (slice from to ms) ≡ length (rows_placed these)
  stretch_sizes ms e =
      let whole : take n ms ≡ (map measure_of front ++ map measure_of these) ++ map measure_of others =
      e ∙ ap (map measure_of) parts ∙ map_append (front ++ these) others ∙ ap (λ (l : List ℕ). l ++ map measure_of others) (map_append front these) in
      let i : length (map measure_of front) ≡ from = map_long front ∙ rows_shown t from rows in
      let j : length (map measure_of these) ≡ to - from = map_long these ∙ rows_shown t (to - from) (drop (from * 48) rows) in
      ap sizes_in (cut_out ms (map measure_of front) (map measure_of these) (map measure_of others) n from to whole i (omega (arith, length-append (map measure_of front) (map measure_of these))) k)
      ∙ sizes_placed these

  -- where they end
  pub stretch_end : length (rows_placed (show_rows t to rows)) ≡ length (rows_placed front) + length (rows_placed these)
  stretch_end = ap (λ (l : List Row). length (rows_placed l)) upto ∙ ap length (placed_append front these) ∙ length-append (rows_placed front) (rows_placed these)

  placed_parts : rows_placed all ≡ (rows_placed front ++ rows_placed these) ++ rows_placed others
  placed_parts = ap rows_placed parts ∙ placed_append (front ++ these) others ∙ ap (λ (l : List ℕ). l ++ rows_placed others) (placed_append front these)

  pub stretch_within : length (rows_placed front) + length (rows_placed these) ≤ length (rows_placed all)
  stretch_within = omega (arith, ap length placed_parts, length-append (rows_placed front ++ rows_placed these) (rows_placed others), length-append (rows_placed front) (rows_placed these))

  -- their bytes
  pub stretch_bytes : (l : List ℕ) → take (length (rows_placed all)) l ≡ rows_placed all
      → take (length (rows_placed these)) (drop (length (rows_placed front)) l) ≡ rows_placed these
  stretch_bytes l e =
      take_drop (length (rows_placed front)) (length (rows_placed these)) l
      ∙ cut_out l (rows_placed front) (rows_placed these) (rows_placed others) (length (rows_placed all)) (length (rows_placed front)) (length (rows_placed front) + length (rows_placed these))
      (e ∙ placed_parts) refl (length-append (rows_placed front) (rows_placed these)) stretch_within

-- what is written at the beginning of a room stands there
pub written_first : {o o' w : List ℕ} {r : ℕ} → Wrote o o' 0 r w → take r o' ≡ w
written_first {o} {o'} {w} {r} u = let e : r ≡ length w = omega (arith, u.behind) in ap (take r) u.room ∙ take_at w (drop (0 + length w) o) r (sym e)
