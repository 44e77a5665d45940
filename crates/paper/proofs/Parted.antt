-- Pages that are joined by zero bytes are parted again: what planlist reads from its input.
-- Assumes nothing.
use mathlib.Core.Path.{◌≡◌, refl, ap, sym, ◌∙◌}
use mathlib.Core.Bool.{true}
use mathlib.Core.List.{List, [], ◌∷◌, ◌++◌}
use Prim.Native.Nat.{ℕ, zero, suc, ◌+◌, ◌*◌, ◌≤◌}
use native.Mathlib.Omega.{arith}
use lib.ListN.{length, length-append, take}
use lib.Seq.{take_all}
use borrow.Author.Tests.{ne_eqb}
use Rattle.paper.specs.Lists.{count, every}
use Rattle.paper.specs.Bytes.{is_allowed}
use Rattle.paper.specs.Reading.{read}
use Rattle.paper.specs.Listing.{onto, parted, answer_lines, planlist}
use Rattle.paper.proofs.Small.{no, both}

-- pages with one zero byte between each and the next
abbrev pub joined_by_zero : List (List ℕ) → List ℕ
joined_by_zero [] = []
joined_by_zero (w ∷ []) = w
joined_by_zero (w ∷ v ∷ ws) = w ++ zero ∷ joined_by_zero (v ∷ ws)

-- a page holds no zero byte
abbrev pub NoZero : List ℕ → Type 0
NoZero [] = Unit {0}
NoZero (zero ∷ w) = ⊥
NoZero (suc c ∷ w) = NoZero w

-- none of the pages holds a zero byte
abbrev pub NoZeros : List (List ℕ) → Type 0
NoZeros [] = Unit {0}
NoZeros (w ∷ ws) = NoZero w × NoZeros ws

-- a page without zero bytes, alone, is the one page
parted_one : (w : List ℕ) → NoZero w → parted w ≡ w ∷ []
parted_one [] h = refl
parted_one (zero ∷ w) h = absurd h
parted_one (suc c ∷ w) h = ap (onto (suc c)) (parted_one w h)

-- a page without zero bytes and a zero byte behind it come off as the first page
parted_first : (w s : List ℕ) → NoZero w → parted (w ++ zero ∷ s) ≡ w ∷ parted s
parted_first [] s h = refl
parted_first (zero ∷ w) s h = absurd h
parted_first (suc c ∷ w) s h = ap (onto (suc c)) (parted_first w s h)

-- Parting undoes joining: one page or more, none of which holds a zero byte, come back as they were.
pub parted_joined : (w : List ℕ) (ws : List (List ℕ)) → NoZeros (w ∷ ws) → parted (joined_by_zero (w ∷ ws)) ≡ w ∷ ws
parted_joined w [] h = parted_one w h.0
parted_joined w (v ∷ ws) h = parted_first w (joined_by_zero (v ∷ ws)) h.0 ∙ ap (λ (l : List (List ℕ)). w ∷ l) (parted_joined v ws h.1)

-- a byte other than zero before the first page
onto_clean : (c : ℕ) (ws : List (List ℕ)) → NoZeros ws → NoZeros (onto (suc c) ws)
onto_clean c [] h = (tt, tt)
onto_clean c (w ∷ ws) h = h

-- No page that comes of parting holds a zero byte.
pub parted_clean : (s : List ℕ) → NoZeros (parted s)
parted_clean [] = (tt, tt)
parted_clean (zero ∷ s) = (tt, parted_clean s)
parted_clean (suc c ∷ s) = onto_clean c (parted s) (parted_clean s)

-- a byte before the first of some pages adds no page
onto_length : (c : ℕ) (ws : List (List ℕ)) (n : ℕ) → length ws ≡ suc n → length (onto c ws) ≡ suc n
onto_length c [] n e = absurd (omega arith)
onto_length c (w ∷ ws) n e = e

-- There is one page more than there are zero bytes.
pub parted_length : (s : List ℕ) → length (parted s) ≡ suc (count 0 s)
parted_length [] = refl
parted_length (zero ∷ s) = ap suc (parted_length s)
parted_length (suc c ∷ s) = rw (ne_eqb (suc c) 0 (omega arith)) (onto_length (suc c) (parted s) (count 0 s) (parted_length s))

-- ---- the program

-- A page of allowed bytes holds no zero byte.
pub allowed_no_zero : (w : List ℕ) → every is_allowed w ≡ true → NoZero w
allowed_no_zero [] e = tt
allowed_no_zero (zero ∷ w) e = no (sym e)
allowed_no_zero (suc c ∷ w) e = allowed_no_zero w (both (is_allowed (suc c)) (every is_allowed w) e).1

-- every page has at most 1,400 bytes
abbrev pub AllShort : List (List ℕ) → Type 0
AllShort [] = Unit {0}
AllShort (w ∷ ws) = (length w ≤ 1400) × AllShort ws

joined_short : (w : List ℕ) (ws : List (List ℕ)) → AllShort (w ∷ ws) → 1 + length (joined_by_zero (w ∷ ws)) ≤ 1401 * length (w ∷ ws)
joined_short w [] h = omega arith
joined_short w (v ∷ ws) h = omega (arith, length-append w (zero ∷ joined_by_zero (v ∷ ws)), joined_short v ws h.1)

-- What planlist prints for one to nine pages of at most 1,400 bytes, with a zero byte between each and the next, is the answer to reading them.
pub planlist_reads : (w : List ℕ) (ws : List (List ℕ)) → NoZeros (w ∷ ws) → AllShort (w ∷ ws) → length (w ∷ ws) ≤ 9 → planlist (joined_by_zero (w ∷ ws)) ≡ answer_lines (read (w ∷ ws))
unfolding planlist
planlist_reads w ws z h n =
    let all : take 12609 (joined_by_zero (w ∷ ws)) ≡ joined_by_zero (w ∷ ws) = take_all 12609 (joined_by_zero (w ∷ ws)) (omega (arith, joined_short w ws h)) in
    ap (λ (s : List ℕ). answer_lines (read (parted s))) all ∙ ap (λ (l : List (List ℕ)). answer_lines (read l)) (parted_joined w ws z)
