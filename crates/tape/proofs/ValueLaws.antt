-- ValueLaws: a value decoded and settled, and what the raw values of a tag tell, field by field.
-- Assumes nothing.
use mathlib.Core.Path.{◌≡◌, sym, ap, ◌∙◌}
use mathlib.Core.Bool.{true, false}
use mathlib.Core.List.{List, [], ◌∷◌}
use Prim.Native.Nat.{ℕ, zero, suc, ◌+◌, ◌*◌, ◌≤◌, ◌<◌}
use native.Mathlib.Nat.{add-zero}
use native.Mathlib.Omega.{arith}
use lib.ListN.{length, take, drop, get_or, length-append, take-append-drop}
use lib.Seq.{slice, take_at, drop_at, take-add, length-take-le}
use Rattle.paper.specs.Lists.{concat}
use Rattle.paper.specs.Values.{value}
use Rattle.paper.specs.Fields.{Kind}
use Rattle.paper.specs.Rules.{is_zero}
use Rattle.paper.specs.Plan.{Slots}
use Rattle.room.specs.Laid.{laid}
use Rattle.fields.specs.Places.{field_at, first_of, count_of, rule_at, rule_number}
use Rattle.fields.proofs.TableLaws.{field_at_lem}
use Rattle.fields.proofs.RuleLaws.{rule_back}
use Rattle.room.proofs.LaidLaws.{laid_before, laid_there}
use Rattle.sheet.specs.Found.{raw_at, told, Lie}
use Rattle.tape.specs.Making.{settled}
use Rattle.room.proofs.PairLaws.{each_at}
use Rattle.sheet.proofs.FlawLaws.{slots_long, slot_at}

-- ---- a value laid

-- what was decoded to the beginning of a room stands there
pub front : (xs ys v : List ℕ) (k : ℕ) → k ≡ 0 + length v → ys ≡ laid xs 0 v → take k ys ≡ v
front xs ys v k e f = let g : length v ≡ k = omega arith in rw f (take_at v (drop (0 + length v) xs) k g)

-- nothing laid changes nothing
pub laid_none : (xs : List ℕ) (n : ℕ) → laid xs n [] ≡ xs
laid_none xs n = rw (add-zero n) (take-append-drop n xs)

-- what is laid shows where it lies
pub laid_shown : (xs p : List ℕ) (at : ℕ) → at + length p ≤ length xs → slice at (at + length p) (laid xs at p) ≡ p
laid_shown xs p at h =
    ap (drop at) (take-add at (length p) (laid xs at p) ∙ rw (laid_before xs p at h, laid_there xs p at h))
    ∙ drop_at (take at xs) p at (length-take-le at xs (omega arith))

-- a value of a field that reads as absent
pub zero_value : (id rule : ℕ) (raw s : List ℕ) → rule ≡ rule_number (field_at id).rule → s ≡ value raw → is_zero (rule_at rule) s ≡ true → settled id raw ≡ []
unfolding settled
zero_value id rule raw s r e z =
    let q : is_zero (field_at id).rule (value raw) ≡ true = rw (e, r, rule_back (field_at id).rule) at z in rw q

-- any other value counts
pub whole_value : (id rule : ℕ) (raw s : List ℕ) → rule ≡ rule_number (field_at id).rule → s ≡ value raw → is_zero (rule_at rule) s ≡ false → settled id raw ≡ value raw
unfolding settled
whole_value id rule raw s r e z =
    let q : is_zero (field_at id).rule (value raw) ≡ false = rw (e, r, rule_back (field_at id).rule) at z in rw q

-- ---- what the raw values of a tag tell

pub told_long : (w : List ℕ) (k : Kind) (rs : List ℕ) → length (told w k rs) ≡ count_of k
unfolding count_of
told_long w k rs = slots_long w k rs

-- one of the slots, by the place of the element's first field
pub told_here : (w : List ℕ) (k : Kind) (rs : List ℕ) (first j : ℕ) → first ≡ first_of k → j < count_of k
    → settled (first + j) (raw_at w rs j) ≡ get_or (told w k rs) j []
unfolding settled count_of
told_here w k rs first j e h = rw e (sym (slot_at w k rs j h ∙ rw (field_at_lem k j h)))

-- the raw value of a field lies in the page
pub lie_at : (w : List ℕ) (n : ℕ) (t : List ℕ) (j : ℕ) → Lie w n t → j < n → (get_or t (2 * j) 0 ≤ get_or t (2 * j + 1) 0) × (get_or t (2 * j + 1) 0 ≤ length w)
lie_at w n t j L h = let z : 0 + 2 * j ≡ 2 * j = omega arith in rw z at (each_at (λ (a b : ℕ). (a ≤ b) × (b ≤ length w)) n t 0 j h L)

-- the first values and the next one have no more bytes than all
pub concat_room : (vs : Slots) (j : ℕ) → j < length vs → length (concat (take j vs)) + length (get_or vs j []) ≤ length (concat vs)
concat_room [] j h = absurd (omega arith)
concat_room (v ∷ vs) zero h = omega (arith, length-append v (concat vs))
concat_room (v ∷ vs) (suc j) h = omega (arith, length-append v (concat vs), length-append v (concat (take j vs)), concat_room vs j (omega arith))
