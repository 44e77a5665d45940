use Rattle.std.proofs.Common.{◌≡◌, ℕ, ◌+◌, ◌-◌, ◌≤◌, List, ◌++◌, rules, arith, length, take, drop, slice_range, sym, ap, ◌∙◌, subst, le_refl, drop_at, length-take-le}
use Rattle.std.proofs.lemmas.Slice.{take-put_mid_below}
use Rattle.std.specs.Io.KnownBytes.{Consumes}
use Rattle.std.proofs.KnownBytes.{Consumes-trans}
use borrow.Rule.Slice.PartMut.{put_mid, post_of}
use lib.Seq.{take-add, take-append-le}
use Rattle.intake.proofs.fill.Goals as goal

-- what stands before a place, and behind it up to the next
joined_lem : (a n : ℕ) (old new : List ℕ) → take a new ≡ take a old → take a old ++ slice_range new a (a + n) ≡ take (a + n) new
joined_lem a n old new front =
    let same : (a + n) - a ≡ n = omega arith in
    ap (λ l. l ++ slice_range new a (a + n)) (sym front) ∙ ap (λ m. take a new ++ take m (drop a new)) same ∙ sym (take-add a n new)

-- of a part that is put into a list, the first n bytes stand behind its place
part_lem : (a k n : ℕ) (xs ys : List ℕ) → a ≤ length xs → n ≤ length ys → slice_range (put_mid a k xs ys) a (a + n) ≡ take n ys
part_lem a k n xs ys within fits =
    let same : (a + n) - a ≡ n = omega arith in
    let after = post_of a k xs in
    ap (take ((a + n) - a)) (drop_at (take a xs) (ys ++ after) a (length-take-le a xs within)) ∙ ap (λ m. take m (ys ++ after)) same ∙ take-append-le n ys after fits

pub loop-n-preserved : goal.loop-n-preserved
loop-n-preserved g c =
    let within = c.loop-n.invariant.1 in
    let room = length c.loop-n.room - c.loop-n.n in
    let after = put_mid c.loop-n.n room c.loop-n.room c.read.new.buf in
    let front = take-put_mid_below c.loop-n.n room c.loop-n.room c.read.new.buf c.loop-n.n (le_refl _) within in
    let part = part_lem c.loop-n.n room c.in_ok-more.more c.loop-n.room c.read.new.buf within c.in_ok-more.ensures.bound.0 in
    let joined = ap (λ l. take c.loop-n.n c.loop-n.room ++ l) (sym part) ∙ joined_lem c.loop-n.n c.in_ok-more.more c.loop-n.room after front in
    (search rules, search rules, subst (Consumes _ _) joined (Consumes-trans _ _ _ _ _ c.loop-n.invariant.2 c.in_ok-more.ensures.bytes.0))
