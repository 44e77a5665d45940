-- FreshInput: what planfresh prints for its input, from what writing its pages afresh gives.
-- Assumes nothing.
use mathlib.Core.Path.{◌≡◌, refl, ap, sym, ◌∙◌}
use mathlib.Core.Bool.{Bool, true, false}
use mathlib.Core.List.{List}
use Prim.Native.Nat.{ℕ, ◌+◌, ◌≤◌, ◌<◌}
use native.Mathlib.Omega.{arith}
use lib.Dec.{leb}
use lib.ListN.{length, take}
use borrow.Author.Tests.{le-leb, lt-leb, leb-true}
use Rattle.std.specs.Prelude.{Option, Some, Ok, Err}
use Rattle.paper.specs.Lists.{if}
use Rattle.paper.specs.Plan as Said
use Rattle.paper.specs.Reading as Paper
use Rattle.paper.specs.Reading.{read}
use Rattle.paper.specs.Writing.{Written, bad_call, unsound, too_long, written, fresh}
use Rattle.paper.specs.Listing.{parted, refusal_lines}
use Rattle.paper.specs.Calls.{read_at}
use Rattle.paper.proofs.Small.{unequal}
use Rattle.paper.proofs.Rooms.{refusal_short}
use Rattle.paper.proofs.Writer.{room}
use Rattle.room.specs.Laid.{laid}
use Rattle.writer.specs.declared.writing.Pages.{Pages}
use Rattle.tollgilt.specs.Fresh.{Answer, refusal, pages, writes, afresh, answered, given, bytes_told, pages_in}
use Rattle.tollgilt.specs.Printed as Printing
use Rattle.tollgilt.specs.Printed.{separated, fresh_lines, planfresh, prints, separated_room, fresh_answer, length_of, length_told, Prints}
use Rattle.tollgilt.specs.Refused.{refused_with}
use Rattle.tollgilt.specs.declared.refused.Refused.{Refused}
use Rattle.tollgilt.proofs.FreshLaws.{Gives, roomy_call, bytes_told_lem, written_in, cut_in, Freshly, freshly}
use Rattle.tollgilt.proofs.JoinLaws.{separated_short}
use Rattle.tollgilt.proofs.InputLaws.{bytes_printed}

-- ---- what is printed fits

-- of any plan
lines_short : (p : Said.Plan) (w : Written) → fresh p ≡ w → length (fresh_lines (writes w)) ≤ 12608
lines_short p bad_call e = omega (arith, refusal_short 1 0 0)
lines_short p (unsound i) e = omega (arith, refusal_short 13 0 i)
lines_short p (too_long i) e = omega (arith, refusal_short 14 0 i)
lines_short p (written f) e = let (n, _, b) = room p f e in separated_short f n b

-- of any answer
answer_short : (a : Paper.Answer) → length (fresh_lines (afresh a)) ≤ 12608
answer_short (Paper.refusal n k i) = omega (arith, refusal_short n k i)
answer_short (Paper.plan p) = lines_short p (fresh p) refl

-- what is printed is never longer than the room
pub fresh_fits : (out input : List ℕ) (r : Option ℕ) (out' : List ℕ) → Prints (fresh_answer out input) out r out' → length_of r ≤ length out
unfolding fresh_answer planfresh
fresh_fits out input r out' P = at (leb separated_room (length out)) refl P.length_is
  where
    at : (b : Bool) → leb separated_room (length out) ≡ b → length_of r ≡ length_told (if b (prints (fresh_lines (afresh (read (parted (take 12609 input)))))) (Printing.refusal 1 0 0)) → length_of r ≤ length out
    at true e q = omega (arith, leb-true separated_room (length out) e, answer_short (read (parted (take 12609 input))))
    at false e q = omega arith

-- ---- what is printed

-- too little room is refusal 1
pub fresh_no_room : (out input : List ℕ) → length out < separated_room → fresh_answer out input ≡ Printing.refusal 1 0 0
unfolding fresh_answer
fresh_no_room out input h = rw (lt-leb separated_room (length out) h)

-- the lines of a refusal
refusal_lines_lem : (a : Answer) (e : Refused) → Err e ≡ given a → refusal_lines e.number e.page e.place ≡ fresh_lines a
refusal_lines_lem (refusal n k i) e q = let p : e ≡ refused_with n k i = cc (q) in ap (λ (t : Refused). refusal_lines t.number t.page t.place) p
refusal_lines_lem (pages f) e q = unequal (cc (q))

-- the pages of the input, written afresh into a room
module _ (out input room₀ ss ns : List ℕ) (room₁ : List ℕ) (roomy : separated_room ≤ length out) (enough : length room₀ ≡ 12600)
    (handed_in : read_at true input ss ns ≡ read (parted (take 12609 input))) where
  answer_is : fresh_answer out input ≡ prints (fresh_lines (answered room₀ input ss ns))
  unfolding fresh_answer planfresh
  answer_is =
      ap (λ (x : Bool). if x (prints (planfresh input)) (Printing.refusal 1 0 0)) (le-leb separated_room (length out) roomy)
      ∙ ap (λ (a : Paper.Answer). prints (fresh_lines (afresh a))) (sym (roomy_call room₀ input ss ns (omega arith) ∙ handed_in))

  module _ (r : Pages) (F : Gives room₀ input ss ns (Ok r) room₁) where
    there : Freshly room₀ input ss ns r room₁
    there = freshly room₀ input ss ns r room₁ F

    lines : fresh_lines (answered room₀ input ss ns) ≡ separated (pages_in r room₁)
    lines = ap (λ (a : Paper.Answer). fresh_lines (afresh a)) there.is_plan_lem ∙ ap (λ (w : Written). fresh_lines (writes w)) (written_in there.holds)

    -- the pages can be laid anew
    pub joinable : length room₁ ≡ 12600 → (1 ≤ r.count) × (r.count ≤ 9) × (bytes_told r ≤ length room₁) × (bytes_told r + r.count ≤ length out + 1)
    joinable long =
        let H = there.holds in
        let count : r.count ≡ length H.sheets = ap (λ (t : Pages). t.count) H.result_is in
        let (nine, _, most) = room there.plan H.sheets H.is_fresh in
        let some = (cut_in H).0.one in
        let all = bytes_told_lem H in
        (omega arith, omega arith, omega arith, omega arith)

    -- pages are printed
    pub pages_printed : (n : ℕ) (out' : List ℕ) → (n ≡ length (separated (pages_in r room₁))) × (out' ≡ laid out 0 (separated (pages_in r room₁))) → Prints (fresh_answer out input) out (Some n) out'
    pages_printed = bytes_printed (separated (pages_in r room₁)) out (answer_is ∙ ap prints lines)

  module _ (e : Refused) where
    -- the lines of a refusal fit
    pub refused_fits : length (refusal_lines e.number e.page e.place) ≤ length out
    refused_fits = omega (arith, refusal_short e.number e.page e.place)

    -- and are printed
    pub refused_printed : Gives room₀ input ss ns (Err e) room₁ → (n : ℕ) (out' : List ℕ) → (n ≡ length (refusal_lines e.number e.page e.place)) × (out' ≡ laid out 0 (refusal_lines e.number e.page e.place))
        → Prints (fresh_answer out input) out (Some n) out'
    refused_printed F =
        bytes_printed (refusal_lines e.number e.page e.place) out (answer_is ∙ ap prints (sym (refusal_lines_lem (answered room₀ input ss ns) e F.result_is)))
