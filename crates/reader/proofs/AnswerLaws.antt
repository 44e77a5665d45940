-- AnswerLaws: the numbers of a refusal determine it, and the numbers told of a result whether it is refused, and how.
-- Assumes nothing.
use mathlib.Core.Path.{◌≡◌, refl, ap, sym, ◌∙◌}
use lib.Dec.{eqb}
use Rattle.std.specs.Prelude.{Option, Some, None, Result, Ok, Err}
use Rattle.std.specs.Result.{result_err}
use Rattle.paper.specs.Lists.{if}
use Rattle.paper.specs.Reading as Paper
use Rattle.paper.specs.Reading.{Numbers}
use Rattle.reader.specs.declared.answer.Refusal.{Refusal}
use Rattle.reader.specs.declared.answer.Refusal.TheVariants.{NoRoom, PageSize, ByteRefused, Malformed, OutOfPlace, OtherEdition, BrokenValue, Incomplete, OtherHead, NumberTwice, NumberMissing, TooManyRows}
use Rattle.reader.specs.Answers.{numbers_of, numbers_told, told}

-- the refusal of three numbers; there is none where they are 0, 0, 0
refusal_of : Numbers → Option Refusal
refusal_of t = if (eqb t.number 0) None (Some (if (eqb t.number 1) NoRoom
    (if (eqb t.number 2) (PageSize t.page)
    (if (eqb t.number 3) (ByteRefused t.page t.place)
    (if (eqb t.number 4) (Malformed t.page t.place)
    (if (eqb t.number 5) (OutOfPlace t.page t.place)
    (if (eqb t.number 6) (OtherEdition t.page t.place)
    (if (eqb t.number 7) (BrokenValue t.page t.place)
    (if (eqb t.number 8) (Incomplete t.page t.place)
    (if (eqb t.number 9) (OtherHead t.page)
    (if (eqb t.number 10) (NumberTwice t.page)
    (if (eqb t.number 11) (NumberMissing t.page)
    TooManyRows))))))))))))

-- what refuses a result, or that nothing does, is what the numbers told of it say
there_and_back : {A : Type 0} (r : Result A Refusal) → refusal_of (numbers_told r) ≡ result_err r
unfolding refusal_of
there_and_back (Ok p) = refl
there_and_back (Err NoRoom) = refl
there_and_back (Err (PageSize k)) = refl
there_and_back (Err (ByteRefused k i)) = refl
there_and_back (Err (Malformed k i)) = refl
there_and_back (Err (OutOfPlace k i)) = refl
there_and_back (Err (OtherEdition k i)) = refl
there_and_back (Err (BrokenValue k i)) = refl
there_and_back (Err (Incomplete k i)) = refl
there_and_back (Err (OtherHead k)) = refl
there_and_back (Err (NumberTwice k)) = refl
there_and_back (Err (NumberMissing n)) = refl
there_and_back (Err TooManyRows) = refl

-- two results of which the same numbers are told are refused alike: an `Ok` and an `Err` never have the same numbers, and two refusals only if they are the same case with
-- the same values
pub told_apart : {A B : Type 0} (r : Result A Refusal) (s : Result B Refusal) → numbers_told r ≡ numbers_told s → result_err r ≡ result_err s
told_apart r s e = sym (there_and_back r) ∙ (ap refusal_of e ∙ there_and_back s)

-- two refusals with the same numbers are the same case with the same values
pub numbers_once : (x y : Refusal) → numbers_of x ≡ numbers_of y → x ≡ y
numbers_once x y e = let q : Some x ≡ Some y = told_apart {A = Refusal} {B = Refusal} (Err x) (Err y) e in cc (q)

-- so at most one refusal, or none, tells what reading answers
pub answer_once : {A B : Type 0} (p : Paper.Answer) (r : Result A Refusal) (s : Result B Refusal) → numbers_told r ≡ told p → numbers_told s ≡ told p → result_err r ≡ result_err s
answer_once p r s e f = told_apart r s (e ∙ sym f)

-- and of refusals at most one
pub told_once : (p : Paper.Answer) (x y : Refusal) → numbers_of x ≡ told p → numbers_of y ≡ told p → x ≡ y
told_once p x y e f = numbers_once x y (e ∙ sym f)
