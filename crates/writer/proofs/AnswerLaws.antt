-- AnswerLaws: the numbers of a refusal determine it, and the numbers told of a result whether it is refused, and how.
-- Assumes nothing.
use mathlib.Core.Path.{◌≡◌, refl, ap, sym, ◌∙◌}
use lib.Dec.{eqb}
use Rattle.std.specs.Prelude.{Option, Some, None, Result, Ok, Err}
use Rattle.std.specs.Result.{result_err}
use Rattle.paper.specs.Lists.{if}
use Rattle.paper.specs.Reading.{Numbers}
use Rattle.writer.specs.declared.answer.Refusal.{Refusal}
use Rattle.writer.specs.declared.answer.Refusal.TheVariants.{NoRoom, Unsound, TooLong}
use Rattle.writer.specs.Answers.{numbers_of, numbers_told}

-- the refusal of three numbers; there is none where they are 0, 0, 0
refusal_of : Numbers → Option Refusal
refusal_of t = if (eqb t.number 0) None (Some (if (eqb t.number 1) NoRoom (if (eqb t.number 13) (Unsound t.place) (TooLong t.place))))

-- what refuses a result, or that nothing does, is what the numbers told of it say
there_and_back : {A : Type 0} (r : Result A Refusal) → refusal_of (numbers_told r) ≡ result_err r
unfolding refusal_of
there_and_back (Ok p) = refl
there_and_back (Err NoRoom) = refl
there_and_back (Err (Unsound i)) = refl
there_and_back (Err (TooLong i)) = refl

-- two results of which the same numbers are told are refused alike: an `Ok` and an `Err` never have the same numbers, and two refusals only if they are the same case with
-- the same values
pub told_apart : {A B : Type 0} (r : Result A Refusal) (s : Result B Refusal) → numbers_told r ≡ numbers_told s → result_err r ≡ result_err s
told_apart r s e = sym (there_and_back r) ∙ (ap refusal_of e ∙ there_and_back s)

-- and of two that are refused alike, or not at all, the same numbers are told
pub numbers_alike : {A B : Type 0} (r : Result A Refusal) (s : Result B Refusal) → result_err r ≡ result_err s → numbers_told r ≡ numbers_told s
numbers_alike (Ok p) (Ok q) e = refl
numbers_alike (Ok p) (Err y) e = cc (e)
numbers_alike (Err x) (Ok q) e = cc (e)
numbers_alike (Err x) (Err y) e = let q : x ≡ y = cc (e) in ap numbers_of q

-- two refusals with the same numbers are the same case with the same values
pub numbers_once : (a b : Refusal) → numbers_of a ≡ numbers_of b → a ≡ b
numbers_once a b e = let q : Some a ≡ Some b = told_apart {A = Refusal} {B = Refusal} (Err a) (Err b) e in cc (q)
