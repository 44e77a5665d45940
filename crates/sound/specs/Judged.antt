-- Judged: the words in which the functions judge spans that stand among numbers as in a row's record: span j at number 2 + 2 * j. What the crate
-- promises is Sound.
-- Assumes nothing.
use Rattle.std.specs.Prelude.{Bool, true, false, not, ◌&&◌, ◌||◌, List, [], ◌∷◌, ℕ, zero, suc, ◌+◌, ◌*◌, ◌-◌, eqb, length, get_or}
use Rattle.paper.specs.Lists.{if, every, is_empty}
use Rattle.paper.specs.Fields.{Kind, P, A, O, M, W, Field}
use Rattle.paper.specs.Layout.{Span, shown, shown_all}
use Rattle.paper.specs.Writing.{decimal, good_slot, good_element}
use Rattle.fields.specs.Places.{field_at, count_of, ones_of, others_of}
use Rattle.plan.specs.Numbers.{span_in, spans_in, absent, within}

-- ---- values and elements

-- a value is good for its field, and is there if the field is marked *
abbrev pub good_value : Field → List ℕ → Bool
good_value f v = good_slot f v && not (f.must && is_empty v)

-- the span lies within the text and shows a good value of its field, and is present if the field is marked *
unfoldable pub fine_span : List ℕ → Field → Span → Bool
fine_span t f s = within (length t) s && (good_slot f (shown t s) && not (f.must && absent s))

-- so are n spans from span j on, for the fields of the table from a place on
unfoldable pub fine_from : List ℕ → ℕ → ℕ → ℕ → List ℕ → Bool
fine_from t first zero j l = true
fine_from t first (suc n) j l = fine_span t (field_at first) (span_in l j) && fine_from t (suc first) n (suc j) l

-- of an element whose spans stand from number k on, the field at place a is present
abbrev pub there : List ℕ → ℕ → ℕ → Bool
there l k a = not (eqb (get_or l (k + (2 * a + 1)) 0) 0)

-- both fields of some pair are present, by the places of the one and of the other
abbrev pub clash_there : List ℕ → ℕ → List ℕ → List ℕ → Bool
clash_there l k [] others = false
clash_there l k (a ∷ ones) [] = false
clash_there l k (a ∷ ones) (b ∷ others) = (there l k a && there l k b) || clash_there l k ones others

-- two excluded fields of an element whose spans stand from number k on are present
unfoldable pub clash_at : Kind → List ℕ → ℕ → Bool
clash_at e l k = clash_there l k (ones_of e) (others_of e)

-- the spans lie within the text, and show a good element
unfoldable pub fine_element : List ℕ → Kind → List Span → Bool
fine_element t k ss = every (within (length t)) ss && good_element k (shown_all t ss)

-- n spans from span j on are absent
unfoldable pub absent_from : ℕ → ℕ → List ℕ → Bool
absent_from n j l = every absent (spans_in n j l)

-- ---- a head

-- l is present; U and l, P, A and O are fine: spans 0 and 1, and from spans 2, 10 and 20 on
unfoldable pub fine_head : List ℕ → List ℕ → Bool
fine_head t l = not (absent (span_in l 1)) && (fine_from t 2 2 0 l
    && (fine_element t P (spans_in 8 2 l) && (fine_element t A (spans_in 10 10 l) && fine_element t O (spans_in 7 20 l))))

-- ---- a record

-- a record of a kind that is no medication: it has no package number, and no span behind those of its element, which are fine
unfoldable pub fine_plain : List ℕ → Kind → List ℕ → Bool
fine_plain t k l = eqb (get_or l 1 0) 0 && (fine_element t k (spans_in (count_of k) 0 l) && absent_from (19 - count_of k) (count_of k) l)

-- how many W a medication's record has up to the last one that is present
unfoldable pub last_w : List ℕ → ℕ
last_w l = if (absent_from 2 17 l) (if (absent_from 2 15 l) (if (absent_from 2 13 l) 0 1) 2) 3

-- n W, the first of them from span j on, are fine
unfoldable pub fine_ws : List ℕ → ℕ → ℕ → List ℕ → Bool
fine_ws t zero j l = true
fine_ws t (suc n) j l = fine_element t W (spans_in 2 j l) && fine_ws t n (j + 2) l

-- a medication of n W lacks p, a and a W
unfoldable pub lacking : ℕ → List ℕ → Bool
lacking n l = eqb n 0 && (eqb (get_or l 1 0) 0 && absent (span_in l 0))

-- a medication's record
unfoldable pub fine_medication : List ℕ → List ℕ → Bool
fine_medication t l = not (lacking (last_w l) l) && (good_slot (field_at 33) (decimal (get_or l 1 0)) && (fine_from t 34 13 0 l
    && (not (clash_at M l 0) && fine_ws t (last_w l) 13 l)))
