-- Walking: where the parts of a page lie on a tape, and what is known of elements that are laid out. Serves the code that walks tapes.
-- Assumes nothing.
use Rattle.std.specs.Prelude.{◌≡◌, true, false, List, [], ◌∷◌, ℕ, ◌+◌, ◌*◌, ◌≤◌, ◌<◌, length, get_or}
use Rattle.paper.specs.Fields.{Kind, MP, P, A, O, M, is, fields_of}
use Rattle.paper.specs.Judging.{broken}
use Rattle.tape.specs.Tape.{Elem, elems_of, part_by, ws_by, values_at, Spans, Lies, Taped}
use Rattle.page.specs.declared.content.Places.{Places}

-- how many numbers a tape begins with that are 0: the values of an element that is not there
abbrev pub blanks : ℕ
blanks = 20

-- the tape begins with them
pub record Blank (t : List ℕ) : Type 0 where
  pub long : blanks ≤ length t
  pub zeros : (i : ℕ) → i < blanks → get_or t i 0 ≡ 0

-- a page lies on a tape that begins so
pub record Read (w side t : List ℕ) (i j : ℕ) : Type 0 where
  pub taped : Taped w side (length side) t i j
  pub blank : Blank t

-- no value breaks its field, and no M has more than three W
abbrev pub FitBy : List Elem → Type 0
FitBy [] = Unit {0}
FitBy (e ∷ es) = (broken (fields_of e.kind) e.slots ≡ false) × (is e.kind M ≡ true → length (ws_by es) ≤ 3) × FitBy es

-- elements lie from i up to j
pub record Walk (w side t : List ℕ) (i j : ℕ) : Type 0 where
  pub elems : List Elem
  pub lies : Lies w side (length side) t i j elems
  pub within : j ≤ length t
  pub fit : FitBy elems

-- the values of the first element of a kind lie from place r of the tape on
pub record PartAt (w side t : List ℕ) (k : Kind) (r : ℕ) : Type 0 where
  pub within : r + 2 * length (fields_of k) ≤ length t
  pub lie : Spans w (length side) (length (fields_of k)) t r
  pub values : values_at w side (length (fields_of k)) t r ≡ part_by k (elems_of w)

-- where the parts of the head lie
pub record HeadAt (w side t : List ℕ) (h : Places) : Type 0 where
  pub mp_at : PartAt w side t MP h.mp
  pub person_at : PartAt w side t P h.person
  pub author_at : PartAt w side t A h.author
  pub measures_at : PartAt w side t O h.measures
