-- Taken: the attributes of a start tag, read onto the tape one after another.
-- Assumes nothing.
use Rattle.std.specs.Prelude.{◌≡◌, Bool, true, false, List, ◌∷◌, ◌++◌, ℕ, ◌+◌, ◌*◌, ◌≤◌, ◌<◌, length, get_or, set, take}
use Rattle.std.proofs.Math.Seq.{slice}
use Rattle.paper.specs.Grammar.{Attr, Attrs, Quote}
use Rattle.paper.specs.Fields.{Kind, fields_of}
use Rattle.fields.specs.Places.{place_in, first_of}
use Rattle.quoted.specs.Raws.{RawAt}
use Rattle.paper.specs.Judging.{names, slots_of}
use Rattle.sheet.specs.Fold.{strange, flaw, needs_w}
use Rattle.tape.specs.Tape.{header, elem, Holds, ElemAt}
use Rattle.quoted.specs.Valued.{Valued, Grown}

-- an attribute by its name and its raw bytes
abbrev pub attr : List ℕ → List ℕ → Attr
attr n r = record { name = n; raw = r }

-- from a on stand the name of field j of an element of kind k, `=`, and the quote q before v: whatever raw bytes follow up to another quote, that is an attribute
pub record NamedAt (w : List ℕ) (k : Kind) (a j v q : ℕ) : Type 0 where
  pub name : List ℕ
  pub within : (a < v) × (v ≤ length w)
  pub quoted : Quote q
  pub field : j ≡ place_in name (fields_of k)
  pub known : j < length (fields_of k)
  pub derives : (z : ℕ) → RawAt w v q z → (x : List ℕ) (l : List Attr) → Attrs false x l → Attrs true (slice a (z + 1) w ++ x) (attr name (slice v z w) ∷ l)

-- the attribute from a up to r is read onto the tape, where the slots of its element of kind k begin at `base`
pub record AttrIn (w : List ℕ) (k : Kind) (base a r : ℕ) (t t' side side' : List ℕ) (m m' : ℕ) : Type 0 where
  pub name : List ℕ
  pub raw : List ℕ
  pub within : (a < r) × (r ≤ length w)
  pub derives : (x : List ℕ) (l : List Attr) → Attrs false x l → Attrs true (slice a r w ++ x) (attr name raw ∷ l)
  pub at : ℕ
  pub quote : ℕ
  pub end : ℕ
  pub raw_is : raw ≡ slice at end w
  pub known : place_in name (fields_of k) < length (fields_of k)
  pub free : get_or t (base + 2 * place_in name (fields_of k)) 0 ≡ 0
  pub from : ℕ
  pub to : ℕ
  pub value : Valued w side' at quote (first_of k + place_in name (fields_of k)) end from to m'
  pub near : m' + a ≤ m + r
  pub tape_is : t' ≡ set (set t (base + 2 * place_in name (fields_of k)) from) (base + 2 * place_in name (fields_of k) + 1) to
  pub grown : Grown side side' m m'

-- what stands in a start tag of kind k from i up to r is read onto the tape, into the slots that begin at `base`
pub record InsideIn (w : List ℕ) (k : Kind) (base i r : ℕ) (t t' side side' : List ℕ) (m m' : ℕ) : Type 0 where
  pub said : List Attr
  pub within : (i ≤ r) × (r < length w)
  pub derives : Attrs false (slice i r w) said
  pub holds : Holds w side' m' k t' base said
  pub near : m' + i ≤ m + r
  pub before : take base t' ≡ take base t
  pub grown : Grown side side' m m'
  pub room : m' ≤ length side'

-- a start tag whose `<` stands at p and whose name ends at `from` is read onto the tape as an element that begins at f; it has no fault of its own
pub record TagIn (w : List ℕ) (k : Kind) (f p from r : ℕ) (t t' side side' : List ℕ) (m m' next : ℕ) (needs : Bool) : Type 0 where
  pub said : List Attr
  pub within : (from ≤ r) × (r < length w)
  pub derives : Attrs false (slice from r w) said
  pub known : strange k (names said) ≡ false
  pub fine : 9 ≡ flaw k (names said) (slots_of (fields_of k) said)
  pub near : m' + from ≤ m + r
  pub needy : needs ≡ needs_w k (slots_of (fields_of k) said)
  pub next_is : next ≡ f + header + 2 * length (fields_of k)
  pub element : ElemAt w side' m' t' f next (elem k p (slots_of (fields_of k) said))
  pub before : take f t' ≡ take f t
  pub grown : Grown side side' m m'
  pub room : (m' ≤ length side') × (next ≤ length t')
