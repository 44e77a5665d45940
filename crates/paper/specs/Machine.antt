-- Machine: the same pages, read one byte a step. By the theorems `exact` and `longest` it accepts exactly the grammar's pages, gives exactly
-- their tags, and takes exactly the longest beginning that some well-formed page shares; so a reader who believes Grammar need not read this.
-- Assumes nothing.
use Rattle.std.specs.Prelude.{Bool, true, false, ◌&&◌, ◌||◌, List, [], ◌∷◌, ◌++◌, ℕ, suc, eqb, length}
use Rattle.std.proofs.Math.Option.{Option, none, some}
use Rattle.paper.specs.Lists.{if}
use Rattle.paper.specs.Bytes.{is_space, is_digit, is_letter}
use Rattle.paper.specs.Grammar.{Attr, Tag, start, end, is_name_byte, is_hex, is_plain}

-- inside a reference: behind `&`, `&a`, `&#`, `&#x`, in decimal or hexadecimal digits, or in a word of which this is left
pub data InRef : Type 0 where
  amp0 ampa num0 hex0 dec hex : InRef
  word : ℕ → List ℕ → InRef

-- a byte in a reference: wrong, on, or its last
pub data RefMove : Type 0 where
  bad : RefMove
  on : InRef → RefMove
  over : RefMove

-- one byte of a reference
abbrev pub ref_step : InRef → ℕ → RefMove
ref_step amp0 c = if (eqb c 97) (on ampa) (if (eqb c 108) (on (word 116 (59 ∷ []))) (if (eqb c 103) (on (word 116 (59 ∷ [])))
    (if (eqb c 113) (on (word 117 (111 ∷ 116 ∷ 59 ∷ []))) (if (eqb c 35) (on num0) bad))))
ref_step ampa c = if (eqb c 109) (on (word 112 (59 ∷ []))) (if (eqb c 112) (on (word 111 (115 ∷ 59 ∷ []))) bad)
ref_step num0 c = if (is_digit c) (on dec) (if (eqb c 120) (on hex0) bad)
ref_step hex0 c = if (is_hex c) (on hex) bad
ref_step dec c = if (is_digit c) (on dec) (if (eqb c 59) over bad)
ref_step hex c = if (is_hex c) (on hex) (if (eqb c 59) over bad)
ref_step (word d []) c = if (eqb c d) over bad
ref_step (word d (e ∷ m)) c = if (eqb c d) (on (word e m)) bad

-- a start tag so far: its rest-of-page number, its name, its attributes, the open names around it
pub record Open : Type 0 where
  pub from : ℕ
  pub tag : List ℕ
  pub ats : List Attr
  pub out : List (List ℕ)

-- an attribute so far
pub record Half : Type 0 where
  pub top : Open
  pub name : List ℕ
  pub quote : ℕ
  pub raw : List ℕ

-- where in a page: before or after its element; behind a `<`; in a tag's name; between attributes (the flag: behind a space); behind `/`;
-- in an attribute's name, before its `=`, before its quote; in a value; in a reference; between tags; in an end tag, of whose name this is left
pub data State : Type 0 where
  before after : State
  less : ℕ → List (List ℕ) → State
  tag : ℕ → List ℕ → List (List ℕ) → State
  gap : Bool → Open → State
  slash : Open → State
  name equals quote : Open → List ℕ → State
  val : Half → State
  ref : InRef → Half → State
  inside : List ℕ → List (List ℕ) → State
  closing : List ℕ → List (List ℕ) → State

-- a byte is wrong, is taken, or is taken and says tags
pub data Move : Type 0 where
  stop : Move
  go : State → Move
  say : List Tag → State → Move

-- behind an end tag or a self-closed one
abbrev pub up : List (List ℕ) → State
up [] = after
up (n ∷ ns) = inside n ns

-- between a tag's attributes
abbrev pub gap_step : Bool → Open → ℕ → Move
gap_step b T c = if (is_space c) (go (gap true T))
    (if (eqb c 62) (say (start T.from T.tag T.ats ∷ []) (inside T.tag T.out))
    (if (eqb c 47) (go (slash T))
    (if (b && is_letter c) (go (name T (c ∷ []))) stop)))

-- one byte more of the value
abbrev pub more : Half → ℕ → Half
more H c = record { top = H.top; name = H.name; quote = H.quote; raw = H.raw ++ c ∷ [] }

-- the attribute is whole
abbrev pub shut : Half → Open
shut H = record { from = H.top.from; tag = H.top.tag; ats = H.top.ats ++ record { name = H.name; raw = H.raw } ∷ []; out = H.top.out }

-- a byte of a reference in a value
abbrev pub ref_goes : RefMove → Half → Move
ref_goes bad H = stop
ref_goes (on r) H = go (ref r H)
ref_goes over H = go (val H)

-- one byte of a page; the first number is how many bytes there are from this byte on
abbrev pub step : State → ℕ → ℕ → Move
step before k c = if (is_space c) (go before) (if (eqb c 60) (go (less k [])) stop)
step after k c = if (is_space c) (go after) stop
step (less i []) k c = if (is_letter c) (go (tag i (c ∷ []) [])) stop
step (less i (n ∷ ns)) k c = if (is_letter c) (go (tag i (c ∷ []) (n ∷ ns))) (if (eqb c 47) (go (closing n ns)) stop)
step (tag i n ns) k c = if (is_name_byte c) (go (tag i (n ++ c ∷ []) ns)) (gap_step false (record { from = i; tag = n; ats = []; out = ns }) c)
step (gap b T) k c = gap_step b T c
step (slash T) k c = if (eqb c 62) (say (start T.from T.tag T.ats ∷ end ∷ []) (up T.out)) stop
step (name T n) k c = if (is_name_byte c) (go (name T (n ++ c ∷ []))) (if (is_space c) (go (equals T n)) (if (eqb c 61) (go (quote T n)) stop))
step (equals T n) k c = if (is_space c) (go (equals T n)) (if (eqb c 61) (go (quote T n)) stop)
step (quote T n) k c = if (is_space c) (go (quote T n)) (if (eqb c 34 || eqb c 39) (go (val (record { top = T; name = n; quote = c; raw = [] }))) stop)
step (val H) k c = if (is_plain H.quote c) (go (val (more H c))) (if (eqb c H.quote) (go (gap false (shut H))) (if (eqb c 38) (go (ref amp0 (more H 38))) stop))
step (ref r H) k c = ref_goes (ref_step r c) (more H c)
step (inside n ns) k c = if (is_space c) (go (inside n ns)) (if (eqb c 60) (go (less k (n ∷ ns))) stop)
step (closing [] ns) k c = if (is_space c) (go (closing [] ns)) (if (eqb c 62) (say (end ∷ []) (up ns)) stop)
step (closing (d ∷ m) ns) k c = if (eqb c d) (go (closing m ns)) stop

-- tags before tags
abbrev pub prefix : List Tag → Option (List Tag) → Option (List Tag)
prefix ts none = none
prefix ts (some us) = some (ts ++ us)

-- after a move
abbrev pub follow : Move → (State → Option (List Tag)) → Option (List Tag)
follow stop k = none
follow (go t) k = k t
follow (say ts t) k = prefix ts (k t)

-- a page may end only after its element
abbrev pub is_after : State → Option (List Tag)
is_after after = some []
is_after before = none
is_after (less i ns) = none
is_after (tag i n ns) = none
is_after (gap b T) = none
is_after (slash T) = none
is_after (name T n) = none
is_after (equals T n) = none
is_after (quote T n) = none
is_after (val H) = none
is_after (ref r H) = none
is_after (inside n ns) = none
is_after (closing m ns) = none

-- the tags of the bytes from state s on; none if they are malformed
abbrev pub scan : State → List ℕ → Option (List Tag)
scan s [] = is_after s
scan s (c ∷ w) = follow (step s (suc (length w)) c) (λ t. scan t w)

-- one byte more, if it is taken
abbrev pub one_more : Move → (State → ℕ) → ℕ
one_more stop f = 0
one_more (go t) f = suc (f t)
one_more (say ts t) f = suc (f t)

-- how many bytes the machine takes
abbrev pub eaten : State → List ℕ → ℕ
eaten s [] = 0
eaten s (c ∷ w) = one_more (step s (suc (length w)) c) (λ t. eaten t w)
