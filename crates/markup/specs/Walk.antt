-- Walk: the tags of a page as the walk finds them, on any bytes. On a well-formed page they are paper's tags: the theorem `walked` of proofs/Walked.
-- The interface is `tags_at`, `inside_at`, and what the answers tell of them, `tag_of` and `first_of`; the other definitions serve these. Assumes nothing.
use Rattle.std.specs.Prelude.{Bool, true, false, not, ◌||◌, List, [], ◌∷◌, ℕ, zero, suc, ◌+◌, ◌≤◌, ◌<◌, eqb, ltb, length, take, drop, get_or, Option, None, Some}
use Rattle.std.proofs.Math.Seq.{slice}
use Rattle.paper.specs.Lists.{if, until}
use Rattle.paper.specs.Bytes.{is_space}
use Rattle.paper.specs.Grammar.{Attr, Tag, start, end, is_name_byte}
use Rattle.markup.specs.declared.walk.Mark.{Mark}
use Rattle.markup.specs.declared.walk.Mark.TheVariants.{Start, End}
use Rattle.markup.specs.declared.walk.Piece.{Piece}
use Rattle.markup.specs.declared.walk.Piece.TheVariants.{Attribute, Stop}
use Rattle.markup.specs.declared.walk.Set.{Set}
use Rattle.markup.specs.declared.walk.Set.TheVariants.{Spaces, Names, Middle, Not}

-- a byte that may stand between an attribute's name and its value: a space, or `=`
abbrev pub is_middle : ℕ → Bool
is_middle c = eqb c 61 || is_space c

-- the sets of bytes that the walk passes over: spaces, name bytes, what stands before a value, and all bytes but k
abbrev pub passes : Set → ℕ → Bool
passes Spaces c = is_space c
passes Names c = is_name_byte c
passes Middle c = is_middle c
passes (Not k) c = not (eqb c k)

-- the set of a value's bytes, by the byte that opens it: all bytes but that one; bytes 0 to 2, which no page may have, stand for the other sets
abbrev pub within : ℕ → Set
within q = if (eqb q 0) Spaces (if (eqb q 1) Names (if (eqb q 2) Middle (Not q)))

-- ---- the inside of a tag

-- what stands in a tag behind its name: its attributes, and whether it closes itself
pub record Inside : Type 0 where
  pub attrs : List Attr
  pub shut : Bool

-- the tag's end
abbrev pub stops : Bool → Inside
stops b = record { attrs = []; shut = b }

-- an attribute before the rest
abbrev pub more : List ℕ → List ℕ → Inside → Inside
more n r i = record { attrs = record { name = n; raw = r } ∷ i.attrs; shut = i.shut }

-- the places of the attribute that t begins with: where its name ends
abbrev pub name_end : List ℕ → ℕ
name_end t = until (passes Names) t

-- its quote
abbrev pub quote_at : List ℕ → ℕ
quote_at t = name_end t + until (passes Middle) (drop (name_end t) t)

-- where its raw value ends
unfoldable pub raw_end : List ℕ → ℕ
raw_end t = quote_at t + 1 + until (passes (within (get_or t (quote_at t) 0))) (drop (quote_at t + 1) t)

-- the attribute that t begins with before the rest, or the tag's end where t begins with no name
unfoldable pub form : List ℕ → Inside → Inside
form t rest =
    if (eqb (name_end t) 0) (stops (eqb (get_or t 0 0) 47))
    (if (ltb (raw_end t) (length t)) (more (slice 0 (name_end t) t) (slice (quote_at t + 1) (raw_end t) t) rest) (stops false))

-- the inside of a tag, behind k more bytes
unfoldable pub inside : List ℕ → ℕ → Inside
inside [] k = stops false
inside (b ∷ s) (suc k) = inside s k
inside (b ∷ s) zero = if (is_space b) (inside s zero) (form (b ∷ s) (inside s (raw_end (b ∷ s))))

-- the inside of a tag from place i of the page on
abbrev pub inside_at : List ℕ → ℕ → Inside
inside_at w i = inside (drop i w) 0

-- what an answer tells: the attribute and the rest behind its quote, or the end
abbrev pub first_of : List ℕ → Piece → Inside
first_of w (Attribute a e ra re) = more (slice a e w) (slice ra re w) (inside_at w (re + 1))
first_of w (Stop c) = stops c

-- ---- the tags of a page

-- a tag that closes itself is a start and an end
abbrev pub ended : Bool → List Tag → List Tag
ended true ts = end ∷ ts
ended false ts = ts

-- a start tag before the rest
abbrev pub opened : ℕ → List ℕ → Inside → List Tag → List Tag
opened i n I ts = start i n I.attrs ∷ ended I.shut ts

-- the tag at place i before the rest, by what follows its `<`
unfoldable pub tag_before : ℕ → List ℕ → List Tag → List Tag
tag_before i s ts = if (eqb (get_or s 0 0) 47) (end ∷ ts) (opened i (take (name_end s) s) (inside (drop (name_end s) s) 0) ts)

-- the tags of the bytes that begin at place i: one at each `<`
unfoldable pub tags_from : ℕ → List ℕ → List Tag
tags_from i [] = []
tags_from i (b ∷ s) = if (passes (Not 60) b) (tags_from (suc i) s) (tag_before i s (tags_from (suc i) s))

-- the tags of a page from place i on, each start tag with the place of its `<`
abbrev pub tags_at : List ℕ → ℕ → List Tag
tags_at w i = tags_from i (drop i w)

-- what an answer tells: the tag and those behind its `<`, or none
abbrev pub tag_of : List ℕ → Option Mark → List Tag
tag_of w (Some (Start at e)) = opened at (slice (at + 1) e w) (inside_at w e) (tags_at w (at + 1))
tag_of w (Some (End at)) = end ∷ tags_at w (at + 1)
tag_of w None = []

-- ---- the places of an answer lie in order, within the page of n bytes

-- of an attribute, from `at` on
abbrev pub Inner : ℕ → ℕ → Piece → Type 0
Inner at n (Attribute a e ra re) = (at ≤ a) × (a < e) × (e < ra) × (ra ≤ re) × (re < n)
Inner at n (Stop c) = Unit {0}

-- of a tag, from `at` on
abbrev pub Outer : ℕ → ℕ → Option Mark → Type 0
Outer at n (Some (Start i e)) = (at ≤ i) × (i < e) × (e ≤ n)
Outer at n (Some (End i)) = (at ≤ i) × (i < n)
Outer at n None = Unit {0}
