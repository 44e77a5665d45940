-- Values: document 01, "Bytes and spelling". From the bytes between two quotes to a value, and from a value to its fresh spelling.
-- Assumes nothing.
use Rattle.std.specs.Prelude.{◌||◌, List, [], ◌∷◌, ◌++◌, ℕ, ◌+◌, ◌*◌, ◌-◌, eqb, leb}
use Rattle.paper.specs.Lists.{bytes, if, same, number}
use Rattle.paper.specs.Bytes.{is_decoded}

-- ---- decoding

-- a hexadecimal digit's value, in either case
abbrev pub hex_digit : ℕ → ℕ
hex_digit c = if (leb c 57) (c - 48) (if (leb c 70) (c - 55) (c - 87))

-- hexadecimal digits as a number, behind what is read already
abbrev pub hex_number : ℕ → List ℕ → ℕ
hex_number a [] = a
hex_number a (c ∷ s) = hex_number (a * 16 + hex_digit c) s

-- "A number outside 32..126 and 160..255 breaks the field": it reads as the byte 0, which no field takes
abbrev pub mark : ℕ → ℕ
mark n = if (is_decoded n) n 0

-- what the reference stands for whose bytes between & and ; are these
abbrev pub refers : List ℕ → ℕ
refers [] = 0
refers (a ∷ s) = if (eqb a 35) (numeral s)
    (if (same (a ∷ s) (bytes "amp")) 38 (if (same (a ∷ s) (bytes "lt")) 60 (if (same (a ∷ s) (bytes "gt")) 62
    (if (same (a ∷ s) (bytes "quot")) 34 (if (same (a ∷ s) (bytes "apos")) 39 0)))))
  where
    numeral : List ℕ → ℕ
    numeral [] = 0
    numeral (x ∷ t) = if (eqb x 120) (mark (hex_number 0 t)) (mark (number 0 (x ∷ t)))

-- where in a value: in its text, behind a byte 13, or behind & and some bytes
pub data At : Type 0 where
  text cr : At
  ref : List ℕ → At

-- what a byte of a value gives, and where it leads
pub record Put : Type 0 where
  pub out : List ℕ
  pub to : At

-- the same, in one word
abbrev pub put : List ℕ → At → Put
put o t = record { out = o; to = t }

-- "Inside a value the pair 13 10, or a single 9, 10 or 13, reads as one space."
abbrev pub plainly : ℕ → Put
plainly c = if (eqb c 38) (put [] (ref []))
    (if (eqb c 13) (put (32 ∷ []) cr) (if (eqb c 10 || eqb c 9) (put (32 ∷ []) text) (put (c ∷ []) text)))

-- one byte of a value: behind a 13 a byte 10 gives nothing more; a reference ends with its `;`
abbrev pub vstep : At → ℕ → Put
vstep text c = plainly c
vstep cr c = if (eqb c 10) (put [] text) (plainly c)
vstep (ref s) c = if (eqb c 59) (put (refers s ∷ []) text) (put [] (ref (s ++ c ∷ [])))

-- the decoded bytes, from here on
abbrev pub decode : At → List ℕ → List ℕ
decode v [] = []
decode v (c ∷ r) = (vstep v c).out ++ decode (vstep v c).to r

-- a byte before what is left of the rest: a space before nothing is cut
abbrev pub keep : ℕ → List ℕ → List ℕ
keep c [] = if (eqb c 32) [] (c ∷ [])
keep c (d ∷ s) = c ∷ d ∷ s

-- "Then a value's trailing spaces are cut."
abbrev pub cut : List ℕ → List ℕ
cut [] = []
cut (c ∷ s) = keep c (cut s)

-- the value of the bytes between two quotes; "if empty then, it counts as absent"
abbrev pub value : List ℕ → List ℕ
value r = cut (decode text r)

-- ---- spelling

-- "only `&amp;`, `&lt;`, `&quot;` used"
abbrev pub esc : ℕ → List ℕ
esc c = if (eqb c 38) (bytes "&amp;") (if (eqb c 60) (bytes "&lt;") (if (eqb c 34) (bytes "&quot;") (c ∷ [])))

-- the fresh spelling of a value
abbrev pub escape : List ℕ → List ℕ
escape [] = []
escape (c ∷ v) = esc c ++ escape v
