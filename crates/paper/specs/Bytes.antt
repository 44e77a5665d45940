-- Bytes: document 01, "Bytes and spelling", first paragraph. Which bytes are allowed, and the class of each.
-- Assumes nothing.
use Rattle.std.specs.Prelude.{Bool, not, ◌&&◌, ◌||◌, List, ℕ, eqb, leb}
use Rattle.paper.specs.Lists.{if, until}

-- "Spaces are bytes 9, 10, 13, 32."
abbrev pub is_space : ℕ → Bool
is_space c = eqb c 32 || eqb c 10 || eqb c 13 || eqb c 9

-- 0 to 9
abbrev pub is_digit : ℕ → Bool
is_digit c = leb 48 c && leb c 57

-- "capital letter (A to Z)"
abbrev pub is_capital : ℕ → Bool
is_capital c = leb 65 c && leb c 90

-- "small letter (a to z)"
abbrev pub is_small : ℕ → Bool
is_small c = leb 97 c && leb c 122

-- a letter of either case
abbrev pub is_letter : ℕ → Bool
is_letter c = is_capital c || is_small c

-- "32..126 and 160..255": what may stand in a value once it is decoded
abbrev pub is_decoded : ℕ → Bool
is_decoded c = (leb 32 c && leb c 126) || (leb 160 c && leb c 255)

-- "Allowed bytes: 9, 10, 13, 32 to 126, 160 to 255."
abbrev pub is_allowed : ℕ → Bool
is_allowed c = is_decoded c || is_space c

-- "refused, space, digit, capital letter (A to Z), small letter (a to z), other mark"
pub data Class : Type 0 where
  refused space digit capital small other : Class

-- "Each byte has one class."
unfoldable pub class_of : ℕ → Class
class_of c = if (not (is_allowed c)) refused (if (is_space c) space (if (is_digit c) digit (if (is_capital c) capital (if (is_small c) small other))))

-- the number that a table holds for a class
abbrev pub class_number : Class → ℕ
class_number refused = 0
class_number space = 1
class_number digit = 2
class_number capital = 3
class_number small = 4
class_number other = 5

-- refusal 3, "first such byte": how many bytes stand before the first that is not allowed; all of them if none is
abbrev pub first_refused : List ℕ → ℕ
first_refused w = until is_allowed w
