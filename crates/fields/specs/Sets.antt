-- Sets: the sets of bytes that the rules are written in, each named by one byte, so that a pattern is a byte string such as "####-##-##".
-- Assumes nothing.
use Rattle.std.specs.Prelude.{Bool, ◌&&◌, ◌||◌, List, [], ◌∷◌, ℕ, eqb, leb}
use Rattle.paper.specs.Lists.{if}
use Rattle.paper.specs.Bytes.{is_digit, is_capital, is_small, is_letter}
use Rattle.paper.specs.Rules.{is_hex_capital}

-- `#` a digit, `A` a capital, `a` a small letter, `F` a digit or a capital A..F, `N` a digit 1..9, `S` one of M W D X,
-- `C` a capital or a digit, `L` a letter or a digit; any other byte stands for itself
unfoldable pub in_set : ℕ → ℕ → Bool
in_set k c =
    if (eqb k 35) (is_digit c)
    (if (eqb k 65) (is_capital c)
    (if (eqb k 97) (is_small c)
    (if (eqb k 70) (is_hex_capital c)
    (if (eqb k 78) (leb 49 c && leb c 57)
    (if (eqb k 83) (eqb c 77 || eqb c 87 || eqb c 68 || eqb c 88)
    (if (eqb k 67) (is_capital c || is_digit c)
    (if (eqb k 76) (is_letter c || is_digit c) (eqb c k))))))))

-- a pattern: the set of each of its bytes
abbrev pub sets : List ℕ → List (ℕ → Bool)
sets [] = []
sets (k ∷ ks) = in_set k ∷ sets ks
