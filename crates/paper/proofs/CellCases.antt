-- CellCases: both sides of the rule by which a cell is cut (document 02, ask 4), computed: one blank at each place, two in a row, the first byte, byte 160, and texts of
-- exactly the limit and of one byte more.
-- Assumes nothing.
use mathlib.Core.Path.{◌≡◌, refl}
use mathlib.Core.Bool.{true, false}
use mathlib.Core.List.{List, [], ◌∷◌, ◌++◌, map}
use Prim.Native.Nat.{ℕ, zero, suc, ◌-◌}
use lib.ListN.{replicate}
use Rattle.paper.specs.Lists.{bytes}
use Rattle.paper.specs.Cells.{cell, shown_of, cut_to}

-- so many letters
abbrev letters : ℕ → List ℕ
letters n = replicate n 97

-- a text one byte longer than the limit n, all letters but for one byte at place p
abbrev text_with : ℕ → ℕ → ℕ → List ℕ
text_with c n p = letters p ++ (c ∷ letters (n - p))

-- so many places, from p on
abbrev places : ℕ → ℕ → List ℕ
places p zero = []
places p (suc k) = p ∷ places (suc p) k

-- how many bytes are shown with a blank at each of these places in turn
abbrev shown_with : ℕ → List ℕ → List ℕ
shown_with n ps = map (λ (p : ℕ). shown_of n (text_with 32 n p)) ps

-- a blank at n − 14 is one too far back, from n − 13 to n − 4 the text is cut before it, at n − 3 it is no longer among them: name, substance, strength
name_cut : shown_with 50 (places 36 12) ≡ 47 ∷ 37 ∷ 38 ∷ 39 ∷ 40 ∷ 41 ∷ 42 ∷ 43 ∷ 44 ∷ 45 ∷ 46 ∷ 47 ∷ []
name_cut = refl

substance_cut : shown_with 80 (places 66 12) ≡ 77 ∷ 67 ∷ 68 ∷ 69 ∷ 70 ∷ 71 ∷ 72 ∷ 73 ∷ 74 ∷ 75 ∷ 76 ∷ 77 ∷ []
substance_cut = refl

strength_cut : shown_with 15 (places 1 12) ≡ 12 ∷ 2 ∷ 3 ∷ 4 ∷ 5 ∷ 6 ∷ 7 ∷ 8 ∷ 9 ∷ 10 ∷ 11 ∷ 12 ∷ []
strength_cut = refl

-- of a form four bytes have room, so that the ten are more than there are; the very first byte is no place to cut before
form_cut : shown_with 7 (places 0 8) ≡ 4 ∷ 1 ∷ 2 ∷ 3 ∷ 4 ∷ 4 ∷ 4 ∷ 4 ∷ []
form_cut = refl

-- a blank first and nowhere else
first_blank : cut_to 7 (bytes " Tablette") ≡ cell (bytes " Tab") true 5 false
first_blank = refl

-- of two blanks in a row the first stays in the cell
two_blanks : cut_to 15 (bytes "500 mg/  Tablette") ≡ cell (bytes "500 mg/ ") true 9 false
two_blanks = refl

-- the last blank decides, and the blanks before it stay
last_blank : cut_to 15 (bytes "je 5 mg in 2 ml Wasser") ≡ cell (bytes "je 5 mg in") true 12 false
last_blank = refl

-- byte 160 is no blank
no_break : map (λ (p : ℕ). shown_of 15 (text_with 160 15 p)) (places 1 12) ≡ replicate 12 12
no_break = refl

-- a text of exactly its limit is whole, with or without blanks; one byte more is too long
exactly : (cut_to 7 (bytes "Tab 1 2") ≡ cell (bytes "Tab 1 2") false 0 false) × (cut_to 7 (bytes "Tab 1 23") ≡ cell (bytes "Tab") true 5 false)
exactly = (refl, refl)
