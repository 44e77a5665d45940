-- Split: where the pages of planlist's input begin and end.
-- Assumes nothing.
use Rattle.std.specs.Prelude.{List, [], ◌∷◌, ℕ, zero, suc, ◌+◌, length}

-- how many bytes stand before the first zero byte; all of them if there is none
abbrev pub to_zero : List ℕ → ℕ
to_zero [] = 0
to_zero (zero ∷ s) = 0
to_zero (suc c ∷ s) = suc (to_zero s)

-- where pages begin of which the first begins at n, with one zero byte between each and the next
abbrev pub starts_from : ℕ → List (List ℕ) → List ℕ
starts_from n [] = []
starts_from n (w ∷ ws) = n ∷ starts_from (n + length w + 1) ws

-- how long pages are
abbrev pub lengths : List (List ℕ) → List ℕ
lengths [] = []
lengths (w ∷ ws) = length w ∷ lengths ws
