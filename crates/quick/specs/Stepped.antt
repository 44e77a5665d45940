-- Stepped: one tag of a page passed: what may follow it, what is then known of the page, and what then stands on the tape.
-- Assumes nothing.
use Rattle.std.specs.Prelude.{◌≡◌, List, ◌++◌, ℕ, ◌+◌, ◌≤◌, ◌<◌, length, take, drop, get_or}
use Rattle.paper.specs.Lists.{until}
use Rattle.paper.specs.Bytes.{is_space}
use Rattle.paper.specs.Grammar.{Tag, Rest, Page, placed}
use Rattle.sheet.specs.Fold.{outside, judge_fold}
use Rattle.sheet.specs.Judged.{st_of, Sound}
use Rattle.sheet.specs.declared.state.State.{State}
use Rattle.quick.specs.Passed.{open_names, NameAt}
use Rattle.tape.specs.Tape.{starts_of, Lies}
use Rattle.quoted.specs.Valued.{Grown}

-- from i up to r a start tag is passed, in the state st before it and st' behind it; its element lies on the tape from f up to f'
pub record StepIn (w : List ℕ) (i r : ℕ) (st st' : State) (t t' : List ℕ) (f f' : ℕ) (side side' : List ℕ) (m m' : ℕ) : Type 0 where
  pub tags : List Tag
  pub within : (i < r) × (r ≤ length w)
  pub derives : (u : List Tag) → Rest (open_names st'.cur) (drop r w) u → Rest (open_names st.cur) (drop i w) (tags ++ u)
  pub judged : (u : List Tag) → judge_fold (st_of st) (placed (length w) (tags ++ u)) ≡ judge_fold (st_of st') (placed (length w) u)
  pub sound : Sound st'
  pub lies : Lies w side' m' t' f f' (starts_of (placed (length w) tags))
  pub near : m' + i ≤ m + r
  pub before : take f t' ≡ take f t
  pub grown : Grown side side' m m'
  pub room : (m' ≤ length side') × (f' ≤ length t')

-- the end tag of the open element c whose `<` stands at s ends before r
pub record EndAt (w : List ℕ) (s c r : ℕ) : Type 0 where
  pub name_end_at : ℕ
  pub name : NameAt w (s + 2) c name_end_at
  pub close_at : ℕ
  pub spaces : close_at ≡ name_end_at + until is_space (drop name_end_at w)
  pub within : (name_end_at ≤ close_at) × (close_at < length w)
  pub closes : get_or w close_at 0 ≡ 62
  pub behind : r ≡ close_at + 1

-- the tags of the page w up to place i: what may follow them, what is known of the page, and their elements on the tape from `first` up to f; t₀ and side₀, of which m₀ bytes
-- were in use, are the rooms before the page
pub record On (w t₀ t side₀ side : List ℕ) (m₀ m first f i : ℕ) (st : State) : Type 0 where
  pub said : List Tag
  pub within : i ≤ length w
  pub so_far : (u : List Tag) → Rest (open_names st.cur) (drop i w) u → Page w (said ++ u)
  pub judged : (u : List Tag) → judge_fold outside (placed (length w) (said ++ u)) ≡ judge_fold (st_of st) (placed (length w) u)
  pub sound : Sound st
  pub lies : Lies w side m t first f (starts_of (placed (length w) said))
  pub near : m ≤ m₀ + i
  pub before : take first t ≡ take first t₀
  pub grown : Grown side₀ side m₀ m
  pub room : (m ≤ length side) × (f ≤ length t)
  pub up : first < f
  pub long : (length t ≡ length t₀) × (length side ≡ length side₀)
