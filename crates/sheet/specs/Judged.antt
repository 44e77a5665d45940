-- Judged: what the code's state and its refusals stand for in the one pass, and when a page has no fault. By the theorems of proofs/JudgeLaws the answer
-- is document 01's. `is_fine` is the interface; the other definitions serve the code.
-- Assumes nothing.
use Rattle.std.specs.Prelude.{Option, None, Some, Bool, true, false, ◌≤◌, ◌<◌}
use Rattle.paper.specs.Lists.{if}
use Rattle.paper.specs.Causes.{cause_number}
use Rattle.paper.specs.Judging.{Fault, Judged, refused, sheet}
use Rattle.sheet.specs.Fold.{St, given, spotless, closed}
use Rattle.sheet.specs.declared.state.Refusal.{Refusal}
use Rattle.sheet.specs.declared.state.State.{State}

-- a refusal as a fault
abbrev pub fault_at : Refusal → Fault
fault_at f = given (cause_number f.cause) f.place

-- the same where there may be none
abbrev pub fault_of : Option Refusal → Fault
fault_of None = spotless
fault_of (Some f) = fault_at f

-- the code's state as the pass's
abbrev pub st_of : State → St
st_of s = record {
  cur = s.cur;
  rank = s.rank;
  has_p = s.person;
  has_a = s.author;
  ws = s.ws;
  waits = s.waits;
  from = s.from;
  root = s.root;
  best = fault_of s.best;
}

-- behind a start tag that closes itself or not: such a tag is a start and an end
abbrev pub left : Bool → St → St
left b s = if b (closed s) s

-- what keeps the state's numbers small: the open element is one of the table, and an M has at most three W
pub record Sound (s : State) : Type 0 where
  pub known : s.cur < 10
  pub few : s.ws ≤ 3

-- a page has no fault
abbrev pub is_fine : Judged → Bool
is_fine (refused n i) = false
is_fine (sheet s) = true
