-- Fold: a page judged in one pass over its tags. The open elements are told by a few numbers, and the first element or attribute that has no
-- place (5) ends the pass. By the theorems of proofs/FoldJudge this is exactly document 01's least fault.
-- Assumes nothing.
use Rattle.std.specs.Prelude.{Bool, false, not, ◌&&◌, ◌||◌, List, [], ◌∷◌, ℕ, suc, eqb, leb, ltb}
use Rattle.paper.specs.Lists.{bytes, if, is_empty, elem, twice, every}
use Rattle.paper.specs.Grammar.{Attr, Tag, start, end}
use Rattle.paper.specs.Fields.{Kind, unknown, MP, P, A, M, W, code, is, fields_of, excluded, named, children, rank_of, about, most_of}
use Rattle.paper.specs.Plan.{Slots, slot}
use Rattle.paper.specs.Judging.{Fault, names, slots_of, letters_of, broken, missing, clash, mp_version, mp_over, mp_half, lower, Sheet, Judged, refused, sheet}
use Rattle.fields.specs.Places.{kind_at}

-- a fault by its number and its place
abbrev pub given : ℕ → ℕ → Fault
given n i = record { no = n; place = i }

-- no fault: above every refusal of a page
abbrev pub spotless : Fault
spotless = given 9 0

-- what is known of a page behind some of its tags
pub record St : Type 0 where
  -- the code of the innermost open element, 0 if none is open
  pub cur : ℕ
  -- the latest kind in MP: 0 none, 1 P, 2 A, 3 O, 4 S
  pub rank : ℕ
  -- a P, an A has come
  pub has_p : Bool
  pub has_a : Bool
  -- how many W the open M has
  pub ws : ℕ
  -- the open M has no p, no a and no W so far
  pub waits : Bool
  -- the place of the latest M, and that of MP
  pub from : ℕ
  pub root : ℕ
  -- the least fault so far
  pub best : Fault

-- before the first tag
abbrev pub outside : St
outside = record { cur = 0; rank = 0; has_p = false; has_a = false; ws = 0; waits = false; from = 0; root = 0; best = spotless }

-- what the element with that code may hold; "the outermost element must be MP"
unfoldable pub kids_of : ℕ → List Kind
kids_of c = if (eqb c 0) (MP ∷ []) (children (kind_at c))

-- the kind that a name has in the element with that code
unfoldable pub kind_under : ℕ → List ℕ → Kind
kind_under c n = named n (kids_of c)

-- the code of the element around; 0 outside of all
unfoldable pub parent : ℕ → ℕ
parent c = code (about (kind_at c)).parent

-- misplaced or too many, of a kind that is limited in number: a W behind as many as its M may have, a P, A or O behind one of its own or a later kind
unfoldable pub full : St → Kind → Bool
full s k = ltb 0 (most_of k) && if (is k W) (leb (most_of k) s.ws) (leb (rank_of k) s.rank)

-- refusal 5 of an element: unknown, misplaced or too many
unfoldable pub barred : St → Kind → Bool
barred s k = is k unknown || full s k

-- refusal 5 of attributes: unknown or twice
unfoldable pub strange : Kind → List (List ℕ) → Bool
strange k ns = not (every (λ n. elem n (letters_of (fields_of k))) ns) || twice ns

-- refusal 7 of an element's own tag: a value that breaks its field, or a above z
abbrev pub amiss : Kind → Slots → Bool
amiss k vs = broken (fields_of k) vs || mp_over k vs

-- refusal 8 of an element's own tag: a missing field, an excluded pair, or half of a and z
abbrev pub unfit : Kind → List (List ℕ) → Slots → Bool
unfit k ns vs = missing (fields_of k) vs || clash (excluded k) ns || mp_half k vs

-- the least of 6, 7 and 8 that an element's own tag gives, 9 if none
unfoldable pub flaw : Kind → List (List ℕ) → Slots → ℕ
flaw k ns vs = if (mp_version k vs) 6 (if (amiss k vs) 7 (if (unfit k ns vs) 8 9))

-- an M that has neither p nor a: it needs a W
unfoldable pub needs_w : Kind → Slots → Bool
needs_w k vs = is k M && (is_empty (slot (bytes "p") (fields_of M) vs) && is_empty (slot (bytes "a") (fields_of M) vs))

-- behind a start tag
unfoldable pub opened : St → Kind → ℕ → List Attr → St
opened s k i l = record {
  cur = code k;
  rank = if (eqb (rank_of k) 0) s.rank (rank_of k);
  has_p = is k P || s.has_p;
  has_a = is k A || s.has_a;
  ws = if (is k M) 0 (if (is k W) (suc s.ws) s.ws);
  waits = needs_w k (slots_of (fields_of k) l);
  from = if (is k M) i s.from;
  root = if (is k MP) i s.root;
  best = lower s.best (given (flaw k (names l) (slots_of (fields_of k) l)) i);
}

-- behind an end tag: "an M needs p, a or a W" (8)
unfoldable pub closed : St → St
closed s = record {
  cur = parent s.cur;
  rank = s.rank;
  has_p = s.has_p;
  has_a = s.has_a;
  ws = s.ws;
  waits = false;
  from = s.from;
  root = s.root;
  best = if s.waits (lower s.best (given 8 s.from)) s.best;
}

-- at the end of the page: 8 at MP if P or A is missing
unfoldable pub finished : St → Fault
finished s = if (s.has_p && s.has_a) s.best (lower s.best (given 8 s.root))

-- the least fault of the tags from here on, with those so far; the first 5 ends the pass
unfoldable pub judge_fold : St → List Tag → Fault
judge_fold s [] = finished s
judge_fold s (end ∷ ts) = judge_fold (closed s) ts
judge_fold s (start i n l ∷ ts) =
    if (barred s (kind_under s.cur n)) (given 5 i)
    (if (strange (kind_under s.cur n) (names l)) (given 5 i)
    (judge_fold (opened s (kind_under s.cur n) i l) ts))

-- the least fault of a page's tags, number 9 if there is none
unfoldable pub fold_page : List Tag → Fault
fold_page ts = judge_fold outside ts

-- the answer for a page with that least fault and that content
abbrev pub answer : Fault → Sheet → Judged
answer f s = if (eqb f.no 9) (sheet s) (refused f.no f.place)
