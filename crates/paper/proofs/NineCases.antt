-- The nine numbered cases of document 01, "Both sides of each rule", as one table under one statement, computed on whole pages; and its two sizes.
-- Assumes nothing.
use mathlib.Core.Path.{◌≡◌, refl, sym}
use mathlib.Core.Bool.{Bool, true, false, ◌&&◌, ◌||◌}
use mathlib.Core.List.{List, [], ◌∷◌, ◌++◌}
use Prim.Native.Nat.{ℕ, ◌-◌, ◌%◌}
use Prim.Native.String as Str
use lib.Dec.{eqb}
use lib.ListN.{length, replicate}
use borrow.Author.Tests.{eqb-true}
use Rattle.paper.specs.Lists.{bytes, same, every, concat}
use Rattle.paper.specs.Fields.{Kind, is, fields_of}
use Rattle.paper.specs.Rules.{weighted_sum, padded}
use Rattle.paper.specs.Plan.{Slots, Head, Row, Plan, same_slots, same_head}
use Rattle.paper.specs.Judging.{judge}
use Rattle.paper.specs.Reading.{Answer, refusal, plan, read}
use Rattle.paper.specs.Writing.{decimal}
use Rattle.paper.specs.Listing.{Line, plan_lines}
use Rattle.paper.proofs.Small.{no, both}
use Rattle.paper.proofs.Told.{is_eq}
use Rattle.paper.proofs.AnyOrder.{slots_eq, head_eq}

-- ---- what is expected of pages

-- a refusal with number, page and place; the same plan as these other pages; a plan whose listing has this line;
-- a plan whose first package number, padded to eight digits, has this sum and this remainder by 11
pub data Outcome : Type 0 where
  refused : ℕ → ℕ → ℕ → Outcome
  alike : List (List ℕ) → Outcome
  lists : Str.String → Outcome
  sums : ℕ → ℕ → Outcome

-- a case: its number in document 01 (or the size that it tries), the pages handed in, and what is expected of them
pub record Case : Type 0 where
  pub number : ℕ
  pub pages : List (List ℕ)
  pub expected : Outcome

-- a line of the table
abbrev pub case : ℕ → List (List ℕ) → Outcome → Case
case n f o = record { number = n; pages = f; expected = o }

-- ---- when an answer is as expected

-- the substances agree as values
abbrev pub same_ws : List Slots → List Slots → Bool
same_ws [] [] = true
same_ws [] (y ∷ t) = false
same_ws (x ∷ s) [] = false
same_ws (x ∷ s) (y ∷ t) = same_slots x y && same_ws s t

-- the rows agree as values
abbrev pub same_rows : List Row → List Row → Bool
same_rows [] [] = true
same_rows [] (b ∷ t) = false
same_rows (a ∷ s) [] = false
same_rows (a ∷ s) (b ∷ t) = is a.kind b.kind && (eqb a.pzn b.pzn && (same_slots a.slots b.slots && (same_ws a.ws b.ws && same_rows s t)))

-- "Two plans are the same when heads and rows agree as values."
abbrev pub same_as : Plan → Answer → Bool
same_as p (refusal n k i) = false
same_as p (plan q) = same_head p.head q.head && same_rows p.rows q.rows

-- the line stands among these
abbrev pub has_line : List ℕ → List Line → Bool
has_line s [] = false
has_line s (l ∷ ls) = same s (l.key ++ 61 ∷ l.value) || has_line s ls

-- "The first seven digits times 1 to 7 are added", and the remainder by 11, for the first row's package number
abbrev pub has_sum : ℕ → ℕ → List Row → Bool
has_sum s m [] = false
has_sum s m (r ∷ rs) = eqb s (weighted_sum (padded (decimal r.pzn))) && eqb m (s % 11)

-- the answer is as expected
abbrev pub meets : Outcome → Answer → Bool
meets (refused n k i) (refusal m l j) = eqb n m && (eqb k l && eqb i j)
meets (refused n k i) (plan p) = false
meets (alike f) (refusal m l j) = false
meets (alike f) (plan p) = same_as p (read f)
meets (lists s) (refusal m l j) = false
meets (lists s) (plan p) = has_line (bytes s) (plan_lines p)
meets (sums s m) (refusal n l j) = false
meets (sums s m) (plan p) = has_sum s m p.rows

-- the test of a case: its pages are read to what is expected
unfoldable pub right : Case → Bool
right c = meets c.expected (read c.pages)

-- ---- the pages

-- a whole page, with this birthday, these attributes in MP beside the needed ones, and these elements after A
abbrev pub sheet : Str.String → Str.String → List ℕ → List ℕ
sheet b mp x = bytes "<MP v='027' U='00112233445566778899AABBCCDDEEFF'" ++ (bytes mp
    ++ (bytes "><P g='Ida' f='Kern' b='" ++ (bytes b ++ (bytes "'/><A n='Praxis Holm' t='2023-03-01T09:30:00'/>" ++ (x ++ bytes "</MP>")))))

-- one page with one medication of these attributes; its `<` stands at 130
abbrev pub medication : Str.String → List (List ℕ)
medication m = sheet "19510704" "" (bytes "<S><M " ++ (bytes m ++ bytes "/></S>")) ∷ []

-- one page without rows and with this birthday; the `<` of P stands at 49
abbrev pub born : Str.String → List (List ℕ)
born b = sheet b "" [] ∷ []

-- a page without rows, with spaces after it up to so many bytes
abbrev pub filled : ℕ → List (List ℕ)
filled n = (w ++ replicate (n - length w) 32) ∷ []
  where
    w : List ℕ
    w = sheet "19510704" "" []

-- so many notes in one section
abbrev pub notes : ℕ → List ℕ
notes n = bytes "<S>" ++ (concat (replicate n (bytes "<X t='x'/>")) ++ bytes "</S>")

-- three pages with so many notes on each
abbrev pub three : ℕ → ℕ → ℕ → List (List ℕ)
three i j k = sheet "19510704" " a='1' z='3'" (notes i) ∷ sheet "19510704" " a='2' z='3'" (notes j) ∷ sheet "19510704" " a='3' z='3'" (notes k) ∷ []

-- ---- the table

-- the nine cases, in document 01's words
abbrev pub nine_cases : List Case
nine_cases =
    -- "1. PZN 2394428 and 02394428: sum 107, remainder 8, same row."
    case 1 (medication "p='2394428'") (lists "MP.S.M.p=2394428")
    ∷ case 1 (medication "p='02394428'") (lists "MP.S.M.p=2394428")
    ∷ case 1 (medication "p='02394428'") (alike (medication "p='2394428'"))
    ∷ case 1 (medication "p='2394428'") (sums 107 8)
    -- "2. 2394429: 7."
    ∷ case 2 (medication "p='2394429'") (refused 7 1 130)
    -- "3. Dose 0,5 kept; ,5 gives 7."
    ∷ case 3 (medication "a='x' m='0,5'") (lists "MP.S.M.m=0,5")
    ∷ case 3 (medication "a='x' m=',5'") (refused 7 1 130)
    -- "4. m=\"0\" alone: as absent."
    ∷ case 4 (medication "a='x' m='0'") (alike (medication "a='x'"))
    -- "5. m=\"0\" with t: 8."
    ∷ case 5 (medication "a='x' m='0' t='z'") (refused 8 1 130)
    ∷ case 5 (medication "a='x' t='z'") (lists "MP.S.M.t=z")
    -- "6. dud \"g\": 7; \"ml\" kept."
    ∷ case 6 (medication "a='x' dud='g'") (refused 7 1 130)
    ∷ case 6 (medication "a='x' dud='ml'") (lists "MP.S.M.dud=ml")
    -- "7. A&amp;B equals A&#38;B."
    ∷ case 7 (medication "a='A&amp;B'") (alike (medication "a='A&#38;B'"))
    ∷ case 7 (medication "a='A&amp;B'") (lists "MP.S.M.a=A&B")
    -- "8. b 19000229: 7; 20000229 kept."
    ∷ case 8 (born "19000229") (refused 7 1 49)
    ∷ case 8 (born "20000229") (lists "MP.P.b=20000229")
    -- "9. i of two blanks: absent."
    ∷ case 9 (medication "a='x' i='  '") (alike (medication "a='x'"))
    ∷ []

-- "1,400 bytes read, 1,401 give 2; 256 rows read, 257 give 12."
abbrev pub sizes : List Case
sizes =
    case 1400 (filled 1400) (lists "rows=0")
    ∷ case 1401 (filled 1401) (refused 2 1 0)
    ∷ case 256 (three 86 85 85) (lists "rows=256")
    ∷ case 257 (three 86 86 85) (refused 12 0 0)
    ∷ []

-- the nine cases hold, on both sides of each rule
pub nine_cases_lem : every right nine_cases ≡ true
unfolding right read judge fields_of plan_lines
nine_cases_lem = refl

-- the two sizes hold, on both sides
pub both_sizes : every right sizes ≡ true
unfolding right read judge fields_of plan_lines
both_sizes = refl

-- ---- what a passed test means

-- the expectation as a fact about reading: which refusal; or that there is a plan, and what holds of it
abbrev pub Means : List (List ℕ) → Outcome → Type 0
Means f (refused n k i) = read f ≡ refusal n k i
Means f (alike g) = (p : Plan) × (read f ≡ plan p) × (read g ≡ plan p)
Means f (lists s) = (p : Plan) × (read f ≡ plan p) × (has_line (bytes s) (plan_lines p) ≡ true)
Means f (sums s m) = (p : Plan) × (read f ≡ plan p) × (has_sum s m p.rows ≡ true)

ws_eq : (a b : List Slots) → same_ws a b ≡ true → a ≡ b
ws_eq [] [] e = refl
ws_eq [] (y ∷ t) e = no (sym e)
ws_eq (x ∷ s) [] e = no (sym e)
ws_eq (x ∷ s) (y ∷ t) e = let (a, b) = both (same_slots x y) (same_ws s t) e in rw (slots_eq x y a, ws_eq s t b)

rows_eq : (l m : List Row) → same_rows l m ≡ true → l ≡ m
rows_eq [] [] e = refl
rows_eq [] (b ∷ t) e = no (sym e)
rows_eq (a ∷ s) [] e = no (sym e)
rows_eq (a ∷ s) (b ∷ t) e =
    let (k, e₁) = both (is a.kind b.kind) (eqb a.pzn b.pzn && (same_slots a.slots b.slots && (same_ws a.ws b.ws && same_rows s t))) e in
    let (n, e₂) = both (eqb a.pzn b.pzn) (same_slots a.slots b.slots && (same_ws a.ws b.ws && same_rows s t)) e₁ in
    let (v, e₃) = both (same_slots a.slots b.slots) (same_ws a.ws b.ws && same_rows s t) e₂ in
    let (w, r) = both (same_ws a.ws b.ws) (same_rows s t) e₃ in
    make a.kind b.kind a.pzn b.pzn a.slots b.slots a.ws b.ws s t
    (is_eq a.kind b.kind k) (eqb-true a.pzn b.pzn n) (slots_eq a.slots b.slots v) (ws_eq a.ws b.ws w) (rows_eq s t r)
  where
    make : (k k' : Kind) (n n' : ℕ) (v v' : Slots) (w w' : List Slots) (s t : List Row) → k ≡ k' → n ≡ n' → v ≡ v' → w ≡ w' → s ≡ t
        → ◌≡◌ {A = List Row} (record { kind = k; pzn = n; slots = v; ws = w } ∷ s) (record { kind = k'; pzn = n'; slots = v'; ws = w' } ∷ t)
    make k k' n n' v v' w w' s t a b c d e = rw (a, b, c, d, e)

same_answer : (p : Plan) (a : Answer) → same_as p a ≡ true → a ≡ plan p
same_answer p (refusal n k i) e = no (sym e)
same_answer p (plan q) e =
    let (h, r) = both (same_head p.head q.head) (same_rows p.rows q.rows) e in
    sym (make p.head q.head p.rows q.rows (head_eq p.head q.head h) (rows_eq p.rows q.rows r))
  where
    make : (h h' : Head) (r r' : List Row) → h ≡ h' → r ≡ r' → plan (record { head = h; rows = r }) ≡ plan (record { head = h'; rows = r' })
    make h h' r r' a b = rw (a, b)

-- a case that passes the test is as expected: the test takes nothing else for it
pub right_means : (c : Case) → right c ≡ true → Means c.pages c.expected
unfolding right
right_means c t = at c.expected (read c.pages) refl t
  where
    at : (o : Outcome) (a : Answer) → read c.pages ≡ a → meets o a ≡ true → Means c.pages o
    at (refused n k i) (refusal m l j) e t =
        let (x, u) = both (eqb n m) (eqb k l && eqb i j) t in
        let (y, z) = both (eqb k l) (eqb i j) u in
        rw (eqb-true n m x, eqb-true k l y, eqb-true i j z) e
    at (refused n k i) (plan p) e t = no (sym t)
    at (alike f) (refusal m l j) e t = no (sym t)
    at (alike f) (plan p) e t = (p, e, same_answer p (read f) t)
    at (lists s) (refusal m l j) e t = no (sym t)
    at (lists s) (plan p) e t = (p, e, t)
    at (sums s m) (refusal n l j) e t = no (sym t)
    at (sums s m) (plan p) e t = (p, e, t)

-- every case of a table is as expected
abbrev pub Hold : List Case → Type 0
Hold [] = Unit {0}
Hold (c ∷ l) = Means c.pages c.expected × Hold l

-- a table that passes the test holds
pub all_hold : (l : List Case) → every right l ≡ true → Hold l
all_hold [] e = tt
all_hold (c ∷ l) e = let (a, b) = both (right c) (every right l) e in (right_means c a, all_hold l b)

-- the nine cases and the two sizes hold
pub nine_cases_hold : Hold nine_cases × Hold sizes
nine_cases_hold = (all_hold nine_cases nine_cases_lem, all_hold sizes both_sizes)
