-- InputLaws: the pages of planlist's input, handed in by their starts and lengths, are read as document 01 says; and what is printed for the answer.
-- Assumes nothing.
use mathlib.Core.Path.{◌≡◌, refl, ap, sym, ◌∙◌, subst}
use mathlib.Core.Bool.{Bool, true, false}
use mathlib.Core.List.{List, [], ◌∷◌}
use Prim.Native.Nat.{ℕ, zero, suc, ◌+◌, ◌≤◌, ◌<◌}
use native.Mathlib.Omega.{arith}
use lib.Dec.{leb}
use lib.ListN.{length, take, length-take}
use lib.Seq.{get_or-take}
use borrow.Author.Tests.{le-leb, lt-leb, leb-true, leb-false}
use Rattle.std.specs.Prelude.{Option, Some, None, Result, Ok, Err}
use Rattle.paper.specs.Lists.{if}
use Rattle.paper.specs.Reading as Paper
use Rattle.paper.specs.Reading.{read}
use Rattle.paper.specs.Listing.{onto, parted, refusal_lines, answer_lines, planlist}
use Rattle.paper.specs.Calls.{listing_room, inside, read_at}
use Rattle.paper.proofs.Small.{no, both, unequal}
use Rattle.paper.proofs.Causes.{many}
use Rattle.paper.proofs.CallLaws.{reads_pages, Agree, only_pages, one}
use Rattle.paper.proofs.Rooms.{answer_fits}
use Rattle.room.specs.Laid.{laid}
use Rattle.listing.specs.Split.{starts_from, lengths}
use Rattle.listing.proofs.Splits.{Split, split_fronts, nine_or_fewer}
use Rattle.tollgilt.specs.Promise.{Promised, answered}
use Rattle.tollgilt.specs.Printed.{Answer, refusal, prints, list_answer, length_of, length_told, Prints}
use Rattle.tollgilt.specs.Refused.{refused_with}
use Rattle.tollgilt.specs.declared.refused.Refused.{Refused}
use Rattle.tollgilt.proofs.ListLaws.{list_call_lem}

-- ---- the pages lie in the input

-- how many bytes pages take, each with one zero byte behind it
abbrev spread : List (List ℕ) → ℕ
spread [] = 0
spread (w ∷ ws) = length w + 1 + spread ws

onto_spread : (c : ℕ) (ws : List (List ℕ)) → 1 ≤ spread ws → spread (onto c ws) ≡ suc (spread ws)
onto_spread c [] h = absurd (omega arith)
onto_spread c (w ∷ ws) h = omega arith

-- the last page has no zero byte behind it
parted_spread : (s : List ℕ) → spread (parted s) ≡ length s + 1
parted_spread [] = refl
parted_spread (zero ∷ s) = let h = parted_spread s in omega arith
parted_spread (suc c ∷ s) = let h = parted_spread s in let e = onto_spread (suc c) (parted s) (omega arith) in omega arith

first_inside : (m : ℕ) (b : List ℕ) (n : ℕ) (ws : List (List ℕ)) → n + spread ws ≤ length b + 1 → inside b (take m (starts_from n ws)) (take m (lengths ws)) ≡ true
first_inside zero b n ws h = refl
first_inside (suc m) b n [] h = refl
first_inside (suc m) b n (w ∷ ws) h = rw (le-leb (n + length w) (length b) (omega arith)) (first_inside m b (n + length w + 1) ws (omega arith))

-- more than nine pages are refusal 1
many_read : (f : List (List ℕ)) → 9 < length f → read f ≡ Paper.refusal 1 0 0
unfolding read
many_read f h = rw (le-leb 1 (length f) (omega arith), lt-leb (length f) 9 h)

-- pages that lie in the first bytes of a buffer lie in the buffer, and are the same there
front_lies : (m : ℕ) (b ss ns : List ℕ) → inside (take m b) ss ns ≡ true → (inside b ss ns ≡ true) × Agree b (take m b) ss ns
front_lies m b [] [] e = (refl, tt)
front_lies m b [] (n ∷ ns) e = no (sym e)
front_lies m b (s ∷ ss) [] e = no (sym e)
front_lies m b (s ∷ ss) (n ∷ ns) e =
    let (x, y) = both (leb (s + n) (length (take m b))) (inside (take m b) ss ns) e in
    let h = leb-true (s + n) (length (take m b)) x in
    let k = length-take m b in
    let (u, v) = front_lies m b ss ns y in
    (rw (le-leb (s + n) (length b) (omega arith), u), (λ i g l. sym (get_or-take m b i 0 (omega arith)), v))

-- the pages that a list was split into, handed in with it, are read as its pages
pages_read : (s starts₀ lens₀ starts lens : List ℕ) (r : ℕ) → Split s starts₀ lens₀ starts lens r → 10 ≤ length starts
    → (inside s (take r starts) (take r lens) ≡ true) × (read_at true s (take r starts) (take r lens) ≡ read (parted s))
pages_read s starts₀ lens₀ starts lens r w ten = (lie, at (leb r 9) refl)
  where
    lie : inside s (take r starts) (take r lens) ≡ true
    lie = let (a, b) = split_fronts s starts₀ lens₀ starts lens r w in rw (a, b) (first_inside 10 s 0 (parted s) (omega (arith, parted_spread s)))

    at : (x : Bool) → leb r 9 ≡ x → read_at true s (take r starts) (take r lens) ≡ read (parted s)
    at true e = reads_pages s (take r starts) (take r lens) lie ∙ ap read (nine_or_fewer s starts₀ lens₀ starts lens r w (leb-true r 9 e))
    at false e =
        let h : 9 < r = leb-false r 9 e in
        let k = length-take 10 (parted s) in
        (one true s (take r starts) (take r lens) 0 0).1 (many (omega (arith, length-take r starts)), refl, refl) ∙ sym (many_read (parted s) (omega (arith, w.0)))

-- so are those of what counts of an input, handed in with the input
pub split_read : (b : List ℕ) (m : ℕ) (starts₀ lens₀ starts lens : List ℕ) (r : ℕ) → take m b ≡ take 12609 b → Split (take m b) starts₀ lens₀ starts lens r → 10 ≤ length starts
    → read_at true b (take r starts) (take r lens) ≡ read (parted (take 12609 b))
split_read b m starts₀ lens₀ starts lens r counts w ten =
    let (lie, same) = pages_read (take m b) starts₀ lens₀ starts lens r w ten in
    let (u, v) = front_lies m b (take r starts) (take r lens) lie in
    only_pages true b (take m b) (take r starts) (take r lens) (u ∙ sym lie) v ∙ same ∙ ap (λ (l : List ℕ). read (parted l)) counts

-- ---- what is printed

-- bytes that are laid in the room are printed
pub bytes_printed : {a : Answer} (w out : List ℕ) → a ≡ prints w → (n : ℕ) (out' : List ℕ) → (n ≡ length w) × (out' ≡ laid out 0 w) → Prints a out (Some n) out'
bytes_printed w out e n out' (u, v) = rw e (record { answer_is = refl; length_is = u; room_is = v })

-- into too little room nothing
pub none_printed : {a : Answer} (out : List ℕ) → a ≡ refusal 1 0 0 → Prints a out None out
none_printed out e = rw e (record { answer_is = refl; length_is = refl; room_is = refl })

-- ---- what planlist prints

-- too little room is refusal 1
pub list_no_room : (out input : List ℕ) → leb listing_room (length out) ≡ false → list_answer out input ≡ refusal 1 0 0
unfolding list_answer
list_no_room out input h = rw h

-- what is printed is never longer than the room
pub list_fits : (out input : List ℕ) (r : Option ℕ) (out' : List ℕ) → Prints (list_answer out input) out r out' → length_of r ≤ length out
unfolding list_answer planlist
list_fits out input r out' P = at (leb listing_room (length out)) refl P.length_is
  where
    at : (b : Bool) → leb listing_room (length out) ≡ b → length_of r ≡ length_told (if b (prints (answer_lines (read (parted (take 12609 input))))) (refusal 1 0 0)) → length_of r ≤ length out
    at true e q = omega (arith, leb-true listing_room (length out) e, answer_fits (parted (take 12609 input)))
    at false e q = omega arith

-- the lines of a listing
plan_lines_lem : (a : Paper.Answer) (out out' : List ℕ) (n : ℕ) → Promised a out (Ok n) out' → (n ≡ length (answer_lines a)) × (out' ≡ laid out 0 (answer_lines a))
plan_lines_lem (Paper.refusal m k i) out out' n P = unequal (cc (P.result_is))
plan_lines_lem (Paper.plan p) out out' n P = (cc (P.result_is), P.room_is)

-- the lines of a refusal
refusal_lines_lem : (a : Paper.Answer) (out out' : List ℕ) (e : Refused) → Promised a out (Err e) out' → (refusal_lines e.number e.page e.place ≡ answer_lines a) × (out' ≡ out)
refusal_lines_lem (Paper.refusal n k i) out out' e P = let q : e ≡ refused_with n k i = cc (P.result_is) in (ap (λ (x : Refused). refusal_lines x.number x.page x.place) q, P.room_is)
refusal_lines_lem (Paper.plan p) out out' e P = unequal (cc (P.result_is))

module _ (out input ss ns out' : List ℕ) (room : leb listing_room (length out) ≡ true) (handed_in : read_at true input ss ns ≡ read (parted (take 12609 input))) where
  abbrev answer : Paper.Answer
  answer = read (parted (take 12609 input))

  listed_as : (l : Result ℕ Refused) → Promised (answered out input ss ns) out l out' → Promised answer out l out'
  listed_as l P = subst (λ (a : Paper.Answer). Promised a out l out') (list_call_lem out input ss ns (leb-true listing_room (length out) room) ∙ handed_in) P

  answer_is : list_answer out input ≡ prints (answer_lines answer)
  unfolding list_answer planlist
  answer_is = rw room

  -- a listing
  pub plan_printed : (n : ℕ) → Promised (answered out input ss ns) out (Ok n) out' → Prints (list_answer out input) out (Some n) out'
  plan_printed n P = bytes_printed (answer_lines answer) out answer_is n out' (plan_lines_lem answer out out' n (listed_as (Ok n) P))

  module _ (e : Refused) (P : Promised (answered out input ss ns) out (Err e) out') where
    lines : (refusal_lines e.number e.page e.place ≡ answer_lines answer) × (out' ≡ out)
    lines = refusal_lines_lem answer out out' e (listed_as (Err e) P)

    -- the refusal's lines fit
    pub refusal_fits : length (refusal_lines e.number e.page e.place) ≤ length out'
    refusal_fits = let (a, b) = lines in rw (a, b) (omega (arith, leb-true listing_room (length out) room, answer_fits (parted (take 12609 input))))

    -- a refusal
    pub refusal_printed : (n : ℕ) (out'' : List ℕ) → (n ≡ length (refusal_lines e.number e.page e.place)) × (out'' ≡ laid out' 0 (refusal_lines e.number e.page e.place)) → Prints (list_answer out input) out (Some n) out''
    refusal_printed n out'' (x, y) = let (a, b) = lines in bytes_printed (answer_lines answer) out answer_is n out'' (x ∙ ap length a, y ∙ rw (a, b))
