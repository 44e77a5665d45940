-- Walked: on a well-formed page the walk finds exactly paper's tags. Runs of bytes end at the grammar's seams, and no `<` stands inside a tag.
-- Assumes nothing.
use mathlib.Core.Path.{◌≡◌, refl, sym, ap, ◌∙◌}
use mathlib.Core.Bool.{Bool, true, false, not, ◌&&◌, ◌||◌}
use mathlib.Core.Option.{some}
use mathlib.Core.List.{List, [], ◌∷◌, ◌++◌, append_assoc}
use Prim.Native.Nat.{ℕ, suc, ◌+◌, ◌-◌, ◌<◌}
use native.Mathlib.Nat.{add-zero}
use native.Mathlib.Omega.{arith}
use lib.Dec.{eqb}
use lib.ListN.{length, take, get_or, drop, length-append}
use lib.Seq.{slice, take_at, drop_at, drop-drop, get_or-drop}
use borrow.Author.Tests.{ne_eqb, lt-ltb, eqb-true}
use Rattle.paper.specs.Lists.{bytes, until, All}
use Rattle.paper.specs.Bytes.{is_space, is_digit, is_letter, is_allowed}
use Rattle.paper.specs.Grammar.{Attr, Tag, start, end, amp, lt, gt, quot, apos, dec, hex, plain, ref, double, single, space, attr, done, bare, full, close, Space, is_name_byte, is_hex, is_plain, Pass, Name, Some, Ref, Raw, Quote, Attrs, Rest, Page, placed}
use Rattle.paper.specs.Machine.{before, scan}
use Rattle.paper.proofs.Small.{no, every_all}
use Rattle.paper.proofs.Exact.{exact}
use Rattle.markup.specs.declared.walk.Set.TheVariants.{Not}
use Rattle.markup.specs.Walk.{passes, within, is_middle, Inside, more, name_end, quote_at, raw_end, form, inside, opened, tag_before, tags_from, tags_at}
use Rattle.markup.proofs.WalkLaws.{take_drop, unroll}

-- ---- sets of bytes

-- a byte in a set is none outside of it
apart : (p : ℕ → Bool) (c z : ℕ) → p c ≡ true → p z ≡ false → eqb c z ≡ false
apart p c z e f = ne_eqb c z (λ q. no (sym e ∙ ap p q ∙ f))

other : (p : ℕ → Bool) (c z : ℕ) → p c ≡ true → p z ≡ false → not (eqb c z) ≡ true
other p c z e f = rw (apart p c z e f)

-- what holds at the four spaces holds at each space
each_space : (p : ℕ → Bool) (b : Bool) → p 32 ≡ b → p 10 ≡ b → p 13 ≡ b → p 9 ≡ b → (c : ℕ) → Space c → p c ≡ b
each_space p b h32 h10 h13 h9 c e = go (eqb c 32) refl (eqb c 10) refl (eqb c 13) refl (eqb c 9) refl e
  where
    go : (x : Bool) → eqb c 32 ≡ x → (y : Bool) → eqb c 10 ≡ y → (z : Bool) → eqb c 13 ≡ z → (t : Bool) → eqb c 9 ≡ t → x || y || z || t ≡ true → p c ≡ b
    go true f y g z h t i e = rw (eqb-true c 32 f) h32
    go false f true g z h t i e = rw (eqb-true c 10 g) h10
    go false f false g true h t i e = rw (eqb-true c 13 h) h13
    go false f false g false h true i e = rw (eqb-true c 9 i) h9
    go false f false g false h false i e = no (sym e)

space_no_name : (c : ℕ) → Space c → is_name_byte c ≡ false
space_no_name = each_space is_name_byte false refl refl refl refl

letter_no_space : (c : ℕ) → is_letter c ≡ true → is_space c ≡ false
letter_no_space c e = go (is_space c) refl
  where
    go : (t : Bool) → is_space c ≡ t → t ≡ false
    go true f = no (sym e ∙ each_space is_letter false refl refl refl refl c f)
    go false f = refl

or_left : (a b : Bool) → a ≡ true → a || b ≡ true
or_left a b e = rw e

letter_name : (c : ℕ) → is_letter c ≡ true → is_name_byte c ≡ true
letter_name c e = or_left (is_letter c) (is_digit c) e

name_all : (n : List ℕ) → Name n → All (Pass is_name_byte) n
name_all [] x' = elim x' [ ]
name_all (c ∷ n) (e, h) = (letter_name c e, h)

all_to : (p r : ℕ → Bool) → ((c : ℕ) → p c ≡ true → r c ≡ true) → (s : List ℕ) → All (Pass p) s → All (Pass r) s
all_to p r f [] h = tt
all_to p r f (c ∷ s) h = (f c h.0, all_to p r f s h.1)

all_append : (p : ℕ → Bool) (s t : List ℕ) → All (Pass p) s → All (Pass p) t → All (Pass p) (s ++ t)
all_append p [] t h k = k
all_append p (c ∷ s) t h k = (h.0, all_append p s t h.1 k)

or_right : (a b : Bool) → b ≡ true → a || b ≡ true
or_right true b e = refl
or_right false b e = e

-- the bytes of a reference behind its `&`
is_ref : ℕ → Bool
is_ref c = (is_digit c || is_hex c) || (is_name_byte c || (eqb c 35 || eqb c 59))

digit_ref : (c : ℕ) → is_digit c ≡ true → is_ref c ≡ true
unfolding is_ref
digit_ref c e = or_left (is_digit c || is_hex c) (is_name_byte c || (eqb c 35 || eqb c 59)) (or_left (is_digit c) (is_hex c) e)

hex_ref : (c : ℕ) → is_hex c ≡ true → is_ref c ≡ true
unfolding is_ref
hex_ref c e = or_left (is_digit c || is_hex c) (is_name_byte c || (eqb c 35 || eqb c 59)) (or_right (is_digit c) (is_hex c) e)

some_all : (p : ℕ → Bool) (s : List ℕ) → Some p s → All (Pass p) s
some_all p [] h = elim h [ ]
some_all p (c ∷ s) h = h

ref_bytes : {s : List ℕ} → Ref s → All (Pass is_ref) s
unfolding is_ref
ref_bytes amp = every_all is_ref (bytes "amp;") refl
ref_bytes lt = every_all is_ref (bytes "lt;") refl
ref_bytes gt = every_all is_ref (bytes "gt;") refl
ref_bytes quot = every_all is_ref (bytes "quot;") refl
ref_bytes apos = every_all is_ref (bytes "apos;") refl
ref_bytes (dec s h) = (refl, all_append is_ref s (59 ∷ []) (all_to is_digit is_ref digit_ref s (some_all is_digit s h)) (refl, tt))
ref_bytes (hex s h) = (refl, (refl, all_append is_ref s (59 ∷ []) (all_to is_hex is_ref hex_ref s (some_all is_hex s h)) (refl, tt)))

-- a plain byte is no quote and no `<`
plain_parts : (a b c d : Bool) → a && b && c && d ≡ true → (b ≡ true) × (c ≡ true)
plain_parts true true true d e = (refl, refl)
plain_parts true true false d e = no (sym e)
plain_parts true false c d e = no (sym e)
plain_parts false b c d e = no (sym e)

plain_other : (q c : ℕ) → is_plain q c ≡ true → (not (eqb c q) ≡ true) × (not (eqb c 60) ≡ true)
plain_other q c e = plain_parts (is_allowed c) (not (eqb c q)) (not (eqb c 60)) (not (eqb c 38)) e

-- a raw value lacks each byte that no plain byte is and that no reference has
raw_lacks : (z : ℕ) → is_ref z ≡ false → not (eqb 38 z) ≡ true → {q : ℕ} {r : List ℕ} → ((c : ℕ) → is_plain q c ≡ true → not (eqb c z) ≡ true) → Raw q r → All (Pass (λ c. not (eqb c z))) r
raw_lacks z f g h end = tt
raw_lacks z f g h (plain {c = c} e p) = (h c e, raw_lacks z f g h p)
raw_lacks z f g h (ref s {r = r} a p) =
    (g, all_append (λ c. not (eqb c z)) s r (all_to is_ref (λ c. not (eqb c z)) (λ c e. other is_ref c z e f) s (ref_bytes a)) (raw_lacks z f g h p))

-- ---- seams

-- a run ends where a byte stands that is outside its set
seam : (p : ℕ → Bool) (a : List ℕ) (c : ℕ) (b : List ℕ) → All (Pass p) a → p c ≡ false → until p (a ++ c ∷ b) ≡ length a
seam p [] c b h e = rw (e, until)
seam p (x ∷ a) c b h e = rw (h.0, until) (ap suc (seam p a c b h.1 e))

-- an attribute's name ends before spaces or `=`
name_seam : (n u y : List ℕ) → All (Pass is_name_byte) n → All Space u → until is_name_byte (n ++ (u ++ 61 ∷ y)) ≡ length n
name_seam n [] y h k = seam is_name_byte n 61 y h refl
name_seam n (c ∷ u) y h k = seam is_name_byte n c (u ++ 61 ∷ y) h (space_no_name c k.0)

-- a tag's name ends before a space, `/` or `>`
tag_seam : {a : List ℕ} {l : List Attr} (n : List ℕ) (d : ℕ) (x : List ℕ) → All (Pass is_name_byte) n → Attrs false a l → is_name_byte d ≡ false → until is_name_byte (n ++ (a ++ d ∷ x)) ≡ length n
tag_seam n d x h end e = seam is_name_byte n d x h e
tag_seam n d x h (space {c = c} {w = w} s q) e = seam is_name_byte n c (w ++ d ∷ x) h (space_no_name c s)

past : (a b : List ℕ) → drop (length a) (a ++ b) ≡ b
past a b = drop_at a b (length a) refl

-- ---- one attribute

-- its name n, what stands between name and quote g, its quote q, its raw value r, and the bytes x behind it
module _ (n g : List ℕ) (q : ℕ) (r x : List ℕ) (hc : is_space (get_or n 0 0) ≡ false) (ho : 0 < length n)
    (hn : until is_name_byte (n ++ (g ++ q ∷ (r ++ q ∷ x))) ≡ length n) (hg : All (Pass is_middle) g) (hq : is_middle q ≡ false)
    (hr : All (Pass (passes (within q))) r) (hz : passes (within q) q ≡ false) where
  t : List ℕ
  t = n ++ (g ++ q ∷ (r ++ q ∷ x))

  e_at : name_end t ≡ length n
  unfolding t
  e_at = hn

  drop_e : drop (length n) t ≡ g ++ q ∷ (r ++ q ∷ x)
  unfolding t
  drop_e = past n (g ++ q ∷ (r ++ q ∷ x))

  q_at : quote_at t ≡ length n + length g
  q_at = rw (e_at, drop_e, seam is_middle g q (r ++ q ∷ x) hg hq)

  drop_q : drop (length n + length g) t ≡ q ∷ (r ++ q ∷ x)
  drop_q = sym (drop-drop (length g) (length n) t) ∙ rw drop_e (past g (q ∷ (r ++ q ∷ x)))

  q_is : get_or t (length n + length g) 0 ≡ q
  q_is = ap (λ (k : ℕ). get_or t k 0) (sym (add-zero (length n + length g))) ∙ sym (get_or-drop (length n + length g) t 0 0) ∙ ap (λ (l : List ℕ). get_or l 0 0) drop_q

  drop_r : drop (length n + length g + 1) t ≡ r ++ q ∷ x
  drop_r = sym (drop-drop 1 (length n + length g) t) ∙ ap (drop 1) drop_q

  r_at : raw_end t ≡ length n + length g + 1 + length r
  unfolding raw_end
  r_at = rw (q_at, q_is, drop_r, seam (passes (within q)) r q x hr hz)

  drop_x : drop (suc (raw_end t)) t ≡ x
  drop_x =
      let k : suc (length n + length g + 1 + length r) ≡ length n + length g + 1 + (length r + 1) = omega arith in
      rw (r_at, k, ← drop-drop (length r + 1) (length n + length g + 1) t, drop_r, ← drop-drop 1 (length r) (r ++ q ∷ x), past r (q ∷ x))

  long : length t ≡ length n + length g + 1 + length r + suc (length x)
  unfolding t
  long = simp (length-append) (omega arith)

  named : slice 0 (length n) t ≡ n
  unfolding t
  named = take_at n (g ++ q ∷ (r ++ q ∷ x)) (length n) refl

  valued : slice (length n + length g + 1) (length n + length g + 1 + length r) t ≡ r
  valued = sym (take_drop (length n + length g + 1) (length r) t) ∙ rw drop_r (take_at r (q ∷ x) (length r) refl)

  first_byte : is_space (get_or t 0 0) ≡ false
  unfolding t
  first_byte = go n hc ho
    where
      go : (m : List ℕ) → is_space (get_or m 0 0) ≡ false → 0 < length m → is_space (get_or (m ++ (g ++ q ∷ (r ++ q ∷ x))) 0 0) ≡ false
      go [] h o = absurd (omega arith)
      go (c ∷ m) h o = h

  one : inside t 0 ≡ more n r (inside x 0)
  unfolding form
  one =
      let y : eqb (name_end t) 0 ≡ false = ne_eqb (name_end t) 0 (λ z. omega (arith, e_at)) in
      let l : raw_end t < length t = omega (arith, r_at, long) in
      let nm : slice 0 (name_end t) t ≡ n = rw e_at named in
      let rv : slice (quote_at t + 1) (raw_end t) t ≡ r = rw (q_at, r_at) valued in
      unroll t first_byte ∙ rw (y, lt-ltb _ _ l, drop_x, nm, rv)

  -- the walk reads the attribute and goes on behind it
  pub reads_one : inside (n ++ (g ++ q ∷ (r ++ q ∷ x))) 0 ≡ more n r (inside x 0)
  unfolding t
  reads_one = one

-- what the walk must know of a quote
quote_facts : {q : ℕ} → Quote q → (is_middle q ≡ false) × (passes (within q) q ≡ false) × (is_ref q ≡ false) × (not (eqb 38 q) ≡ true) × (passes (Not 60) q ≡ true)
unfolding is_ref
quote_facts double = (refl, refl, refl, refl, refl)
quote_facts single = (refl, refl, refl, refl, refl)

raw_all : {q : ℕ} {r : List ℕ} → Quote q → Raw q r → All (Pass (passes (within q))) r
unfolding is_ref
raw_all double p = raw_lacks 34 refl refl (λ c e. (plain_other 34 c e).0) p
raw_all single p = raw_lacks 39 refl refl (λ c e. (plain_other 39 c e).0) p

middle_all : (u v : List ℕ) → All Space u → All Space v → All (Pass is_middle) (u ++ 61 ∷ v)
middle_all u v us vs = all_append is_middle u (61 ∷ v) (middle u us) (refl, middle v vs)
  where
    middle : (s : List ℕ) → All Space s → All (Pass is_middle) s
    middle s h = all_to is_space is_middle (λ c e. or_right (eqb c 61) (is_space c) e) s h

-- the inside of a tag, up to the byte d that ends it
attrs_in : {b : Bool} {a : List ℕ} {l : List Attr} → Attrs b a l → (d : ℕ) (y : List ℕ) → is_space d ≡ false → is_name_byte d ≡ false
    → inside (a ++ d ∷ y) 0 ≡ record { attrs = l; shut = eqb d 47 }
unfolding inside form
attrs_in end d y hs hn = unroll (d ∷ y) hs ∙ rw (hn, until)
attrs_in (space e q) d y hs hn = rw e (attrs_in q d y hs hn)
attrs_in (attr [] u v q r {w = w} {l = l} x4 us vs k p o) d y hs hn = elim x4 [ ]
attrs_in (attr (c ∷ n) u v q r {w = w} (e, h) us vs k p o) d y hs hn =
    let assoc : ((c ∷ n) ++ (u ++ 61 ∷ (v ++ q ∷ (r ++ q ∷ w)))) ++ d ∷ y ≡ (c ∷ n) ++ ((u ++ 61 ∷ v) ++ q ∷ (r ++ q ∷ (w ++ d ∷ y))) = simp append_assoc in
    let assoc2 : u ++ 61 ∷ (v ++ q ∷ (r ++ q ∷ (w ++ d ∷ y))) ≡ (u ++ 61 ∷ v) ++ q ∷ (r ++ q ∷ (w ++ d ∷ y)) = simp append_assoc in
    let seamed : until is_name_byte ((c ∷ n) ++ ((u ++ 61 ∷ v) ++ q ∷ (r ++ q ∷ (w ++ d ∷ y)))) ≡ suc (length n) =
    ap (λ (z : List ℕ). until is_name_byte ((c ∷ n) ++ z)) (sym assoc2) ∙ name_seam (c ∷ n) u (v ++ q ∷ (r ++ q ∷ (w ++ d ∷ y))) (letter_name c e, h) us in
    let f = quote_facts k in
    let o1 : 0 < length (c ∷ n) = omega arith in
    ap (λ (z : List ℕ). inside z 0) assoc
    ∙ reads_one (c ∷ n) (u ++ 61 ∷ v) q r (w ++ d ∷ y) (letter_no_space c e) o1 seamed (middle_all u v us vs) f.0 (raw_all k p) f.1
    ∙ ap (λ (i : Inside). more (c ∷ n) r i) (attrs_in o d y hs hn)

-- ---- the tags of a page

-- no `<` stands among these bytes
abbrev Out : List ℕ → Type 0
Out s = All (Pass (passes (Not 60))) s

out_of : (p : ℕ → Bool) → p 60 ≡ false → (s : List ℕ) → All (Pass p) s → Out s
out_of p z s h = all_to p (passes (Not 60)) (λ c e. other p c 60 e z) s h

raw_out : {q : ℕ} {r : List ℕ} → Raw q r → Out r
unfolding is_ref
raw_out {q = q} p = raw_lacks 60 refl refl (λ c e. (plain_other q c e).1) p

attrs_out : {b : Bool} {a : List ℕ} {l : List Attr} → Attrs b a l → Out a
attrs_out end = tt
attrs_out (space {c = c} e q) = (other is_space c 60 e refl, attrs_out q)
attrs_out (attr n u v q r {w = w} hn us vs k p o) =
    let z = (quote_facts k).4 in
    all_append (passes (Not 60)) n (u ++ 61 ∷ (v ++ q ∷ (r ++ q ∷ w))) (out_of is_name_byte refl n (name_all n hn))
    (all_append (passes (Not 60)) u (61 ∷ (v ++ q ∷ (r ++ q ∷ w))) (out_of is_space refl u us)
    (refl, all_append (passes (Not 60)) v (q ∷ (r ++ q ∷ w)) (out_of is_space refl v vs) (z, all_append (passes (Not 60)) r (q ∷ w) (raw_out p) (z, attrs_out o))))

-- bytes without `<` hold no tag
seg : (a x : List ℕ) (i : ℕ) → Out a → tags_from i (a ++ x) ≡ tags_from (i + length a) x
unfolding tags_from
seg [] x i h = rw (add-zero i)
seg (b ∷ a) x i h =
    let e : i + suc (length a) ≡ suc i + length a = omega arith in
    rw (h.0, e) (seg a x (suc i) h.1)

-- a start tag whose end is the byte d
module _ {a : List ℕ} {l : List Attr} (n : List ℕ) (hn : Name n) (A : Attrs false a l) (d : ℕ) (x : List ℕ) (hs : is_space d ≡ false) (hd : is_name_byte d ≡ false) where
  tag_is : (i : ℕ) (ts : List Tag) → tag_before i (n ++ (a ++ d ∷ x)) ts ≡ opened i n (record { attrs = l; shut = eqb d 47 }) ts
  unfolding tag_before
  tag_is i ts = go n hn
    where
      go : (m : List ℕ) → Name m → tag_before i (m ++ (a ++ d ∷ x)) ts ≡ opened i m (record { attrs = l; shut = eqb d 47 }) ts
      go [] x'' = elim x'' [ ]
      go (c ∷ m) (e, h) =
          let s : name_end ((c ∷ m) ++ (a ++ d ∷ x)) ≡ suc (length m) = tag_seam (c ∷ m) d x (letter_name c e, h) A hd in
          let t : take (suc (length m)) ((c ∷ m) ++ (a ++ d ∷ x)) ≡ c ∷ m = take_at (c ∷ m) (a ++ d ∷ x) (suc (length m)) refl in
          let f : drop (suc (length m)) ((c ∷ m) ++ (a ++ d ∷ x)) ≡ a ++ d ∷ x = past (c ∷ m) (a ++ d ∷ x) in
          rw (apart is_letter c 47 e refl, s, t, f, attrs_in A d x hs hd)

  start_tag : (i : ℕ) → tags_from i (60 ∷ (n ++ (a ++ d ∷ x))) ≡ opened i n (record { attrs = l; shut = eqb d 47 }) (tags_from (suc i + length n + length a) (d ∷ x))
  unfolding tags_from
  start_tag i =
      tag_is i (tags_from (suc i) (n ++ (a ++ d ∷ x)))
      ∙ rw (seg n (a ++ d ∷ x) (suc i) (out_of is_name_byte refl n (name_all n hn)), seg a (d ∷ x) (suc i + length n) (attrs_out A))

-- the names of the open elements are names
abbrev Names : List (List ℕ) → Type 0
Names [] = Unit {0}
Names (n ∷ ns) = Name n × Names ns

-- the place of a tag from the number of bytes behind it
placing : (k K i : ℕ) → i + K ≡ k → k - K ≡ i
placing k K i e = omega arith

bare_tags : {a : List ℕ} {l : List Attr} (n : List ℕ) → Name n → Attrs false a l → (w : List ℕ) (t : List Tag) (i k : ℕ) → i + length (60 ∷ (n ++ (a ++ 47 ∷ 62 ∷ w))) ≡ k
    → ((j : ℕ) → j + length w ≡ k → tags_from j w ≡ placed k t)
    → tags_from i (60 ∷ (n ++ (a ++ 47 ∷ 62 ∷ w))) ≡ placed k (start (length (60 ∷ (n ++ (a ++ 47 ∷ 62 ∷ w)))) n l ∷ end ∷ t)
unfolding tags_from
bare_tags {a} {l} n hn A w t i k e f =
    let L : length (60 ∷ (n ++ (a ++ 47 ∷ 62 ∷ w))) ≡ suc (length n + (length a + suc (suc (length w)))) = simp length-append in
    start_tag n hn A 47 (62 ∷ w) refl refl i
    ∙ rw (f (suc (suc (suc i + length n + length a))) (omega (arith, e, L)), placing k (length (60 ∷ (n ++ (a ++ 47 ∷ 62 ∷ w)))) i e)

full_tags : {a : List ℕ} {l : List Attr} (n : List ℕ) → Name n → Attrs false a l → (w : List ℕ) (t : List Tag) (i k : ℕ) → i + length (60 ∷ (n ++ (a ++ 62 ∷ w))) ≡ k
    → ((j : ℕ) → j + length w ≡ k → tags_from j w ≡ placed k t)
    → tags_from i (60 ∷ (n ++ (a ++ 62 ∷ w))) ≡ placed k (start (length (60 ∷ (n ++ (a ++ 62 ∷ w)))) n l ∷ t)
unfolding tags_from
full_tags {a} {l} n hn A w t i k e f =
    let L : length (60 ∷ (n ++ (a ++ 62 ∷ w))) ≡ suc (length n + (length a + suc (length w))) = simp length-append in
    start_tag n hn A 62 w refl refl i
    ∙ rw (f (suc (suc i + length n + length a)) (omega (arith, e, L)), placing k (length (60 ∷ (n ++ (a ++ 62 ∷ w)))) i e)

-- the tags behind the first start tag
rest_tags : {ns : List (List ℕ)} {w : List ℕ} {t : List Tag} → Rest ns w t → Names ns → (i k : ℕ) → i + length w ≡ k → tags_from i w ≡ placed k t
unfolding tags_from tag_before
rest_tags done N i k e = refl
rest_tags (space {c = c} s r) N i k e = rw (other is_space c 60 s refl) (rest_tags r N (suc i) k (omega arith))
rest_tags (bare n a {w = w} {t = t} hn A r) N i k e = bare_tags n hn A w t i k e (λ j q. rest_tags r N j k q)
rest_tags (full n a {w = w} {t = t} hn A r) N i k e = full_tags n hn A w t i k e (λ j q. rest_tags r (hn, N) j k q)
rest_tags (close n u {w = w} {t = t} us r) N i k e =
    let L : length (60 ∷ 47 ∷ (n ++ (u ++ 62 ∷ w))) ≡ suc (suc (length n + (length u + suc (length w)))) = simp length-append in
    let z : tags_from (suc (suc i)) (n ++ (u ++ 62 ∷ w)) ≡ placed k t =
    seg n (u ++ 62 ∷ w) (suc (suc i)) (out_of is_name_byte refl n (name_all n N.0)) ∙ seg u (62 ∷ w) (suc (suc i) + length n) (out_of is_space refl u us)
    ∙ rest_tags r N.1 (suc (suc (suc i) + length n + length u)) k (omega (arith, e, L)) in
    rw z

page_tags : {w : List ℕ} {t : List Tag} → Page w t → (i k : ℕ) → i + length w ≡ k → tags_from i w ≡ placed k t
unfolding tags_from
page_tags (space {c = c} s r) i k e = rw (other is_space c 60 s refl) (page_tags r (suc i) k (omega arith))
page_tags (bare n a {w = w} {t = t} hn A r) i k e = bare_tags n hn A w t i k e (λ j q. rest_tags r tt j k q)
page_tags (full n a {w = w} {t = t} hn A r) i k e = full_tags n hn A w t i k e (λ j q. rest_tags r (hn, tt) j k q)

-- on a well-formed page the walk finds exactly the page's tags, in order, each start tag with the place of its `<`
pub walked : (w : List ℕ) (t : List Tag) → scan before w ≡ some t → tags_at w 0 ≡ placed (length w) t
walked w t e = page_tags ((exact w t).1 e) 0 (length w) (omega arith)
