-- CodedLaws: odd bytes and references by what they stand for, and a value decoded piece by piece.
-- Assumes nothing.
use mathlib.Core.Path.{◌≡◌, refl, sym, ap, ◌∙◌, subst}
use mathlib.Core.Bool.{Bool, true, false, not, ◌||◌}
use mathlib.Core.List.{List, [], ◌∷◌, ◌++◌, append_assoc, append-nil}
use Prim.Native.Nat.{ℕ, suc, ◌+◌, ◌-◌, ◌≤◌, ◌<◌}
use native.Mathlib.Numerals.{add-one}
use native.Mathlib.Omega.{arith}
use lib.Dec.{eqb, ltb}
use lib.ListN.{length, get_or, take, drop, set, length-append, length-take, length-drop}
use lib.Seq.{slice, slice_empty, slice-cons, take_at, drop_at, take-take, length-take-le, length-slice}
use borrow.Author.Tests.{eqb-true, ne_eqb, not-true, ltb-true, ltb-false}
use Rattle.paper.specs.Lists.{if, every, count, until, All, bytes, same, number}
use Rattle.paper.specs.Bytes.{is_decoded, is_digit}
use Rattle.paper.specs.Grammar.{Pass, Some, is_hex, Ref, amp, lt, gt, quot, apos, dec, hex, Raw, end, plain, ref, Quote, double, single}
use Rattle.paper.specs.Values.{text, cr, At, decode, cut, refers, mark, hex_number}
use Rattle.paper.proofs.Small.{no, both, every_append}
use Rattle.room.specs.Laid.{laid}
use Rattle.room.proofs.LaidLaws.{set_laid}
use Rattle.quoted.specs.Plain.{ordinary}
use Rattle.quoted.specs.Raws.{rare, RefAt}
use Rattle.quoted.specs.Coded.{OddAt, CodedAt}
use Rattle.quoted.proofs.PlainLaws.{all_of, decoded_before}
use Rattle.quoted.proofs.ValueLaws.{ordinary_decoded, ordinary_whole}
use Rattle.quoted.proofs.Pieces.{part, one, none}
use Rattle.quoted.proofs.RawLaws.{RawHeld, rare_plain, ended, runs}

-- ---- a byte that is not ordinary

-- whatever is to be shown of each of them
by_rare : (P : ℕ → Type 0) → P 126 → P 10 → P 13 → P 9 → P 34 → P 39 → (c : ℕ) → rare c ≡ true → P c
by_rare P a b d e f g c r = first (eqb c 126) refl r
  where
    at : (k : ℕ) → eqb c k ≡ true → P k → P c
    at k q x = rw (eqb-true c k q) x

    last : (t : Bool) → eqb c 39 ≡ t → t ≡ true → P c
    last true q r = at 39 q g
    last false q r = no (sym r)

    fifth : (t : Bool) → eqb c 34 ≡ t → t || eqb c 39 ≡ true → P c
    fifth true q r = at 34 q f
    fifth false q r = last (eqb c 39) refl r

    fourth : (t : Bool) → eqb c 9 ≡ t → t || (eqb c 34 || eqb c 39) ≡ true → P c
    fourth true q r = at 9 q e
    fourth false q r = fifth (eqb c 34) refl r

    third : (t : Bool) → eqb c 13 ≡ t → t || (eqb c 9 || (eqb c 34 || eqb c 39)) ≡ true → P c
    third true q r = at 13 q d
    third false q r = fourth (eqb c 9) refl r

    second : (t : Bool) → eqb c 10 ≡ t → t || (eqb c 13 || (eqb c 9 || (eqb c 34 || eqb c 39))) ≡ true → P c
    second true q r = at 10 q b
    second false q r = third (eqb c 13) refl r

    first : (t : Bool) → eqb c 126 ≡ t → t || (eqb c 10 || (eqb c 13 || (eqb c 9 || (eqb c 34 || eqb c 39)))) ≡ true → P c
    first true q r = at 126 q a
    first false q r = second (eqb c 10) refl r

-- one but 13 stands for itself or a blank, whatever follows
rare_gives : (c : ℕ) → rare c ≡ true → (c ≡ 13 → ⊥) → (x : List ℕ) → decode text (c ∷ x) ≡ if (ltb c 32) 32 c ∷ decode text x
rare_gives c r n x =
    by_rare (λ (d : ℕ). (d ≡ 13 → ⊥) → decode text (d ∷ x) ≡ if (ltb d 32) 32 d ∷ decode text x) (λ m. refl) (λ m. refl) (λ m. absurd (m refl)) (λ m. refl) (λ m. refl) (λ m. refl) c r n

rare_decoded : (c : ℕ) → rare c ≡ true → is_decoded (if (ltb c 32) 32 c) ≡ true
rare_decoded c r = by_rare (λ (d : ℕ). is_decoded (if (ltb d 32) 32 d) ≡ true) refl refl refl refl refl refl c r

-- a byte and what follows it
byte_then : (w : List ℕ) (e z c : ℕ) → e < z → z ≤ length w → get_or w e 0 ≡ c → slice e z w ≡ c ∷ slice (e + 1) z w
byte_then w e z c h l q = slice-cons e z w 0 h l ∙ rw (q, add-one e)

-- raw bytes behind one
byte_raw : (w : List ℕ) (e : ℕ) → e < length w → rare (get_or w e 0) ≡ true → (q : ℕ) → (get_or w e 0 ≡ q → ⊥) → (x : List ℕ) → Raw q x → Raw q (slice e (e + 1) w ++ x)
byte_raw w e h r q n x d =
    rw (one w x e (e + 1) (get_or w e 0) (omega arith) (omega arith) refl, none w x (e + 1) (e + 1) refl) (plain (rare_plain q (get_or w e 0) r (ne_eqb (get_or w e 0) q n)) d)

-- a rare byte but 13
pub rare_at : (w : List ℕ) (e c v : ℕ) → e < length w → get_or w e 0 ≡ c → rare c ≡ true → (c ≡ 13 → ⊥) → v ≡ if (ltb c 32) 32 c → OddAt w e (e + 1) v
rare_at w e c v h q r n s = record {
  within = (omega arith, omega arith);
  raw = λ p k m x d. byte_raw w e h (rw q r) p m x d;
  gives = λ z a b. ap (decode text) (byte_then w e z c (omega arith) b q) ∙ rare_gives c r n (slice (e + 1) z w) ∙ rw (← s);
  decoded = rw s (rare_decoded c r);
}

no_ten : (p : ℕ) → Quote p → 10 ≡ p → ⊥
no_ten p double e = omega arith
no_ten p single e = omega arith

-- 13 10 is one blank
pub pair_at_lem : (w : List ℕ) (e : ℕ) → e + 1 < length w → get_or w e 0 ≡ 13 → get_or w (e + 1) 0 ≡ 10 → OddAt w e (e + 2) 32
pair_at_lem w e h q s =
    let z2 : e + 1 + 1 ≡ e + 2 = omega arith in
    record {
      within = (omega arith, omega arith);
      raw = λ p k n x d.
          let y : slice e (e + 2) w ++ x ≡ slice e (e + 1) w ++ (slice (e + 1) (e + 2) w ++ x) = part w x e (e + 1) (e + 2) (omega arith) (omega arith) (omega arith) in
          let d2 : Raw p (slice (e + 1) (e + 1 + 1) w ++ x) = byte_raw w (e + 1) h (rw s) p (λ m. no_ten p k (sym s ∙ m)) x d in
          let d3 : Raw p (slice (e + 1) (e + 2) w ++ x) = subst (λ (m : ℕ). Raw p (slice (e + 1) m w ++ x)) z2 d2 in
          rw y (byte_raw w e (omega arith) (rw q) p n (slice (e + 1) (e + 2) w ++ x) d3);
      gives = λ z a b. ap (decode text) (byte_then w e z 13 (omega arith) b q ∙ ap (λ (u : List ℕ). 13 ∷ u) (byte_then w (e + 1) z 10 (omega arith) b s)) ∙ rw z2;
      decoded = refl;
    }

-- behind a 13 that no 10 follows
no_pair : (x : List ℕ) → (get_or x 0 0 ≡ 10 → ⊥) → decode cr x ≡ decode text x
no_pair [] n = refl
no_pair (c ∷ x) n = rw (ne_eqb c 10 n)

-- a 13 alone is one blank
pub return_at : (w : List ℕ) (e : ℕ) → e < length w → get_or w e 0 ≡ 13 → (get_or w (e + 1) 0 ≡ 10 → ⊥) → OddAt w e (e + 1) 32
return_at w e h q n = record {
  within = (omega arith, omega arith);
  raw = λ p k m x d. byte_raw w e h (rw q) p m x d;
  gives = λ z a b. ap (decode text) (byte_then w e z 13 (omega arith) b q) ∙ ap (λ (u : List ℕ). 32 ∷ u) (no_pair (slice (e + 1) z w) (λ y. first_of z a b y));
  decoded = refl;
}
  where
    first_of : (z : ℕ) → e + 1 ≤ z → z ≤ length w → get_or (slice (e + 1) z w) 0 0 ≡ 10 → ⊥
    first_of z a b y = go (ltb (e + 1) z) refl
      where
        go : (t : Bool) → ltb (e + 1) z ≡ t → ⊥
        go true l = n (sym (ap (λ (u : List ℕ). get_or u 0 0) (slice-cons (e + 1) z w 0 (ltb-true (e + 1) z l) b)) ∙ y)
        go false l =
            let x = ltb-false (e + 1) z l in
            let k : e + 1 ≡ z = omega arith in
            let m : get_or (slice (e + 1) z w) 0 0 ≡ 0 = rw (k, slice_empty z w) in
            omega (arith, sym m ∙ y)

-- ---- references

-- bytes before the `;` of a reference
referring : (u t x : List ℕ) → every (λ (c : ℕ). not (eqb c 59)) t ≡ true → decode (At.ref u) (t ++ 59 ∷ x) ≡ refers (u ++ t) ∷ decode text x
referring u [] x e = rw (append-nil u)
referring u (c ∷ t) x e =
    let b = both (not (eqb c 59)) _ e in
    let n : eqb c 59 ≡ false = not-true (eqb c 59) b.0 in
    rw n (referring (u ++ c ∷ []) t x b.1 ∙ rw (append_assoc u (c ∷ []) t))

some_plain : (p : ℕ → Bool) → p 59 ≡ false → (s : List ℕ) → All (Pass p) s → every (λ (c : ℕ). not (eqb c 59)) s ≡ true
some_plain p h [] a = refl
some_plain p h (c ∷ s) a = rw (ne_eqb c 59 (λ e. no (sym a.0 ∙ ap p e ∙ h))) (some_plain p h s a.1)

some_all : (p : ℕ → Bool) (s : List ℕ) → Some p s → All (Pass p) s
some_all p [] a = absurd a
some_all p (c ∷ s) a = a

-- a reference is bytes but `;`, and a `;`
ref_parts : (s : List ℕ) → Ref s → (u : List ℕ) (c : ℕ) → s ≡ u ++ c ∷ [] → (every (λ (c : ℕ). not (eqb c 59)) u ≡ true) × (c ≡ 59)
ref_parts s f u c e = go s f e
  where
    same : (t : List ℕ) → t ++ 59 ∷ [] ≡ u ++ c ∷ [] → every (λ (c : ℕ). not (eqb c 59)) t ≡ true → (every (λ (c : ℕ). not (eqb c 59)) u ≡ true) × (c ≡ 59)
    same t q h =
        let l : length t + 1 ≡ length u + 1 = sym (length-append t (59 ∷ [])) ∙ ap length q ∙ length-append u (c ∷ []) in
        let k : length t ≡ length u = omega arith in
        let v : t ≡ u = sym (take_at t (59 ∷ []) (length u) k) ∙ ap (take (length u)) q ∙ take_at u (c ∷ []) (length u) refl in
        let d : 59 ∷ [] ≡ c ∷ [] = sym (drop_at t (59 ∷ []) (length u) k) ∙ ap (drop (length u)) q ∙ drop_at u (c ∷ []) (length u) refl in
        (rw (← v) h, sym (ap (λ (x : List ℕ). get_or x 0 0) d))

    go : (s : List ℕ) → Ref s → s ≡ u ++ c ∷ [] → (every (λ (c : ℕ). not (eqb c 59)) u ≡ true) × (c ≡ 59)
    go s amp q = same (97 ∷ 109 ∷ 112 ∷ []) q refl
    go s lt q = same (108 ∷ 116 ∷ []) q refl
    go s gt q = same (103 ∷ 116 ∷ []) q refl
    go s quot q = same (113 ∷ 117 ∷ 111 ∷ 116 ∷ []) q refl
    go s apos q = same (97 ∷ 112 ∷ 111 ∷ 115 ∷ []) q refl
    go s (dec d a) q = same (35 ∷ d) q (some_plain is_digit refl d (some_all is_digit d a))
    go s (hex d a) q = same (35 ∷ 120 ∷ d) q (some_plain is_hex refl d (some_all is_hex d a))

-- a byte that a reference stands for is one that a value may hold, or 0
mark_decoded : (n : ℕ) → (mark n ≡ 0 → ⊥) → is_decoded (mark n) ≡ true
mark_decoded n h = go (is_decoded n) refl h
  where
    go : (t : Bool) → is_decoded n ≡ t → (if t n 0 ≡ 0 → ⊥) → is_decoded (if t n 0) ≡ true
    go true e h = e
    go false e h = absurd (h refl)

if_decoded : (b : Bool) (k n : ℕ) → is_decoded k ≡ true → ((n ≡ 0 → ⊥) → is_decoded n ≡ true) → (if b k n ≡ 0 → ⊥) → is_decoded (if b k n) ≡ true
if_decoded true k n e f h = e
if_decoded false k n e f h = f h

if_either : (b : Bool) (k n : ℕ) → ((k ≡ 0 → ⊥) → is_decoded k ≡ true) → ((n ≡ 0 → ⊥) → is_decoded n ≡ true) → (if b k n ≡ 0 → ⊥) → is_decoded (if b k n) ≡ true
if_either true k n e f h = e h
if_either false k n e f h = f h

-- the five named ones
abbrev fifth : List ℕ → ℕ
fifth s = if (same s (bytes "apos")) 39 0

abbrev fourth : List ℕ → ℕ
fourth s = if (same s (bytes "quot")) 34 (fifth s)

abbrev third : List ℕ → ℕ
third s = if (same s (bytes "gt")) 62 (fourth s)

abbrev second : List ℕ → ℕ
second s = if (same s (bytes "lt")) 60 (third s)

abbrev first : List ℕ → ℕ
first s = if (same s (bytes "amp")) 38 (second s)

named_decoded : (s : List ℕ) → (first s ≡ 0 → ⊥) → is_decoded (first s) ≡ true
named_decoded s =
    if_decoded (same s (bytes "amp")) 38 (second s) refl (if_decoded (same s (bytes "lt")) 60 (third s) refl (if_decoded (same s (bytes "gt")) 62 (fourth s) refl
    (if_decoded (same s (bytes "quot")) 34 (fifth s) refl (if_decoded (same s (bytes "apos")) 39 0 refl (λ z. absurd (z refl))))))

refers_decoded : (s : List ℕ) → (refers s ≡ 0 → ⊥) → is_decoded (refers s) ≡ true
refers_decoded [] h = absurd (h refl)
refers_decoded (a ∷ []) h = if_either (eqb a 35) 0 (first (a ∷ [])) (λ z. absurd (z refl)) (named_decoded (a ∷ [])) h
refers_decoded (a ∷ x ∷ t) h =
    if_either (eqb a 35) (if (eqb x 120) (mark (hex_number 0 t)) (mark (number 0 (x ∷ t)))) (first (a ∷ x ∷ t))
    (if_either (eqb x 120) (mark (hex_number 0 t)) (mark (number 0 (x ∷ t))) (mark_decoded (hex_number 0 t)) (mark_decoded (number 0 (x ∷ t)))) (named_decoded (a ∷ x ∷ t)) h

pub ref_at : (w : List ℕ) (e r v : ℕ) → e < length w → get_or w e 0 ≡ 38 → RefAt w (e + 1) r → v ≡ refers (slice (e + 1) (r - 1) w) → (v ≡ 0 → ⊥) → OddAt w e r v
ref_at w e r v h q R s n =
    let a = R.within in
    let z : r - 1 + 1 ≡ r = omega (arith, a.0) in
    let c : ℕ = get_or w (r - 1) 0 in
    let u : List ℕ = slice (e + 1) (r - 1) w in
    let y : slice (e + 1) r w ≡ u ++ c ∷ [] = ap (λ (m : ℕ). slice (e + 1) m w) (sym z) ∙ ended w (e + 1) (r - 1) c (omega (arith, a.0)) (omega (arith, a.0, a.1)) refl in
    let p = ref_parts (slice (e + 1) r w) R.ref u c y in
    record {
      within = (omega (arith, a.0), a.1);
      raw = λ k kq m x d. rw (one w x e r 38 (omega (arith, a.0)) a.1 q) (ref (slice (e + 1) r w) R.ref d);
      gives = λ k f g.
          let b0 : slice e k w ≡ 38 ∷ slice (e + 1) k w = byte_then w e k 38 (omega (arith, a.0, f)) g q in
          let b1 : slice (e + 1) k w ≡ u ++ 59 ∷ slice r k w =
          sym (append-nil (slice (e + 1) k w)) ∙ part w [] (e + 1) r k (omega (arith, a.0)) f g ∙ rw (y, p.1, append-nil (slice r k w)) (append_assoc u (59 ∷ []) (slice r k w)) in
          ap (decode text) b0 ∙ ap (decode (At.ref [])) b1 ∙ referring [] u (slice r k w) p.0 ∙ rw (← s);
      decoded = rw s (refers_decoded u (λ m. n (s ∙ m)));
    }

-- ---- a value decoded up to i

every_front : (p : ℕ → Bool) (u v : List ℕ) → every p (u ++ v) ≡ true → every p u ≡ true
every_front p [] v e = refl
every_front p (c ∷ u) v e = let b = both (p c) _ e in rw b.0 (every_front p u v b.1)

-- the bytes `said` are laid from m on, and n is the place behind them
pub record Coding (w side₀ side : List ℕ) (from q m i n k : ℕ) : Type 0 where
  pub said : List ℕ
  pub held : RawHeld w from q i
  pub long : length side ≡ length side₀
  pub fits : n ≤ length side
  pub there : take n side ≡ take m side₀ ++ said
  pub behind : n ≡ m + length said
  pub right : (z : ℕ) → i ≤ z → z ≤ length w → decode text (slice from z w) ≡ said ++ decode text (slice i z w)
  pub clean : every is_decoded said ≡ true
  pub broken : count 126 said ≡ k
  pub short : n + from ≤ i + m

-- bytes laid behind what is there
laid_front : (side p : List ℕ) (n : ℕ) → n + length p ≤ length side → take (n + length p) (laid side n p) ≡ take n side ++ p
laid_front side p n h =
    let l : length (take n side ++ p) ≡ n + length p = length-append (take n side) p ∙ ap (λ (x : ℕ). x + length p) (length-take-le n side (omega arith)) in
    ap (take (n + length p)) (sym (append_assoc (take n side) p (drop (n + length p) side))) ∙ take_at (take n side ++ p) (drop (n + length p) side) (n + length p) l

laid_long : (side p : List ℕ) (n : ℕ) → n + length p ≤ length side → length (laid side n p) ≡ length side
laid_long side p n h = simp (length-append, length-take, length-drop) (omega arith)

-- no more of one byte than there are bytes
pub count_low : (b : ℕ) (s : List ℕ) → count b s ≤ length s
count_low b [] = omega arith
count_low b (c ∷ s) = go (eqb c b) (count_low b s)
  where
    go : (t : Bool) → count b s ≤ length s → if t (suc (count b s)) (count b s) ≤ suc (length s)
    go true h = omega (arith, h)
    go false h = omega (arith, h)

count_append : (b : ℕ) (u v : List ℕ) → count b (u ++ v) ≡ count b u + count b v
count_append b [] v = omega arith
count_append b (c ∷ u) v = go (eqb c b) (count_append b u v)
  where
    go : (t : Bool) → count b (u ++ v) ≡ count b u + count b v → if t (suc (count b (u ++ v))) (count b (u ++ v)) ≡ if t (suc (count b u)) (count b u) + count b v
    go true e = omega (arith, e)
    go false e = e

module _ {w side₀ side : List ℕ} {from q m i n k : ℕ} (Q : Quote q) (H : Coding w side₀ side from q m i n k) where
  -- ordinary bytes behind it
  pub coding_run : (e : ℕ) → e ≡ i + until ordinary (drop i w) → i ≤ e → e ≤ length w → n + (e - i) ≤ length side
      → Coding w side₀ (laid side n (slice i e w)) from q m e (n + (e - i)) k
  coding_run e he ie el r =
      let a = all_of w i e he in
      let l : length (slice i e w) ≡ e - i = length-slice i e w el in
      let r' : n + length (slice i e w) ≤ length side = omega arith in
      let h = H.held.within in
      record {
        said = H.said ++ slice i e w;
        held = record {
          within = (omega (arith, h.0), el);
          so_far = λ x d. rw (part w x from i e h.0 ie el) (H.held.so_far (slice i e w ++ x) (runs q Q (slice i e w) a x d));
        };
        long = laid_long side (slice i e w) n r' ∙ H.long;
        fits = rw (laid_long side (slice i e w) n r') r;
        there = ap (λ (x : ℕ). take (n + x) (laid side n (slice i e w))) (sym l) ∙ laid_front side (slice i e w) n r' ∙ rw H.there (append_assoc (take m side₀) H.said (slice i e w));
        behind = omega (arith, H.behind, l, length-append H.said (slice i e w));
        right = λ z b c.
            let y : slice i z w ≡ slice i e w ++ slice e z w = sym (append-nil (slice i z w)) ∙ part w [] i e z ie b c ∙ rw (append-nil (slice e z w)) in
            H.right z (omega arith) c ∙ rw (y, decoded_before (slice i e w) (slice e z w) a) (sym (append_assoc H.said (slice i e w) (decode text (slice e z w))));
        clean = every_append is_decoded H.said (slice i e w) H.clean (ordinary_decoded (slice i e w) a);
        broken = omega (arith, count_append 126 H.said (slice i e w), ordinary_whole (slice i e w) a, H.broken);
        short = omega (arith, H.short);
      }

  -- the same, as it is laid
  pub coding_lay : (e r : ℕ) (side' p : List ℕ) → e ≡ i + until ordinary (drop i w) → i ≤ e → e ≤ length w → n + (e - i) ≤ length side → p ≡ slice i e w → r ≡ n + length p
      → side' ≡ laid side n p → Coding w side₀ side' from q m e r k
  coding_lay e r side' p he ie el room pe rn se =
      let l : r ≡ n + (e - i) = rn ∙ ap (λ (x : List ℕ). n + length x) pe ∙ ap (λ (x : ℕ). n + x) (length-slice i e w el) in
      let t : side' ≡ laid side n (slice i e w) = se ∙ ap (laid side n) pe in
      rw (l, t) (coding_run e he ie el room)

  -- an odd byte or a reference behind it
  pub coding_odd : (r v j : ℕ) → OddAt w i r v → (get_or w i 0 ≡ q → ⊥) → n < length side → j ≡ k + count 126 (v ∷ []) → Coding w side₀ (set side n v) from q m r (n + 1) j
  coding_odd r v j O ne room jk =
      let h = H.held.within in
      let o = O.within in
      let p : set side n v ≡ laid side n (v ∷ []) = set_laid side n v room in
      let r' : n + length (v ∷ []) ≤ length side = omega arith in
      record {
        said = H.said ++ v ∷ [];
        held = record {
          within = (omega (arith, h.0, o.0), o.1);
          so_far = λ x d. rw (part w x from i r h.0 (omega (arith, o.0)) o.1) (H.held.so_far (slice i r w ++ x) (O.raw q Q ne x d));
        };
        long = ap length p ∙ laid_long side (v ∷ []) n r' ∙ H.long;
        fits = rw (p, laid_long side (v ∷ []) n r') (omega arith);
        there = ap (take (n + 1)) p ∙ laid_front side (v ∷ []) n r' ∙ rw H.there (append_assoc (take m side₀) H.said (v ∷ []));
        behind = omega (arith, H.behind, length-append H.said (v ∷ []));
        right = λ z b c. H.right z (omega (arith, o.0)) c ∙ rw (O.gives z b c) (sym (append_assoc H.said (v ∷ []) (decode text (slice r z w))));
        clean = every_append is_decoded H.said (v ∷ []) H.clean (rw O.decoded);
        broken = omega (arith, count_append 126 H.said (v ∷ []), H.broken, jk);
        short = omega (arith, H.short, o.0);
      }

  -- what is said lies behind m
  said_lies : m ≤ length side₀ → slice m n side ≡ H.said
  said_lies h = ap (drop m) H.there ∙ drop_at (take m side₀) H.said m (length-take-le m side₀ h)

  -- the closing quote
  pub coding_done : (t : ℕ) → m ≤ length side₀ → i < length w → get_or w i 0 ≡ q → slice m t side ≡ cut (slice m n side) → m ≤ t → t ≤ n → CodedAt w side₀ side from q m i t k
  coding_done t ml il c s mt tn =
      let h = H.held.within in
      let x = said_lies ml in
      let nl = H.fits in
      let d : decode text (slice from i w) ≡ H.said = H.right i (omega arith) (omega arith) ∙ rw (slice_empty i w) (append-nil H.said) in
      let two : H.said ≡ slice m t side ++ slice t n side = sym x ∙ sym (append-nil (slice m n side)) ∙ part side [] m t n mt tn nl ∙ rw (append-nil (slice t n side)) in
      record {
        raw = record { within = (h.0, il); closes = c; raw = rw (append-nil (slice from i w)) at (H.held.so_far [] end) };
        within = (mt, omega arith);
        right = s ∙ ap cut (x ∙ sym d);
        clean = every_front is_decoded (slice m t side) (slice t n side) (rw two at H.clean);
        broken = omega (arith, H.broken, ap (count 126) two, count_append 126 (slice m t side) (slice t n side));
        same = take_front;
        short = omega (arith, H.short);
      }
    where
      take_front : take m side ≡ take m side₀
      take_front =
          let b = H.behind in
          sym (take-take m n side (omega arith)) ∙ ap (take m) H.there ∙ take_at (take m side₀) H.said m (length-take-le m side₀ ml)
