-- The machine takes nothing but words of the grammar.
use mathlib.Core.Path.{◌≡◌, refl, ap, sym}
use mathlib.Core.Logic.{◌↔◌}
use mathlib.Core.Bool.{Bool, true, false, ◌&&◌, ◌||◌}
use mathlib.Core.Option.{Option, none, some}
use mathlib.Core.List.{List, [], ◌∷◌, ◌++◌, append_assoc, append-nil}
use Prim.Native.Nat.{ℕ, suc}
use native.Mathlib.Omega.{arith}
use lib.Dec.{eqb}
use lib.ListN.{length}
use borrow.Author.Tests.{eqb-true}
use Rattle.paper.specs.Lists.{if, All}
use Rattle.paper.specs.Bytes.{is_space, is_digit, is_letter}
use Rattle.paper.proofs.Small.{no}
use Rattle.paper.specs.Grammar.{Attr, Tag, start, end, amp, lt, gt, quot, apos, plain, space, attr, done, bare, full, close, Space, is_name_byte, is_hex, is_plain, Pass, Ref, Raw, Quote, double, single, Attrs, Rest, Page, ref, dec, hex}
use Rattle.paper.specs.Machine.{InRef, RefMove, bad, on, over, State, Open, Half, Move, go, say, stop, before, after, less, tag, gap, slash, name, equals, quote, val, ref, inside, closing, amp0, ampa, num0, hex0, word, dec, hex, more, up, gap_step, step, ref_step, ref_goes, prefix, follow, scan, is_after}
use Rattle.paper.proofs.Taken.{grown, ended, opened, taken_page}

-- ---- what may follow, by state

data EndL (i : ℕ) (n : List ℕ) (l : List Attr) (ns : List (List ℕ)) : List ℕ → List Tag → Type 0 where
  full_e : {x : List ℕ} {t : List Tag} → Rest (n ∷ ns) x t → EndL i n l ns (62 ∷ x) (start i n l ∷ t)
  bare_e : {x : List ℕ} {t : List Tag} → Rest ns x t → EndL i n l ns (47 ∷ 62 ∷ x) (start i n l ∷ end ∷ t)

abbrev RGap : Bool → Open → List ℕ → List Tag → Type 0
RGap b T w t = (a x : List ℕ) × (l' : List Attr) × Attrs b a l' × (w ≡ a ++ x) × EndL T.from T.tag (T.ats ++ l') T.out x t

abbrev RVal : Half → List ℕ → List Tag → Type 0
RVal H w t = (r x : List ℕ) × Raw H.quote r × (w ≡ r ++ H.quote ∷ x) × RGap false (ended H.top H.name (H.raw ++ r)) x t

abbrev RQuote : Open → List ℕ → List ℕ → List Tag → Type 0
RQuote T n w t = (v y : List ℕ) × (q : ℕ) × All Space v × Quote q × (w ≡ v ++ q ∷ y) × RVal (record { top = T; name = n; quote = q; raw = [] }) y t

abbrev REq : Open → List ℕ → List ℕ → List Tag → Type 0
REq T n w t = (u y : List ℕ) × All Space u × (w ≡ u ++ 61 ∷ y) × RQuote T n y t

abbrev RefRest : InRef → List ℕ → Type 0
RefRest amp0 s = Ref s
RefRest ampa s = Ref (97 ∷ s)
RefRest num0 s = Ref (35 ∷ s)
RefRest hex0 s = Ref (35 ∷ 120 ∷ s)
RefRest dec s = (d : List ℕ) × All (Pass is_digit) d × (s ≡ d ++ 59 ∷ [])
RefRest hex s = (d : List ℕ) × All (Pass is_hex) d × (s ≡ d ++ 59 ∷ [])
RefRest (word d m) s = s ≡ d ∷ m

abbrev Left : State → List ℕ → List Tag → Type 0
Left before w t = Page w t
Left after w t = Rest [] w t
Left (less i []) w t = i ≡ suc (length w) → Page (60 ∷ w) t
Left (less i (n ∷ ns)) w t = i ≡ suc (length w) → Rest (n ∷ ns) (60 ∷ w) t
Left (tag i n ns) w t = (m x : List ℕ) × All (Pass is_name_byte) m × (w ≡ m ++ x) × RGap false (opened i (n ++ m) [] ns) x t
Left (gap b T) w t = RGap b T w t
Left (slash T) w t = EndL T.from T.tag T.ats T.out (47 ∷ w) t
Left (name T n) w t = (m x : List ℕ) × All (Pass is_name_byte) m × (w ≡ m ++ x) × REq T (n ++ m) x t
Left (equals T n) w t = REq T n w t
Left (quote T n) w t = RQuote T n w t
Left (val H) w t = RVal H w t
Left (ref r H) w t = (s x : List ℕ) × RefRest r s × (w ≡ s ++ x) × RVal (grown H s) x t
Left (inside n ns) w t = Rest (n ∷ ns) w t
Left (closing m ns) w t = (u x : List ℕ) × (t' : List Tag) × All Space u × (w ≡ m ++ (u ++ 62 ∷ x)) × (t ≡ end ∷ t') × Rest ns x t'

-- ---- a step taken back

data Back (s : State) (c : ℕ) (w : List ℕ) : Move → Type 0 where
  fails : Back s c w stop
  goes : {t : State} → ((T : List Tag) → Left t w T → Left s (c ∷ w) T) → Back s c w (go t)
  says : {t : State} {us : List Tag} → ((T : List Tag) → Left t w T → Left s (c ∷ w) (us ++ T)) → Back s c w (say us t)

test : {s : State} {c : ℕ} {w : List ℕ} {x y : Move} (b : Bool) → (b ≡ true → Back s c w x) → (b ≡ false → Back s c w y) → Back s c w (if b x y)
test true f g = f refl
test false f g = g refl

byte : {s : State} {c : ℕ} {w : List ℕ} {x y : Move} (d : ℕ) → Back s d w x → Back s c w y → Back s c w (if (eqb c d) x y)
byte {c = c} d f h = test (eqb c d) (λ e. rw (eqb-true c d e) f) (λ e. h)

lift : {s s' : State} {c : ℕ} {w : List ℕ} {x : Move} → ((T : List Tag) → Left s (c ∷ w) T → Left s' (c ∷ w) T) → Back s c w x → Back s' c w x
lift f fails = fails
lift f (goes g) = goes (λ T r. f T (g T r))
lift f (says {us = us} g) = says (λ T r. f (us ++ T) (g T r))

data RBack (r : InRef) (c : ℕ) : RefMove → Type 0 where
  rfails : RBack r c bad
  ron : {q : InRef} → ((s : List ℕ) → RefRest q s → RefRest r (c ∷ s)) → RBack r c (on q)
  rover : RefRest r (c ∷ []) → RBack r c over

rtest : {r : InRef} {c : ℕ} {x y : RefMove} (b : Bool) → (b ≡ true → RBack r c x) → (b ≡ false → RBack r c y) → RBack r c (if b x y)
rtest true f g = f refl
rtest false f g = g refl

rbyte : {r : InRef} {c : ℕ} {x y : RefMove} (d : ℕ) → RBack r d x → RBack r c y → RBack r c (if (eqb c d) x y)
rbyte {c = c} d f h = rtest (eqb c d) (λ e. rw (eqb-true c d e) f) (λ e. h)

ref_back : (r : InRef) (c : ℕ) → RBack r c (ref_step r c)
ref_back amp0 c = rbyte 97 (ron (λ s r. r)) (rbyte 108 (ron (λ s e. rw e lt)) (rbyte 103 (ron (λ s e. rw e gt)) (rbyte 113 (ron (λ s e. rw e quot)) (rbyte 35 (ron (λ s r. r)) rfails))))
ref_back ampa c = rbyte 109 (ron (λ s e. rw e amp)) (rbyte 112 (ron (λ s e. rw e apos)) rfails)
ref_back num0 c = rtest (is_digit c) (λ e. ron (λ s (d, h, p). rw p (dec (c ∷ d) (e, h)))) (λ e. rbyte 120 (ron (λ s r. r)) rfails)
ref_back hex0 c = rtest (is_hex c) (λ e. ron (λ s (d, h, p). rw p (hex (c ∷ d) (e, h)))) (λ e. rfails)
ref_back dec c = rtest (is_digit c) (λ e. ron (λ s (d, h, p). (c ∷ d, (e, h), rw p))) (λ e. rbyte 59 (rover ([], tt, refl)) rfails)
ref_back hex c = rtest (is_hex c) (λ e. ron (λ s (d, h, p). (c ∷ d, (e, h), rw p))) (λ e. rbyte 59 (rover ([], tt, refl)) rfails)
ref_back (word d []) c = rbyte d (rover refl) rfails
ref_back (word d (e ∷ m)) c = rbyte d (ron (λ s p. rw p)) rfails

up_rest : (ns : List (List ℕ)) (w : List ℕ) (T : List Tag) → Left (up ns) w T → Rest ns w T
up_rest [] w T r = r
up_rest (n ∷ ns) w T r = r

top_tag : (i c : ℕ) (w : List ℕ) (T : List Tag) → is_letter c ≡ true → Left (tag i (c ∷ []) []) w T → i ≡ suc (length (c ∷ w)) → Page (60 ∷ c ∷ w) T
top_tag i c w T e (m, x, h, p, (a, y, l, A, q, full_e r)) j = rw (j, p, q) (full (c ∷ m) a (e, h) A r)
top_tag i c w T e (m, x, h, p, (a, y, l, A, q, bare_e r)) j = rw (j, p, q) (bare (c ∷ m) a (e, h) A r)

in_tag : (i c : ℕ) (w : List ℕ) (T : List Tag) (k : List ℕ) (ns : List (List ℕ)) → is_letter c ≡ true → Left (tag i (c ∷ []) (k ∷ ns)) w T → i ≡ suc (length (c ∷ w)) → Rest (k ∷ ns) (60 ∷ c ∷ w) T
in_tag i c w T k ns e (m, x, h, p, (a, y, l, A, q, full_e r)) j = rw (j, p, q) (full (c ∷ m) a (e, h) A r)
in_tag i c w T k ns e (m, x, h, p, (a, y, l, A, q, bare_e r)) j = rw (j, p, q) (bare (c ∷ m) a (e, h) A r)

attr_start : (b : Bool) (O : Open) (c : ℕ) (w : List ℕ) (T : List Tag) → b && is_letter c ≡ true → Left (name O (c ∷ [])) w T → RGap b O (c ∷ w) T
attr_start false O c w T e r = no (sym e)
attr_start true O c w T e (m, x, h, p, (u, y, us, p₂, (v, y₂, q, vs, Q, p₃, (r, x₃, K, p₄, (a, z, l, A, p₅, E))))) = (
  (c ∷ m) ++ (u ++ 61 ∷ (v ++ q ∷ (r ++ q ∷ a))),
  z,
  record { name = c ∷ m; raw = r } ∷ l,
  attr (c ∷ m) u v q r (e, h) us vs Q K A,
  simp (p, p₂, p₃, p₄, p₅, append_assoc),
  rw (append_assoc O.ats (record { name = c ∷ m; raw = r } ∷ []) l) at E,
)

gap_back : (b : Bool) (O : Open) (c : ℕ) (w : List ℕ) → Back (gap b O) c w (gap_step b O c)
gap_back b O c w = test (is_space c) (λ e. goes (λ T (a, x, l, A, p, E). (c ∷ a, x, l, space e A, rw p, E)))
    (λ e. byte 62 (says (λ T r. ([], 62 ∷ w, [], end, refl, rw (append-nil O.ats) (full_e r))))
    (byte 47 (goes (λ T r. ([], 47 ∷ w, [], end, refl, rw (append-nil O.ats) r)))
    (test (b && is_letter c) (λ e. goes (λ T r. attr_start b O c w T e r)) (λ e. fails))))

ref_step_lem : (r : InRef) (H : Half) (c : ℕ) (w : List ℕ) → Back (ref r H) c w (ref_goes (ref_step r c) (more H c))
ref_step_lem r H c w = at (ref_back r c)
  where
    at : {x : RefMove} → RBack r c x → Back (ref r H) c w (ref_goes x (more H c))
    at rfails = fails
    at (ron {q = q} f) = goes {t = ref q (more H c)} (λ T (s, x, k, p, (r', y, K, p₂, g)). (c ∷ s, x, f s k, rw p, (r', y, K, p₂, rw (append_assoc H.raw (c ∷ []) s) at g)))
    at (rover f) = goes {t = val (more H c)} (λ T g. (c ∷ [], w, f, refl, g))

back : (s : State) (c : ℕ) (w : List ℕ) → Back s c w (step s (suc (length w)) c)
back before c w = test (is_space c) (λ e. goes (λ T r. space e r)) (λ e. byte 60 (goes (λ T r. r refl)) fails)
back after c w = test (is_space c) (λ e. goes (λ T r. space e r)) (λ e. fails)
back (less i []) c w = test (is_letter c) (λ e. goes (λ T r j. top_tag i c w T e r j)) (λ e. fails)
back (less i (n ∷ ns)) c w = test (is_letter c) (λ e. goes (λ T r j. in_tag i c w T n ns e r j)) (λ e. byte 47 (goes (λ T (u, x, t, h, p, q, r) j. rw (p, q) (close n u h r))) fails)
back (tag i n ns) c w = test (is_name_byte c) (λ e. goes (λ T (m, x, h, p, g). (c ∷ m, x, (e, h), rw p, rw (append_assoc n (c ∷ []) m) at g)))
    (λ e. lift (λ T g. ([], c ∷ w, tt, refl, rw (append-nil n) g)) (gap_back false (opened i n [] ns) c w))
back (gap b O) c w = gap_back b O c w
back (slash O) c w = byte 62 (says (λ T r. bare_e (up_rest O.out w T r))) fails
back (name O n) c w = test (is_name_byte c) (λ e. goes (λ T (m, x, h, p, g). (c ∷ m, x, (e, h), rw p, rw (append_assoc n (c ∷ []) m) at g)))
    (λ e. test (is_space c) (λ e. goes (λ T (u, y, h, p, g). ([], c ∷ w, tt, refl, (c ∷ u, y, (e, h), rw p, rw (append-nil n) g))))
    (λ e. byte 61 (goes (λ T g. ([], 61 ∷ w, tt, refl, ([], w, tt, refl, rw (append-nil n) g)))) fails))
back (equals O n) c w = test (is_space c) (λ e. goes (λ T (u, y, h, p, g). (c ∷ u, y, (e, h), rw p, g))) (λ e. byte 61 (goes (λ T g. ([], w, tt, refl, g))) fails)
back (quote O n) c w = test (is_space c) (λ e. goes (λ T (v, y, q, h, Q, p, g). (c ∷ v, y, q, (e, h), Q, rw p, g)))
    (λ e. test (eqb c 34 || eqb c 39) (λ e. goes (λ T g. ([], w, c, tt, quoted c e, refl, g))) (λ e. fails))
  where
    quoted : (c : ℕ) → (eqb c 34 || eqb c 39) ≡ true → Quote c
    quoted c e = at (eqb c 34) refl e
      where
        at : (b : Bool) → eqb c 34 ≡ b → (b || eqb c 39) ≡ true → Quote c
        at true q e = rw (eqb-true c 34 q) double
        at false q e = rw (eqb-true c 39 e) single
back (val H) c w = test (is_plain H.quote c) (λ e. goes (λ T (r, x, K, p, g). (c ∷ r, x, plain e K, rw p, rw (append_assoc H.raw (c ∷ []) r) at g)))
    (λ e. test (eqb c H.quote) (λ e. goes (λ T g. ([], w, end, ap (λ (d : ℕ). d ∷ w) (eqb-true c H.quote e), rw (append-nil H.raw) g)))
    (λ e. byte 38 (goes (λ T (s, x, K, p, (r, y, Q, q, g)). (38 ∷ (s ++ r), y, ref s K Q, simp (p, q, append_assoc), rw (append_assoc (H.raw ++ 38 ∷ []) s r, append_assoc H.raw (38 ∷ []) (s ++ r)) at g))) fails))
back (ref r H) c w = ref_step_lem r H c w
back (inside n ns) c w = test (is_space c) (λ e. goes (λ T r. space e r)) (λ e. byte 60 (goes (λ T r. r refl)) fails)
back (closing [] ns) c w = test (is_space c) (λ e. goes (λ T (u, x, t, h, p, q, r). (c ∷ u, x, t, (e, h), rw p, q, r)))
    (λ e. byte 62 (says (λ T r. ([], w, T, tt, refl, refl, up_rest ns w T r))) fails)
back (closing (d ∷ m) ns) c w = byte d (goes (λ T (u, x, t, h, p, q, r). (u, x, t, h, rw p, q, r))) fails

none_some : {A : Type 0} {t : List Tag} → none ≡ some t → A
none_some e = let z : ◌≡◌ {A = ℕ} 0 1 = cc in absurd (omega arith)

at_end_lem : (s : State) (T : List Tag) → is_after s ≡ some T → Left s [] T
at_end_lem after T e = let q : [] ≡ T = cc in rw (sym q) done
at_end_lem before T e = none_some e
at_end_lem (less i ns) T e = none_some e
at_end_lem (tag i n ns) T e = none_some e
at_end_lem (gap b O) T e = none_some e
at_end_lem (slash O) T e = none_some e
at_end_lem (name O n) T e = none_some e
at_end_lem (equals O n) T e = none_some e
at_end_lem (quote O n) T e = none_some e
at_end_lem (val H) T e = none_some e
at_end_lem (ref r H) T e = none_some e
at_end_lem (inside n ns) T e = none_some e
at_end_lem (closing m ns) T e = none_some e

sound : (w : List ℕ) (s : State) (T : List Tag) → scan s w ≡ some T → Left s w T
sound [] s T e = at_end_lem s T e
sound (c ∷ w) s T e = at (back s c w) e (λ t U. sound w t U)
  where
    said : (us : List Tag) (o : Option (List Tag)) → prefix us o ≡ some T → (U : List Tag) × (o ≡ some U) × (us ++ U ≡ T)
    said us none e = none_some e
    said us (some U) e = (U, refl, cc)

    at : {m : Move} → Back s c w m → follow m (λ t. scan t w) ≡ some T → ((t : State) (U : List Tag) → scan t w ≡ some U → Left t w U) → Left s (c ∷ w) T
    at fails e ih = none_some e
    at (goes {t = t} b) e ih = b T (ih t T e)
    at (says {t = t} {us = us} b) e ih = let (U, p, q) = said us (scan t w) e in rw (sym q) (b U (ih t U p))

-- the machine reads exactly the grammar
pub exact : (w : List ℕ) (t : List Tag) → Page w t ↔ (scan before w ≡ some t)
exact w t = (λ p. taken_page p, sound w before t)

pub unambiguous : {w : List ℕ} {t t' : List Tag} → Page w t → Page w t' → t ≡ t'
unambiguous p q = let a = taken_page p in let b = taken_page q in cc
