-- The machine takes each word of the grammar, and gives the tags that the grammar gives.
use mathlib.Core.Path.{◌≡◌, refl, ap, sym, ◌∙◌}
use mathlib.Core.Bool.{Bool, true, false, ◌||◌}
use mathlib.Core.Option.{some}
use mathlib.Core.List.{List, [], ◌∷◌, ◌++◌, append_assoc, append-nil}
use Prim.Native.Nat.{ℕ}
use native.Mathlib.Omega.{arith}
use lib.Dec.{eqb}
use lib.ListN.{length}
use borrow.Author.Tests.{eqb-true, eq-eqb, ne_eqb}
use Rattle.paper.specs.Lists.{All}
use Rattle.paper.specs.Bytes.{is_space, is_digit, is_letter}
use Rattle.paper.specs.Grammar.{Attr, Tag, start, end, amp, lt, gt, quot, apos, plain, space, attr, done, bare, full, close, Space, is_name_byte, is_hex, Pass, Ref, Raw, Quote, double, single, Attrs, Rest, Page, ref, dec, hex}
use Rattle.paper.specs.Machine.{Open, Half, go, before, tag, gap, name, equals, quote, val, ref, inside, closing, amp0, word, dec, hex, more, up, gap_step, prefix, scan}

-- ---- one byte

space_one : (c : ℕ) → Space c → (eqb c 32 || eqb c 10 || eqb c 13 || eqb c 9) ≡ true
space_one c e = e

data IsSpace : ℕ → Type 0 where
  s32 : IsSpace 32
  s10 : IsSpace 10
  s13 : IsSpace 13
  s9 : IsSpace 9

spaced : (c : ℕ) → Space c → IsSpace c
spaced c e = go (eqb c 32) refl (eqb c 10) refl (eqb c 13) refl (eqb c 9) refl e
  where
    go : (a : Bool) → eqb c 32 ≡ a → (b : Bool) → eqb c 10 ≡ b → (d : Bool) → eqb c 13 ≡ d → (f : Bool) → eqb c 9 ≡ f → (eqb c 32 || eqb c 10 || eqb c 13 || eqb c 9) ≡ true → IsSpace c
    go true p b q d r f s e = rw (eqb-true c 32 p) s32
    go false p true q d r f s e = rw (eqb-true c 10 q) s10
    go false p false q true r f s e = rw (eqb-true c 13 r) s13
    go false p false q false r true s e = rw (eqb-true c 9 s) s9
    go false p false q false r false s e = let g : ◌≡◌ {A = Bool} false true = rw (p, q, r, s) at e in let z : ◌≡◌ {A = ℕ} 0 1 = cc in absurd (omega arith)

-- a fact on every byte that is a letter or so: below 123, by computing
space_no_name : {c : ℕ} → IsSpace c → is_name_byte c ≡ false
space_no_name s32 = refl
space_no_name s10 = refl
space_no_name s13 = refl
space_no_name s9 = refl

exclude : (a b : Bool) → (a ≡ true → b ≡ false) → b ≡ true → a ≡ false
exclude true b f e = sym e ∙ f refl
exclude false b f e = refl

letter_name : (c : ℕ) → is_letter c ≡ true → is_name_byte c ≡ true
letter_name c e = rw e

letter_space : (c : ℕ) → is_letter c ≡ true → is_space c ≡ false
letter_space c e = exclude (is_space c) (is_name_byte c) (λ s. space_no_name (spaced c s)) (letter_name c e)

not_letter : (c d : ℕ) → is_letter c ≡ true → is_letter d ≡ false → eqb c d ≡ false
not_letter c d e f = ne_eqb c d (λ g. let z : ◌≡◌ {A = Bool} true false = sym e ∙ ap is_letter g ∙ f in let y : ◌≡◌ {A = ℕ} 0 1 = cc in absurd (omega arith))

-- ---- runs

f_tag : (m : List ℕ) → All (Pass is_name_byte) m → (i : ℕ) (n : List ℕ) (ns : List (List ℕ)) (x : List ℕ) → scan (tag i n ns) (m ++ x) ≡ scan (tag i (n ++ m) ns) x
f_tag [] h i n ns x = rw (append-nil n)
f_tag (c ∷ m) h i n ns x = rw (h.0, scan) (f_tag m h.1 i (n ++ c ∷ []) ns x ∙ rw (append_assoc n (c ∷ []) m))

f_name : (m : List ℕ) → All (Pass is_name_byte) m → (T : Open) (n x : List ℕ) → scan (name T n) (m ++ x) ≡ scan (name T (n ++ m)) x
f_name [] h T n x = rw (append-nil n)
f_name (c ∷ m) h T n x = rw (h.0, scan) (f_name m h.1 T (n ++ c ∷ []) x ∙ rw (append_assoc n (c ∷ []) m))

f_equals : (u : List ℕ) → All Space u → (T : Open) (n x : List ℕ) → scan (equals T n) (u ++ 61 ∷ x) ≡ scan (quote T n) x
f_equals [] h T n x = refl
f_equals (c ∷ u) h T n x = rw (h.0, scan) (f_equals u h.1 T n x)

f_named : (u : List ℕ) → All Space u → (T : Open) (n x : List ℕ) → scan (name T n) (u ++ 61 ∷ x) ≡ scan (quote T n) x
f_named [] h T n x = refl
f_named (c ∷ u) h T n x = rw (space_no_name (spaced c h.0), scan, h.0) (f_equals u h.1 T n x)

abbrev half : Open → List ℕ → ℕ → List ℕ → Half
half T n q r = record { top = T; name = n; quote = q; raw = r }

f_quote : {q : ℕ} (v : List ℕ) → All Space v → Quote q → (T : Open) (n x : List ℕ) → scan (quote T n) (v ++ q ∷ x) ≡ scan (val (half T n q [])) x
f_quote [] h double T n x = refl
f_quote [] h single T n x = refl
f_quote (c ∷ v) h q T n x = rw (h.0, scan) (f_quote v h.1 q T n x)

abbrev pub grown : Half → List ℕ → Half
grown H s = record { top = H.top; name = H.name; quote = H.quote; raw = H.raw ++ s }

grow : (H : Half) (c : ℕ) (s : List ℕ) → grown (more H c) s ≡ grown H (c ∷ s)
grow H c s = rw (append_assoc H.raw (c ∷ []) s)

grow_nil : (H : Half) → grown H [] ≡ H
grow_nil H = rw (append-nil H.raw)

f_word : (m : List ℕ) (d : ℕ) (H : Half) (x : List ℕ) → scan (ref (word d m) H) (d ∷ (m ++ x)) ≡ scan (val (grown H (d ∷ m))) x
f_word [] d H x = rw (eq-eqb d d refl, scan)
f_word (e ∷ m) d H x = rw (eq-eqb d d refl, scan) (f_word m e (more H d) x ∙ rw (append_assoc H.raw (d ∷ []) (e ∷ m)))

f_dec : (s : List ℕ) → All (Pass is_digit) s → (H : Half) (x : List ℕ) → scan (ref dec H) (s ++ 59 ∷ x) ≡ scan (val (grown H (s ++ 59 ∷ []))) x
f_dec [] h H x = refl
f_dec (c ∷ s) h H x = rw (h.0, scan) (f_dec s h.1 (more H c) x ∙ rw (append_assoc H.raw (c ∷ []) (s ++ 59 ∷ [])))

f_hex : (s : List ℕ) → All (Pass is_hex) s → (H : Half) (x : List ℕ) → scan (ref hex H) (s ++ 59 ∷ x) ≡ scan (val (grown H (s ++ 59 ∷ []))) x
f_hex [] h H x = refl
f_hex (c ∷ s) h H x = rw (h.0, scan) (f_hex s h.1 (more H c) x ∙ rw (append_assoc H.raw (c ∷ []) (s ++ 59 ∷ [])))

f_ref : {s : List ℕ} → Ref s → (H : Half) (x : List ℕ) → scan (ref amp0 H) (s ++ x) ≡ scan (val (grown H s)) x
f_ref amp H x = f_word (59 ∷ []) 112 (more (more H 97) 109) x ∙ rw (append_assoc (H.raw ++ 97 ∷ []) (109 ∷ []) (112 ∷ 59 ∷ []), append_assoc H.raw (97 ∷ []) (109 ∷ 112 ∷ 59 ∷ []))
f_ref lt H x = f_word (59 ∷ []) 116 (more H 108) x ∙ rw (append_assoc H.raw (108 ∷ []) (116 ∷ 59 ∷ []))
f_ref gt H x = f_word (59 ∷ []) 116 (more H 103) x ∙ rw (append_assoc H.raw (103 ∷ []) (116 ∷ 59 ∷ []))
f_ref quot H x = f_word (111 ∷ 116 ∷ 59 ∷ []) 117 (more H 113) x ∙ rw (append_assoc H.raw (113 ∷ []) (117 ∷ 111 ∷ 116 ∷ 59 ∷ []))
f_ref apos H x = f_word (115 ∷ 59 ∷ []) 111 (more (more H 97) 112) x ∙ rw (append_assoc (H.raw ++ 97 ∷ []) (112 ∷ []) (111 ∷ 115 ∷ 59 ∷ []), append_assoc H.raw (97 ∷ []) (112 ∷ 111 ∷ 115 ∷ 59 ∷ []))
f_ref (dec [] h) H x = elim h [ ]
f_ref (hex [] h) H x = elim h [ ]
f_ref (dec (c ∷ s) h) H x =
    let assoc : (35 ∷ ((c ∷ s) ++ 59 ∷ [])) ++ x ≡ 35 ∷ c ∷ (s ++ 59 ∷ x) = simp append_assoc in
    let start : scan (ref amp0 H) (35 ∷ c ∷ (s ++ 59 ∷ x)) ≡ scan (ref dec (more (more H 35) c)) (s ++ 59 ∷ x) = rw (h.0, scan) in
    ap (scan (ref amp0 H)) assoc ∙ start ∙ f_dec s h.1 (more (more H 35) c) x
    ∙ rw (append_assoc (H.raw ++ 35 ∷ []) (c ∷ []) (s ++ 59 ∷ []), append_assoc H.raw (35 ∷ []) (c ∷ (s ++ 59 ∷ [])))
f_ref (hex (c ∷ s) h) H x =
    let assoc : (35 ∷ 120 ∷ ((c ∷ s) ++ 59 ∷ [])) ++ x ≡ 35 ∷ 120 ∷ c ∷ (s ++ 59 ∷ x) = simp append_assoc in
    let start : scan (ref amp0 H) (35 ∷ 120 ∷ c ∷ (s ++ 59 ∷ x)) ≡ scan (ref hex (more (more (more H 35) 120) c)) (s ++ 59 ∷ x) = rw (h.0, scan) in
    ap (scan (ref amp0 H)) assoc ∙ start ∙ f_hex s h.1 (more (more (more H 35) 120) c) x
    ∙ rw (append_assoc ((H.raw ++ 35 ∷ []) ++ 120 ∷ []) (c ∷ []) (s ++ 59 ∷ []), append_assoc (H.raw ++ 35 ∷ []) (120 ∷ []) (c ∷ (s ++ 59 ∷ [])), append_assoc H.raw (35 ∷ []) (120 ∷ c ∷ (s ++ 59 ∷ [])))

abbrev pub ended : Open → List ℕ → List ℕ → Open
ended T n r = record { from = T.from; tag = T.tag; ats = T.ats ++ record { name = n; raw = r } ∷ []; out = T.out }

f_raw : {q : ℕ} {r : List ℕ} → Quote q → Raw q r → (T : Open) (n v x : List ℕ) → scan (val (half T n q v)) (r ++ q ∷ x) ≡ scan (gap false (ended T n (v ++ r))) x
f_raw double end T n v x = rw (append-nil v)
f_raw single end T n v x = rw (append-nil v)
f_raw q (plain {c = c} {r = r} e p) T n v x = rw (e, scan) (f_raw q p T n (v ++ c ∷ []) x ∙ rw (append_assoc v (c ∷ []) r))
f_raw double (ref s {r = r} a p) T n v x =
    ap (λ (y : List ℕ). scan (ref amp0 (half T n 34 (v ++ 38 ∷ []))) y) (append_assoc s r (34 ∷ x)) ∙ f_ref a (half T n 34 (v ++ 38 ∷ [])) (r ++ 34 ∷ x)
    ∙ f_raw double p T n ((v ++ 38 ∷ []) ++ s) x ∙ rw (append_assoc (v ++ 38 ∷ []) s r, append_assoc v (38 ∷ []) (s ++ r))
f_raw single (ref s {r = r} a p) T n v x =
    ap (λ (y : List ℕ). scan (ref amp0 (half T n 39 (v ++ 38 ∷ []))) y) (append_assoc s r (39 ∷ x)) ∙ f_ref a (half T n 39 (v ++ 38 ∷ [])) (r ++ 39 ∷ x)
    ∙ f_raw single p T n ((v ++ 38 ∷ []) ++ s) x ∙ rw (append_assoc (v ++ 38 ∷ []) s r, append_assoc v (38 ∷ []) (s ++ r))

abbrev pub opened : ℕ → List ℕ → List Attr → List (List ℕ) → Open
opened i n l ns = record { from = i; tag = n; ats = l; out = ns }

letter_gap : (T : Open) (c : ℕ) → is_letter c ≡ true → gap_step true T c ≡ go (name T (c ∷ []))
letter_gap T c e = simp (letter_space c e, not_letter c 62 e refl, not_letter c 47 e refl, e)

f_attrs : {b : Bool} {a : List ℕ} {l' : List Attr} → Attrs b a l' → (i : ℕ) (n : List ℕ) (l : List Attr) (ns : List (List ℕ)) (x : List ℕ)
    → (b' : Bool) × (scan (gap b (opened i n l ns)) (a ++ x) ≡ scan (gap b' (opened i n (l ++ l') ns)) x)
f_attrs (end {b = b}) i n l ns x = (b, rw (append-nil l))
f_attrs (space e q) i n l ns x = let (b', p) = f_attrs q i n l ns x in (b', rw (e, scan) p)
f_attrs (attr [] u v q r {w = w} {l = l'} none us vs k p o) i n l ns x = elim none [ ]
f_attrs (attr (c ∷ m) u v q r {w = w} {l = l'} (e, h) us vs k p o) i n l ns x =
    let T : Open = opened i n l ns in
    let (b', y) = f_attrs o i n (l ++ record { name = c ∷ m; raw = r } ∷ []) ns x in
    let z : List ℕ = r ++ q ∷ (w ++ x) in
    let assoc : ((c ∷ m) ++ (u ++ 61 ∷ (v ++ q ∷ (r ++ q ∷ w)))) ++ x ≡ (c ∷ m) ++ (u ++ 61 ∷ (v ++ q ∷ (r ++ q ∷ (w ++ x)))) = simp append_assoc in
    let first : scan (gap true T) ((c ∷ m) ++ (u ++ 61 ∷ (v ++ q ∷ z))) ≡ scan (name T (c ∷ [])) (m ++ (u ++ 61 ∷ (v ++ q ∷ z))) = rw (letter_gap T c e) in (
      b',
      ap (scan (gap true T)) assoc ∙ first ∙ f_name m h T (c ∷ []) (u ++ 61 ∷ (v ++ q ∷ z)) ∙ f_named u us T (c ∷ m) (v ++ q ∷ z) ∙ f_quote v vs k T (c ∷ m) z
          ∙ f_raw k p T (c ∷ m) [] (w ++ x) ∙ y ∙ rw (append_assoc l (record { name = c ∷ m; raw = r } ∷ []) l'),
    )

-- after a tag's name all goes as in a gap
f_tag_gap : {a : List ℕ} {l' : List Attr} → Attrs false a l' → (i : ℕ) (n : List ℕ) (ns : List (List ℕ)) (x : List ℕ)
    → (scan (tag i n ns) (a ++ 62 ∷ x) ≡ scan (gap false (opened i n [] ns)) (a ++ 62 ∷ x)) × (scan (tag i n ns) (a ++ 47 ∷ x) ≡ scan (gap false (opened i n [] ns)) (a ++ 47 ∷ x))
f_tag_gap end i n ns x = (refl, refl)
f_tag_gap (space {c = c} e q) i n ns x = (rw (space_no_name (spaced c e), scan), rw (space_no_name (spaced c e), scan))

f_bare : {a : List ℕ} {l : List Attr} (c : ℕ) (n : List ℕ) → All (Pass is_name_byte) n → Attrs false a l → (i : ℕ) (ns : List (List ℕ)) (x : List ℕ)
    → scan (tag i (c ∷ []) ns) (n ++ (a ++ 47 ∷ 62 ∷ x)) ≡ prefix (start i (c ∷ n) l ∷ end ∷ []) (scan (up ns) x)
f_bare {a = a} c n h p i ns x = f_tag n h i (c ∷ []) ns (a ++ 47 ∷ 62 ∷ x) ∙ (f_tag_gap p i (c ∷ n) ns (62 ∷ x)).1 ∙ (f_attrs p i (c ∷ n) [] ns (47 ∷ 62 ∷ x)).1

f_open : {a : List ℕ} {l : List Attr} (c : ℕ) (n : List ℕ) → All (Pass is_name_byte) n → Attrs false a l → (i : ℕ) (ns : List (List ℕ)) (x : List ℕ)
    → scan (tag i (c ∷ []) ns) (n ++ (a ++ 62 ∷ x)) ≡ prefix (start i (c ∷ n) l ∷ []) (scan (inside (c ∷ n) ns) x)
f_open {a = a} c n h p i ns x = f_tag n h i (c ∷ []) ns (a ++ 62 ∷ x) ∙ (f_tag_gap p i (c ∷ n) ns x).0 ∙ (f_attrs p i (c ∷ n) [] ns (62 ∷ x)).1

f_ended : (u : List ℕ) → All Space u → (ns : List (List ℕ)) (x : List ℕ) → scan (closing [] ns) (u ++ 62 ∷ x) ≡ prefix (end ∷ []) (scan (up ns) x)
f_ended [] h ns x = refl
f_ended (c ∷ u) h ns x = rw (h.0, scan) (f_ended u h.1 ns x)

f_closing : (m u : List ℕ) → All Space u → (ns : List (List ℕ)) (x : List ℕ) → scan (closing m ns) (m ++ (u ++ 62 ∷ x)) ≡ prefix (end ∷ []) (scan (up ns) x)
f_closing [] u h ns x = f_ended u h ns x
f_closing (c ∷ m) u h ns x = rw (eq-eqb c c refl, scan) (f_closing m u h ns x)

f_space : (ns : List (List ℕ)) (c : ℕ) (w : List ℕ) → Space c → scan (up ns) (c ∷ w) ≡ scan (up ns) w
f_space [] c w e = rw (e, scan)
f_space (n ∷ ns) c w e = rw (e, scan)

pub taken : {ns : List (List ℕ)} {w : List ℕ} {t : List Tag} → Rest ns w t → scan (up ns) w ≡ some t
taken done = refl
taken (space {ns = ns} {c = c} {w = w} e r) = f_space ns c w e ∙ taken r
taken (bare {m = m} {ns = ns} [] a {l = l} {w = w} none p r) = elim none [ ]
taken (bare {m = m} {ns = ns} (c ∷ n) a {l = l} {w = w} (e, h) p r) =
    let k : ℕ = length (60 ∷ ((c ∷ n) ++ (a ++ 47 ∷ 62 ∷ w))) in
    let first : scan (inside m ns) (60 ∷ ((c ∷ n) ++ (a ++ 47 ∷ 62 ∷ w))) ≡ scan (tag k (c ∷ []) (m ∷ ns)) (n ++ (a ++ 47 ∷ 62 ∷ w)) = rw (e, scan) in
    first ∙ f_bare c n h p k (m ∷ ns) w ∙ ap (prefix (start k (c ∷ n) l ∷ end ∷ [])) (taken r)
taken (full {m = m} {ns = ns} [] a {l = l} {w = w} none p r) = elim none [ ]
taken (full {m = m} {ns = ns} (c ∷ n) a {l = l} {w = w} (e, h) p r) =
    let k : ℕ = length (60 ∷ ((c ∷ n) ++ (a ++ 62 ∷ w))) in
    let first : scan (inside m ns) (60 ∷ ((c ∷ n) ++ (a ++ 62 ∷ w))) ≡ scan (tag k (c ∷ []) (m ∷ ns)) (n ++ (a ++ 62 ∷ w)) = rw (e, scan) in
    first ∙ f_open c n h p k (m ∷ ns) w ∙ ap (prefix (start k (c ∷ n) l ∷ [])) (taken r)
taken (close {ns = ns} n u {w = w} h r) = f_closing n u h ns w ∙ ap (prefix (end ∷ [])) (taken r)

pub taken_page : {w : List ℕ} {t : List Tag} → Page w t → scan before w ≡ some t
taken_page (space e r) = rw (e, scan) (taken_page r)
taken_page (bare [] a {l = l} {w = w} none p r) = elim none [ ]
taken_page (bare (c ∷ n) a {l = l} {w = w} (e, h) p r) =
    let k : ℕ = length (60 ∷ ((c ∷ n) ++ (a ++ 47 ∷ 62 ∷ w))) in
    let first : scan before (60 ∷ ((c ∷ n) ++ (a ++ 47 ∷ 62 ∷ w))) ≡ scan (tag k (c ∷ []) []) (n ++ (a ++ 47 ∷ 62 ∷ w)) = rw (e, scan) in
    first ∙ f_bare c n h p k [] w ∙ ap (prefix (start k (c ∷ n) l ∷ end ∷ [])) (taken r)
taken_page (full [] a {l = l} {w = w} none p r) = elim none [ ]
taken_page (full (c ∷ n) a {l = l} {w = w} (e, h) p r) =
    let k : ℕ = length (60 ∷ ((c ∷ n) ++ (a ++ 62 ∷ w))) in
    let first : scan before (60 ∷ ((c ∷ n) ++ (a ++ 62 ∷ w))) ≡ scan (tag k (c ∷ []) []) (n ++ (a ++ 62 ∷ w)) = rw (e, scan) in
    first ∙ f_open c n h p k [] w ∙ ap (prefix (start k (c ∷ n) l ∷ [])) (taken r)
