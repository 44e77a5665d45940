-- One element: from its slots to attributes and back, over any list of fields with distinct letters.
use mathlib.Core.Path.{◌≡◌, refl, ap, sym, ◌∙◌}
use mathlib.Core.Bool.{Bool, true, false, not, ◌&&◌}
use mathlib.Core.List.{List, [], ◌∷◌, ◌++◌}
use Prim.Native.Nat.{ℕ}
use lib.Dec.{leb}
use lib.ListN.{length}
use Rattle.paper.specs.Lists.{same, elem, twice, every, count}
use Rattle.paper.specs.Bytes.{is_decoded, is_allowed, is_letter}
use Rattle.paper.proofs.Small.{no, both, neither, no_not, if_same, same_comm, same_self, every_append, every_all}
use Rattle.paper.specs.Grammar.{Attr, Attrs, end, space, attr, Name, is_name_byte, double}
use Rattle.paper.specs.Values.{cut, value, escape}
use Rattle.paper.proofs.ValueLaws.{value_escape, escaped_raw, escape_allowed}
use Rattle.paper.proofs.ByKind.{each, none}
use Rattle.paper.specs.Fields.{Kind, Field, fields_of, tag_name, excluded, Rule, text, version, digits, hexes, language, page_no, birthday, sex, insured, stamp, one, lines, pzn, code3, dose, sign}
use Rattle.paper.specs.Rules.{keeps, is_zero, settle, obeys}
use Rattle.paper.specs.Plan.{Slots, names_of}
use Rattle.paper.specs.Judging.{names, found, slots_of, letters_of, broken, missing, clash, own, mp_version, mp_over, mp_half}
use Rattle.paper.specs.Writing.{good_slot, good_slots, good_element, attrs_of, print_attrs, spelled}

-- ---- a good slot

zero_nil : (r : Rule) → is_zero r [] ≡ false
zero_nil text = refl
zero_nil version = refl
zero_nil digits = refl
zero_nil hexes = refl
zero_nil language = refl
zero_nil page_no = refl
zero_nil birthday = refl
zero_nil sex = refl
zero_nil insured = refl
zero_nil stamp = refl
zero_nil one = refl
zero_nil lines = refl
zero_nil pzn = refl
zero_nil code3 = refl
zero_nil dose = refl
zero_nil sign = refl

pub record GoodValue (f : Field) (v : List ℕ) : Type 0 where
  pub decoded : every is_decoded v ≡ true
  pub kept : keeps f v ≡ true
  pub uncut : same (cut v) v ≡ true
  pub whole : is_zero f.rule v ≡ false

decoded_of : (f : Field) (v : List ℕ) → keeps f v ≡ true → every is_decoded v ≡ true
decoded_of f v e = (both (every is_decoded v) (leb f.least (length v) && (leb (length v) f.most && (leb (count 126 v) f.tildes && obeys f.rule v))) e).0

pub good_value_lem : (f : Field) (c : ℕ) (v : List ℕ) → good_slot f (c ∷ v) ≡ true → GoodValue f (c ∷ v)
good_value_lem f c v e =
    let (a, b) = both (keeps f (c ∷ v)) (same (cut (c ∷ v)) (c ∷ v) && not (is_zero f.rule (c ∷ v))) e in
    let (x, y) = both (same (cut (c ∷ v)) (c ∷ v)) (not (is_zero f.rule (c ∷ v))) b in
    record { decoded = decoded_of f (c ∷ v) a; kept = a; uncut = x; whole = no_not (is_zero f.rule (c ∷ v)) y }

settled : (f : Field) (c : ℕ) (v : List ℕ) → good_slot f (c ∷ v) ≡ true → settle f (value (escape (c ∷ v))) ≡ c ∷ v
settled f c v e = let g = good_value_lem f c v e in ap (settle f) (value_escape (c ∷ v) g.decoded g.uncut) ∙ rw (g.whole, settle)

pub settled_nil : (f : Field) → settle f [] ≡ []
settled_nil f = if_same (is_zero f.rule []) []

-- ---- names

pub names_of_lem : (fs : List Field) (vs : Slots) → names (attrs_of fs vs) ≡ names_of fs vs
names_of_lem [] vs = refl
names_of_lem (f ∷ fs) [] = refl
names_of_lem (f ∷ fs) ([] ∷ vs) = names_of_lem fs vs
names_of_lem (f ∷ fs) ((c ∷ v) ∷ vs) = ap (λ (l : List (List ℕ)). f.letters ∷ l) (names_of_lem fs vs)

-- what holds for each letters holds for each present one
every_names : (p : List ℕ → Bool) (fs : List Field) (vs : Slots) → every p (letters_of fs) ≡ true → every p (names_of fs vs) ≡ true
every_names p [] vs e = refl
every_names p (f ∷ fs) [] e = refl
every_names p (f ∷ fs) ([] ∷ vs) e = every_names p fs vs (both (p f.letters) (every p (letters_of fs)) e).1
every_names p (f ∷ fs) ((c ∷ v) ∷ vs) e = let (a, b) = both (p f.letters) (every p (letters_of fs)) e in rw (a, every_names p fs vs b)

elem_names : (n : List ℕ) (fs : List Field) (vs : Slots) → elem n (letters_of fs) ≡ false → elem n (names_of fs vs) ≡ false
elem_names n [] vs e = refl
elem_names n (f ∷ fs) [] e = refl
elem_names n (f ∷ fs) ([] ∷ vs) e = elem_names n fs vs (neither (same n f.letters) (elem n (letters_of fs)) e).1
elem_names n (f ∷ fs) ((c ∷ v) ∷ vs) e = let (a, b) = neither (same n f.letters) (elem n (letters_of fs)) e in rw (a, elem_names n fs vs b)

once : (fs : List Field) (vs : Slots) → twice (letters_of fs) ≡ false → twice (names_of fs vs) ≡ false
once [] vs e = refl
once (f ∷ fs) [] e = refl
once (f ∷ fs) ([] ∷ vs) e = once fs vs (neither (elem f.letters (letters_of fs)) (twice (letters_of fs)) e).1
once (f ∷ fs) ((c ∷ v) ∷ vs) e = let (a, b) = neither (elem f.letters (letters_of fs)) (twice (letters_of fs)) e in rw (elem_names f.letters fs vs a, once fs vs b)

-- ---- slots

found_none : (n : List ℕ) (fs : List Field) (vs : Slots) → elem n (letters_of fs) ≡ false → found (attrs_of fs vs) n ≡ []
found_none n [] vs e = refl
found_none n (f ∷ fs) [] e = refl
found_none n (f ∷ fs) ([] ∷ vs) e = found_none n fs vs (neither (same n f.letters) (elem n (letters_of fs)) e).1
found_none n (f ∷ fs) ((c ∷ v) ∷ vs) e = let (a, b) = neither (same n f.letters) (elem n (letters_of fs)) e in rw (same_comm f.letters n, a) (found_none n fs vs b)

pub slots_skip : (n r : List ℕ) (l : List Attr) (fs : List Field) → elem n (letters_of fs) ≡ false → slots_of fs (record { name = n; raw = r } ∷ l) ≡ slots_of fs l
slots_skip n r l [] e = refl
slots_skip n r l (f ∷ fs) e = let (a, b) = neither (same n f.letters) (elem n (letters_of fs)) e in rw (a, slots_skip n r l fs b)

pub slots_back : (fs : List Field) (vs : Slots) → twice (letters_of fs) ≡ false → good_slots fs vs ≡ true → slots_of fs (attrs_of fs vs) ≡ vs
slots_back [] [] d g = refl
slots_back [] (v ∷ vs) d g = no (sym g)
slots_back (f ∷ fs) [] d g = no (sym g)
slots_back (f ∷ fs) ([] ∷ vs) d g =
    let (a, b) = neither (elem f.letters (letters_of fs)) (twice (letters_of fs)) d in
    rw (found_none f.letters fs vs a, settled_nil f, slots_back fs vs b (both (good_slot f []) (good_slots fs vs) g).1)
slots_back (f ∷ fs) ((c ∷ v) ∷ vs) d g =
    let (a, b) = neither (elem f.letters (letters_of fs)) (twice (letters_of fs)) d in
    let (x, y) = both (good_slot f (c ∷ v)) (good_slots fs vs) g in
    rw (same_self f.letters, settled f c v x, slots_skip f.letters (escape (c ∷ v)) (attrs_of fs vs) fs a, slots_back fs vs b y)

pub not_broken : (fs : List Field) (vs : Slots) → good_slots fs vs ≡ true → broken fs vs ≡ false
not_broken [] vs g = refl
not_broken (f ∷ fs) [] g = refl
not_broken (f ∷ fs) ([] ∷ vs) g = not_broken fs vs (both (good_slot f []) (good_slots fs vs) g).1
not_broken (f ∷ fs) ((c ∷ v) ∷ vs) g = let (x, y) = both (good_slot f (c ∷ v)) (good_slots fs vs) g in rw ((good_value_lem f c v x).kept, not_broken fs vs y)

-- ---- the spelling is in the grammar

abbrev pub is_name : List ℕ → Bool
is_name [] = false
is_name (c ∷ n) = is_letter c && every is_name_byte n

pub name_of : (n : List ℕ) → is_name n ≡ true → Name n
name_of [] e = no (sym e)
name_of (c ∷ n) e = let (a, b) = both (is_letter c) (every is_name_byte n) e in (a, every_all is_name_byte n b)

pub spelled_attrs : (fs : List Field) (vs : Slots) → every is_name (letters_of fs) ≡ true → good_slots fs vs ≡ true → Attrs false (print_attrs (attrs_of fs vs)) (attrs_of fs vs)
spelled_attrs [] vs n g = end
spelled_attrs (f ∷ fs) [] n g = end
spelled_attrs (f ∷ fs) ([] ∷ vs) n g = spelled_attrs fs vs (both (is_name f.letters) (every is_name (letters_of fs)) n).1 (both (good_slot f []) (good_slots fs vs) g).1
spelled_attrs (f ∷ fs) ((c ∷ v) ∷ vs) n g =
    let (a, b) = both (is_name f.letters) (every is_name (letters_of fs)) n in
    let (x, y) = both (good_slot f (c ∷ v)) (good_slots fs vs) g in
    space refl (attr f.letters [] [] 34 (escape (c ∷ v)) (name_of f.letters a) tt tt double (escaped_raw (c ∷ v) (good_value_lem f c v x).decoded) (spelled_attrs fs vs b y))

-- ---- the table's own facts, by computing

pub distinct : (k : Kind) → twice (letters_of (fields_of k)) ≡ false
unfolding fields_of
distinct k = none (λ k. twice (letters_of (fields_of k))) refl k

pub lettered : (k : Kind) → every is_name (letters_of (fields_of k)) ≡ true
unfolding fields_of
lettered k = each (λ k. every is_name (letters_of (fields_of k))) refl k

pub known : (k : Kind) → every (λ n. elem n (letters_of (fields_of k))) (letters_of (fields_of k)) ≡ true
unfolding fields_of
known k = each (λ k. every (λ n. elem n (letters_of (fields_of k))) (letters_of (fields_of k))) refl k

-- ---- an element that is good has no faults, and its slots come back

pub good_slots_lem : (k : Kind) (vs : Slots) → good_element k vs ≡ true → good_slots (fields_of k) vs ≡ true
unfolding good_element
good_slots_lem k vs g = (both (good_slots (fields_of k) vs) (not (missing (fields_of k) vs) && not (clash (excluded k) (names_of (fields_of k) vs))) g).0

pub good_whole : (k : Kind) (vs : Slots) → good_element k vs ≡ true → (missing (fields_of k) vs ≡ false) × (clash (excluded k) (names_of (fields_of k) vs) ≡ false)
unfolding good_element
good_whole k vs g =
    let (a, b) = both (good_slots (fields_of k) vs) (not (missing (fields_of k) vs) && not (clash (excluded k) (names_of (fields_of k) vs))) g in
    let (c, d) = both (not (missing (fields_of k) vs)) (not (clash (excluded k) (names_of (fields_of k) vs))) b in
    (no_not (missing (fields_of k) vs) c, no_not (clash (excluded k) (names_of (fields_of k) vs)) d)

pub record MpFine (k : Kind) (vs : Slots) : Type 0 where
  pub version : mp_version k vs ≡ false
  pub under : mp_over k vs ≡ false
  pub paired : mp_half k vs ≡ false

pub own_none : (k : Kind) (vs : Slots) (i : ℕ) → good_element k vs ≡ true → MpFine k vs → own k i (attrs_of (fields_of k) vs) ≡ []
own_none k vs i g m =
    let gs = good_slots_lem k vs g in
    let w = good_whole k vs g in
    let fs : List Field = fields_of k in
    rw (
      names_of_lem fs vs,
      slots_back fs vs (distinct k) gs,
      every_names (λ n. elem n (letters_of fs)) fs vs (known k),
      once fs vs (distinct k),
      m.version,
      not_broken fs vs gs,
      m.under,
      w.0,
      w.1,
      m.paired,
    )

pub slots_of_lem : (k : Kind) (vs : Slots) → good_element k vs ≡ true → slots_of (fields_of k) (attrs_of (fields_of k) vs) ≡ vs
slots_of_lem k vs g = slots_back (fields_of k) vs (distinct k) (good_slots_lem k vs g)

pub attrs_in : (k : Kind) (vs : Slots) → good_element k vs ≡ true → Attrs false (spelled k vs) (attrs_of (fields_of k) vs)
attrs_in k vs g = spelled_attrs (fields_of k) vs (lettered k) (good_slots_lem k vs g)

-- ---- every byte of the spelling is allowed

pub allowed_letters : (k : Kind) → every (every is_allowed) (letters_of (fields_of k)) ≡ true
unfolding fields_of
allowed_letters k = each (λ k. every (every is_allowed) (letters_of (fields_of k))) refl k

pub allowed_tag : (k : Kind) → every is_allowed (tag_name k) ≡ true
allowed_tag k = each (λ k. every is_allowed (tag_name k)) refl k

allowed_attrs : (fs : List Field) (vs : Slots) → every (every is_allowed) (letters_of fs) ≡ true → good_slots fs vs ≡ true → every is_allowed (print_attrs (attrs_of fs vs)) ≡ true
allowed_attrs [] vs n g = refl
allowed_attrs (f ∷ fs) [] n g = refl
allowed_attrs (f ∷ fs) ([] ∷ vs) n g = allowed_attrs fs vs (both (every is_allowed f.letters) (every (every is_allowed) (letters_of fs)) n).1 (both (good_slot f []) (good_slots fs vs) g).1
allowed_attrs (f ∷ fs) ((c ∷ v) ∷ vs) n g =
    let (a, b) = both (every is_allowed f.letters) (every (every is_allowed) (letters_of fs)) n in
    let (x, y) = both (good_slot f (c ∷ v)) (good_slots fs vs) g in
    let r : List ℕ = print_attrs (attrs_of fs vs) in
    every_append is_allowed f.letters (61 ∷ (34 ∷ (escape (c ∷ v) ++ 34 ∷ r))) a
    (every_append is_allowed (escape (c ∷ v)) (34 ∷ r) (escape_allowed (c ∷ v) (good_value_lem f c v x).decoded) (allowed_attrs fs vs b y))

pub allowed_spelled : (k : Kind) (vs : Slots) → good_element k vs ≡ true → every is_allowed (spelled k vs) ≡ true
allowed_spelled k vs g = allowed_attrs (fields_of k) vs (allowed_letters k) (good_slots_lem k vs g)
