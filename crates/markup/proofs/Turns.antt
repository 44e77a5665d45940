-- Turns: what holds at each byte of the scan, and that each way round the loop keeps it.
-- Assumes nothing.
use mathlib.Core.Path.{◌≡◌, refl, sym, ◌∙◌}
use mathlib.Core.Bool.{true, false}
use mathlib.Core.Option.{none, some}
use mathlib.Core.List.{List, [], ◌∷◌}
use Prim.Native.Nat.{ℕ, zero, suc, ◌+◌, ◌-◌, ◌≤◌, ◌<◌, ◌*◌}
use native.Mathlib.Numerals.{add-one}
use native.Mathlib.Omega.{arith}
use lib.ListN.{length, get_or, set, drop, length-set, drop_of_length-le}
use lib.Seq.{slice, slice-cons, slice_empty, drop-cons, get_or-set_same, get_or-set_other}
use borrow.Author.Count.{below_more}
use borrow.Author.Tests.{eq-eqb, ne_eqb, lt-ltb, le-ltb}
use Rattle.markup.specs.Extent.{extent_of, behind_at}
use Rattle.std.specs.Prelude.{Ok, Err}
use Rattle.markup.proofs.Control.{next, Ctl, ctl, upper, act, turn, onward, verdict, extent_is}
use Rattle.markup.proofs.Slices.{grown, one}
use Rattle.markup.proofs.TableLaws.{mode_of, act_of, weight, is_inner, Moved, done_is}

-- the names that the two arrays mark, innermost first
abbrev pub names : List ℕ → List ℕ → List ℕ → ℕ → List (List ℕ)
names s starts ends zero = []
names s starts ends (suc d) = slice (get_or starts d 0) (get_or ends d 0) s ∷ names s starts ends d

-- the marks of the open elements make the names
names_same : (s starts ends starts' ends' : List ℕ) (d : ℕ) → ((j : ℕ) → j < d → (get_or starts' j 0 ≡ get_or starts j 0) × (get_or ends' j 0 ≡ get_or ends j 0))
    → names s starts' ends' d ≡ names s starts ends d
names_same s starts ends starts' ends' zero h = refl
names_same s starts ends starts' ends' (suc d) h =
    rw ((h d (omega arith)).0, (h d (omega arith)).1, names_same s starts ends starts' ends' d (λ j k. h j (omega arith)))

-- the page s is scanned up to i: the machine stands at the mode, with `k` to `e` of an end tag's name to come and the open names marked
pub record Held (s starts ends : List ℕ) (depth mode k e i : ℕ) : Type 0 where
  pub small : length s ≤ 1400
  pub within : i ≤ length s
  pub deep : 3 * depth + weight mode ≤ i + 1
  pub mode_low : mode < 41
  pub rest : k ≤ e
  pub rest_in : e ≤ i
  pub long_s : length starts ≡ 467
  pub long_e : length ends ≡ 467
  pub marks : (d : ℕ) → d < depth → (get_or starts d 0 ≤ get_or ends d 0) × (get_or ends d 0 ≤ i)
  pub inner : is_inner mode ≡ true → 0 < depth
  pub growing : mode ≡ 2 → get_or ends (depth - 1) 0 ≡ i
  pub ending : k < e → mode ≡ 13
  pub right : extent_of s ≡ verdict (drop i s) (ctl (mode_of mode) (slice k e s) (names s starts ends depth)) i

-- at the first byte
pub begun : (s starts ends : List ℕ) → length s ≤ 1400 → length starts ≡ 467 → length ends ≡ 467 → Held s starts ends 0 0 0 0 0
unfolding weight is_inner mode_of
begun s starts ends h a b = record {
  small = h;
  within = omega arith;
  deep = omega arith;
  mode_low = omega arith;
  rest = omega arith;
  rest_in = omega arith;
  long_s = a;
  long_e = b;
  marks = λ d u. absurd (omega arith);
  inner = λ u. let z : ◌≡◌ {A = ℕ} 0 1 = cc in absurd (omega arith);
  growing = λ u. absurd (omega arith);
  ending = λ u. absurd (omega arith);
  right = extent_is s;
}

-- the mode behind an element's end
behind_fits : (s starts ends : List ℕ) (d : ℕ)
    → (behind_at d < 41) × (weight (behind_at d) ≤ 1) × (is_inner (behind_at d) ≡ true → 0 < d) × (behind_at d ≡ 2 → ⊥) × (mode_of (behind_at d) ≡ upper (names s starts ends d))
unfolding weight is_inner mode_of
behind_fits s starts ends zero = (omega arith, omega arith, (λ u. let z : ◌≡◌ {A = ℕ} 0 1 = cc in absurd (omega arith)), (λ u. omega arith), refl)
behind_fits s starts ends (suc d) =
    rw (ne_eqb (suc d) 0 (λ u. omega arith)) (omega arith, omega arith, (λ u. omega arith), (λ u. omega arith), refl)

-- a byte that the machine takes leads on; one that it does not take ends the good beginning
module _ (s : List ℕ) (i : ℕ) (h : i < length s) (t : Ctl) (v : extent_of s ≡ verdict (drop i s) t i) where
  split : verdict (drop i s) t i ≡ onward (turn t (get_or s i 0)) (Err i) (λ u. verdict (drop (i + 1) s) u (i + 1))
  unfolding verdict
  split = rw (add-one, drop-cons s i 0)

  on : (u : Ctl) → turn t (get_or s i 0) ≡ some u → extent_of s ≡ verdict (drop (i + 1) s) u (i + 1)
  on u e = v ∙ split ∙ rw e

  off : turn t (get_or s i 0) ≡ none → Err i ≡ extent_of s
  off e = sym (v ∙ split ∙ rw e)

module _ {s starts ends : List ℕ} {depth mode k e i : ℕ} (H : Held s starts ends depth mode k e i) (h : i < length s) where
  -- a byte of an end tag's name
  module _ (l : k < e) where
    wanted : slice k e s ≡ get_or s k 0 ∷ slice (k + 1) e s
    wanted = let u = H.rest_in in rw add-one (slice-cons k e s 0 l (omega arith))

    -- the byte is the name's next
    pub matched : get_or s i 0 ≡ get_or s k 0 → Held s starts ends depth mode (k + 1) e (i + 1)
    unfolding turn
    matched q = record {
      small = H.small;
      within = omega arith;
      deep = omega arith;
      mode_low = H.mode_low;
      rest = omega arith;
      rest_in = omega arith;
      long_s = H.long_s;
      long_e = H.long_e;
      marks = λ d u. let w = H.marks d u in (w.0, omega arith);
      inner = H.inner;
      growing = λ u. let w = H.ending l in absurd (omega arith);
      ending = λ u. H.ending l;
      right = on s i h _ H.right _ (rw (wanted, eq-eqb (get_or s i 0) (get_or s k 0) q));
    }

    -- it is not
    pub unmatched : (get_or s i 0 ≡ get_or s k 0 → ⊥) → Err i ≡ extent_of s
    unfolding turn
    unmatched q = off s i h _ H.right (rw (wanted, ne_eqb (get_or s i 0) (get_or s k 0) q))

  -- any other byte, by the act that the table says
  module _ (l : e ≤ k) (r : ℕ) (M : Moved mode r) (R : next (mode_of mode) (get_or s i 0) ≡ act_of r) where
    nothing : slice k e s ≡ []
    nothing = let u = H.rest in let q : k ≡ e = omega arith in rw q (slice_empty e s)

    acts : (ns : List (List ℕ)) → turn (ctl (mode_of mode) (slice k e s) ns) (get_or s i 0) ≡ act (act_of r) (get_or s i 0) ns
    unfolding turn
    acts ns = rw (nothing, R)

    -- on to another mode
    pub went : r < 48 → Held s starts ends depth r k e (i + 1)
    unfolding act act_of
    went a = let wt = M.weighs a in record {
      small = H.small;
      within = omega arith;
      deep = omega arith;
      mode_low = M.low a;
      rest = H.rest;
      rest_in = omega arith;
      long_s = H.long_s;
      long_e = H.long_e;
      marks = λ d u. let w = H.marks d u in (w.0, omega arith);
      inner = λ u. H.inner (M.inner a u);
      growing = λ u. absurd (M.no_tag u);
      ending = λ u. absurd (omega arith);
      right = rw nothing (on s i h _ H.right _ (acts _ ∙ rw (lt-ltb r 48 a)));
    }

    -- a start tag's name begins
    pub pushed : r ≡ 48 → Held s (set starts depth i) (set ends depth (i + 1)) (depth + 1) 2 k e (i + 1)
    unfolding act weight act_of mode_of
    pushed a =
        let wt : weight mode ≡ 2 = M.opens a in
        let da : depth < length starts = omega (arith, H.long_s) in
        let de : depth < length ends = omega (arith, H.long_e) in
        record {
          small = H.small;
          within = omega arith;
          deep = omega arith;
          mode_low = omega arith;
          rest = H.rest;
          rest_in = omega arith;
          long_s = length-set starts depth i ∙ H.long_s;
          long_e = length-set ends depth (i + 1) ∙ H.long_e;
          marks = below_more (λ (d : ℕ). (get_or (set starts depth i) d 0 ≤ get_or (set ends depth (i + 1)) d 0) × (get_or (set ends depth (i + 1)) d 0 ≤ i + 1)) depth
              (λ d u. let w = H.marks d u in rw (get_or-set_other starts depth d i 0 (λ q. omega arith), get_or-set_other ends depth d (i + 1) 0 (λ q. omega arith)) (w.0, omega arith))
              (rw (get_or-set_same starts depth i 0 da, get_or-set_same ends depth (i + 1) 0 de) (omega arith, omega arith));
          inner = λ u. omega arith;
          growing = λ u. let q : depth + 1 - 1 ≡ depth = omega arith in rw (q, get_or-set_same ends depth (i + 1) 0 de);
          ending = λ u. absurd (omega arith);
          right = rw (
            nothing,
            add-one depth,
            get_or-set_same starts depth i 0 da,
            get_or-set_same ends depth (i + 1) 0 de,
            one s i h,
            names_same s starts ends (set starts depth i) (set ends depth (i + 1)) depth (λ j u. (get_or-set_other starts depth j i 0 (λ q. omega arith), get_or-set_other ends depth j (i + 1) 0 (λ q. omega arith))),
          )
              (on s i h _ H.right _ (acts _ ∙ rw a));
        }

    -- an element ends
    pub risen : r ≡ 52 → (m : ℕ) → m ≡ behind_at depth → Held s starts ends depth m k e (i + 1)
    unfolding act act_of
    risen a m q = let b = behind_fits s starts ends depth in rw q record {
      small = H.small;
      within = omega arith;
      deep = omega arith;
      mode_low = b.0;
      rest = H.rest;
      rest_in = omega arith;
      long_s = H.long_s;
      long_e = H.long_e;
      marks = λ d u. let w = H.marks d u in (w.0, omega arith);
      inner = b.2;
      growing = λ u. absurd (b.3 u);
      ending = λ u. absurd (omega arith);
      right = rw (nothing, b.4) (on s i h _ H.right _ (acts _ ∙ rw a));
    }

    -- no well-formed page has the byte here
    pub refused : 52 < r → Err i ≡ extent_of s
    unfolding act act_of
    refused a = off s i h _ H.right (acts _ ∙ rw (le-ltb r 48 (omega arith), ne_eqb r 48 (λ u. omega arith), ne_eqb r 49 (λ u. omega arith), ne_eqb r 50 (λ u. omega arith), ne_eqb r 51 (λ u. omega arith), ne_eqb r 52 (λ u. omega arith)))

    -- with an open element
    module _ (top : ℕ) (dt : depth ≡ suc top) where
      open_names_lem : names s starts ends depth ≡ slice (get_or starts top 0) (get_or ends top 0) s ∷ names s starts ends top
      open_names_lem = rw dt

      acts_on : turn (ctl (mode_of mode) (slice k e s) (names s starts ends depth)) (get_or s i 0) ≡ act (act_of r) (get_or s i 0) (slice (get_or starts top 0) (get_or ends top 0) s ∷ names s starts ends top)
      acts_on = acts _ ∙ rw open_names_lem

      top_marks : (get_or starts top 0 ≤ get_or ends top 0) × (get_or ends top 0 ≤ i)
      top_marks = H.marks top (omega arith)

      -- one byte more of the name
      pub grew : r ≡ 49 → Held s starts (set ends top (i + 1)) depth mode k e (i + 1)
      unfolding act act_of mode_of
      grew a =
          let m : mode ≡ 2 = M.grows a in
          let n : depth - 1 ≡ top = omega arith in
          let g : get_or ends top 0 ≡ i = rw n at (H.growing m) in
          let te : top < length ends = omega (arith, H.long_e) in
          record {
            small = H.small;
            within = omega arith;
            deep = omega arith;
            mode_low = H.mode_low;
            rest = H.rest;
            rest_in = omega arith;
            long_s = H.long_s;
            long_e = length-set ends top (i + 1) ∙ H.long_e;
            marks = λ d u. below_more (λ (d : ℕ). (get_or starts d 0 ≤ get_or (set ends top (i + 1)) d 0) × (get_or (set ends top (i + 1)) d 0 ≤ i + 1)) top
                (λ d u. let w = H.marks d (omega arith) in rw (get_or-set_other ends top d (i + 1) 0 (λ q. omega arith)) (w.0, omega arith))
                (let w = top_marks in rw (get_or-set_same ends top (i + 1) 0 te) (omega arith, omega arith)) d (omega arith);
            inner = H.inner;
            growing = λ u. rw (n, get_or-set_same ends top (i + 1) 0 te);
            ending = λ u. absurd (omega arith);
            right = rw (
              nothing,
              m,
              dt,
              get_or-set_same ends top (i + 1) 0 te,
              grown s (get_or starts top 0) i (let w = top_marks in omega arith) h,
              names_same s starts ends starts (set ends top (i + 1)) top (λ j u. (refl, get_or-set_other ends top j (i + 1) 0 (λ q. omega arith))),
            )
                (on s i h _ H.right _ (acts_on ∙ rw (a, g)));
          }

      -- the innermost element is no longer open: in its end tag, or behind the `/` of its start tag
      left : (m k' e' : ℕ) (xs : List ℕ) → m < 41 → weight m ≡ 0 → is_inner m ≡ false → (m ≡ 2 → ⊥) → k' ≤ e' → e' ≤ i → (k' < e' → m ≡ 13) → slice k' e' s ≡ xs
          → act (act_of r) (get_or s i 0) (slice (get_or starts top 0) (get_or ends top 0) s ∷ names s starts ends top) ≡ some (ctl (mode_of m) xs (names s starts ends top))
          → Held s starts ends top m k' e' (i + 1)
      left m k' e' xs ml mw mi mn kl el kc se q = record {
        small = H.small;
        within = omega arith;
        deep = omega arith;
        mode_low = ml;
        rest = kl;
        rest_in = omega arith;
        long_s = H.long_s;
        long_e = H.long_e;
        marks = λ d u. let w = H.marks d (omega arith) in (w.0, omega arith);
        inner = λ u. let z : ◌≡◌ {A = ℕ} 0 1 = cc in absurd (omega arith);
        growing = λ u. absurd (mn u);
        ending = kc;
        right = rw se (on s i h _ H.right _ (acts_on ∙ q));
      }

      -- an end tag begins
      pub closed : r ≡ 50 → Held s starts ends top 13 (get_or starts top 0) (get_or ends top 0) (i + 1)
      unfolding act act_of mode_of weight is_inner
      closed a = left 13 (get_or starts top 0) (get_or ends top 0) _ (omega arith) refl refl (λ u. omega arith) top_marks.0 top_marks.1 (λ u. refl) refl (rw a)

      -- the start tag closes itself
      pub bared : r ≡ 51 → Held s starts ends top 5 k e (i + 1)
      unfolding act act_of mode_of weight is_inner
      bared a = left 5 k e [] (omega arith) refl refl (λ u. omega arith) H.rest H.rest_in (λ u. absurd (omega arith)) nothing (rw a)

-- the page's end
module _ {s starts ends : List ℕ} {depth mode k e i : ℕ} (H : Held s starts ends depth mode k e i) (h : length s ≤ i) where
  -- behind the page's element the page is whole
  pub finished : mode ≡ 14 → Ok tt ≡ extent_of s
  unfolding verdict mode_of
  finished a = sym (H.right ∙ rw (drop_of_length-le s h, a))

  -- anywhere else it ends too early
  pub unfinished : (mode ≡ 14 → ⊥) → Err i ≡ extent_of s
  unfolding verdict
  unfinished a = sym (H.right ∙ rw (drop_of_length-le s h, done_is mode H.mode_low, ne_eqb mode 14 a))
