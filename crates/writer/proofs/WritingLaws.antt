-- WritingLaws: document 01's answer for a call, as far as each test of the code decides it; and what the promise asks then.
-- Assumes nothing.
use mathlib.Core.Path.{◌≡◌, refl, ap, sym, ◌∙◌, subst}
use mathlib.Core.Bool.{Bool, true, false, ◌&&◌}
use mathlib.Core.List.{List, [], ◌∷◌, map}
use Prim.Native.Nat.{ℕ, suc, ◌+◌, ◌*◌, ◌/◌, ◌≤◌, ◌<◌}
use native.Mathlib.Omega.{arith}
use lib.Dec.{leb}
use lib.ListN.{length, take}
use borrow.Author.Tests.{leb-true, le-leb, lt-leb}
use Rattle.std.specs.Prelude.{Ok, Err}
use Rattle.paper.specs.Lists.{if, concat}
use Rattle.paper.specs.Plan.{Head, Row}
use Rattle.paper.specs.Plan as Said
use Rattle.paper.specs.Writing.{Written, bad_call, unsound, too_long, written, page, pages, fresh}
use Rattle.paper.proofs.Small.{both, and_intro}
use Rattle.paper.proofs.BySize.{base, greedy, lay_sized, sized}
use Rattle.paper.proofs.Same.{fresh_sized}
use Rattle.paper.proofs.Writer as Room
use Rattle.plan.specs.Numbers.{rows_lent, show_head, show_rows, show_plan, padded}
use Rattle.plan.specs.declared.Plan.{Plan}
use Rattle.plan.proofs.Shown.{rows_shown}
use Rattle.room.specs.Laid.{laid}
use Rattle.sound.proofs.SoundLaws.{no_bad_row, plan_sound}
use Rattle.sound.specs.Sound.{head_sound, records_sound, first_bad_in}
use Rattle.writer.specs.Cutting.{measure_of, Cutting, ends, stuck, cut_of, Tells, Rising, parted}
use Rattle.writer.specs.Promise.{call_fits, answered, given, Promised}
use Rattle.writer.specs.declared.answer.Refusal.{Refusal}
use Rattle.writer.specs.declared.cut.PageEnds.{PageEnds}
use Rattle.writer.specs.declared.writing.Pages.{Pages}
use Rattle.writer.proofs.CutLaws.{offsets, CutAs, cut_as}
use Rattle.writer.proofs.PageLaws.{rising, parted_are}

-- a call that is well made: room for 12,600 bytes, at most 256 rows, and all of them lent, 48 numbers to a row
pub record WellMade (out : List ℕ) (p : Plan) (rows : List ℕ) : Type 0 where
  pub room : 12600 ≤ length out
  pub few : p.rows ≤ 256
  pub lent : p.rows * 48 ≤ length rows

-- it passes the code's test
pub well_made : (out : List ℕ) (p : Plan) (rows : List ℕ) → call_fits p.rows (rows_lent (length rows)) (length out) ≡ true → WellMade out p rows
unfolding call_fits
well_made out p rows e =
    let (a, b) = both (leb 12600 (length out)) (leb p.rows 256 && leb p.rows (length rows / 48)) e in
    let (c, d) = both (leb p.rows 256) (leb p.rows (length rows / 48)) b in
    let g : p.rows ≤ length rows / 48 = leb-true p.rows (length rows / 48) d in
    record { room = leb-true 12600 (length out) a; few = leb-true p.rows 256 c; lent = omega arith }

module _ (out : List ℕ) (p : Plan) (rows text : List ℕ) where
  abbrev n : ℕ
  n = p.rows

  abbrev answer : Written
  answer = answered out p rows text

  -- the call is not well made
  pub no_call : call_fits n (rows_lent (length rows)) (length out) ≡ false → answer ≡ bad_call
  unfolding answered
  no_call e = rw e

  module _ (fits : call_fits n (rows_lent (length rows)) (length out) ≡ true) where
    -- the head is not sound
    pub bad_head : head_sound text p ≡ false → answer ≡ unsound 0
    unfolding answered
    bad_head e = rw (fits, e)

    module _ (head : head_sound text p ≡ true) where
      -- a row is not sound
      pub bad_rows : (first_bad_in 1 text n rows ≡ 0 → ⊥) → answer ≡ unsound (first_bad_in 1 text n rows)
      unfolding answered
      bad_rows e = rw (fits, head) (at (records_sound text n rows) refl)
        where
          at : (b : Bool) → records_sound text n rows ≡ b → (if b (fresh (show_plan text p rows)) (unsound (first_bad_in 1 text n rows))) ≡ unsound (first_bad_in 1 text n rows)
          at true x = absurd (e ((no_bad_row text n rows).1 x))
          at false x = refl

      module _ (none : first_bad_in 1 text n rows ≡ 0) where
        -- all records are sound
        pub records : records_sound text n rows ≡ true
        records = (no_bad_row text n rows).0 none

        abbrev shown : Said.Plan
        shown = show_plan text p rows

        abbrev h : Head
        h = show_head text p

        -- the numbers are sound: the plan that they show is written
        pub is_fresh : answer ≡ fresh shown
        unfolding answered
        is_fresh = rw (fits, head, records)

        by_size : answer ≡ if (leb (base h) 1400) (lay_sized shown (greedy shown)) (too_long 0)
        unfolding sized
        by_size = is_fresh ∙ fresh_sized shown ∙ rw (le-leb (length (show_rows text n rows)) 256 (omega (arith, rows_shown text n rows, (well_made out p rows fits).few)), plan_sound text p rows (and_intro (head_sound text p) (records_sound text n rows) head records))

        -- the head alone is too long
        pub long_head_lem : 1400 < length (page h [] 1 1) → answer ≡ too_long 0
        long_head_lem g = by_size ∙ rw (lt-leb (base h) 1400 g)

        module _ (short : length (page h [] 1 1) ≤ 1400) where
          -- what is known where there are pages
          pub record Paged (es : List ℕ) : Type 0 where
            pub are : answer ≡ written (pages h (length es) 1 (parted text rows 0 es))
            pub rise : Rising 0 es n
            pub fit : length (concat (pages h (length es) 1 (parted text rows 0 es))) ≤ 12600
            pub all : concat (parted text rows 0 es) ≡ show_rows text n rows

          offsets_long : (qs : List (List Row)) (i : ℕ) → length (offsets i qs) ≡ length qs
          offsets_long [] i = refl
          offsets_long (q ∷ qs) i = ap suc (offsets_long qs (i + length q))

          -- what the cut on numbers decides
          abbrev pub Decides : Cutting → Type 0
          Decides (ends es) = Paged es
          Decides (stuck r) = answer ≡ too_long r

          sized_pages : answer ≡ lay_sized shown (greedy shown)
          sized_pages = by_size ∙ rw (le-leb (base h) 1400 short)

          decides : (x : Cutting) → CutAs h (show_rows text n rows) x → Decides x
          decides (stuck r) e = sized_pages ∙ e
          decides (ends es) (qs, w, o, c, k) =
              let whole : parted text rows 0 es ≡ qs = ap (parted text rows 0) o ∙ parted_are text rows qs 0 n c in
              let count : length es ≡ length qs = ap length o ∙ offsets_long qs 0 in
              let are : answer ≡ written (pages h (length es) 1 (parted text rows 0 es)) = sized_pages ∙ w ∙ rw (count, whole) in
              record {
                are = are;
                rise = rw o (rising qs 0 n (omega (arith, ap length c, rows_shown text n rows)));
                all = ap concat whole ∙ c;
                fit = (Room.room shown (pages h (length es) 1 (parted text rows 0 es)) (sym is_fresh ∙ are)).2;
              }

          pub decided : Decides (cut_of (length (page h [] 1 1)) (map measure_of (show_rows text n rows)))
          decided = decides (cut_of (length (page h [] 1 1)) (map measure_of (show_rows text n rows))) (cut_as h (show_rows text n rows))

          -- no cut into nine pages
          pub no_cut : (i : ℕ) (x : Cutting) → Decides x → Tells (Err i) x → answer ≡ too_long i
          no_cut i (ends es) d t = absurd t
          no_cut i (stuck p) d t = d ∙ ap too_long (sym t.0)

          -- a cut
          pub a_cut : (c : PageEnds) (x : Cutting) → Decides x → Tells (Ok c) x → (length (take c.pages c.ends) ≡ c.pages) × ((c.pages ≤ 9) × Paged (take c.pages c.ends))
          a_cut c (ends es) d t =
              let same_ends : take c.pages c.ends ≡ es = rw t.0 t.1.1 in
              (rw same_ends (sym t.0), (omega (arith, t.0, t.1.0), subst Paged (sym same_ends) d))
          a_cut c (stuck p) d t = absurd t

-- ---- what the promise asks

-- a refusal
pub refuses : (A : Written) (e : Refusal) (out : List ℕ) → given A ≡ Err e → Promised A out (Err e) out
refuses bad_call e out g = record { result_is = sym g; room_is = refl }
refuses (unsound i) e out g = record { result_is = sym g; room_is = refl }
refuses (too_long i) e out g = record { result_is = sym g; room_is = refl }
refuses (written f) e out g = cc

-- pages are known by their number and their lengths
pages_same : {r s : Pages} → r.count ≡ s.count → r.lens ≡ s.lens → r ≡ s
pages_same {r} {s} c l = ap (λ (n : ℕ). told n r.lens) c ∙ ap (told s.count) l
  where
    told : ℕ → List ℕ → Pages
    told n ls = record { count = n; lens = ls }

pages_long : (h : Head) (z a : ℕ) (qs : List (List Row)) → length (pages h z a qs) ≡ length qs
pages_long h z a [] = refl
pages_long h z a (q ∷ qs) = ap suc (pages_long h z (suc a) qs)

parted_long : (t rows : List ℕ) (from : ℕ) (es : List ℕ) → length (parted t rows from es) ≡ length es
parted_long t rows from [] = refl
parted_long t rows from (e ∷ es) = ap suc (parted_long t rows e es)

-- pages
pub writes : (A : Written) (h : Head) (t rows es : List ℕ) (z : ℕ) (out : List ℕ) (r : Pages) (out' : List ℕ) → length es ≡ z → A ≡ written (pages h (length es) 1 (parted t rows 0 es))
    → r.count ≡ z → r.lens ≡ padded 9 0 (map length (pages h z 1 (parted t rows 0 es))) → out' ≡ laid out 0 (concat (pages h z 1 (parted t rows 0 es)))
    → Promised A out (Ok r) out'
writes A h t rows es z out r out' k e p l o =
    let count : r.count ≡ length (pages h (length es) 1 (parted t rows 0 es)) = p ∙ sym (pages_long h (length es) 1 (parted t rows 0 es) ∙ parted_long t rows 0 es ∙ k) in
    let lens : r.lens ≡ padded 9 0 (map length (pages h (length es) 1 (parted t rows 0 es))) = rw k l in
    rw e (record { result_is = ap Ok (pages_same count lens); room_is = rw k o })
