-- An end tag, a start tag, and the page's end, where nothing is open and nothing is wrong.
use mathlib.Core.Path.{◌≡◌, sym, ap, ◌∙◌}
use mathlib.Core.Bool.{Bool, true, not}
use Prim.Native.Nat.{◌+◌, ◌<◌}
use native.Mathlib.Omega.{arith}
use lib.ListN.{length}
use Rattle.std.specs.Prelude.{Option, None, Some, is_some}
use Rattle.paper.specs.Judging.{Fault}
use Rattle.paper.proofs.Small.{no}
use Rattle.sheet.specs.Judged.{fault_of}
use Rattle.sheet.specs.declared.state.Refusal.{Refusal}
use Rattle.quoted.proofs.Pieces.{in_it}
use Rattle.quick.proofs.MadeLaws.{on_step, on_close, on_done}
use Rattle.quick.proofs.pages.take_page.Goals as goal

pub loop-st-preserved-then-byte_or-eq47 : goal.loop-st-preserved-then-byte_or-eq47
loop-st-preserved-then-byte_or-eq47 c =
    let w = c.args.page.now in
    let s = c.spaces_end-s.result in
    let R = c.spaces_end-s.ensures in
    let b = c.byte_or.ensures in
    let d = c.byte_or-in-loop-st.ensures in
    let sl : s < length w = in_it w s (λ z. omega (arith, b, z, c.if-byte_or-ne60.false)) in
    let dl : s + 1 < length w = in_it w (s + 1) (λ z. omega (arith, d, z, c.if-byte_or-eq47.true)) in
    on_close c.loop-st.invariant R.0 R.1 sl (sym b ∙ c.if-byte_or-ne60.false) dl (sym d ∙ c.if-byte_or-eq47.true) c.in_ok-i.ensures c.close-st.ensures.0 c.close-st.ensures.1

pub loop-st-preserved : goal.loop-st-preserved
loop-st-preserved c = on_step c.loop-st.invariant c.in_ok-step.ensures c.take_start.auto.tape c.take_start.auto.side

-- no refusal has the number 9
none : (r : Option Refusal) (b : Bool) (f : Fault) → is_some r ≡ not b → b ≡ true → fault_of r ≡ f → f.no ≡ 9
none None b f h e q = ap (λ (x : Fault). x.no) (sym q)
none (Some x) b f h e q = no (h ∙ ap not e)

pub returns-then-is_none : goal.returns-then-is_none
returns-then-is_none c =
    let H = c.loop-st.invariant in (
      on_done H c.loop-st-test.false c.spaces_end.ensures.0 c.if-spaces_end-page.true (none c.finish.result c.is_none.result _ c.is_none.ensures c.if-is_none.true c.finish.ensures) c.requires.0 c.requires.1,
      omega (arith, H.near, H.within),
    )
