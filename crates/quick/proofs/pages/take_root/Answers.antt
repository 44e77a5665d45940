-- Spaces, the start tag of MP, and its element on the tape.
use mathlib.Core.Path.{sym, ap, ◌∙◌}
use Prim.Native.Nat.{◌<◌}
use native.Mathlib.Omega.{arith}
use lib.ListN.{length}
use Rattle.fields.specs.Places.{kind_at}
use Rattle.sheet.specs.Fold.{barred}
use Rattle.quoted.proofs.Pieces.{in_it}
use Rattle.quick.proofs.MadeLaws.{root_free, on_first}
use Rattle.quick.proofs.pages.take_root.Goals as goal

pub enter_for-requires : goal.enter_for-requires
enter_for-requires c = (omega arith, c.before-2.ensures.1, ap (λ v. barred v (kind_at 1)) c.before-2.ensures.0 ∙ root_free)

pub returns : goal.returns
returns c =
    let w = c.args.page.now in
    let p = c.spaces_end-p.result in
    let b = c.byte_or.ensures in
    let pl : p < length w = in_it w p (λ z. omega (arith, b, z, c.if-byte_or-ne60.false)) in
    let T = c.in_ok-tag.ensures in
    let E = c.enter_for.ensures in
    on_first c.spaces_end-p.ensures.0 pl (sym b ∙ c.if-byte_or-ne60.false) c.in_ok-e.ensures T _ _ c.if-page-tag-ne62.false c.before-2.ensures.0 (E.0 T.said T.fine T.needy) E.1 c.take_tag.auto.tape c.take_tag.auto.side
