-- The name of the open element, spaces, and `>`.
use mathlib.Core.Path.{refl, sym, ◌∙◌}
use Prim.Native.Nat.{◌<◌}
use native.Mathlib.Omega.{arith}
use lib.ListN.{length}
use Rattle.quoted.proofs.Pieces.{in_it}
use Rattle.quick.proofs.pages.end_behind.Goals as goal

pub returns-then-byte_or-eq62 : goal.returns-then-byte_or-eq62
returns-then-byte_or-eq62 c =
    let w = c.args.page.now in
    let g = c.spaces_end-g.result in
    let b = c.byte_or.ensures in
    let gl : g < length w = in_it w g (λ z. omega (arith, b, z, c.if-byte_or-eq62.true)) in
    record {
      name_end_at = c.in_ok-n.n;
      name = c.in_ok-n.ensures;
      close_at = g;
      spaces = c.spaces_end-g.ensures.0;
      within = (c.spaces_end-g.ensures.1, gl);
      closes = sym b ∙ c.if-byte_or-eq62.true;
      behind = refl;
    }
