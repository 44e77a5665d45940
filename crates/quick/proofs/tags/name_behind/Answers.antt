-- The name of MP, or the letter that is the element's name.
use mathlib.Core.Path.{sym, ◌∙◌}
use Prim.Native.Nat.{◌+◌, ◌<◌}
use native.Mathlib.Omega.{arith}
use lib.ListN.{length}
use Rattle.quoted.proofs.Pieces.{in_it}
use Rattle.quick.proofs.TagLaws.{name_mp}
use Rattle.quick.proofs.tags.name_behind.Goals as goal

pub returns-then-byte_or-eq80 : goal.returns-then-byte_or-eq80
returns-then-byte_or-eq80 c =
    let a = c.args in
    let w = a.page.now in
    let b = c.byte_or-b.ensures in
    let d = c.byte_or.ensures in
    let h : a.at + 1 < length w = in_it w (a.at + 1) (λ z. omega (arith, d, z, c.if-byte_or-eq80.true)) in
    name_mp w a.at a.cur c.if-cur-eq1.true h (sym b ∙ c.if-b-eq77.true) (sym d ∙ c.if-byte_or-eq80.true)
