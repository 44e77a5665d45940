-- A plain value is judged where it stands.
use mathlib.Core.Path.{refl, sym, ap, ◌∙◌}
use native.Mathlib.Omega.{arith}
use lib.Seq.{slice}
use Rattle.paper.specs.Rules.{settle}
use Rattle.fields.specs.Places.{field_at}
use Rattle.quoted.proofs.ValueLaws.{ordinary_decoded, ordinary_whole, plain_raw, settled_none, settled_some, none_there, in_page}
use Rattle.quoted.proofs.value.take_value.Goals as goal

pub returns-then-is_absent : goal.returns-then-is_absent
returns-then-is_absent c =
    let a = c.args in
    let P = c.in-Some.ensures in
    let e = settled_none (field_at a.id) _ (sym c.is_absent.ensures ∙ c.if-is_absent.true) in (
      none_there a.page.now a.at a.q a.id _ (plain_raw P) c.requires.0 c.requires.2 a.side.now a.used c.requires.6 (e ∙ ap (settle (field_at a.id)) P.right),
      record { same = refl; up = omega arith },
      omega (arith, P.within.0, P.within.1),
    )

pub keeps_text-requires : goal.keeps_text-requires
keeps_text-requires c =
    let P = c.in-Some.ensures in
    let v = slice c.args.at c.in-Some.plain.end c.args.page.now in
    (P.within.0, omega (arith, P.within.1, P.within.2), c.requires.4, c.requires.5.limits_are, ordinary_decoded v P.clean, omega (arith, ordinary_whole v P.clean))

pub returns-then-keeps_text : goal.returns-then-keeps_text
returns-then-keeps_text c =
    let a = c.args in
    let P = c.in-Some.ensures in
    let e = settled_some (field_at a.id) _ (sym c.is_absent.ensures ∙ c.if-is_absent.false) in (
      in_page a.page.now a.at a.q a.id _ (plain_raw P) c.requires.0 c.requires.2 a.side.now _ a.used c.requires.6 P.within.0 P.within.1 P.right e (c.keeps_text.ensures c.if-keeps_text.true),
      record { same = refl; up = omega arith },
      omega (arith, P.within.0, P.within.1),
    )
