-- The value lies decoded behind what is in use, and is judged there.
use mathlib.Core.Path.{sym, ap, ◌∙◌}
use native.Mathlib.Omega.{arith}
use Rattle.paper.specs.Rules.{settle}
use Rattle.fields.specs.Places.{field_at}
use Rattle.quoted.proofs.ValueLaws.{settled_none, settled_some, none_there, in_side, not_empty}
use Rattle.quoted.proofs.value.odd_value.Goals as goal

pub returns-then-is_absent : goal.returns-then-is_absent
returns-then-is_absent c =
    let a = c.args in
    let C = c.in_ok-coded.ensures in
    let e = settled_none (field_at a.id) _ (sym c.is_absent.ensures ∙ c.if-is_absent.true) in (
      none_there a.page.now a.at a.q a.id _ C.raw c.requires.0 c.requires.2 _ a.used (omega (arith, c.requires.6, c.coded_value.auto.side)) (e ∙ ap (settle (field_at a.id)) C.right),
      record { same = C.same; up = omega arith },
      omega (arith, C.raw.within.0),
    )

pub returns-then-keeps_text : goal.returns-then-keeps_text
returns-then-keeps_text c =
    let a = c.args in
    let C = c.in_ok-coded.ensures in
    let z = c.in_ok-coded.coded.end in
    let side = c.coded_value.new.side in
    let n = sym c.is_absent.ensures ∙ c.if-is_absent.false in
    let e = settled_some (field_at a.id) _ n in (
      in_side a.page.now a.at a.q a.id _ C.raw c.requires.0 c.requires.2 side a.used z (not_empty (field_at a.id) side a.used z C.within.0 n) C.within.1
          (omega (arith, c.requires.7, c.coded_value.auto.side)) C.right e (c.keeps_text.ensures c.if-keeps_text.true),
      record { same = C.same; up = C.within.0 },
      omega (arith, C.short),
    )
