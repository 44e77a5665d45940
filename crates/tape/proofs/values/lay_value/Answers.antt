-- The value stands at the beginning of the scratch, and counts unless it is a dose of exactly "0".
use Rattle.std.proofs.Common.{◌≡◌, ◌+◌, ◌≤◌, ℕ, List, length, take, sym, ap, ◌∙◌}
use mathlib.Core.Path.{subst}
use native.Mathlib.Nat.{add-zero}
use lib.Seq.{slice}
use Rattle.paper.specs.Values.{value}
use Rattle.room.specs.Laid.{laid}
use Rattle.tape.specs.Making.{settled}
use Rattle.tape.proofs.ValueLaws.{front, laid_none, zero_value, whole_value}
use Rattle.tape.proofs.values.lay_value.Goals as goal

pub returns-then-is_zero : goal.returns-then-is_zero
returns-then-is_zero c =
    let D = c.decode-k in
    let r = slice c.args.from c.args.to c.args.page.now in
    let d : take D.result D.new.out ≡ value r = front _ _ _ _ D.ensures.0 D.ensures.2 in
    let z = zero_value c.args.id c.rule_of.result r _ c.rule_of.ensures d (sym c.if-is_zero.ensures) in
    (rw (z) (sym (add-zero c.args.n)), rw (z) (sym (laid_none c.args.room.now c.args.n)))

pub lay-requires : goal.lay-requires
lay-requires c =
    let D = c.decode-k in
    let r = slice c.args.from c.args.to c.args.page.now in
    let d : take D.result D.new.out ≡ value r = front _ _ _ _ D.ensures.0 D.ensures.2 in
    let e : take D.result D.new.out ≡ settled c.args.id r = d ∙ sym (whole_value c.args.id c.rule_of.result r _ c.rule_of.ensures d (sym c.if-is_zero.ensures)) in
    subst (λ (v : List ℕ). c.args.n + length v ≤ length c.args.room.now) (sym e) c.requires.4

pub returns : goal.returns
returns c =
    let D = c.decode-k in
    let r = slice c.args.from c.args.to c.args.page.now in
    let d : take D.result D.new.out ≡ value r = front _ _ _ _ D.ensures.0 D.ensures.2 in
    let e : take D.result D.new.out ≡ settled c.args.id r = d ∙ sym (whole_value c.args.id c.rule_of.result r _ c.rule_of.ensures d (sym c.if-is_zero.ensures)) in
    (c.lay.ensures.0 ∙ ap (λ (v : List ℕ). c.args.n + length v) e, c.lay.ensures.1 ∙ ap (laid c.args.room.now c.args.n) e)
