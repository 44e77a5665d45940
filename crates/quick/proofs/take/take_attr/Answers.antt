-- A name, a value, and its two numbers put into the slot of its field, which was free.
use mathlib.Core.Path.{◌≡◌, refl, sym, ap, ◌∙◌}
use Prim.Native.Nat.{◌+◌, ◌*◌}
use native.Mathlib.Omega.{arith}
use lib.ListN.{get_or, set}
use lib.Seq.{slice}
use borrow.Author.Tests.{eqb-true}
use Rattle.paper.specs.Fields.{fields_of}
use Rattle.fields.specs.Places.{kind_at, place_in, first_of}
use Rattle.fields.proofs.ColumnLaws.{part_within}
use Rattle.quick.proofs.SlotLaws.{counted, small_span, valued_by}
use Rattle.quick.proofs.take.take_attr.Goals as goal

pub overflow_mul-s : goal.overflow_mul-s
overflow_mul-s c = omega (arith, c.in_ok-named.ensures.known, c.requires.5, c.requires.6)

pub overflow_add-s : goal.overflow_add-s
overflow_add-s c = omega (arith, c.in_ok-named.ensures.known, c.requires.5, c.requires.6)

pub is_free-requires : goal.is_free-requires
is_free-requires c = omega (arith, c.in_ok-named.ensures.known, c.requires.5)

pub overflow_add-id : goal.overflow_add-id
overflow_add-id c =
    let h = counted (kind_at c.args.kind) _ c.in_ok-named.ensures.known in
    omega (arith, h, part_within c.args.kind c.requires.2, c.first_in.ensures)

pub take_value-requires : goal.take_value-requires
take_value-requires c =
    let N = c.in_ok-named.ensures in
    let h = counted (kind_at c.args.kind) _ N.known in
    (omega (arith, N.within.0), N.within.1, c.requires.1, N.quoted, omega (arith, h, part_within c.args.kind c.requires.2, c.first_in.ensures), c.requires.4, c.requires.7, c.requires.8)

pub put-requires : goal.put-requires
put-requires c =
    let s = small_span c.args.page.now _ _ _ c.requires.1 c.in_ok-judged.ensures.0.span in
    (omega (arith, c.in_ok-named.ensures.known, c.requires.5), s.0, s.1)

pub overflow_add-result : goal.overflow_add-result
overflow_add-result c = omega (arith, c.in_ok-judged.ensures.0.raw.within.1, c.requires.1)

pub returns : goal.returns
returns c =
    let a = c.args in
    let k = kind_at a.kind in
    let w = a.page.now in
    let n = c.in_ok-named.named in
    let N = c.in_ok-named.ensures in
    let J = c.in_ok-judged.judged in
    let E = c.in_ok-judged.ensures in
    let f : n.field ≡ place_in N.name (fields_of k) = N.field in
    let free = eqb-true _ 0 (sym c.is_free.ensures ∙ c.if-not-is_free.false) in
    let id : c.first_in.result + n.field ≡ first_of k + place_in N.name (fields_of k) = rw (c.first_in.ensures, f) in
    record {
      name = N.name;
      raw = slice n.at J.quote w;
      within = (omega (arith, N.within.0, E.0.raw.within.0), omega (arith, E.0.raw.within.1));
      derives = N.derives J.quote E.0.raw;
      at = n.at;
      quote = n.quote;
      end = J.quote;
      raw_is = refl;
      known = omega (arith, f, N.known);
      free = ap (λ x. get_or a.tape.now (a.base + 2 * x) 0) (sym f) ∙ free;
      from = J.start;
      to = J.end;
      value = valued_by id E.0;
      near = omega (arith, E.2, N.within.0);
      tape_is = c.put.ensures ∙ ap (λ x. set (set a.tape.now (a.base + 2 * x) J.start) (a.base + 2 * x + 1) J.end) f;
      grown = E.1;
    }
