-- A name that its element has, `=` and a quote, each behind spaces or not.
use mathlib.Core.Path.{◌≡◌, sym, ap, ◌∙◌}
use mathlib.Core.Bool.{true}
use Prim.Native.Nat.{◌<◌}
use native.Mathlib.Omega.{arith}
use lib.ListN.{length, get_or}
use lib.Seq.{slice}
use Rattle.paper.specs.Bytes.{is_letter}
use Rattle.paper.specs.Grammar.{Quote}
use Rattle.paper.specs.Fields.{fields_of}
use Rattle.fields.specs.Places.{kind_at, place_in}
use Rattle.room.proofs.Parts.{part_is}
use Rattle.quoted.proofs.Pieces.{in_it}
use Rattle.quick.proofs.PassedLaws.{no_nought, begins, attr_derives}
use Rattle.quick.proofs.SlotLaws.{uncounted}
use Rattle.quick.proofs.take.any_name.Goals as goal

pub returns-then-is_quote : goal.returns-then-is_quote
returns-then-is_quote c =
    let w = c.args.page.now in
    let a = c.args.a in
    let k = kind_at c.args.kind in
    let e = c.run-e.result in
    let u = c.run-u.result in
    let v = c.run-v.result in
    let q = c.byte_or-quote.result in
    let eq : get_or w u 0 ≡ 61 = sym c.byte_or-2.ensures ∙ c.if-byte_or-ne61.false in
    let ul : u < length w = in_it w u (λ z. omega (arith, eq, z)) in
    let op = c.byte_or-quote.ensures in
    let qu : Quote q = c.is_quote.ensures c.if-is_quote.true in
    let vl : v < length w = in_it w v (λ z. no_nought q qu (op ∙ z)) in
    let R = c.run-e.ensures in
    let U = c.run-u.ensures in
    let V = c.run-v.ensures in
    let b = c.byte_or.ensures in
    let l : is_letter (get_or w a 0) ≡ true = rw b at (c.is_letter.ensures c.if-not-is_letter.false) in
    let ae = begins w a e l R.0 in
    let F = c.field_by-field in
    record {
      name = slice a e w;
      within = (omega (arith, ae, U.1, V.1), omega (arith, vl));
      quoted = qu;
      field = F.ensures.0 ∙ ap (λ m. place_in m (fields_of k)) (part_is w a e);
      known = uncounted k F.result _ c.count_in.ensures.0 c.if-field-count_in.false;
      derives = λ z h. attr_derives w a e u v q z l R.0 ae U.0 U.1 ul eq V.0 V.1 vl (sym op) qu h;
    }
