-- `page::content::number_of` meets its contract: a page number shows a number above 0 where it is there.
-- Assumes nothing.
use mathlib.Core.Path.{refl, sym, ap, ◌∙◌}
use mathlib.Core.List.{List, []}
use Prim.Native.Nat.{ℕ}
use native.Mathlib.Omega.{arith}
use lib.ListN.{get_or}
use Rattle.paper.specs.Lists.{bytes, number}
use Rattle.paper.specs.Fields.{MP, fields_of}
use Rattle.paper.specs.Judging.{or}
use Rattle.markup.specs.Walk.{tags_at}
use Rattle.fields.specs.Places.{field_at}
use Rattle.sheet.specs.Content.{part_from, content_of}
use Rattle.page.proofs.HeadLaws.{numbered, mp_kept, mp_place}
use Rattle.page.proofs.content.number_of.Statement.{statement}
use Rattle.page.proofs.content.number_of.Tie as tie
use borrow.Author.Rules.{rules}

mp-number-requires : tie.Need-mp_number-a-requires
unfolding field_at fields_of
mp-number-requires c κs = (c.before.before.before.requires.0, c.before.before.before.requires.1, omega arith, omega arith)

or-one-requires : tie.Need-or_one-requires
or-one-requires c κs = search rules

returns : tie.Need-returns
unfolding content_of field_at fields_of
returns c =
    let S = c.before.before.before.before.before in
    let ts = tags_at S.args.page.now 0 in
    numbered (field_at 4) (get_or (part_from MP ts) 4 []) _ _ refl refl (mp_kept ts 4 S.requires.1 (omega arith)) c.before.mp_number-a.ensures c.or_one.ensures.0 c.or_one.ensures.1
    ∙ ap (λ (v : List ℕ). number 0 (or v (bytes "1"))) (sym (mp_place ts).a_is)

pub number_of_spec : {M : Type 1} → statement M
number_of_spec = tie.close (tie.spec mp-number-requires or-one-requires returns)
