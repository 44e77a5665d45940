-- `page::content::count_said` meets its contract: a page number shows a number above 0 where it is there.
-- Assumes nothing.
use mathlib.Core.Path.{refl, sym, ap, ◌∙◌}
use mathlib.Core.List.{List, []}
use Prim.Native.Nat.{ℕ}
use native.Mathlib.Omega.{arith}
use lib.ListN.{get_or}
use Rattle.paper.specs.Lists.{bytes, number}
use Rattle.paper.specs.Fields.{MP, fields_of}
use Rattle.paper.specs.Judging.{or}
use Rattle.markup.specs.Walk.{tags_at}
use Rattle.fields.specs.Places.{field_at}
use Rattle.sheet.specs.Content.{part_from, content_of}
use Rattle.page.proofs.HeadLaws.{numbered, mp_kept, mp_place}
use Rattle.page.proofs.content.count_said.Statement.{statement}
use Rattle.page.proofs.content.count_said.Tie as tie
use borrow.Author.Rules.{rules}

mp-number-requires : tie.Need-mp_number-z-requires
unfolding field_at fields_of
mp-number-requires c κs = (c.before.before.before.requires.0, c.before.before.before.requires.1, omega arith, omega arith)

or-one-requires : tie.Need-or_one-requires
or-one-requires c κs = search rules

returns : tie.Need-returns
unfolding content_of field_at fields_of
returns c =
    let S = c.before.before.before.before.before in
    let ts = tags_at S.args.page.now 0 in
    numbered (field_at 5) (get_or (part_from MP ts) 5 []) _ _ refl refl (mp_kept ts 5 S.requires.1 (omega arith)) c.before.mp_number-z.ensures c.or_one.ensures.0 c.or_one.ensures.1
    ∙ ap (λ (v : List ℕ). number 0 (or v (bytes "1"))) (sym (mp_place ts).z_is)

pub count_said_spec : {M : Type 1} → statement M
count_said_spec = tie.close (tie.spec mp-number-requires or-one-requires returns)
