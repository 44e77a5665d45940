use Rattle.std.proofs.Common.{◌∙◌, arith, refl, sym}
use Rattle.std.proofs.lemmas.Result.{err_from_is_err_and}
use Rattle.paper.specs.Calls.{pages_at}
use Rattle.reader.proofs.CallFacts.{call_fits_lem}
use Rattle.reader.proofs.ReadingLaws.{is_judged, judged_refused}
use Rattle.reader.proofs.TakenLaws.{sheets_told, blank_again}
use Rattle.reader.proofs.reading.read_on.Goals as goal

pub returns-in_err-judge_all : goal.returns-in_err-judge_all
returns-in_err-judge_all c =
    let a = c.args in
    let p = err_from_is_err_and c.from_residual.result c.from_residual.ensures.1 in
    let e = is_judged a.rows.now a.text.now _ _ _ c.requires.0 c.requires.1 ∙ judged_refused (pages_at a.buffer.now a.starts.now a.lens.now) _ c.in_err-judge_all.ensures in
    rw (p.1, p.2) (record { answer_is = e; rows_are = refl; text_is = refl })

pub lay_all-firsts-requires : goal.lay_all-firsts-requires
lay_all-firsts-requires c =
    let a = c.args in
    let F = call_fits_lem a.buffer.now a.starts.now a.lens.now c.requires.1 in
    let l = c.clear.auto.numbers ∙ c.take_all.auto.tape in (
      F.nine,
      F.lie,
      sheets_told (pages_at a.buffer.now a.starts.now a.lens.now) (sym c.in_ok-judge_all.ensures),
      blank_again _ (omega (arith, c.requires.2.long, l)) c.clear.ensures.1,
      omega (arith, c.requires.3, l),
      omega (arith, c.requires.4, l),
      omega (arith, c.requires.5, c.take_all.auto.side),
      omega (arith, c.requires.6, c.take_all.auto.side),
    )
