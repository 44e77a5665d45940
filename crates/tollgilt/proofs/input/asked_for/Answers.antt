-- What stands before the first zero byte is one to eight digits, or no number is asked for.
use Rattle.std.proofs.Common.{sym, ◌∙◌, rules, arith}
use Rattle.tollgilt.proofs.FindInput.{no_zero, too_few, too_many, no_digits, a_number}
use Rattle.tollgilt.proofs.input.asked_for.Goals as goal
use Rattle.tollgilt.proofs.input.asked_for.Goals.{then-end-input-via-then-end-input, then-end-input-via-else-end-input+then-end-lt1, then-end-input-via-else-end-input+else-end-lt1+then-end-gt8, then-end-input-via-else-end-input+else-end-lt1+else-end-gt8+then-not-all_in}

pub returns-then-end-input : goal.returns-then-end-input
returns-then-end-input c =
    let s = c.args.input.now in
    let n = c.next_page-end in
    elim c.then-end-input.branch [
      | then-end-input-via-then-end-input w ↦ no_zero s n.result n.ensures.0 n.ensures.1 w.if-end-input.true
      | then-end-input-via-else-end-input+then-end-lt1 w ↦ too_few s n.result n.ensures.0 n.ensures.1 w.if-end-lt1.true
      | then-end-input-via-else-end-input+else-end-lt1+then-end-gt8 w ↦ too_many s n.result n.ensures.0 n.ensures.1 w.if-end-gt8.true
      | then-end-input-via-else-end-input+else-end-lt1+else-end-gt8+then-not-all_in w ↦ no_digits s n.result n.ensures.0 n.ensures.1 (sym w.all_in.ensures ∙ w.if-not-all_in.true)
    ]

pub returns : goal.returns
returns c =
    let n = c.next_page-end in
    a_number c.args.input.now n.result n.ensures.0 n.ensures.1 c.if-end-input.false c.if-end-lt1.false c.if-end-gt8.false (sym c.all_in.ensures ∙ c.if-not-all_in.false) c.shown.result c.shown.ensures
