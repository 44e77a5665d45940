use Rattle.std.proofs.Common.{◌≡◌, ◌≤◌, ◌∙◌, ℕ, List, [], length, arith, refl, sym, ap, Some, None}
use Rattle.paper.specs.Judging.{Sheet}
use Rattle.paper.specs.Reading.{page10, joined}
use Rattle.paper.specs.Calls.{pages_at}
use Rattle.reader.specs.Joining.{said, first_other, count_said, plan_in, no_plan}
use Rattle.reader.proofs.ReadingLaws.{joins, other_head, number_twice, number_missing, too_many, the_plan_lem, low_is, rows_counted, text_fits}
use Rattle.reader.proofs.TakenLaws.{none_refused}
use Rattle.reader.proofs.reading.read_tapes.Goals as goal

pub overflow_cast-result : goal.overflow_cast-result
overflow_cast-result c =
    let a = c.args in
    let l : List Sheet = said a.buffer.now a.starts.now a.lens.now in
    let J = joins a.rows.now a.text.now a.buffer.now a.starts.now a.lens.now c.requires.0 c.requires.1 (none_refused c.requires.2) in
    let H = c.heads-compared in
    let other = rw c.in-Some.is at H.ensures.0 in
    omega (arith, other.0, J.other_small)

pub returns-in-Some : goal.returns-in-Some
returns-in-Some c =
    let a = c.args in
    let l : List Sheet = said a.buffer.now a.starts.now a.lens.now in
    let J = joins a.rows.now a.text.now a.buffer.now a.starts.now a.lens.now c.requires.0 c.requires.1 (none_refused c.requires.2) in
    let H = c.heads-compared in
    let other = rw c.in-Some.is at H.ensures.0 in
    record { answer_is = J.join_is ∙ other_head l J.some_sheets _ other.0 (λ z. omega (arith, z, other.1)); rows_are = refl; text_is = refl }

pub overflow_cast-result-in-Some-twice : goal.overflow_cast-result-in-Some-twice
overflow_cast-result-in-Some-twice c =
    let a = c.args in
    let l : List Sheet = said a.buffer.now a.starts.now a.lens.now in
    let J = joins a.rows.now a.text.now a.buffer.now a.starts.now a.lens.now c.requires.0 c.requires.1 (none_refused c.requires.2) in
    let H = c.heads-compared in
    let again = c.in-Some-twice.ensures l (sym H.ensures.2) in
    omega (arith, again.0, J.again_small)

pub returns-in-Some-twice : goal.returns-in-Some-twice
returns-in-Some-twice c =
    let a = c.args in
    let l : List Sheet = said a.buffer.now a.starts.now a.lens.now in
    let J = joins a.rows.now a.text.now a.buffer.now a.starts.now a.lens.now c.requires.0 c.requires.1 (none_refused c.requires.2) in
    let H = c.heads-compared in
    let alike : 0 ≡ first_other l = sym (rw c.in_default.is at H.ensures.0) in
    let again = c.in-Some-twice.ensures l (sym H.ensures.2) in
    record { answer_is = J.join_is ∙ number_twice l J.some_sheets alike _ again.0 (λ z. omega (arith, z, again.1)); rows_are = refl; text_is = refl }

pub returns-in-Some-lowest_missing : goal.returns-in-Some-lowest_missing
returns-in-Some-lowest_missing c =
    let a = c.args in
    let l : List Sheet = said a.buffer.now a.starts.now a.lens.now in
    let J = joins a.rows.now a.text.now a.buffer.now a.starts.now a.lens.now c.requires.0 c.requires.1 (none_refused c.requires.2) in
    let H = c.heads-compared in
    let alike : 0 ≡ first_other l = sym (rw c.in_default.is at H.ensures.0) in
    let once : 0 ≡ page10 [] 1 l = sym (c.in_default-twice.ensures l (sym H.ensures.2)) in
    let low = low_is l c.have.result H.result.count c.missing_mask.result (Some c.in-Some-lowest_missing.lowest) H.ensures.1 J.small (c.have.ensures l (sym H.ensures.2)) c.missing_mask.ensures c.in-Some-lowest_missing.ensures in
    record { answer_is = J.join_is ∙ number_missing l J.some_sheets alike once _ low.0 (λ z. omega (arith, z, low.1)); rows_are = refl; text_is = refl }

pub total_rows-requires : goal.total_rows-requires
total_rows-requires c =
    let a = c.args in
    let l : List Sheet = said a.buffer.now a.starts.now a.lens.now in
    let J = joins a.rows.now a.text.now a.buffer.now a.starts.now a.lens.now c.requires.0 c.requires.1 (none_refused c.requires.2) in
    let H = c.heads-compared in
    (J.nine, c.requires.2, sym H.ensures.2, omega (arith, H.ensures.1, J.small))

pub returns-then-total_rows-gt-ROWS : goal.returns-then-total_rows-gt-ROWS
returns-then-total_rows-gt-ROWS c =
    let a = c.args in
    let l : List Sheet = said a.buffer.now a.starts.now a.lens.now in
    let J = joins a.rows.now a.text.now a.buffer.now a.starts.now a.lens.now c.requires.0 c.requires.1 (none_refused c.requires.2) in
    let H = c.heads-compared in
    let alike : 0 ≡ first_other l = sym (rw c.in_default.is at H.ensures.0) in
    let once : 0 ≡ page10 [] 1 l = sym (c.in_default-twice.ensures l (sym H.ensures.2)) in
    let low = low_is l c.have.result H.result.count c.missing_mask.result None H.ensures.1 J.small (c.have.ensures l (sym H.ensures.2)) c.missing_mask.ensures c.in_default-lowest_missing.ensures in
    let counted : c.total_rows.result ≡ length (joined l 1 (count_said l)) = c.total_rows.ensures ∙ ap (λ (z : ℕ). length (joined l 1 z)) H.ensures.1 in
    record { answer_is = J.join_is ∙ too_many l J.some_sheets alike once (sym low) (omega (arith, counted, c.if-total_rows-gt-ROWS.true)); rows_are = refl; text_is = refl }

pub fill_all-plan-requires : goal.fill_all-plan-requires
fill_all-plan-requires c =
    let a = c.args in
    let l : List Sheet = said a.buffer.now a.starts.now a.lens.now in
    let J = joins a.rows.now a.text.now a.buffer.now a.starts.now a.lens.now c.requires.0 c.requires.1 (none_refused c.requires.2) in
    let H = c.heads-compared in
    let alike : 0 ≡ first_other l = sym (rw c.in_default.is at H.ensures.0) in
    let once : 0 ≡ page10 [] 1 l = sym (c.in_default-twice.ensures l (sym H.ensures.2)) in
    let low = low_is l c.have.result H.result.count c.missing_mask.result None H.ensures.1 J.small (c.have.ensures l (sym H.ensures.2)) c.missing_mask.ensures c.in_default-lowest_missing.ensures in
    let counted : c.total_rows.result ≡ length (joined l 1 (count_said l)) = c.total_rows.ensures ∙ ap (λ (z : ℕ). length (joined l 1 z)) H.ensures.1 in
    let few : length (joined l 1 (count_said l)) ≤ 256 = omega (arith, counted, c.if-total_rows-gt-ROWS.false) in
    let plan = J.join_is ∙ the_plan_lem l J.some_sheets alike once (sym low) few in (
      J.some_starts,
      J.nine,
      c.requires.2,
      sym H.ensures.2,
      H.ensures.1,
      omega (arith, H.ensures.1, J.small),
      rows_counted l J.some_sheets few,
      J.row_room,
      text_fits (pages_at a.buffer.now a.starts.now a.lens.now) _ (sym J.read_is ∙ plan),
      J.text_room_lem,
    )

pub returns : goal.returns
returns c =
    let a = c.args in
    let l : List Sheet = said a.buffer.now a.starts.now a.lens.now in
    let J = joins a.rows.now a.text.now a.buffer.now a.starts.now a.lens.now c.requires.0 c.requires.1 (none_refused c.requires.2) in
    let H = c.heads-compared in
    let alike : 0 ≡ first_other l = sym (rw c.in_default.is at H.ensures.0) in
    let once : 0 ≡ page10 [] 1 l = sym (c.in_default-twice.ensures l (sym H.ensures.2)) in
    let low = low_is l c.have.result H.result.count c.missing_mask.result None H.ensures.1 J.small (c.have.ensures l (sym H.ensures.2)) c.missing_mask.ensures c.in_default-lowest_missing.ensures in
    let counted : c.total_rows.result ≡ length (joined l 1 (count_said l)) = c.total_rows.ensures ∙ ap (λ (z : ℕ). length (joined l 1 z)) H.ensures.1 in
    let few : length (joined l 1 (count_said l)) ≤ 256 = omega (arith, counted, c.if-total_rows-gt-ROWS.false) in
    let plan = J.join_is ∙ the_plan_lem l J.some_sheets alike once (sym low) few in
    let F = c.fill_all-plan in
    record { plan = plan_in l no_plan; answer_is = plan; plan_is = F.ensures.0; rows_are = F.ensures.2; text_is = F.ensures.1 }
