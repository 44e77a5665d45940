use Rattle.std.proofs.Common.{◌≤◌, length, arith}
use Rattle.paper.specs.Calls.{pages_at}
use Rattle.paper.proofs.CallLaws.{pages_count}
use Rattle.reader.proofs.JoiningLaws.{page_fits, head_place, rows_place, rows_few, plan_made}
use Rattle.reader.proofs.TakenLaws.{called, read_at}
use Rattle.reader.proofs.joining.fill_all.Goals as goal

pub find_head-places-requires : goal.find_head-places-requires
find_head-places-requires c = read_at c.requires.2 0 (omega arith) c.page_at-first.ensures

pub lay_head-head-requires : goal.lay_head-head-requires
lay_head-head-requires c =
    let a = c.args in
    let f = page_fits {i = 0} (called c.requires.2) (omega arith) c.page_at-first.ensures in
    let h = pages_count a.buffer.now a.starts.now a.lens.now c.requires.2.lie in
    (c.find_head-places.ensures, f.fit, head_place (pages_at a.buffer.now a.starts.now a.lens.now) a.z (omega (arith, h)) c.requires.4 _ _ c.page_at-first.ensures c.requires.8 c.requires.9)

pub fill_pages-filled-requires : goal.fill_pages-filled-requires
fill_pages-filled-requires c =
    let a = c.args in
    let H = c.lay_head-head in
    let h = pages_count a.buffer.now a.starts.now a.lens.now c.requires.2.lie in
    let l : 12600 ≤ length H.new.text = omega (arith, c.requires.9, H.auto.text) in
    let P = rows_place (pages_at a.buffer.now a.starts.now a.lens.now) a.z (omega (arith, h)) c.requires.4 _ H.new.text a.rows.now _ c.page_at-first.ensures c.requires.6 c.requires.7 c.requires.8 l H.ensures.end_is in
    (c.requires.1, c.requires.2, c.requires.3, c.requires.5, P.room, P.records)

pub overflow_cast-result : goal.overflow_cast-result
overflow_cast-result c =
    let a = c.args in
    let h = pages_count a.buffer.now a.starts.now a.lens.now c.requires.2.lie in
    let f = rows_few (pages_at a.buffer.now a.starts.now a.lens.now) a.z (omega (arith, h)) c.requires.4 c.requires.6 in
    omega (arith, c.fill_pages-filled.ensures.next_is, f)

pub returns : goal.returns
returns c =
    let a = c.args in
    let h = pages_count a.buffer.now a.starts.now a.lens.now c.requires.2.lie in
    plan_made (pages_at a.buffer.now a.starts.now a.lens.now) a.z (omega (arith, h)) c.requires.4 _ a.text.now _ _ a.rows.now _ _ _ _ _ _ c.page_at-first.ensures (omega (arith, c.requires.8, c.requires.9)) c.lay_head-head.ensures c.fill_pages-filled.ensures
