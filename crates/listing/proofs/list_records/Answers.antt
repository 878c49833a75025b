use Rattle.std.proofs.Common.{◌+◌, arith, refl}
use Rattle.bookform.specs.Books.{fresh_marks}
use Rattle.journal.proofs.places.Places.{next_further}
use Rattle.listings.proofs.Reading.{read_none, read_step, step_follows, end_follows, read_ran}
use Rattle.listing.proofs.Writing.{took_none, so_far_more, took_all}
use Rattle.listing.proofs.list_records.Goals as goal

-- Each buffer of marks starts at 0.
pub loop-at-init : goal.loop-at-init
unfolding fresh_marks
loop-at-init g c =
    (read_none c.args.s.now _ fresh_marks fresh_marks fresh_marks c.new-b.ensures refl refl refl, took_none c.args.s.now _ 0 refl)

pub write_next-all-requires : goal.write_next-all-requires
write_next-all-requires g c = step_follows c.args.s.now c.loop-at.at c.loop-at.lines c.loop-at.invariant.0 c.step-r.result _ _ _ c.loop-at-test.true c.step-r.ensures c.requires

pub loop-at-smaller : goal.loop-at-smaller
loop-at-smaller g c = omega (arith, c.step-r.ensures.next, next_further c.args.s.now c.loop-at.at c.step-r.result.answered.used c.loop-at-test.true)

pub loop-at-preserved : goal.loop-at-preserved
loop-at-preserved g c =
    let s = c.args.s.now in
    let r = c.step-r.result in
    let here = c.loop-at in
    let next = step_follows s here.at here.lines here.invariant.0 r _ _ _ c.loop-at-test.true c.step-r.ensures c.requires in
    (read_step s here.at here.lines here.invariant.0 r _ _ _ c.loop-at-test.true c.step-r.ensures, so_far_more s _ _ _ here.lines r.line here.all c.write_next-all.result next here.invariant.1 c.write_next-all.ensures)

pub write_next-all-requires-2 : goal.write_next-all-requires-2
write_next-all-requires-2 g c = end_follows c.args.s.now c.loop-at.at c.loop-at.lines c.loop-at.invariant.0 c.loop-at-test.false c.requires _ c.end_line.ensures

pub returns-clause-finished : goal.returns-clause-finished
returns-clause-finished g c = read_ran c.args.s.now c.loop-at.at c.loop-at.lines c.loop-at.invariant.0 c.loop-at-test.false c.requires (c.loop-at.lines + 1) refl

pub returns-clause-written : goal.returns-clause-written
returns-clause-written g c =
    let s = c.args.s.now in
    let here = c.loop-at in
    let last = end_follows s here.at here.lines here.invariant.0 c.loop-at-test.false c.requires _ c.end_line.ensures in
    let finished = read_ran s here.at here.lines here.invariant.0 c.loop-at-test.false c.requires (here.lines + 1) refl in
    took_all s _ _ (here.lines + 1) c.write_next-all-2.result finished (so_far_more s _ _ _ here.lines c.end_line.result here.all c.write_next-all-2.result last here.invariant.1 c.write_next-all-2.ensures)
