use Rattle.journal.proofs.Rests.{call_rest, line_rest}
use Rattle.journal.proofs.Opening.{called_opened}
use Rattle.journal.proofs.step.Goals as goal

pub record_line-line-requires : goal.record_line-line-requires
record_line-line-requires c = called_opened _ _ _ _ _ _ _ _ _ c.call-answered.ensures

pub returns : goal.returns
returns c = record { call = call_rest c.args.s.now c.args.at c.call-answered.ensures; line = line_rest c.args.n c.args.s.now c.args.at c.call-answered.result.answer c.record_line-line.ensures; next = c.next_place-next.ensures }
