use Rattle.lines.specs.Pieces.{said_pieces}
use Rattle.streams.proofs.output.write_said.Goals as goal

pub returns-in-Changed : goal.returns-in-Changed
returns-in-Changed g c = rw c.in-Changed.is c.write_change.ensures

pub returns-in-Permitted : goal.returns-in-Permitted
unfolding said_pieces
returns-in-Permitted g c = rw c.in-Permitted.is c.write_answer.ensures

pub returns-in-Open : goal.returns-in-Open
unfolding said_pieces
returns-in-Open g c = rw c.in-Open.is c.write_answer-in-Open.ensures

pub returns-in-NotPermitted : goal.returns-in-NotPermitted
unfolding said_pieces
returns-in-NotPermitted g c = rw c.in-NotPermitted.is c.write_answer-in-NotPermitted.ensures

pub returns-in-Refused : goal.returns-in-Refused
unfolding said_pieces
returns-in-Refused g c = rw c.in-Refused.is c.write_refusal.ensures
