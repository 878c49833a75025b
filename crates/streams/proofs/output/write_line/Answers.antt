use Rattle.std.proofs.Common.{[], ◌∷◌, append_assoc}
use Rattle.lines.specs.Decimals.{decimal}
use Rattle.lines.specs.Words.{space}
use Rattle.lines.specs.Numerals.{each}
use Rattle.lines.specs.Pieces.{said_pieces, line_pieces}
use Rattle.streams.proofs.output.Taking.{at_last, broken}
use Rattle.streams.proofs.output.write_line.Goals as goal

pub returns-in_err-write_number-in-Record : goal.returns-in_err-write_number-in-Record
unfolding line_pieces
returns-in_err-write_number-in-Record g c =
    let p = g.met.P.TrackedOutput in
    rw c.in-Record.is
    (broken g.P.TrackedOutput.took g.P.TrackedOutput.broke p.broke_later p.broke_earlier _ _ _ [] _ (said_pieces _) _ c.from_residual.result c.from_residual.ensures.0
    (append_assoc (each (decimal _)) (space ∷ []) (said_pieces _)) (p.took_none _) c.in_err-write_number-in-Record.ensures)

pub returns-in_ok-write_number-in-Record : goal.returns-in_ok-write_number-in-Record
unfolding line_pieces
returns-in_ok-write_number-in-Record g c =
    rw c.in-Record.is
    (at_last g.P.TrackedOutput.took g.P.TrackedOutput.broke g.met.P.TrackedOutput.took_more g.met.P.TrackedOutput.broke_later _ _ _ _ _ _ c.write_said.result (append_assoc (each (decimal _)) (space ∷ []) (said_pieces _)) c.in_ok-write_number-in-Record.ensures
    c.write_said.ensures)

pub returns-in-End : goal.returns-in-End
unfolding line_pieces
returns-in-End g c = rw c.in-End.is c.write_end.ensures

pub returns-in-Refused : goal.returns-in-Refused
unfolding line_pieces
returns-in-Refused g c = rw c.in-Refused.is c.write_refusal.ensures
