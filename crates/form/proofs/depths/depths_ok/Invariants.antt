use Rattle.form.proofs.depths.Depths.{Worked}
use Rattle.form.proofs.depths.depths_ok.Given as goal

abbrev pub invariant-loop-i : goal.invariant-loop-i
invariant-loop-i l = Worked l.t.rows l.t.count l.i l.depths
