use borrow.Author.Rules.{rules}
use Rattle.form.proofs.depths.Depths.{too_deep, worked_more}
use Rattle.form.proofs.depths.depths_ok.Goals as goal

pub returns-then-d-ge-DEPTHS : goal.returns-then-d-ge-DEPTHS
returns-then-d-ge-DEPTHS c = λ f. too_deep c.args.t.rows c.args.t.count c.requires.0 c.requires.1 c.loop-i.i c.held_depth-d.result c.loop-i.depths c.loop-i-test.true c.loop-i.invariant c.held_depth-d.ensures (search rules) (f c.loop-i.i c.loop-i-test.true)

pub loop-i-preserved : goal.loop-i-preserved
loop-i-preserved c = worked_more c.args.t.rows c.args.t.count c.requires.0 c.requires.1 c.loop-i.i c.held_depth-d.result c.loop-i.depths c.loop-i-test.true c.loop-i.invariant c.held_depth-d.ensures (search rules)
