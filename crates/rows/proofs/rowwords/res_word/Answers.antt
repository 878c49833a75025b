use native.Mathlib.Omega.{arith}
use borrow.Author.Tests.{eq-eqb, ne_eqb}
use Rattle.rows.specs.Words.{res_word, res_key, res_inner}
use Rattle.rows.proofs.rowwords.res_word.Goals as goal

pub returns-then-g : goal.returns-then-g
unfolding res_word res_key res_inner
returns-then-g c = (rw (c.in-Issue.is, eq-eqb _ _ c.if-g.true) (omega (arith, c.pack.ensures.0)), omega (arith, c.pack.ensures.1))

pub returns-else-g : goal.returns-else-g
unfolding res_word res_key res_inner
returns-else-g c = (rw (c.in-Issue.is, ne_eqb _ _ c.if-g.false) (omega (arith, c.pack-in-Issue.ensures.0)), omega (arith, c.pack-in-Issue.ensures.1))

pub returns-in-Run : goal.returns-in-Run
unfolding res_word res_key res_inner
returns-in-Run c = (rw c.in-Run.is (omega (arith, c.pack-in-Run.ensures.0)), omega (arith, c.pack-in-Run.ensures.1))

pub returns-in-Export : goal.returns-in-Export
unfolding res_word res_key res_inner
returns-in-Export c = (rw c.in-Export.is (omega (arith, c.pack-in-Export.ensures.0)), omega (arith, c.pack-in-Export.ensures.1))
