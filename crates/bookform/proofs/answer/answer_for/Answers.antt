use borrow.Author.Tests.{eq-eqb, ne_eqb}
use Rattle.bookform.proofs.answer.answer_for.Goals as goal

pub returns-then-marks-i-eq1 : goal.returns-then-marks-i-eq1
returns-then-marks-i-eq1 c = rw (← c.from.ensures, ← c.truth-i.ensures, eq-eqb _ _ c.if-marks-i-eq1.true)

pub returns-then-second-i-eq1 : goal.returns-then-second-i-eq1
returns-then-second-i-eq1 c = rw (← c.from.ensures, ← c.truth-i.ensures, ne_eqb _ _ c.if-marks-i-eq1.false, eq-eqb _ _ c.if-second-i-eq1.true)

pub returns-else-second-i-eq1 : goal.returns-else-second-i-eq1
returns-else-second-i-eq1 c = rw (← c.from.ensures, ← c.truth-i.ensures, ne_eqb _ _ c.if-marks-i-eq1.false, ne_eqb _ _ c.if-second-i-eq1.false)
