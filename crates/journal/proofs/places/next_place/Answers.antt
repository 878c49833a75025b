use native.Mathlib.Omega.{arith}
use borrow.Author.Tests.{eq-eqb, ne_eqb}
use Rattle.journal.specs.Places.{next_place}
use Rattle.journal.proofs.places.next_place.Goals as goal

pub returns-then-used-eq0 : goal.returns-then-used-eq0
unfolding next_place
returns-then-used-eq0 c = rw (eq-eqb _ _ c.if-used-eq0.true)

pub returns-then-len-at : goal.returns-then-len-at
unfolding next_place
returns-then-len-at c = rw (ne_eqb _ _ c.if-used-eq0.false) (omega (arith, c.if-len-at.true))

pub returns : goal.returns
unfolding next_place
returns c = rw (ne_eqb _ _ c.if-used-eq0.false) (omega (arith, c.if-len-at.false))
