-- The answer of a query.
use Rattle.std.specs.Prelude.{ℕ, cond, List, get_or, eqb}
use Rattle.bookform.specs.declared.answer.Answer.{Answer}
use Rattle.bookform.specs.declared.answer.Answer.TheVariants.{Permitted, Open, NotPermitted}

-- "QU reads its mark": the answer for the closed conclusion with number c. Document 02, 5: "a query takes its answer from the second
-- buffer only where its mark in the first is 0".
abbrev pub answer_at : List ℕ → List ℕ → ℕ → Answer
answer_at m k c = cond (eqb (get_or m c 0) 1) Permitted (cond (eqb (get_or k c 0) 1) Open NotPermitted)
