use native.Mathlib.Omega.{arith}
use Rattle.rows.specs.Words.{cond_word, cond_key, concl_word}
use Rattle.rows.proofs.rowwords.cond_word.Goals as goal

pub returns : goal.returns
unfolding cond_word cond_key concl_word
returns c = omega (arith, c.concl_word.ensures.0)
