use native.Mathlib.Omega.{arith}
use Rattle.rows.specs.Words.{concl_word, concl_key, concl_inner, res_word}
use Rattle.rows.proofs.rowwords.concl_word.Goals as goal

pub returns-in-Property : goal.returns-in-Property
unfolding concl_word concl_key concl_inner
returns-in-Property c = (rw c.in-Property.is (omega (arith, c.pack.ensures.0)), omega (arith, c.pack.ensures.1))

pub returns-in-Perm : goal.returns-in-Perm
unfolding concl_word concl_key concl_inner res_word
returns-in-Perm c = (rw c.in-Perm.is c.res_word.ensures.0, c.res_word.ensures.1)
