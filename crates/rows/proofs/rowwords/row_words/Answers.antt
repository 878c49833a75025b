use native.Mathlib.Omega.{arith}
use Rattle.rows.specs.Words.{row_word, header_word}
use Rattle.rows.proofs.rowwords.Six.{six}
use Rattle.rows.proofs.rowwords.row_words.Goals as goal

pub returns : goal.returns
unfolding row_word header_word
returns c = six _ (omega (arith, c.pack.ensures.0)) c.cond_word.ensures c.cond_word-2.ensures c.cond_word-3.ensures c.cond_word-4.ensures c.concl_word.ensures.0
