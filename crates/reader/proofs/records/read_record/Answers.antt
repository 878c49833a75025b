use mathlib.Core.Path.{◌∙◌}
use Rattle.reader.proofs.Whole.{record_no, record_got}
use Rattle.reader.proofs.Record.{reads_over, reads_within}
use borrow.Author.Rules.{rules}
use Rattle.reader.proofs.records.read_record.Goals as goal

pub returns-then-t-gt-ROWS : goal.returns-then-t-gt-ROWS
returns-then-t-gt-ROWS c = reads_over _ _ _ c.if-t-gt-ROWS.true c.refused.ensures

pub returns-in-Ok : goal.returns-in-Ok
returns-in-Ok c = reads_within _ _ _ (search rules) (c.read_framed.ensures ∙ record_got _ _ _ _ c.in-Ok.ensures.0)

pub returns-in-Err : goal.returns-in-Err
returns-in-Err c = reads_within _ _ _ (search rules) (c.refused-in-Err.ensures ∙ record_no _ _ _ c.in-Err.ensures)
