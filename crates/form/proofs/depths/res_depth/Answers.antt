use mathlib.Core.Path.{◌≡◌, sym}
use native.Mathlib.Omega.{arith}
use lib.ListN.{length, get_or-eq_default}
use Rattle.sorts.specs.Numbers.{grants}
use Rattle.form.specs.Inner.Depths.{depth_of_res}
use borrow.Author.Rules.{rules}
use Rattle.form.proofs.depths.res_depth.Goals as goal

pub returns-then-n-lt-ROWS : goal.returns-then-n-lt-ROWS
unfolding depth_of_res
returns-then-n-lt-ROWS c = rw c.in-Issue.is

pub returns-else-n-lt-ROWS : goal.returns-else-n-lt-ROWS
unfolding depth_of_res
returns-else-n-lt-ROWS c = rw c.in-Issue.is (let l : length c.args.depths ≡ grants = search rules in let h = c.if-n-lt-ROWS.false in sym (get_or-eq_default c.args.depths 0 (omega arith)))

pub returns-in-Run : goal.returns-in-Run
unfolding depth_of_res
returns-in-Run c = rw c.in-Run.is

pub returns-in-Export : goal.returns-in-Export
unfolding depth_of_res
returns-in-Export c = rw c.in-Export.is
