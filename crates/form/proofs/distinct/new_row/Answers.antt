use native.Mathlib.Omega.{arith}
use mathlib.Core.Path.{◌≡◌}
use lib.ListN.{length}
use Rattle.sorts.specs.Numbers.{grants}
use borrow.Author.Rules.{rules}
use Rattle.rows.proofs.Deciding.{length_mapped}
use Rattle.form.proofs.distinct.Distinct.{none_before}
use Rattle.form.proofs.distinct.new_row.Goals as goal

pub returns : goal.returns
returns c =
    let l : length c.args.t.rows ≡ grants = search (rules, length_mapped) in
    none_before c.args.t.rows c.args.i _ c.contains.result (omega arith) c.contains.ensures.cases
