use native.Mathlib.Omega.{arith}
use borrow.Author.Rules.{rules}
use Rattle.lines.proofs.digits.Decimals.{decimal_long, decimal_few}
use Rattle.lines.proofs.digits.count.Goals as goal

pub returns : goal.returns
returns c =
    let e = decimal_long c.args.n c.checked_ilog10.result c.checked_ilog10.ensures.none c.checked_ilog10.ensures.power_le c.checked_ilog10.ensures.next_power_gt in
    (omega (arith, e, c.unwrap_or.ensures), omega (arith, e, c.unwrap_or.ensures, decimal_few c.args.n (search rules)))
