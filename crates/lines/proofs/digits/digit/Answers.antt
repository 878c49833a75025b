use Prim.Native.Nat.{ℕ, ◌+◌, ◌-◌, ◌/◌, ◌%◌}
use mathlib.Core.Path.{sym, ap, ◌∙◌}
use native.Mathlib.Nat.{pow-le-pow_right}
use native.Mathlib.Omega.{arith}
use borrow.Author.Rules.{rules}
use Rattle.lines.proofs.digits.Decimals.{decimal_few, digit_at}
use Rattle.lines.proofs.digits.digit.Goals as goal

pub overflow_cast-after : goal.overflow_cast-after
overflow_cast-after c = omega (arith, decimal_few c.args.n (search rules), c.requires)

pub pow-requires : goal.pow-requires
pow-requires c =
    let few = decimal_few c.args.n (search rules) in
    let p = pow-le-pow_right {n = 10} (omega arith) {i = c.args.d - 1 - c.args.i} {j = 19} (omega (arith, few, c.requires)) in
    omega (arith, p)

pub nonzero_div-result : goal.nonzero_div-result
nonzero_div-result c = let p = pow-le-pow_right {n = 10} (omega arith) {i = 0} {j = c.args.d - 1 - c.args.i} (omega arith) in omega (arith, p, c.pow.ensures)

pub returns : goal.returns
returns c =
    ap (λ (p : ℕ). 48 + c.args.n / p % 10) c.pow.ensures
    ∙ sym (digit_at (c.args.d - 1 - c.args.i) c.args.n c.args.i (omega (arith, c.requires)))
