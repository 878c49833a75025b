use Rattle.lines.proofs.digits.Signs.{minus_signed, plus_signed}
use Rattle.lines.proofs.digits.sign.Goals as goal

pub returns-then-z-lt0 : goal.returns-then-z-lt0
returns-then-z-lt0 c = minus_signed c.args.z c.ranges.z c.if-z-lt0.true

pub returns : goal.returns
returns c = plus_signed c.args.z c.ranges.z c.if-z-lt0.false
