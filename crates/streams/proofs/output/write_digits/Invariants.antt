use Rattle.std.proofs.Common.{take}
use Rattle.lines.specs.Decimals.{decimal}
use Rattle.lines.specs.Numerals.{each}
use Rattle.streams.proofs.output.write_digits.Given as goal

abbrev pub invariant-loop-i : goal.invariant-loop-i
invariant-loop-i g l = g.P.TrackedOutput.took l.fn.out l.out (each (take l.i (decimal l.n)))
