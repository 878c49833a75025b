use Rattle.std.proofs.Common.{◌≡◌, ◌+◌, ◌-◌, length}
use Rattle.streams.specs.Inputs.{Gave}
use Rattle.streams.proofs.input.read_all.Given as goal

abbrev pub invariant-loop-n : goal.invariant-loop-n
invariant-loop-n g l = (length l.buf ≡ length l.fn.buf) × Gave (g.R.Read.remaining l.fn.reader) (g.R.Read.remaining l.reader) l.buf l.n

-- What is left to do: bytes to come, and interrupted reads that may be made again.
abbrev pub decreases-loop-n : goal.decreases-loop-n
decreases-loop-n g l = (length l.buf - l.n) + l.tries
