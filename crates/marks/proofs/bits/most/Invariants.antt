use Prim.Native.Nat.{ℕ, ◌≤◌, ◌<◌}
use lib.ListN.{get_or}
use Rattle.marks.proofs.bits.most.Given as goal

abbrev pub invariant-loop-b : goal.invariant-loop-b
invariant-loop-b l = ((k : ℕ) → k < l.b-index → get_or l.s k 0 ≤ l.m) × ((n : ℕ) → ((k : ℕ) → get_or l.s k 0 ≤ n) → l.m ≤ n)
