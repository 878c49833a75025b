use Prim.Native.Nat.{◌+◌, ◌≤◌}
use mathlib.Core.Path.{◌≡◌}
use lib.ListN.{drop}
use Rattle.canonwrite.specs.Segments.{part, seat}
use Rattle.std.specs.Prelude.{sum}
use Rattle.canonwrite.proofs.sorting.seek.Given as goal

abbrev pub invariant-loop-k : goal.invariant-loop-k
invariant-loop-k l =
    let ns = l.fn.lens in
    let x = part l.to l.e l.out in
    (l.at + sum (drop l.k ns) ≤ l.to) × (seat x l.out 0 l.b ns ≡ seat x l.out l.k l.at (drop l.k ns))
