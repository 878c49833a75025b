use Prim.Native.Nat.{ℕ, ◌+◌, ◌%◌, ◌≤◌, Ordering}
use mathlib.Core.Path.{◌≡◌}
use Rattle.ascending.specs.Inner.Words.{Told, by_word, word}
use Rattle.ascending.proofs.below.Given as goal

abbrev pub invariant-loop-a : goal.invariant-loop-a
invariant-loop-a l = (l.a % 256 ≤ l.i) × (l.b % 256 ≤ l.i) × ((f : ℕ → ℕ → Ordering) → Told f l.words (l.i + 1) → by_word f (word l.words l.i (l.j + 1)) (word l.words l.i (l.j + 2)) ≡ by_word f l.a l.b)

abbrev pub decreases-loop-a : goal.decreases-loop-a
decreases-loop-a l = l.a % 256
