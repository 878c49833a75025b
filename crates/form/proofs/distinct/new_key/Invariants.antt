use Prim.Native.Nat.{ℕ, ◌<◌, ◌≤◌}
use mathlib.Core.Path.{◌≡◌}
use lib.ListN.{get_or}
use Rattle.form.proofs.distinct.new_key.Given as goal

abbrev pub invariant-loop-x : goal.invariant-loop-x
invariant-loop-x l = (l.same ≤ l.x-index) × (l.same ≡ 0 → (i : ℕ) → i < l.x-index → get_or l.keys i 0 ≡ l.k → ⊥)
