-- The largest of some bytes.
use Rattle.std.specs.Prelude.{ℕ, ◌≤◌, List, get_or}

-- m is the least number that no byte of s is above.
pub record Most (s : List ℕ) (m : ℕ) : Type 0 where
  pub above : (k : ℕ) → get_or s k 0 ≤ m
  pub least : (n : ℕ) → ((k : ℕ) → get_or s k 0 ≤ n) → m ≤ n
