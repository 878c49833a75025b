-- Document 02, 5: "A query answers permitted when the conclusion stands under every choice of which provisional licences become firm,
-- not permitted when it stands under none, and open otherwise." What that means, by closed sets.
use Rattle.std.specs.Prelude.{ℕ}
use Rattle.machine.specs.Machine.{State}
use Rattle.machine.specs.Closed.{Choice, Stands, Lacking}

-- Permitted: "when the conclusion stands under every choice".
abbrev pub AlwaysStands : State → ℕ → Type 1
AlwaysStands M n = (C : Choice) → Stands M C n

-- Not permitted: "exactly when under each choice some closed set lacks the conclusion".
abbrev pub NeverStands : State → ℕ → Type 1
NeverStands M n = (C : Choice) → Lacking M C n

-- Open: it stands under one choice, and under another some closed set lacks it.
pub record Undecided (M : State) (n : ℕ) : Type 1 where
  pub firm : Choice
  pub stands : Stands M firm n
  pub waiting : Choice
  pub lacks : Lacking M waiting n
