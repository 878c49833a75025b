-- What writing a form answers: of a buffer that has no room for so many bytes, nothing, and the buffer stays; of any other, the two
-- places of the model, and every byte is the model's.
use Rattle.std.specs.Prelude.{ℕ, ◌≤◌, ◌<◌, ◌≡◌, Option, Some, None, List, length}
use Rattle.canonwrite.specs.declared.Place.{Place}
use Rattle.canonwrite.specs.Buffer.{Spot}

abbrev pub Answers : ℕ → Spot → List ℕ → List ℕ → Option Place → Type 0
Answers most m before after None = (length before < most) × (after ≡ before)
Answers most m before after (Some p) = (most ≤ length before) × (record { out = after; at = p.at; to = p.to } ≡ m)
