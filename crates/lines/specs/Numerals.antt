-- The pieces in which lines are written, each at once: those of numbers and nets.
use Rattle.std.specs.Prelude.{ℕ, List, [], ◌∷◌, ◌++◌}
use Rattle.marks.specs.declared.Counts.{Counts}
use Rattle.lines.specs.Decimals.{decimal, signed}
use Rattle.lines.specs.Words.{space, newline}

-- Each byte of a list as a piece of its own: "letters, sign and digits directly, each in a write of its own".
unfoldable pub each : List ℕ → List (List ℕ)
each [] = []
each (b ∷ bs) = (b ∷ []) ∷ each bs

-- The pieces of a number in decimal, and the line's end.
abbrev pub last_number : ℕ → List (List ℕ)
last_number n = each (decimal n) ++ (newline ∷ [])

-- The pieces of the two nets of a change, truths first, and the line's end.
abbrev pub net_pieces : Counts → List (List ℕ)
net_pieces c = each (signed c.truths.net) ++ (space ∷ (each (signed c.sayings.net) ++ (newline ∷ [])))
