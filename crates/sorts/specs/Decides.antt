-- A test says whether something holds: true where it does, false where it does not.
use Rattle.std.specs.Prelude.{Bool, true, false}

abbrev pub Decides : Bool → Type 0 → Type 0
Decides true A = A
Decides false A = A → ⊥
