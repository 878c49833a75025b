-- The licences with one grant.
use Rattle.std.specs.Prelude.{ℕ, ◌<◌, ◌≡◌, List}
use Rattle.sorts.specs.declared.Prin.{Prin}
use Rattle.sorts.specs.declared.Status.TheVariants.{Issued, Provisional}
use Rattle.sorts.specs.Numbers.{speakers}
use Rattle.sorts.specs.Flags.{flag}

-- p's is both firm and provisional
abbrev pub Clash : List ℕ → Prin → ℕ → Type 0
Clash flags p g = (flag flags (Issued p) g ≡ 1) × (flag flags (Provisional p) g ≡ 1)

-- none is both
abbrev pub ApartAt : List ℕ → ℕ → Type 0
ApartAt flags g = (p : Prin) → p.0 < speakers → Clash flags p g → ⊥

-- none is provisional
abbrev pub FirmAt : List ℕ → ℕ → Type 0
FirmAt flags g = (p : Prin) → p.0 < speakers → flag flags (Provisional p) g ≡ 0
