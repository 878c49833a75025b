-- The three rules over the plain machine: "closed under the three rules with T as the trusted grants, L as the licences, and a
-- grant's place in N, from 0, as its number". Document 02, 5: "Answers are from now on compared with the closed sets of all those
-- choices", "of which provisional licences become firm".
use Rattle.std.specs.Prelude.{ℕ, ◌<◌, ◌≡◌, true, ◌⊎◌, length, get_or}
use Rattle.sorts.specs.declared.Row.{Row}
use Rattle.sorts.specs.declared.Status.{Status}
use Rattle.sorts.specs.declared.Status.TheVariants.{Trusted, Issued, Provisional}
use Rattle.rows.specs.Written.{Grant}
use Rattle.rows.specs.Form.{no_grant, row_of}
use Rattle.rules.specs.Rules.{ClosedUnder}
use Rattle.machine.specs.Machine.{State, stands}

-- The grant with number g.
abbrev pub grant_at : State → ℕ → Grant
grant_at M g = get_or M.N g no_grant

-- It as a row: "the grant with each inner grant as its number".
abbrev pub row_at : State → ℕ → Row
row_at M g = row_of M.N (grant_at M g)

-- It stands with that status.
abbrev pub StandsAs : State → Status → ℕ → Type 0
StandsAs M by g = (g < length M.N) × (stands M by (grant_at M g) ≡ true)

-- A choice of provisional licences to become firm: any set of issuers and grants. What it says of a licence that is not provisional
-- is never asked.
abbrev pub Choice : Type 1
Choice = ℕ → ℕ → Type 0

-- none of them, and all
abbrev pub none : Choice
none p g = ⊥

abbrev pub all : Choice
all p g = Unit {0}

-- Under a choice p's licence with grant g counts where it is firm, or provisional and chosen.
abbrev pub Licensed : State → Choice → ℕ → ℕ → Type 0
Licensed M C p g = StandsAs M (Issued (record { 0 = p })) g ⊎ (StandsAs M (Provisional (record { 0 = p })) g × C p g)

abbrev pub ClosedSet : State → Choice → (ℕ → Type 0) → Type 0
ClosedSet M C S = ClosedUnder (row_at M) (Licensed M C) (λ g. StandsAs M Trusted g) S

-- A statement stands under a choice when it is in every closed set.
abbrev pub Stands : State → Choice → ℕ → Type 1
Stands M C n = (S : ℕ → Type 0) → ClosedSet M C S → S n

-- Under a choice some closed set lacks it.
abbrev pub Lacking : State → Choice → ℕ → Type 1
Lacking M C n = (S : ℕ → Type 0) × ClosedSet M C S × (S n → ⊥)
