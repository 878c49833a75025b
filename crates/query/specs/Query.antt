-- The corrected query: functions that follow figures 4 to 6, as equations without a budget; and such functions, worked out on a
-- budget that is never used up.
use Rattle.std.specs.Prelude.{ℕ, zero, suc, ◌*◌, ◌≤◌, ◌<◌, ◌≡◌, Bool, true, List, [], ◌∷◌, length, get_or}
use Rattle.sorts.specs.declared.Status.{Status}
use Rattle.sorts.specs.Numbers.{speakers, grants, conclusions}
use Rattle.sorts.specs.RowForm.{RowForm}
use Rattle.sorts.specs.Flags.{StatusRange}
use Rattle.rows.specs.Written.{Grant}
use Rattle.rows.specs.Numbering.{has}
use Rattle.rows.specs.Form.{no_grant}
use Rattle.rules.specs.Standing.{All, Some}
use Rattle.machine.specs.Machine.{State, stands}
use Rattle.machine.specs.Closed.{row_at}
use Rattle.query.specs.Figures.{Chosen, Said, Condition, said2, holds2, query2}

-- What the theorems ask of a state of the plain machine: at most 64 grants are numbered, each once, their rows are in form, and
-- what stands has a number and, for a licence, one of the 16 as issuer. Every state that the machine reaches is so.
pub record Formed (M : State) : Type 0 where
  pub few : length M.N ≤ grants
  pub distinct : (i j : ℕ) → i < length M.N → j < length M.N → get_or M.N i no_grant ≡ get_or M.N j no_grant → i ≡ j
  pub rows : (g : ℕ) → g < length M.N → RowForm g (row_at M g)
  pub within : (by : Status) (g : Grant) → stands M by g ≡ true → (has g M.N ≡ true) × StatusRange by

-- The statements that there are: e of 2,304 conclusions, and "p said e" of 16 principals.
abbrev pub InTruth : ℕ → Type 0
InTruth e = e < conclusions

abbrev pub InSaid : Said → Type 0
InSaid d = (d.speaker < speakers) × (d.what < conclusions)

abbrev pub sayings : ℕ
sayings = speakers * conclusions

-- Nothing stands on the list twice.
abbrev pub Single : {A : Type 0} → List A → Type 0
Single [] = Unit {0}
Single (a ∷ l) = (Some (λ b. a ≡ b) l → ⊥) × Single l

-- Functions Query2 and, of one Said, Holds2 follow the figures: on every list that can come up on a branch they give what the figure
-- gives where its calls are these functions themselves.
pub record Follows (M : State) (C : Chosen) (query : ℕ → List ℕ → Bool) (said : Said → List Said → Bool) : Type 0 where
  -- figures 4 and 5
  pub queried : (e : ℕ) (E : List ℕ) → InTruth e → All InTruth E → Single E → query e E ≡ query2 M C query said e E
  -- figure 6
  pub held : (d : Said) (S : List Said) → InSaid d → All InSaid S → Single S → said d S ≡ said2 M C said d S

-- The figures' recursion, on a budget: how many questions a branch may ask one below the other. A question out of budget is answered
-- `spent`, and that this makes no difference is a theorem: a branch's list can only be lengthened by what is not on it, and so no
-- more often than there are statements.
module _ (M : State) (C : Chosen) (spent : Bool) where
  unfoldable pub said_within : ℕ → Said → List Said → Bool
  said_within zero d S = spent
  said_within (suc k) d S = said2 M C (λ d' S'. said_within k d' S') d S

  unfoldable pub query_within : ℕ → ℕ → List ℕ → Bool
  query_within zero e E = spent
  query_within (suc k) e E = query2 M C (λ e' E'. query_within k e' E') (λ d S. said_within (suc sayings) d S) e E

  -- Query2(.., L, R, ..) and, of one Said, Holds2(.., L, ..): on a budget of one more than there are statements.
  abbrev pub full_query : ℕ → List ℕ → Bool
  full_query e E = query_within (suc conclusions) e E

  abbrev pub full_said : Said → List Said → Bool
  full_said d S = said_within (suc sayings) d S

  -- "A closed condition e is implied by a set L of licenses and a set R of grants if the modified Query algorithm returns true on
  -- input (e, L, R, ∅)."
  abbrev pub implied : ℕ → Bool
  implied e = full_query e []

  -- Holds2(d, L, ∅)
  abbrev pub holds : Condition → Bool
  holds d = holds2 full_said d []
