-- Figures 4 to 6 without their lists, by budget alone: nothing is under question, and only the budget ends the recursion.
use Rattle.std.specs.Prelude.{ℕ, zero, suc, ◌≡◌, Bool, false, [], ◌++◌}
use Rattle.sorts.specs.Numbers.{conclusions}
use Rattle.machine.specs.Machine.{State}
use Rattle.query.specs.Figures.{Chosen, Said, some, holds2, conditions, issued_by, allowed, licences_in, trusted_in}
use Rattle.query.specs.Query.{InTruth, InSaid, sayings, said_within, query_within, implied}

module _ (M : State) (C : Chosen) (spent : Bool) where
  unfoldable pub said_by_budget : ℕ → Said → Bool
  said_by_budget zero d = spent
  said_by_budget (suc k) d = some (λ d'. holds2 (λ dᵢ S. said_by_budget k dᵢ) d' []) (conditions M.N (issued_by d.speaker (licences_in M C)) d.what)

  unfoldable pub query_by_budget : ℕ → ℕ → Bool
  query_by_budget zero e = spent
  query_by_budget (suc k) e =
      some (λ d. holds2 (λ dᵢ S. said_by_budget (suc sayings) dᵢ) d []) (conditions M.N (trusted_in M ++ allowed M (λ e'. query_by_budget k e') (licences_in M C)) e)

-- Where a question out of budget is answered no, the answers are the same as with the lists, on every budget. So the lists are there
-- to end the recursion, and not for the answers; without them it does matter what a question out of budget is answered.
pub record SameByBudget (M : State) (C : Chosen) : Type 0 where
  pub queried : (k e : ℕ) → InTruth e → query_by_budget M C false k e ≡ query_within M C false k e []
  pub held : (k : ℕ) (d : Said) → InSaid d → said_by_budget M C false k d ≡ said_within M C false k d []
  pub full : (spent : Bool) (e : ℕ) → InTruth e → query_by_budget M C false (suc conclusions) e ≡ implied M C spent e
