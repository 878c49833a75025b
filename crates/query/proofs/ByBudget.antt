-- By budget alone, without the lists, the answers are the same.
use mathlib.Core.Path.{◌≡◌, refl, sym, ap, ◌∙◌}
use mathlib.Core.Bool.{Bool, false, cond}
use mathlib.Core.List.{List, [], ◌∷◌, ◌++◌}
use Prim.Native.Nat.{ℕ, zero, suc}
use native.Mathlib.Omega.{arith}
use lib.Dec.{eqb}
use Rattle.sorts.specs.Numbers.{conclusions}
use Rattle.machine.specs.Machine.{State}
use Rattle.query.specs.Figures.{Chosen, Said, same_said, some, conditions, issued_by, allowed, holds2, licences_in, trusted_in}
use Rattle.query.specs.Query.{InTruth, InSaid, sayings, Formed, said_within, query_within, full_said}
use Rattle.query.specs.ByBudget.{said_by_budget, query_by_budget, SameByBudget}
use Rattle.query.proofs.Search.{walk, rounds, rounds_same, walk_same}
use Rattle.query.proofs.Conditions.{every, some_same, every_same, holds_every}
use Rattle.query.proofs.Steps.{said_step, query_step, said_search, query_search}
use Rattle.query.proofs.Follows.{said_figure, query_figure, same_said_lem, budget_ends}

module _ (M : State) (C : Chosen) where
  -- what is asked by budget alone is the rounds from nothing up
  said_rounds : (k : ℕ) (d : Said) → said_by_budget M C false k d ≡ rounds (said_step M C) k d
  unfolding said_by_budget
  said_rounds zero d = refl
  said_rounds (suc k) d =
      some_same (λ d'. holds2 (λ dᵢ S. said_by_budget M C false k dᵢ) d' []) (every (rounds (said_step M C) k))
      (λ d'. holds_every (λ dᵢ S. said_by_budget M C false k dᵢ) d' [] ∙ every_same (said_by_budget M C false k) (rounds (said_step M C) k) (said_rounds k) d')
      (conditions M.N (issued_by d.speaker (licences_in M C)) d.what)

  allowed_same : (a b : ℕ → Bool) → ((e : ℕ) → a e ≡ b e) → allowed M a (licences_in M C) ≡ allowed M b (licences_in M C)
  allowed_same a b h = ap (λ (c : ℕ → Bool). allowed M c (licences_in M C)) (λ i e. h e i)

  abbrev ok : Said → Bool
  ok d = said_by_budget M C false (suc sayings) d

  query_rounds : (k e : ℕ) → query_by_budget M C false k e ≡ rounds (query_step M C ok) k e
  unfolding query_by_budget
  query_rounds zero e = refl
  query_rounds (suc k) e =
      some_same (λ d. holds2 (λ dᵢ S. ok dᵢ) d []) (every ok) (λ d. holds_every (λ dᵢ S. ok dᵢ) d [])
      (conditions M.N (trusted_in M ++ allowed M (λ e'. query_by_budget M C false k e') (licences_in M C)) e)
      ∙ ap (λ R. some (every ok) (conditions M.N (trusted_in M ++ R) e)) (allowed_same (λ e'. query_by_budget M C false k e') (rounds (query_step M C ok) k) (query_rounds k))

  -- what is asked with the lists is the search
  said_walk : (k : ℕ) (d : Said) (S : List Said) → said_within M C false k d S ≡ walk same_said (said_step M C) k d S
  unfolding said_within
  said_walk zero d S = refl
  said_walk (suc k) d S =
      said_figure M C (λ d' S'. said_within M C false k d' S') d S
      ∙ ap (λ (a : Said → Bool). cond (some (same_said d) S) false (said_step M C a d)) (λ i d'. said_walk k d' (d ∷ S) i)

  abbrev ok' : Said → Bool
  ok' d = full_said M C false d []

  query_walk : (k e : ℕ) (E : List ℕ) → query_within M C false k e E ≡ walk eqb (query_step M C ok') k e E
  unfolding query_within
  query_walk zero e E = refl
  query_walk (suc k) e E =
      query_figure M C (full_said M C false) (λ e' E'. query_within M C false k e' E') e E
      ∙ ap (λ (a : ℕ → Bool). cond (some (eqb e) E) false (query_step M C ok' a e)) (λ i e'. query_walk k e' (e ∷ E) i)

module _ (M : State) (C : Chosen) (F : Formed M) where
  said_same_budget : (k : ℕ) (d : Said) → InSaid d → said_by_budget M C false k d ≡ said_within M C false k d []
  said_same_budget k d r = said_rounds M C k d ∙ rounds_same (said_search M C F) k d r ∙ sym (said_walk M C k d [])

  query_same_budget : (k e : ℕ) → InTruth e → query_by_budget M C false k e ≡ query_within M C false k e []
  query_same_budget k e r =
      query_rounds M C k e
      ∙ rounds_same (query_search M C F (ok M C)) k e r
      ∙ sym (walk_same (query_search M C F (ok M C)) (query_step M C (ok' M C)) (same_said_lem M C F (ok' M C) (ok M C) (λ d i. sym (said_same_budget (suc sayings) d i))) k e [] r)
      ∙ sym (query_walk M C k e [])

  pub by_budget_lem : SameByBudget M C
  by_budget_lem = record {
    queried = query_same_budget;
    held = said_same_budget;
    full = λ spent e r. query_same_budget (suc conclusions) e r ∙ (budget_ends M C F).queried false spent (suc conclusions) e (omega arith) r;
  }
