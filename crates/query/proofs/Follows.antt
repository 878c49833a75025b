-- Whatever follows the figures answers as the closed sets say, and the query on a budget follows them.
use mathlib.Core.Path.{◌≡◌, refl, sym, ap, subst, ◌∙◌}
use mathlib.Core.Bool.{Bool, true, false, cond}
use mathlib.Core.List.{List, [], ◌∷◌, ◌++◌}
use mathlib.Core.Logic.{◌↔◌}
use Prim.Native.Nat.{ℕ, suc, ◌<◌}
use native.Mathlib.Omega.{arith}
use lib.Dec.{T, eqb}
use Rattle.sorts.specs.Numbers.{said_mark, conclusions}
use Rattle.rules.specs.Standing.{All}
use Rattle.machine.specs.Machine.{State}
use Rattle.machine.specs.Closed.{Stands, Lacking}
use Rattle.query.specs.Figures.{Chosen, Said, Condition, same_said, some, conditions, issued_by, allowed, holds2, said2, auth2, query2, licences_in, trusted_in}
use Rattle.query.specs.Query.{InTruth, InSaid, Single, sayings, Formed, Follows, said_within, query_within, full_query, full_said}
use Rattle.query.specs.Corrected.{Has, StandsAll, LackingOne, as_choice, AsClosedSets, Ends}
use Rattle.query.proofs.Search.{walk, same_answer, ends, solved}
use Rattle.query.proofs.Conditions.{every, some_same, every_out, holds_every}
use Rattle.query.proofs.Steps.{said_step, query_step, heard, found, query_mono, said_search, query_search}
use Rattle.query.proofs.Closed.{said_sound, query_sound_lem, truth_answers, condition_answers}

some_cond : (f : Condition → Bool) (t : Bool) (D : List Condition) → some f (cond t [] D) ≡ cond t false (some f D)
some_cond f true D = refl
some_cond f false D = refl

-- The figures as the steps of a search.
module _ (M : State) (C : Chosen) (said : Said → List Said → Bool) where
  pub said_figure : (d : Said) (S : List Said) → said2 M C said d S ≡ cond (some (same_said d) S) false (said_step M C (λ d'. said d' (d ∷ S)) d)
  unfolding said2
  said_figure d S =
      ap (cond (some (same_said d) S) false)
      (some_same (λ d'. holds2 said d' (d ∷ S)) (every (λ d'. said d' (d ∷ S))) (λ d'. holds_every said d' (d ∷ S)) (conditions M.N (issued_by d.speaker (licences_in M C)) d.what))

  pub query_figure : (query : ℕ → List ℕ → Bool) (e : ℕ) (E : List ℕ) →
      query2 M C query said e E ≡ cond (some (eqb e) E) false (query_step M C (λ d. said d []) (λ e'. query e' (e ∷ E)) e)
  unfolding query2 auth2
  query_figure query e E =
      let D = conditions M.N (trusted_in M ++ allowed M (λ e'. query e' (e ∷ E)) (licences_in M C)) e in
      some_same (λ d. holds2 said d []) (every (λ d. said d [])) (λ d. holds_every said d []) (cond (some (eqb e) E) [] D)
      ∙ some_cond (every (λ d. said d [])) (some (eqb e) E) D

module _ (M : State) (C : Chosen) (F : Formed M) where
  -- the step of a query, where the sayings are answered the same
  pub same_said_lem : (ok ok' : Said → Bool) → ((d : Said) → InSaid d → ok d ≡ ok' d) → (a : ℕ → Bool) (e : ℕ) → InTruth e → query_step M C ok a e ≡ query_step M C ok' a e
  same_said_lem ok ok' f a e r =
      same_answer (query_step M C ok a e) (query_step M C ok' a e)
      (query_mono M C F ok ok' (λ d i. subst T (f d i)) a a (λ e' i h. h) e r)
      (query_mono M C F ok' ok (λ d i. subst T (sym (f d i))) a a (λ e' i h. h) e r)

  module _ (query : ℕ → List ℕ → Bool) (said : Said → List Said → Bool) (f : Follows M C query said) where
    -- What follows the figures is the search, on every list.
    said_search_only : (d : Said) (S : List Said) → InSaid d → All InSaid S → Single S → said d S ≡ walk same_said (said_step M C) (suc sayings) d S
    said_search_only d S r a s =
        ends (said_search M C F) (λ k. said) (λ k d' S' r' a' s'. f.held d' S' r' a' s' ∙ said_figure M C said d' S') (suc sayings) d S r a s (omega arith)

    said_heard : (d : Said) → InSaid d → said d [] ≡ heard M C d
    unfolding heard
    said_heard d r = said_search_only d [] r tt tt

    query_search_only : (e : ℕ) (E : List ℕ) → InTruth e → All InTruth E → Single E → query e E ≡ walk eqb (query_step M C (heard M C)) (suc conclusions) e E
    query_search_only e E r a s =
        ends (query_search M C F (heard M C)) (λ k. query)
        (λ k e' E' r' a' s'.
        f.queried e' E' r' a' s'
        ∙ query_figure M C said query e' E'
        ∙ ap (cond (some (eqb e') E') false) (same_said_lem (λ d. said d []) (heard M C) said_heard (λ e''. query e'' (e' ∷ E')) e' r'))
        (suc conclusions) e E r a s (omega arith)

    holds_heard : (d : Condition) → All InSaid d → holds2 said d [] ≡ every (heard M C) d
    holds_heard [] r = refl
    holds_heard (a ∷ d) r = λ i. cond (said_heard a r.0 i) (holds_heard d r.1 i) false

    -- Functions that follow the figures answer as the closed sets say.
    pub follows_answers : AsClosedSets M C query said
    unfolding found
    follows_answers = record {
      queried = λ e r. subst (λ (t : Bool). ((t ≡ true) ↔ Stands M (as_choice C) e) × ((t ≡ false) ↔ Lacking M (as_choice C) e)) (sym (query_search_only e [] r tt tt)) (truth_answers M C F e r);
      held = λ d r. subst (λ (t : Bool). ((t ≡ true) ↔ StandsAll M (as_choice C) d) × ((t ≡ false) ↔ LackingOne M (as_choice C) d)) (sym (holds_heard d r)) (condition_answers M C F d r);
      query_sound = λ e E r a s q S c. query_sound_lem M C F S c (suc conclusions) e E r (subst T (query_search_only e E r a s) (subst T (sym q) tt));
      held_sound = λ d S r a s q P c.
          parts P S (λ dᵢ rᵢ h. said_sound M C F P c (suc sayings) dᵢ S rᵢ (subst T (said_search_only dᵢ S rᵢ a s) h)) d r
          (every_out (λ dᵢ. said dᵢ S) d (subst T (holds_every said d S) (subst T (sym q) tt)));
    }
      where
        parts : (P : ℕ → Type 0) (S : List Said) → ((dᵢ : Said) → InSaid dᵢ → T (said dᵢ S) → P (said_mark dᵢ.speaker dᵢ.what)) →
            (d : Condition) → All InSaid d → All (λ dᵢ. T (said dᵢ S)) d → Has P d
        parts P S g [] r h = tt
        parts P S g (a ∷ d) r h = (g a r.0 h.0, parts P S g d r.1 h.1)

  -- The figures leave no choice: two pairs of functions that follow them answer the same, on every list.
  module _ (query query' : ℕ → List ℕ → Bool) (said said' : Said → List Said → Bool) (f : Follows M C query said) (f' : Follows M C query' said') where
    pub queried_only : (e : ℕ) (E : List ℕ) → InTruth e → All InTruth E → Single E → query e E ≡ query' e E
    queried_only e E r a s = query_search_only query said f e E r a s ∙ sym (query_search_only query' said' f' e E r a s)

    pub held_only : (d : Said) (S : List Said) → InSaid d → All InSaid S → Single S → said d S ≡ said' d S
    held_only d S r a s = said_search_only query said f d S r a s ∙ sym (said_search_only query' said' f' d S r a s)

  -- The query on a budget takes the search's steps.
  module _ (spent : Bool) where
    abbrev heard' : Said → Bool
    heard' d = full_said M C spent d []

    said_step_lem : (k : ℕ) (d : Said) (S : List Said) → InSaid d → All InSaid S → Single S →
        said_within M C spent (suc k) d S ≡ cond (some (same_said d) S) false (said_step M C (λ d'. said_within M C spent k d' (d ∷ S)) d)
    unfolding said_within
    said_step_lem k d S r a s = said_figure M C (λ d' S'. said_within M C spent k d' S') d S

    query_step_lem : (k e : ℕ) (E : List ℕ) → InTruth e → All InTruth E → Single E →
        query_within M C spent (suc k) e E ≡ cond (some (eqb e) E) false (query_step M C heard' (λ e'. query_within M C spent k e' (e ∷ E)) e)
    unfolding query_within
    query_step_lem k e E r a s = query_figure M C (full_said M C spent) (λ e' E'. query_within M C spent k e' E') e E

    -- It follows the figures, with no budget, whatever a question out of budget is answered.
    pub within_follows : Follows M C (full_query M C spent) (full_said M C spent)
    within_follows = record {
      queried = λ e E r a s.
          solved (query_search M C F heard') (λ k e' E'. query_within M C spent k e' E') query_step_lem e E r a s
          ∙ sym (query_figure M C (full_said M C spent) (full_query M C spent) e E);
      held = λ d S r a s.
          solved (said_search M C F) (λ k d' S'. said_within M C spent k d' S') said_step_lem d S r a s
          ∙ sym (said_figure M C (full_said M C spent) d S);
    }

    -- The corrected query answers as the closed sets say.
    pub corrected : AsClosedSets M C (full_query M C spent) (full_said M C spent)
    corrected = follows_answers (full_query M C spent) (full_said M C spent) within_follows

    -- a greater budget gives no other answer
    more_query : (k e : ℕ) → conclusions < k → InTruth e → query_within M C spent k e [] ≡ found M C e
    unfolding found
    more_query k e l r =
        ends (query_search M C F heard') (λ n e' E'. query_within M C spent n e' E') query_step_lem k e [] r tt tt (omega arith)
        ∙ sym (ends (query_search M C F heard') (λ n e' E'. query_within M C spent n e' E') query_step_lem (suc conclusions) e [] r tt tt (omega arith))
        ∙ query_search_only (full_query M C spent) (full_said M C spent) within_follows e [] r tt tt

    more_held : (k : ℕ) (d : Condition) → sayings < k → All InSaid d → holds2 (λ dᵢ S. said_within M C spent k dᵢ S) d [] ≡ every (heard M C) d
    unfolding heard
    more_held k [] l r = refl
    more_held k (a ∷ d) l r = λ i.
        cond (ends (said_search M C F) (λ n d' S'. said_within M C spent n d' S') said_step_lem k a [] r.0 tt tt (omega arith) i) (more_held k d l r.1 i) false

  pub budget_ends : Ends M C
  budget_ends = record {
    queried = λ spent spent' k e l r. more_query spent k e l r ∙ sym (more_query spent' (suc conclusions) e (omega arith) r);
    held = λ spent spent' k d l r. more_held spent k d l r ∙ sym (more_held spent' (suc sayings) d (omega arith) r);
  }
