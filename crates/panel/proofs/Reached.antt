-- The panel of a book that was reached from a fresh one by calls: its bits beside the closed sets.
use Prim.Native.Nat.{ℕ, ◌<◌}
use mathlib.Core.Path.{◌≡◌, ap, subst, ◌∙◌}
use mathlib.Core.List.{List}
use mathlib.Core.Logic.{◌↔◌}
use native.Mathlib.Omega.{arith}
use native.Mathlib.Decide.{ℕ_discrete}
use lib.ListN.{length, get_or}
use Rattle.std.specs.Prelude.{Result, Ok}
use Rattle.sorts.specs.declared.Refusal.{Refusal}
use Rattle.sorts.specs.Numbers.{number_of, speakers, packs}
use Rattle.machine.specs.Machine.{State, Step, start, feed}
use Rattle.machine.specs.Closed as closed
use Rattle.bookform.specs.declared.Book.{Book}
use Rattle.bookform.specs.declared.answer.Answer.TheVariants.{Permitted}
use Rattle.bookform.specs.Answers.{answer_at}
use Rattle.bookform.specs.Books.{fresh_book, fresh_marks}
use Rattle.book.specs.Chains.{Call, Chain, records, runs}
use Rattle.demands.specs.Demands.{Demand2}
use Rattle.demands.proofs.Demand2.{demand_2, answer_yes, answer_maybe, answer_no}
use Rattle.demands.proofs.Demand3.{demand_3}
use Rattle.demands.proofs.Existence.{call_some, blank_preview}
use Rattle.demands.proofs.Reached.{fed_whole}
use Rattle.panel.specs.declared.PackRight.{PackRight}
use Rattle.panel.specs.declared.PackRight.TheVariants.{Run, Export}
use Rattle.panel.specs.declared.Panel.{Panel}
use Rattle.panel.specs.Panels.{conclusion_of, query_for, bit, Packs, PanelOf, Lacks, Told}
use Rattle.panel.proofs.Asked.{room, step_asks, answered, permitted_at}
use Rattle.panel.proofs.Words.{bit_small}

module _ (cs : List Call) (b : Book) (m k : List ℕ) (K : Chain fresh_book fresh_marks fresh_marks cs b m k) (p : ℕ) (l : p < speakers) where
  abbrev M : State
  M = runs start (records cs)

  -- the answer from the marks is that of demand 2, in the state that the machine is in
  answer_demand : (x : PackRight) (n : ℕ) → n < packs → Demand2 M (number_of (conclusion_of p x n)) (answer_at m k (number_of (conclusion_of p x n)))
  answer_demand x n r =
      let D = demand_3 cs b m k K in
      let C = call_some b m k fresh_marks (query_for p x n) (record { book = D.form; preview = blank_preview }) in
      let e = fed_whole M (length fresh_marks) (query_for p x n) blank_preview ∙ step_asks p x n l r M (room b m k M D.form D.shows) in
      subst (λ (N : State). Demand2 N (number_of (conclusion_of p x n)) (answer_at m k (number_of (conclusion_of p x n)))) (ap (λ (t : Step). t.next) e)
      (subst (Demand2 (feed M (length fresh_marks) (query_for p x n)).next (number_of (conclusion_of p x n))) (answered p x n l r b m k D.form fresh_marks blank_preview _ _ _ _ C)
      (demand_2 cs b m k K (query_for p x n) fresh_marks _ _ _ _ C (number_of (conclusion_of p x n)) (ap (λ (t : Step). t.says) e)))

  packs_told : (x : PackRight) (w : ℕ) → Packs b m k p x w → Told M p x w
  packs_told x w P =
      record {
        one = λ n r. let q = at n r in let d = answer_demand x n r in (λ e. d.permitted.0 (q.0 e), λ h. q.1 (d.permitted.1 h));
        zero = λ n r. let q = at n r in let d = answer_demand x n r in (
          λ e. lacking n (ℕ_discrete (second n) 1) d (λ o. let z = q.1 ((answer_yes (mark n) (second n)).1 o) in omega (arith, e, z)),
          λ h. none n (λ e. h.lacks.2 (d.permitted.0 (q.0 e) h.choice h.lacks.0 h.lacks.1)),
        );
      }
    where
      mark : ℕ → ℕ
      mark n = get_or m (number_of (conclusion_of p x n)) 0

      second : ℕ → ℕ
      second n = get_or k (number_of (conclusion_of p x n)) 0

      at : (n : ℕ) → n < packs → (bit w n ≡ 1) ↔ (answer_at m k (number_of (conclusion_of p x n)) ≡ Permitted)
      at n r =
          let q = permitted_at p x n l r b m k (demand_3 cs b m k K).form in
          (λ e. q.0 ((P.bits n r).0 e), λ h. (P.bits n r).1 (q.1 h))

      -- what is not permitted is open, or lacking under every choice
      lacking : (n : ℕ) → Dec (second n ≡ 1) → Demand2 M (number_of (conclusion_of p x n)) (answer_at m k (number_of (conclusion_of p x n))) → (mark n ≡ 1 → ⊥) → Lacks M (number_of (conclusion_of p x n))
      lacking n (yes e) d o = let u = d.undecided.0 ((answer_maybe (mark n) (second n)).1 (o, e)) in record { choice = u.waiting; lacks = u.lacks }
      lacking n (no e) d o = record { choice = closed.none; lacks = d.not_permitted.0 ((answer_no (mark n) (second n)).1 (o, e)) closed.none }

      none : (n : ℕ) → (bit w n ≡ 1 → ⊥) → bit w n ≡ 0
      none n d = go (ℕ_discrete (bit w n) 1)
        where
          go : Dec (bit w n ≡ 1) → bit w n ≡ 0
          go (yes e) = absurd (d e)
          go (no e) = omega (arith, bit_small w n)

  -- ON A BOOK REACHED FROM A FRESH ONE the panel of a principal is shown, and both words tell of the closed sets.
  pub panel_reached : (r : Result Panel Refusal) → PanelOf b m k p r → (w : Panel) × (r ≡ Ok w) × Told M p Run w.run × Told M p Export w.export
  panel_reached r P =
      let s = P.shown (demand_3 cs b m k K).form l in
      (s.0, s.1, packs_told Run s.0.run s.2, packs_told Export s.0.export s.3)
