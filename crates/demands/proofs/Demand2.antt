-- Demand 2: what a query on a book reached from a fresh one answers.
use Prim.Native.Nat.{ℕ}
use mathlib.Core.Path.{◌≡◌, sym, ap, subst, ◌∙◌}
use mathlib.Core.Bool.{Bool, cond}
use mathlib.Core.List.{List}
use mathlib.Core.Logic.{◌↔◌}
use native.Mathlib.Decide.{ℕ_discrete}
use lib.ListN.{length, get_or}
use lib.Dec.{eqb}
use borrow.Author.Tests.{eq-eqb, ne_eqb}
use Rattle.rules.specs.Standing.{In}
use Rattle.machine.specs.Machine.{State, Verdict, asks, start, feed}
use Rattle.machine.specs.Closed.{ClosedSet, Lacking}
use Rattle.machine.proofs.Choices.{permitted_none, not_permitted_all, open_both}
use Rattle.bookform.specs.declared.Book.{Book}
use Rattle.bookform.specs.declared.answer.Answer.{Answer}
use Rattle.bookform.specs.declared.answer.Answer.TheVariants.{Permitted, Open, NotPermitted, Changed, Previewed, Refused}
use Rattle.bookform.specs.declared.answer.Answered.{Answered}
use Rattle.bookform.specs.Answers.{answer_at}
use Rattle.book.specs.Calls.{answer_of, marks_after, second_after, Called}
use Rattle.bookform.specs.Books.{fresh_book, fresh_marks}
use Rattle.book.specs.Chains.{Call, Chain, records, runs}
use Rattle.demands.specs.Demands.{Demand2}
use Rattle.demands.proofs.Views.{View, firm, both, choice_of, marks_in}
use Rattle.demands.proofs.ClosedBook.{stands_in, stands_out}
use Rattle.demands.proofs.Reached.{Reached, fresh_reached, fol, reached_after}
use Rattle.demands.proofs.Demand3.{after, mark_stands}

-- the three answers of a query, by its two marks
module _ (x y : ℕ) where
  abbrev answer : Answer
  answer = cond (eqb x 1) Permitted (cond (eqb y 1) Open NotPermitted)

  -- what an answer means, by the marks
  abbrev Meaning : Answer → Type 0
  Meaning Permitted = x ≡ 1
  Meaning Open = (x ≡ 1 → ⊥) × (y ≡ 1)
  Meaning NotPermitted = (x ≡ 1 → ⊥) × (y ≡ 1 → ⊥)
  Meaning (Changed c) = ⊥
  Meaning (Previewed c) = ⊥
  Meaning (Refused j) = ⊥

  pub answer_permitted : x ≡ 1 → answer ≡ Permitted
  answer_permitted e = ap (λ (b : Bool). cond b Permitted (cond (eqb y 1) Open NotPermitted)) (eq-eqb x 1 e)

  pub answer_open : (x ≡ 1 → ⊥) × (y ≡ 1) → answer ≡ Open
  answer_open h = ap (λ (b : Bool). cond b Permitted (cond (eqb y 1) Open NotPermitted)) (ne_eqb x 1 h.0) ∙ ap (λ (b : Bool). cond b Open NotPermitted) (eq-eqb y 1 h.1)

  pub answer_denied : (x ≡ 1 → ⊥) × (y ≡ 1 → ⊥) → answer ≡ NotPermitted
  answer_denied h = ap (λ (b : Bool). cond b Permitted (cond (eqb y 1) Open NotPermitted)) (ne_eqb x 1 h.0) ∙ ap (λ (b : Bool). cond b Open NotPermitted) (ne_eqb y 1 h.1)

  means : Meaning answer
  means = go (ℕ_discrete x 1) (ℕ_discrete y 1)
    where
      go : Dec (x ≡ 1) → Dec (y ≡ 1) → Meaning answer
      go (yes e) d = subst Meaning (sym (answer_permitted e)) e
      go (no n) (yes e) = subst Meaning (sym (answer_open (n, e))) (n, e)
      go (no n) (no d) = subst Meaning (sym (answer_denied (n, d))) (n, d)

  pub answer_means : (a : Answer) → answer ≡ a → Meaning a
  answer_means a e = subst Meaning e means

  pub answer_yes : (answer ≡ Permitted) ↔ (x ≡ 1)
  answer_yes = (λ e. answer_means Permitted e, answer_permitted)

  pub answer_maybe : (answer ≡ Open) ↔ ((x ≡ 1 → ⊥) × (y ≡ 1))
  answer_maybe = (λ e. answer_means Open e, answer_open)

  pub answer_no : (answer ≡ NotPermitted) ↔ ((x ≡ 1 → ⊥) × (y ≡ 1 → ⊥))
  answer_no = (λ e. answer_means NotPermitted e, answer_denied)

-- some closed set lacks what is not marked, and the other way round
module _ {b : Book} {m k : List ℕ} {M : State} (R : Reached b m k M) (v : View) (x : List ℕ) (e : x ≡ marks_in v b) (n : ℕ) where
  pub unmarked_lacking : (In x n → ⊥) → Lacking M (choice_of v) n
  unmarked_lacking d = let t = (stands_out b m k M R.form R.shows v n).0 (λ h. d (subst (λ (z : List ℕ). In z n) (sym e) h)) in (In t.0, t.1, t.2)

  pub lacking_unmarked : Lacking M (choice_of v) n → In x n → ⊥
  lacking_unmarked h q = h.2 ((mark_stands R v x e n).0 q h.0 h.1)

-- An accepted query on a book reached from a fresh one by its calls is permitted exactly when under every choice each closed set
-- contains the conclusion, not permitted exactly when under each choice some closed set lacks it, and open exactly when it stands
-- under one choice and is lacking under another.
pub demand_2 : (cs : List Call) (b : Book) (m k : List ℕ) → Chain fresh_book fresh_marks fresh_marks cs b m k → (s v : List ℕ) (r : Answered) (n l w : List ℕ) → Called b m k v s r n l w →
    (c : ℕ) → (feed (runs start (records cs)) (length v) s).says ≡ asks c → Demand2 (feed (runs start (records cs)) (length v) s).next c r.answer
unfolding answer_of marks_after second_after
demand_2 cs b m k K s v r n l w C c e =
    let R = (after fresh_reached K).reached in
    let F = fol R C in
    let R' = reached_after R C in
    let M' = (feed (runs start (records cs)) (length v) s).next in
    let a : r.answer ≡ answer_at m k c = F.answer ∙ ap (λ (y : Verdict). answer_of y m k n w) e in
    let x : m ≡ marks_in firm r.book = sym (F.marks ∙ ap (λ (y : Verdict). marks_after y r.book m) e) ∙ R'.stands in
    let z : k ≡ marks_in both r.book = sym (F.second ∙ ap (λ (y : Verdict). second_after y r.book k) e) ∙ R'.second in
    let first = mark_stands R' firm m x c in
    let second = mark_stands R' both k z c in
    let P = permitted_none M' c in
    let O = open_both M' c in
    let D = not_permitted_all M' c in
    record {
      permitted = (
        λ h. P.1 (first.0 ((answer_yes (get_or m c 0) (get_or k c 0)).0 (sym a ∙ h))),
        λ h. a ∙ (answer_yes (get_or m c 0) (get_or k c 0)).1 (first.1 (P.0 h)),
      );
      undecided = (
        λ h. let t = (answer_maybe (get_or m c 0) (get_or k c 0)).0 (sym a ∙ h) in O.1 (second.0 t.1, unmarked_lacking R' firm m x c t.0),
        λ h. let t = O.0 h in a ∙ (answer_maybe (get_or m c 0) (get_or k c 0)).1 (lacking_unmarked R' firm m x c t.1, second.1 t.0),
      );
      not_permitted = (
        λ h. D.1 (unmarked_lacking R' both k z c ((answer_no (get_or m c 0) (get_or k c 0)).0 (sym a ∙ h)).1),
        λ h. a ∙ (answer_no (get_or m c 0) (get_or k c 0)).1 (lacking_unmarked R' firm m x c (h (choice_of firm)), lacking_unmarked R' both k z c (D.0 h)),
      );
    }

-- Where under a choice of all or none some closed set lacks a statement, some closed list of marks does.
pub lacking_list : (cs : List Call) (b : Book) (m k : List ℕ) → Chain fresh_book fresh_marks fresh_marks cs b m k → (v : View) (n : ℕ) → Lacking (runs start (records cs)) (choice_of v) n →
    (t : List ℕ) × ClosedSet (runs start (records cs)) (choice_of v) (In t) × (In t n → ⊥)
lacking_list cs b m k K v n h =
    let R = (after fresh_reached K).reached in
    let M = runs start (records cs) in
    (stands_out b m k M R.form R.shows v n).0 (λ q. h.2 ((stands_in b m k M R.form R.shows v n).0 q h.0 h.1))
