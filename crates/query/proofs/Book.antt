-- The corrected query at every state of the plain machine, and the book's answer to a query.
use Prim.Native.Nat.{ℕ, ◌<◌}
use mathlib.Core.Path.{◌≡◌, refl, sym, subst}
use mathlib.Core.Bool.{Bool, true, false, cond}
use mathlib.Core.List.{List}
use mathlib.Core.Logic.{◌↔◌}
use native.Mathlib.Omega.{arith}
use lib.ListN.{length}
use lib.Dec.{eqb}
use Rattle.sorts.specs.declared.Status.TheVariants.{Issued, Provisional}
use Rattle.sorts.specs.Numbers.{conclusions, all_marks}
use Rattle.sorts.proofs.Marks.{number_lt}
use Rattle.sorts.specs.declared.Refusal.TheVariants as refusal
use Rattle.sorts.specs.declared.Refusal.{Refusal}
use Rattle.rows.specs.Numbering.{number, number_concl}
use Rattle.rows.specs.Form.{concl_of}
use Rattle.rows.proofs.Bytes.{no_true}
use Rattle.frames.specs.Bytes.{Outcome, got, refused}
use Rattle.frames.specs.Frames.{extent}
use Rattle.reader.specs.Contents.{Record, enter, remove, confirm, preview, query}
use Rattle.reader.specs.Records.{read_canonical}
use Rattle.reader.specs.Found.{fits}
use Rattle.exact.specs.Writing.{AllowedRecord}
use Rattle.exact.proofs.CanonicalRecords.{canonical_exact}
use Rattle.bookform.specs.declared.Book.{Book}
use Rattle.bookform.specs.declared.answer.Answered.{Answered}
use Rattle.machine.specs.Machine.{State, Step, Verdict, changes, previews, asks, refuses, refuse, start, act, acted, step, feed, stands, there}
use Rattle.machine.specs.Closed.{none, all, Stands, Lacking}
use Rattle.machine.specs.Choices.{AlwaysStands, NeverStands, Undecided}
use Rattle.machine.proofs.Choices.{stands_more, lacking_fewer, permitted_none, not_permitted_all, open_both}
use Rattle.book.specs.Calls.{Called}
use Rattle.bookform.specs.Books.{fresh_book, fresh_marks}
use Rattle.book.specs.Chains.{Call, Chain, Fed, records, runs}
use Rattle.book.proofs.Forms.{concl_closed}
use Rattle.demands.proofs.Reached.{fresh_reached, reached_after}
use Rattle.demands.proofs.Demand2.{demand_2}
use Rattle.demands.proofs.Demand3.{after}
use Rattle.query.specs.Figures.{Chosen, none_chosen, all_chosen}
use Rattle.query.specs.Query.{InTruth, Formed, full_query, full_said, implied}
use Rattle.query.specs.Corrected.{as_choice, AsClosedSets, AsQuery}
use Rattle.query.proofs.Follows.{corrected}
use Rattle.query.proofs.Reached.{formed, reached_formed}

-- only a query asks
abbrev Asking : Verdict → Type 0
Asking changes = ⊥
Asking (previews p g) = ⊥
Asking (asks c) = Unit {0}
Asking (refuses k) = ⊥

-- a query asks for a conclusion
module _ (M : State) (c : ℕ) where
  no_asks : (t : Bool) (S S' : Step) → (Asking S.says → ⊥) → (Asking S'.says → ⊥) → (cond t S S').says ≡ asks c → ⊥
  no_asks true S S' p q e = p (subst Asking (sym e) tt)
  no_asks false S S' p q e = q (subst Asking (sym e) tt)

  one_asks : (t : Bool) (S S' : Step) → (cond t S S').says ≡ asks c → (d : ℕ) → S.says ≡ asks d → (k : Refusal) → S'.says ≡ refuses k → (t ≡ true) × (d ≡ c)
  one_asks true S S' e d p k q = (refl, cc)
  one_asks false S S' e d p k q = let z : ◌≡◌ {A = ℕ} 0 1 = cc in absurd (omega arith)

  asked_small : (q : Record) (n : ℕ) → AllowedRecord q → (act M q n).says ≡ asks c → c < conclusions
  unfolding act AllowedRecord
  asked_small (enter by g) n a e = absurd (no_asks (fits (number g M.N)) _ _ (λ z. z) (λ z. z) e)
  asked_small (remove by g) n a e = absurd (no_asks (there by g M.entries) _ _ (λ z. z) (λ z. z) e)
  asked_small (confirm p g) n a e = absurd (no_asks (stands M (Provisional p) g) _ _ (λ z. z) (λ z. z) e)
  asked_small (preview p g) n a e = absurd (no_asks (there (Issued p) g M.entries) _ _ (λ z. z) (λ z. z) e)
  asked_small (query d) n a e =
      let w = one_asks (fits (number_concl d M.N)) _ _ e _ refl refusal.Full refl in
      subst (λ (k : ℕ). k < conclusions) w.1 (number_lt (concl_of (number_concl d M.N) d) (concl_closed d M.N a.0 w.0))

  asks_small : (u : ℕ) (s : List ℕ) → (feed M u s).says ≡ asks c → c < conclusions
  unfolding feed step
  asks_small u s = fed (eqb u all_marks)
    where
      go : (o : Outcome Record) → read_canonical s ≡ o → (acted M (extent s) o).says ≡ asks c → c < conclusions
      go (got q n) f e = asked_small q n (canonical_exact s q n f).0 e
      go (refused k) f e = absurd (subst Asking (sym e) tt)

      fed : (t : Bool) → (cond t (step M s) (refuse M refusal.Form 0)).says ≡ asks c → c < conclusions
      fed true e = go (read_canonical s) refl e
      fed false e = absurd (subst Asking (sym e) tt)

-- After every list of records, and under every choice, the corrected query answers as the closed sets of that choice say.
pub corrected_reached : (fs : List Fed) (C : Chosen) (spent : Bool) → AsClosedSets (runs start fs) C (full_query (runs start fs) C spent) (full_said (runs start fs) C spent)
corrected_reached fs C spent = corrected (runs start fs) C (reached_formed fs) spent

-- What stands under every choice is implied under every choice that is a test; so it is of what stands under none, and of what is open:
-- the two choices that decide are tests.
module _ (M : State) (F : Formed M) (spent : Bool) (e : ℕ) (r : InTruth e) where
  says : (C : Chosen) → ((implied M C spent e ≡ true) ↔ Stands M (as_choice C) e) × ((implied M C spent e ≡ false) ↔ Lacking M (as_choice C) e)
  says C = (corrected M C F spent).queried e r

  none_yes : implied M none_chosen spent e ≡ true → Stands M none e
  none_yes h = stands_more M (λ p g k. absurd (no_true k)) e ((says none_chosen).0.0 h)

  no_all : implied M all_chosen spent e ≡ false → Lacking M all e
  no_all h = lacking_fewer M (λ p g k. refl) e ((says all_chosen).1.0 h)

  always_implied : AlwaysStands M e ↔ ((C : Chosen) → implied M C spent e ≡ true)
  always_implied = (λ h C. (says C).0.1 (h (as_choice C)), λ h. (permitted_none M e).1 (none_yes (h none_chosen)))

  never_implied : NeverStands M e ↔ ((C : Chosen) → implied M C spent e ≡ false)
  never_implied = (λ h C. (says C).1.1 (h (as_choice C)), λ h. (not_permitted_all M e).1 (no_all (h all_chosen)))

  undecided_implied : Undecided M e ↔ (((C : Chosen) × (implied M C spent e ≡ true)) × ((C : Chosen) × (implied M C spent e ≡ false)))
  undecided_implied = (
    λ h.
        let b = (open_both M e).0 h in (
          (all_chosen, (says all_chosen).0.1 (stands_more M (λ p g k. refl) e b.0)),
          (none_chosen, (says none_chosen).1.1 (lacking_fewer M (λ p g k. absurd (no_true k)) e b.1)),
        ),
    λ h. record { firm = as_choice h.0.0; stands = (says h.0.0).0.0 h.0.1; waiting = as_choice h.1.0; lacks = (says h.1.0).1.0 h.1.1 },
  )

-- With demand 2: an accepted query on a book reached from a fresh one by its calls is permitted exactly where Query2(e, L, R, ∅) is
-- true under every choice, not permitted exactly where it is false under every choice, and open exactly where it is true under one
-- and false under another.
pub answered_as_query : (cs : List Call) (b : Book) (m k : List ℕ) → Chain fresh_book fresh_marks fresh_marks cs b m k → (s v : List ℕ) (r : Answered) (n l w : List ℕ) → Called b m k v s r n l w →
    (c : ℕ) → (feed (runs start (records cs)) (length v) s).says ≡ asks c → (spent : Bool) → AsQuery (feed (runs start (records cs)) (length v) s).next spent c r.answer
answered_as_query cs b m k K s v r n l w H c e spent =
    let R = reached_after (after fresh_reached K).reached H in
    let M = (feed (runs start (records cs)) (length v) s).next in
    let F = formed r.book n l M R.form R.shows in
    let i = asks_small (runs start (records cs)) c (length v) s e in
    let a = always_implied M F spent c i in
    let f = never_implied M F spent c i in
    let u = undecided_implied M F spent c i in
    let d = demand_2 cs b m k K s v r n l w H c e in
    record {
      permitted = (λ h. a.0 (d.permitted.0 h), λ h. d.permitted.1 (a.1 h));
      not_permitted = (λ h. f.0 (d.not_permitted.0 h), λ h. d.not_permitted.1 (f.1 h));
      undecided = (λ h. u.0 (d.undecided.0 h), λ h. d.undecided.1 (u.1 h));
    }
