-- Demand 1: every record and every lent book gets its answer.
use Prim.Native.Nat.{ℕ, ◌≤◌}
use mathlib.Core.Path.{◌≡◌, refl, sym, ap, subst, ◌∙◌}
use mathlib.Core.Bool.{Bool, true, false, cond}
use mathlib.Core.List.{List}
use mathlib.Core.Option.{some}
use mathlib.Core.Logic.{◌↔◌, ◌⊎◌, inl, inr, ⊎_elim}
use native.Mathlib.Omega.{arith}
use lib.IntN.{pos, ◌-ℤ◌}
use lib.ListN.{get_or}
use lib.Dec.{eqb}
use Rattle.sorts.specs.declared.Status.TheVariants.{Issued, Provisional}
use Rattle.sorts.specs.declared.Prin.{Prin}
use Rattle.sorts.specs.declared.Refusal.TheVariants as refusal
use Rattle.sorts.specs.declared.Refusal.{Refusal}
use Rattle.sorts.specs.Refusals.{refusal_number}
use Rattle.rows.specs.Written.{Grant}
use Rattle.rows.specs.Numbering.{number, number_concl}
use Rattle.rows.proofs.Bytes.{no_true}
use Rattle.frames.specs.Bytes.{Outcome, got, refused}
use Rattle.frames.specs.Frames.{extent}
use Rattle.reader.specs.Contents.{Record, enter, remove, confirm, preview, query}
use Rattle.reader.specs.Records.{read_canonical}
use Rattle.reader.specs.Found.{fits}
use Rattle.bookform.specs.declared.Book.{Book}
use Rattle.marks.specs.declared.Counts.{Counts}
use Rattle.bookform.specs.declared.answer.Answer.{Answer}
use Rattle.bookform.specs.declared.answer.Answer.TheVariants.{Permitted, Open, NotPermitted, Changed, Previewed, Refused}
use Rattle.bookform.specs.declared.answer.Answered.{Answered}
use Rattle.machine.specs.Machine.{State, Step, Verdict, changes, previews, asks, refuses, refuse, act, acted, step, stands, there}
use Rattle.marks.specs.Counts.{Statements, truths, sayings, change_of, counts_of, change_in}
use Rattle.demands.specs.Worth.{worth}
use Rattle.bookform.specs.Books.{Lent}
use Rattle.bookform.specs.Answers.{answer_at}
use Rattle.book.specs.Calls.{answer_of, marks_after, second_after, preview_after, Follows, Called}
use Rattle.demands.specs.Demands.{Turned, Answers, Demand1}
use Rattle.exact.proofs.CanonicalRecords.{canonical_refused}
use Rattle.exact.proofs.Faults.{fault_range}
use Rattle.demands.proofs.Shown.{shows_some}
use Rattle.demands.proofs.Demand2.{answer_yes, answer_maybe, answer_no}

both_ways : {A B C : Type 0} → A ↔ B → B ↔ C → A ↔ C
both_ways p q = (λ a. q.0 (p.0 a), λ c. p.1 (q.1 c))

flat : {A P Q : ℕ → Type 0} → ((c : ℕ) × A c × (P c × Q c)) ↔ ((c : ℕ) × A c × P c × Q c)
flat = (λ h. (h.0, h.1, h.2.0, h.2.1), λ h. (h.0, h.1, (h.2, h.3)))

-- the answers with a number are the refusals
number_is : (a : Answer) (k : ℕ) → ((worth a).number ≡ some k) ↔ ((i : Refusal) × (a ≡ Refused i) × (refusal_number i ≡ k))
number_is a k = (go a, λ h. ap (λ (x : Answer). (worth x).number) h.1 ∙ ap some h.2)
  where
    go : (x : Answer) → (worth x).number ≡ some k → (i : Refusal) × (x ≡ Refused i) × (refusal_number i ≡ k)
    go Permitted e = let z : ◌≡◌ {A = ℕ} 0 1 = cc in absurd (omega arith)
    go Open e = let z : ◌≡◌ {A = ℕ} 0 1 = cc in absurd (omega arith)
    go NotPermitted e = let z : ◌≡◌ {A = ℕ} 0 1 = cc in absurd (omega arith)
    go (Changed c) e = let z : ◌≡◌ {A = ℕ} 0 1 = cc in absurd (omega arith)
    go (Previewed c) e = let z : ◌≡◌ {A = ℕ} 0 1 = cc in absurd (omega arith)
    go (Refused j) e = let d : refusal_number j ≡ k = cc in (j, refl, d)

-- what the machine refuses, by the record

module _ (M : State) (k : ℕ) where
  -- the number k is said
  abbrev Says : Verdict → Type 0
  Says v = (i : Refusal) × (v ≡ refuses i) × (refusal_number i ≡ k)

  -- an accepted step, or the refusal j
  two : (X : Step) → ((i : Refusal) → X.says ≡ refuses i → ⊥) → (j : Refusal) (n : ℕ) (b : Bool) → Says (cond b X (refuse M j n)).says ↔ ((b ≡ false) × (k ≡ refusal_number j))
  two X f j n true = (λ e. absurd (f e.0 e.1), λ h. absurd (no_true (sym h.0)))
  two X f j n false = (λ e. let z = e.1 in let d : j ≡ e.0 = cc in (refl, sym e.2 ∙ ap refusal_number (sym d)), λ h. (j, refl, sym h.1))

  accepts : (i : Refusal) → changes ≡ refuses i → ⊥
  accepts i e = let z : ◌≡◌ {A = ℕ} 0 1 = cc in omega arith

  turned : (u : ℕ) (o : Outcome Record) → Says (acted M u o).says ↔ Turned M o k
  unfolding act
  turned u (got (enter by g) n) = two _ accepts refusal.Full n (fits (number g M.N))
  turned u (got (remove by g) n) = two _ accepts refusal.Absent n (there by g M.entries)
  turned u (got (confirm p g) n) = two _ accepts refusal.Absent n (stands M (Provisional p) g)
  turned u (got (preview p g) n) = two _ (λ i e. let z : ◌≡◌ {A = ℕ} 0 1 = cc in omega arith) refusal.Absent n (there (Issued p) g M.entries)
  turned u (got (query c) n) = two _ (λ i e. let z : ◌≡◌ {A = ℕ} 0 1 = cc in omega arith) refusal.Full n (fits (number_concl c M.N))
  turned u (refused j) = (λ e. let z = e.1 in let d : j ≡ e.0 = cc in ap refusal_number d ∙ e.2, λ h. (j, refl, h))

  -- a number that is said is 1 to 7, or 10
  turned_range : (s : List ℕ) (o : Outcome Record) → read_canonical s ≡ o → Turned M o k → ((1 ≤ k) × (k ≤ 7)) ⊎ (k ≡ 10)
  turned_range s (got (enter by g) n) e h = inl (omega (arith, h.1), omega (arith, h.1))
  turned_range s (got (remove by g) n) e h = inl (omega (arith, h.1), omega (arith, h.1))
  turned_range s (got (confirm p g) n) e h = inl (omega (arith, h.1), omega (arith, h.1))
  turned_range s (got (preview p g) n) e h = inl (omega (arith, h.1), omega (arith, h.1))
  turned_range s (got (query c) n) e h = inl (omega (arith, h.1), omega (arith, h.1))
  turned_range s (refused j) e h = ⊎_elim (λ f. inl (omega (arith, h, f.0), omega (arith, h, f.1))) (λ f. inr (sym h ∙ ap refusal_number f)) (fault_range s j (canonical_refused s j e))

-- what the answer says, by the verdict

abbrev Net : Answer → Type 0
Net a = (k : Statements) → (change_in k (worth a).counts).net ≡ pos (change_in k (worth a).counts).gained -ℤ pos (change_in k (worth a).counts).lost

refused_net : (j : Refusal) → Net (Refused j)
refused_net j truths = refl
refused_net j sayings = refl

asked_net : (b c : Bool) → Net (cond b Permitted (cond c Open NotPermitted))
asked_net true c truths = refl
asked_net true c sayings = refl
asked_net false true truths = refl
asked_net false true sayings = refl
asked_net false false truths = refl
asked_net false false sayings = refl

-- an answer to a query is no change and no refusal
abbrev Queried : Answer → Type 0
Queried Permitted = Unit {0}
Queried Open = Unit {0}
Queried NotPermitted = Unit {0}
Queried (Changed c) = ⊥
Queried (Previewed c) = ⊥
Queried (Refused j) = ⊥

at_queried : (m k : List ℕ) (c : ℕ) → Queried (answer_at m k c)
at_queried m k c = go (eqb (get_or m c 0) 1) (eqb (get_or k c 0) 1)
  where
    go : (a b : Bool) → Queried (cond a Permitted (cond b Open NotPermitted))
    go true b = tt
    go false true = tt
    go false false = tt

-- an answer to a query, by the verdict: what is said where the machine asks for c, and the marks of c are so
module _ (m k n w : List ℕ) (a : Answer) (is : Queried a) (P : ℕ → Type 0) (at : (c : ℕ) → (answer_at m k c ≡ a) ↔ P c) where
  answer_asked : (v : Verdict) → (answer_of v m k n w ≡ a) ↔ ((c : ℕ) × (v ≡ asks c) × P c)
  unfolding answer_of
  answer_asked changes = (λ e. absurd (subst Queried (sym e) is), λ h. let e = h.1 in let z : ◌≡◌ {A = ℕ} 0 1 = cc in absurd (omega arith))
  answer_asked (previews p g) = (λ e. absurd (subst Queried (sym e) is), λ h. let e = h.1 in let z : ◌≡◌ {A = ℕ} 0 1 = cc in absurd (omega arith))
  answer_asked (asks c) = (λ e. (c, refl, (at c).0 e), λ h. let e = h.1 in let d : c ≡ h.0 = cc in (at c).1 (subst P (sym d) h.2))
  answer_asked (refuses j) = (λ e. absurd (subst Queried (sym e) is), λ h. let e = h.1 in let z : ◌≡◌ {A = ℕ} 0 1 = cc in absurd (omega arith))

module _ (m k n w : List ℕ) where
  answer_net : (v : Verdict) → Net (answer_of v m k n w)
  unfolding answer_of counts_of change_of
  answer_net changes truths = refl
  answer_net changes sayings = refl
  answer_net (previews p g) truths = refl
  answer_net (previews p g) sayings = refl
  answer_net (asks c) j = asked_net (eqb (get_or m c 0) 1) (eqb (get_or k c 0) 1) j
  answer_net (refuses i) j = refused_net i j

  answer_refused : (v : Verdict) (j : Refusal) → (answer_of v m k n w ≡ Refused j) ↔ (v ≡ refuses j)
  unfolding answer_of
  answer_refused changes j = (λ e. let z : ◌≡◌ {A = ℕ} 0 1 = cc in absurd (omega arith), λ e. let z : ◌≡◌ {A = ℕ} 0 1 = cc in absurd (omega arith))
  answer_refused (previews p g) j = (λ e. let z : ◌≡◌ {A = ℕ} 0 1 = cc in absurd (omega arith), λ e. let z : ◌≡◌ {A = ℕ} 0 1 = cc in absurd (omega arith))
  answer_refused (asks c) j = (λ e. absurd (subst Queried e (at_queried m k c)), λ e. let z : ◌≡◌ {A = ℕ} 0 1 = cc in absurd (omega arith))
  answer_refused (refuses i) j = (λ e. let d : i ≡ j = cc in ap refuses d, λ e. let d : i ≡ j = cc in ap Refused d)

  answer_changed : (v : Verdict) (x : Counts) → (answer_of v m k n w ≡ Changed x) ↔ ((v ≡ changes) × (x ≡ counts_of m n))
  unfolding answer_of
  answer_changed changes x = (λ e. let d : counts_of m n ≡ x = cc in (refl, sym d), λ h. ap Changed (sym h.1))
  answer_changed (previews p g) x = (λ e. let z : ◌≡◌ {A = ℕ} 0 1 = cc in absurd (omega arith), λ h. let e = h.0 in let z : ◌≡◌ {A = ℕ} 0 1 = cc in absurd (omega arith))
  answer_changed (asks c) x = (λ e. absurd (subst Queried e (at_queried m k c)), λ h. let e = h.0 in let z : ◌≡◌ {A = ℕ} 0 1 = cc in absurd (omega arith))
  answer_changed (refuses j) x = (λ e. let z : ◌≡◌ {A = ℕ} 0 1 = cc in absurd (omega arith), λ h. let e = h.0 in let z : ◌≡◌ {A = ℕ} 0 1 = cc in absurd (omega arith))

  answer_previewed : (v : Verdict) (x : Counts) → (answer_of v m k n w ≡ Previewed x) ↔ ((p : Prin) × (g : Grant) × (v ≡ previews p g) × (x ≡ counts_of m w))
  unfolding answer_of
  answer_previewed changes x = (λ e. let z : ◌≡◌ {A = ℕ} 0 1 = cc in absurd (omega arith), λ h. let e = h.2 in let z : ◌≡◌ {A = ℕ} 0 1 = cc in absurd (omega arith))
  answer_previewed (previews p g) x = (λ e. let d : counts_of m w ≡ x = cc in (p, g, refl, sym d), λ h. ap Previewed (sym h.3))
  answer_previewed (asks c) x = (λ e. absurd (subst Queried e (at_queried m k c)), λ h. let e = h.2 in let z : ◌≡◌ {A = ℕ} 0 1 = cc in absurd (omega arith))
  answer_previewed (refuses j) x = (λ e. let z : ◌≡◌ {A = ℕ} 0 1 = cc in absurd (omega arith), λ h. let e = h.2 in let z : ◌≡◌ {A = ℕ} 0 1 = cc in absurd (omega arith))

module _ {M : State} {b : Book} {m k v : List ℕ} (s : List ℕ) {r : Answered} {n l w : List ℕ} (F : Follows M (step M s) b m k v r n l w) where
  -- the answer in place of what it equals
  as_answer : (a : Answer) → (r.answer ≡ a) ↔ (answer_of (step M s).says m k n w ≡ a)
  as_answer a = (λ e. sym F.answer ∙ e, λ e. F.answer ∙ e)

  -- a number that is said is the machine's
  as_number : (j : ℕ) → ((worth r.answer).number ≡ some j) ↔ Says M j (step M s).says
  as_number j = both_ways (number_is r.answer j) (λ h. (h.0, (said h.0).0 h.1, h.2), λ h. (h.0, (said h.0).1 h.1, h.2))
    where
      said : (i : Refusal) → (r.answer ≡ Refused i) ↔ ((step M s).says ≡ refuses i)
      said i = both_ways (as_answer (Refused i)) (answer_refused m k n w (step M s).says i)

  as_previewed : (x : Counts) → (r.answer ≡ Previewed x) ↔ ((p : Prin) × (g : Grant) × ((step M s).says ≡ previews p g) × (x ≡ counts_of m w))
  as_previewed x = both_ways (as_answer (Previewed x)) (answer_previewed m k n w (step M s).says x)

  answers : Answers M b m k v s r n l w
  unfolding step marks_after second_after preview_after
  answers = record {
    refusals = λ j. both_ways (as_number j) (turned M j (extent s) (read_canonical s));
    permitted = both_ways (as_answer Permitted) (answer_asked m k n w Permitted tt _ (λ c. answer_yes (get_or m c 0) (get_or k c 0)) (step M s).says);
    undecided = both_ways (as_answer Open) (both_ways (answer_asked m k n w Open tt _ (λ c. answer_maybe (get_or m c 0) (get_or k c 0)) (step M s).says) flat);
    not_permitted = both_ways (as_answer NotPermitted) (both_ways (answer_asked m k n w NotPermitted tt _ (λ c. answer_no (get_or m c 0) (get_or k c 0)) (step M s).says) flat);
    changed = λ x. both_ways (as_answer (Changed x)) (answer_changed m k n w (step M s).says x);
    previewed = as_previewed;
    used = F.used;
    preview = F.preview;
    kept = λ j e.
        let y = (as_number j).0 e in
        (F.kept y.0 y.1, F.marks ∙ ap (λ (z : Verdict). marks_after z r.book m) y.1, F.second ∙ ap (λ (z : Verdict). second_after z r.book k) y.1, F.preview ∙ ap (λ (z : Verdict). preview_after z M b v) y.1);
    untouched = λ x e.
        let y = (as_previewed x).0 e in
        (F.untouched y.0 y.1 y.2, F.marks ∙ ap (λ (z : Verdict). marks_after z r.book m) y.2, F.second ∙ ap (λ (z : Verdict). second_after z r.book k) y.2);
    numbered = λ j e. turned_range M j s (read_canonical s) refl ((turned M j (extent s) (read_canonical s)).0 ((as_number j).0 e));
  }

-- Every record of bytes and every lent book gets an answer, each under its condition and no other; a refused record leaves
-- every part of the book unchanged.
pub demand_1 : (b : Book) (m k v s : List ℕ) (r : Answered) (n l w : List ℕ) → Called b m k v s r n l w → Demand1 b m k v s r n l w
demand_1 b m k v s r n l w C = record {
  unformed = C.unformed;
  formed = λ f M sh. answers s (C.formed f M sh);
  shown = λ f. shows_some b m k f;
  nine = (λ e f. ⊎_elim (λ h. omega (arith, h.1)) (λ h. omega (arith, h)) (in_range f 9 e), out);
  numbered = by C.decided;
  net = net_by C.decided;
}
  where
    in_range : Lent b m k v → (j : ℕ) → (worth r.answer).number ≡ some j → ((1 ≤ j) × (j ≤ 7)) ⊎ (j ≡ 10)
    in_range f = let x = shows_some b m k f.book in (answers s (C.formed f x.0 x.1)).numbered

    out : (Lent b m k v → ⊥) → (worth r.answer).number ≡ some 9
    out d = ap (λ (x : Answered). (worth x.answer).number) (C.unformed d).0

    by : Lent b m k v ⊎ (Lent b m k v → ⊥) → (j : ℕ) → (worth r.answer).number ≡ some j → (1 ≤ j) × (j ≤ 10) × (j ≡ 8 → ⊥)
    by (inl f) j e = ⊎_elim (λ h. (h.0, omega (arith, h.1), λ q. omega (arith, h.1, q))) (λ h. (omega (arith, h), omega (arith, h), λ q. omega (arith, h, q))) (in_range f j e)
    by (inr d) j e = let q : some 9 ≡ some j = sym (out d) ∙ e in let z : 9 ≡ j = cc in (omega (arith, z), omega (arith, z), λ x. omega (arith, z, x))

    net_by : Lent b m k v ⊎ (Lent b m k v → ⊥) → Net r.answer
    net_by (inl f) = let x = shows_some b m k f.book in subst Net (sym (C.formed f x.0 x.1).answer) (answer_net m k n w (step x.0 s).says)
    net_by (inr d) = subst Net (sym (ap (λ (x : Answered). x.answer) (C.unformed d).0)) (refused_net refusal.Form)
