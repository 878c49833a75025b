-- Demand 3: one theorem about every list of calls from a fresh book.
use Prim.Native.Nat.{ℕ, ◌+◌}
use mathlib.Core.Path.{◌≡◌, refl, sym, subst}
use mathlib.Core.List.{List}
use mathlib.Core.Logic.{◌↔◌}
use native.Mathlib.Omega.{arith}
use lib.ListN.{length, replicate}
use native.Mathlib.Decide.{ℕ_discrete}
use Rattle.sorts.specs.Numbers.{all_marks}
use Rattle.frames.specs.Bytes.{Outcome, got, refused}
use Rattle.reader.specs.Contents.{Record, enter, remove, confirm, preview, query}
use Rattle.reader.specs.Records.{read_canonical}
use Rattle.rules.specs.Standing.{In}
use Rattle.machine.specs.Machine.{State, Step, step, feed}
use Rattle.machine.specs.Closed.{Stands}
use Rattle.marks.specs.Counts.{Statements, truths, sayings, ones, marks_of}
use Rattle.bookform.specs.declared.Book.{Book}
use Rattle.bookform.specs.declared.answer.Answered.{Answered}
use Rattle.book.specs.Calls.{Called}
use Rattle.bookform.specs.Books.{fresh_book, fresh_marks}
use Rattle.book.specs.Chains.{Call, Chain, none, then, records, runs}
use Rattle.demands.specs.Worth.{all_gains, all_losses}
use Rattle.demands.specs.Demands.{Agrees, NoLoss, NoGain, OneWay, AllOneWay, Demand3}
use Rattle.demands.proofs.Balance.{ones_none, ones_kinds}
use Rattle.demands.proofs.Views.{View, firm, both, choice_of, marks_in}
use Rattle.demands.proofs.ClosedBook.{stands_in}
use Rattle.demands.proofs.Moving.{Moved, moved, Up, Down, Still, same_state}
use Rattle.demands.proofs.Standings.{both_more}
use Rattle.demands.proofs.Reached.{Reached, fresh_reached, fed_whole, fed_other, fol, reached_after, call_balance, no_loss, no_gain}

-- what holds after a list of calls from a book that was reached
pub record After (M : State) (m₀ : List ℕ) (cs : List Call) (b : Book) (m k : List ℕ) : Type 0 where
  pub reached : Reached b m k (runs M (records cs))
  pub answers : Agrees M cs
  pub sums : (j : Statements) → all_gains j cs + ones (marks_of j m₀) ≡ all_losses j cs + ones (marks_of j m)
  pub one_way : AllOneWay cs

module _ {b : Book} {m k v s : List ℕ} {r : Answered} {n l w : List ℕ} {M : State} (R : Reached b m k M) (C : Called b m k v s r n l w) where
  abbrev this : Call
  this = record { record' = s; before = b; marks = m; second = k; preview = v; gave = r; left = n; left_second = l; left_preview = w }

  both_still : Still M (feed M (length v) s).next → (NoLoss this) × (NoGain this)
  both_still u = (no_loss R C (record { grows = u.grows; ext = u.ext }), no_gain R C (record { shrinks = u.shrinks; ext = u.ext }))

  -- a call that is refused does neither, whatever its record
  neither : (o : Outcome Record) → (NoLoss this) × (NoGain this) → OneWay o this
  neither (got (enter by g) u) h = h.0
  neither (got (remove by g) u) h = h.1
  neither (got (confirm p g) u) h = h.0
  neither (got (preview p g) u) h = h
  neither (got (query c) u) h = h
  neither (refused j) h = h

  -- a call goes one way, by its record
  module _ (e : feed M (length v) s ≡ step M s) where
    fed_up : Up M (step M s).next → Up M (feed M (length v) s).next
    fed_up u = subst (λ (x : Step). Up M x.next) (sym e) u

    fed_down : Down M (step M s).next → Down M (feed M (length v) s).next
    fed_down u = subst (λ (x : Step). Down M x.next) (sym e) u

    fed_still : Still M (step M s).next → Still M (feed M (length v) s).next
    fed_still u = subst (λ (x : Step). Still M x.next) (sym e) u

    accepted : (o : Outcome Record) → read_canonical s ≡ o → Moved M o → OneWay o this
    unfolding step
    accepted (got (enter by g) u) q h = no_loss R C (fed_up (rw q h))
    accepted (got (remove by g) u) q h = no_gain R C (fed_down (rw q h))
    accepted (got (confirm p g) u) q h = no_loss R C (fed_up (rw q h))
    accepted (got (preview p g) u) q h = both_still (fed_still (rw q h))
    accepted (got (query c) u) q h = both_still (fed_still (rw q h))
    accepted (refused j) q h = both_still (fed_still (rw q h))

  pub one_way_lem : Dec (length v ≡ all_marks) → OneWay (read_canonical s) this
  one_way_lem (yes e) = accepted (fed_whole M (length v) s e) (read_canonical s) refl (moved M (read_canonical s))
  one_way_lem (no d) = neither (read_canonical s) (both_still (subst (λ (x : Step). Still M x.next) (sym (fed_other M (length v) s d)) (same_state M)))

pub after : {b b' : Book} {m m' k k' : List ℕ} {cs : List Call} {M : State} → Reached b m k M → Chain b m k cs b' m' k' → After M m cs b' m' k'
unfolding runs records Agrees AllOneWay all_gains all_losses
after R none = record { reached = R; answers = tt; sums = λ j. refl; one_way = tt }
after {b} {b'} {m} {m'} {k} {k'} {M = M} R (then s v r n l w C K) =
    let A = after (reached_after R C) K in
    record {
      reached = A.reached;
      answers = ((fol R C).answer, (fol R C).used, (fol R C).preview, A.answers);
      sums = λ j. let x = A.sums j in let y = call_balance R C j in omega arith;
      one_way = (one_way_lem R C (ℕ_discrete (length v) all_marks), A.one_way);
    }

-- no mark of either kind stands in a fresh book
none_fresh : (j : Statements) → ones (marks_of j (replicate all_marks 0)) ≡ 0
none_fresh truths = let e = ones_kinds (replicate all_marks 0) in let z = ones_none all_marks in omega arith
none_fresh sayings = let e = ones_kinds (replicate all_marks 0) in let z = ones_none all_marks in omega arith

-- the marks x of a book that was reached, in a view, by the closed sets of the choice
pub mark_stands : {b : Book} {m k : List ℕ} {M : State} → Reached b m k M → (v : View) (x : List ℕ) → x ≡ marks_in v b → (n : ℕ) → In x n ↔ Stands M (choice_of v) n
mark_stands {b} {m} {k} {M} R v x e n =
    let i = stands_in b m k M R.form R.shows v n in
    (λ h. i.0 (subst (λ (z : List ℕ). In z n) e h), λ h. subst (λ (z : List ℕ). In z n) (sym e) (i.1 h))

-- Marks, rows, flags and answers are what the plain machine, fed only the records' bytes, and the closed sets say; gains less
-- losses equal the marks standing; no enter or issue loses, no strike or withdrawal gains.
pub demand_3 : (cs : List Call) (b : Book) (m k : List ℕ) → Chain fresh_book fresh_marks fresh_marks cs b m k → Demand3 cs b m k
unfolding fresh_marks
demand_3 cs b m k K =
    let A = after fresh_reached K in
    let R = A.reached in
    record {
      marks = mark_stands R firm m R.stands;
      second = mark_stands R both k R.second;
      within = λ n h. subst (λ (z : List ℕ). In z n) (sym R.second) (both_more R.form n (subst (λ (z : List ℕ). In z n) R.stands h));
      form = R.form;
      shows = R.shows;
      answers = A.answers;
      sums = λ j. let x = A.sums j in let y = none_fresh j in omega arith;
      one_way = A.one_way;
    }

-- Document 01's one sum follows: all gains less all losses, truths and sayings together, equal the marks standing.
pub sums_total : (cs : List Call) (b : Book) (m k : List ℕ) → Demand3 cs b m k →
    all_gains truths cs + all_gains sayings cs ≡ (all_losses truths cs + all_losses sayings cs) + ones m
sums_total cs b m k D = let t = D.sums truths in let s = D.sums sayings in let e = ones_kinds m in omega arith
