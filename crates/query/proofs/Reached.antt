-- The states of the plain machine are as the theorems ask.
use mathlib.Core.Path.{◌≡◌, sym, ap, subst, ◌∙◌}
use mathlib.Core.List.{List, [], ◌∷◌}
use Prim.Native.Nat.{ℕ}
use native.Mathlib.Omega.{arith}
use native.Mathlib.Decide.{ℕ_discrete}
use Rattle.sorts.specs.Numbers.{all_marks}
use Rattle.sorts.specs.RowForm.{RowForm}
use Rattle.bookform.specs.declared.Book.{Book}
use Rattle.machine.specs.Machine.{State, Step, start, feed}
use Rattle.bookform.specs.Books.{BookForm}
use Rattle.book.specs.Shows.{Shows}
use Rattle.bookform.specs.Books.{fresh_marks}
use Rattle.book.specs.Chains.{Fed, runs}
use Rattle.book.proofs.Forms.{table_rows}
use Rattle.demands.proofs.RowBack.{shown_row}
use Rattle.demands.proofs.ClosedBook.{shown}
use Rattle.demands.proofs.Reached.{Reached, fresh_reached, fed_other, reached_after}
use Rattle.demands.proofs.Existence.{call_some, blank_preview}
use Rattle.query.specs.Query.{Formed}

-- a state that a book in form shows
pub formed : (b : Book) (m k : List ℕ) (M : State) → BookForm b m k → Shows b M → Formed M
formed b m k M f sh =
    let S = shown b m k M f sh in
    let c = S.counted in
    let s = S.small in
    record {
      few = omega arith;
      distinct = S.distinct;
      rows = λ g l. subst (RowForm g) (shown_row S g (omega arith)) (table_rows b.table f.table g (omega arith));
      within = sh.within;
    }

-- some book is reached that shows the state
record Some (M : State) : Type 0 where
  book : Book
  marks : List ℕ
  second : List ℕ
  reached : Reached book marks second M

-- one record more: by a call, or, where the preview buffer is not as long as the marks, by none
some_fed : (f : Fed) {M : State} → Some M → Some (feed M f.room f.bytes).next
some_fed f {M} S = go (ℕ_discrete f.room all_marks)
  where
    go : Dec (f.room ≡ all_marks) → Some (feed M f.room f.bytes).next
    go (yes e) =
        let C = call_some S.book S.marks S.second fresh_marks f.bytes (record { book = S.reached.form; preview = blank_preview }) in
        subst (λ (u : ℕ). Some (feed M u f.bytes).next) (blank_preview ∙ sym e) (record { book = _; marks = _; second = _; reached = reached_after S.reached C })
    go (no d) = subst Some (sym (ap (λ (x : Step). x.next) (fed_other M f.room f.bytes d))) S

some_runs : (fs : List Fed) {M : State} → Some M → Some (runs M fs)
unfolding runs
some_runs [] S = S
some_runs (f ∷ fs) S = some_runs fs (some_fed f S)

-- Every state that the machine reaches, by whatever records, and whatever preview buffers are lent with them.
pub reached_formed : (fs : List Fed) → Formed (runs start fs)
reached_formed fs =
    let S = some_runs fs (record { book = _; marks = _; second = _; reached = fresh_reached }) in
    formed S.book S.marks S.second (runs start fs) S.reached.form S.reached.shows
