-- At a call no choice is left: book, marks and bytes decide the answer, the book and the marks that it leaves.
use Prim.Native.Nat.{ℕ, ◌+◌, ◌*◌, ◌/◌, ◌%◌, ◌<◌}
use mathlib.Core.Path.{◌≡◌, sym, ap, ap₂, ◌∙◌}
use mathlib.Core.List.{List}
use mathlib.Core.Logic.{◌⊎◌, inl, inr}
use native.Mathlib.Omega.{arith}
use native.Mathlib.Decide.{dec_lt}
use lib.ListN.{length, get_or}
use lib.Seq.{ext_get_or}
use Rattle.sorts.specs.Blank.{no_row}
use Rattle.sorts.specs.Flags.{row_flags, flag_place}
use Rattle.sorts.proofs.Flags.{status_of, status_flag, status_range}
use Rattle.rows.proofs.Shown.{Shown}
use Rattle.rows.proofs.Appended.{ext_refl}
use Rattle.bookform.specs.declared.Book.{Book}
use Rattle.bookform.specs.declared.answer.Answered.{Answered}
use Rattle.machine.specs.Machine.{State, step}
use Rattle.bookform.specs.Books.{BookForm, Lent}
use Rattle.book.specs.Shows.{Shows}
use Rattle.book.specs.Calls.{answer_of, marks_after, second_after, Called}
use Rattle.demands.proofs.ClosedBook.{shown}
use Rattle.demands.proofs.RowBack.{shown_more}
use Rattle.demands.proofs.Shown.{shows_some}

-- two books in form that show the same state are the same

module _ {b b' : Book} {m m' k k' : List ℕ} {M : State} (f : BookForm b m k) (f' : BookForm b' m' k') (sh : Shows b M) (sh' : Shows b' M) where
  S : Shown b.table.rows b.table.count M.N
  S = shown b m k M f sh

  S' : Shown b'.table.rows b'.table.count M.N
  S' = shown b' m' k' M f' sh'

  same_count : b.table.count ≡ b'.table.count
  same_count = S.counted ∙ sym S'.counted

  row_at : (g : ℕ) → g < 64 → Dec (g < b.table.count) → get_or b.table.rows g no_row ≡ get_or b'.table.rows g no_row
  row_at g l (yes h) = shown_more S S' (ext_refl M.N) g h
  row_at g l (no h) = S.unused g (omega arith) l ∙ sym (S'.unused g (omega (arith, same_count)) l)

  same_rows : b.table.rows ≡ b'.table.rows
  same_rows = ext_get_or no_row b.table.rows b'.table.rows (S.places ∙ sym S'.places) (λ g l. let p = S.places in row_at g (omega arith) (dec_lt g b.table.count))

  -- a flag of row g, by its status
  flag_at : (g j : ℕ) → j < row_flags → g < length M.N → get_or b.flags (row_flags * g + j) 0 ≡ get_or b'.flags (row_flags * g + j) 0
  flag_at g j r l =
      let e : row_flags * g + j ≡ flag_place (status_of j) g = ap (λ (i : ℕ). row_flags * g + i) (sym (status_flag j)) in
      let w = status_range j r in
      ap (λ (i : ℕ). get_or b.flags i 0) e ∙ sh.flags (status_of j) g w l ∙ sym (sh'.flags (status_of j) g w l) ∙ ap (λ (i : ℕ). get_or b'.flags i 0) (sym e)

  flags_at : (i : ℕ) → Dec (i / row_flags < length M.N) → get_or b.flags i 0 ≡ get_or b'.flags i 0
  flags_at i (yes h) =
      let e : i ≡ row_flags * (i / row_flags) + i % row_flags = omega arith in
      ap (λ (j : ℕ). get_or b.flags j 0) e ∙ flag_at (i / row_flags) (i % row_flags) (omega arith) h ∙ ap (λ (j : ℕ). get_or b'.flags j 0) (sym e)
  flags_at i (no h) =
      let c = S.counted in
      let c' = S'.counted in
      f.unflagged i (omega arith) ∙ sym (f'.unflagged i (omega arith))

  same_flags : b.flags ≡ b'.flags
  same_flags = ext_get_or 0 b.flags b'.flags (f.flags ∙ sym f'.flags) (λ i l. flags_at i (dec_lt (i / row_flags) (length M.N)))

  pub same_book : b ≡ b'
  same_book = λ i. record { table = record { rows = same_rows i; count = same_count i }; flags = same_flags i }

-- Two calls with the same book in form, buffers and bytes have the same answer, bytes used, book and buffers.
no_choice_formed : (b : Book) (m k v s : List ℕ) (M : State) → Lent b m k v → Shows b M → (r r' : Answered) (n n' l l' w w' : List ℕ) →
    Called b m k v s r n l w → Called b m k v s r' n' l' w' → (r ≡ r') × (n ≡ n') × (l ≡ l') × (w ≡ w')
no_choice_formed b m k v s M f sh r r' n n' l l' w w' C C' =
    let F = C.formed f M sh in
    let F' = C'.formed f M sh in
    let book : r.book ≡ r'.book = same_book F.form F'.form F.shows F'.shows in
    let marks : n ≡ n' = F.marks ∙ ap (λ (x : Book). marks_after (step M s).says x m) book ∙ sym F'.marks in
    let second : l ≡ l' = F.second ∙ ap (λ (x : Book). second_after (step M s).says x k) book ∙ sym F'.second in
    let preview : w ≡ w' = F.preview ∙ sym F'.preview in
    let answer : r.answer ≡ r'.answer = F.answer ∙ ap₂ (λ (x y : List ℕ). answer_of (step M s).says m k x y) marks preview ∙ sym F'.answer in
    let used : r.used ≡ r'.used = F.used ∙ sym F'.used in
    (λ i. record { book = book i; answer = answer i; used = used i }, marks, second, preview)

-- whatever book, buffers and bytes
pub no_choice : (b : Book) (m k v s : List ℕ) (r r' : Answered) (n n' l l' w w' : List ℕ) → Called b m k v s r n l w → Called b m k v s r' n' l' w' →
    (r ≡ r') × (n ≡ n') × (l ≡ l') × (w ≡ w')
no_choice b m k v s r r' n n' l l' w w' C C' = by C.decided
  where
    by : Lent b m k v ⊎ (Lent b m k v → ⊥) → (r ≡ r') × (n ≡ n') × (l ≡ l') × (w ≡ w')
    by (inl f) = let x = shows_some b m k f.book in no_choice_formed b m k v s x.0 f x.1 r r' n n' l l' w w' C C'
    by (inr d) = let x = C.unformed d in let y = C'.unformed d in (x.0 ∙ sym y.0, x.1 ∙ sym y.1, x.2 ∙ sym y.2, x.3 ∙ sym y.3)
