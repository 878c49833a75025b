-- "A number is kept for the life of the book": whatever records follow, N only grows at its end.
use Prim.Native.Nat.{ℕ, suc, ◌<◌}
use mathlib.Core.Path.{◌≡◌, refl, sym, ap, subst, ◌∙◌}
use mathlib.Core.Bool.{Bool, true, false, cond}
use mathlib.Core.List.{List, [], ◌∷◌, ◌++◌}
use native.Mathlib.Omega.{arith}
use lib.ListN.{length}
use lib.Dec.{eqb}
use Rattle.sorts.specs.Numbers.{all_marks}
use Rattle.sorts.specs.declared.Refusal.TheVariants as refusal
use Rattle.rows.specs.Written.{Grant, same_written}
use Rattle.rows.specs.Numbering.{place, has}
use Rattle.rows.specs.Form.{rows_out}
use Rattle.rows.proofs.Place.{has_lt}
use Rattle.frames.specs.Bytes.{Outcome, got, refused}
use Rattle.frames.specs.Frames.{extent}
use Rattle.reader.specs.Contents.{Record, enter, remove, confirm, preview, query}
use Rattle.reader.specs.Records.{read_canonical}
use Rattle.rows.proofs.Appended.{Ext, ext_refl, ext_trans}
use Rattle.bookform.specs.declared.Book.{Book}
use Rattle.machine.specs.Machine.{State, start, refuse, acted, step, feed}
use Rattle.bookform.specs.Books.{fresh_book, fresh_marks}
use Rattle.book.specs.Chains.{Call, Chain, Fed, records, runs}
use Rattle.demands.proofs.Moving.{Moved, moved}
use Rattle.demands.proofs.Reached.{fresh_reached}
use Rattle.demands.proofs.Demand3.{after}

step_grows : (M : State) (s : List ℕ) → Ext M.N (step M s).next.N
unfolding step
step_grows M s = go (read_canonical s) (moved M (read_canonical s))
  where
    go : (o : Outcome Record) → Moved M o → Ext M.N (acted M (extent s) o).next.N
    go (got (enter by g) n) u = u.ext
    go (got (remove by g) n) u = u.ext
    go (got (confirm p g) n) u = u.ext
    go (got (preview p g) n) u = u.ext
    go (got (query c) n) u = u.ext
    go (refused k) u = u.ext

feed_grows : (M : State) (u : ℕ) (s : List ℕ) → Ext M.N (feed M u s).next.N
unfolding feed
feed_grows M u s = go (eqb u all_marks)
  where
    go : (t : Bool) → Ext M.N (cond t (step M s) (refuse M refusal.Form 0)).next.N
    go true = step_grows M s
    go false = ext_refl M.N

-- Over every list of records N only grows at its end,
pub grows : (ss : List Fed) (M : State) → Ext M.N (runs M ss).N
unfolding runs
grows [] M = ext_refl M.N
grows (s ∷ ss) M = ext_trans (feed_grows M s.room s.bytes) (grows ss (feed M s.room s.bytes).next)

place_grows : (g : Grant) (N more : List Grant) → place g N < length N → place g (N ++ more) ≡ place g N
unfolding place
place_grows g [] more l = absurd (omega arith)
place_grows g (h ∷ N) more l = go (same_written g h) (place_grows g N more) l
  where
    go : (t : Bool) → (place g N < length N → place g (N ++ more) ≡ place g N) → cond t 0 (suc (place g N)) < suc (length N) →
        cond t 0 (suc (place g (N ++ more))) ≡ cond t 0 (suc (place g N))
    go true f k = refl
    go false f k = ap suc (f (omega arith))

-- so a grant that has a number keeps it,
pub number_kept : (ss : List Fed) (M : State) (g : Grant) → has g M.N ≡ true → place g (runs M ss).N ≡ place g M.N
number_kept ss M g e =
    let x = grows ss M in
    ap (place g) x.is ∙ place_grows g M.N x.more (has_lt g M.N e)

-- and the rows of a book that calls reached stay the first of those that more calls leave.
pub rows_kept : {b b' : Book} {m m' k k' : List ℕ} {cs ds : List Call} → Chain fresh_book fresh_marks fresh_marks cs b m k → Chain b m k ds b' m' k' →
    Ext (rows_out b.table.rows b.table.count) (rows_out b'.table.rows b'.table.count)
rows_kept {b} {b'} {cs = cs} {ds = ds} K L =
    let A = (after fresh_reached K).reached in
    let B = (after A L).reached in
    let M = runs start (records cs) in
    subst (λ (N : List Grant). Ext N (rows_out b'.table.rows b'.table.count)) (sym A.shows.rows)
    (subst (Ext M.N) (sym B.shows.rows) (grows (records ds) M))
