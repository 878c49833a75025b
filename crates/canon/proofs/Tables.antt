-- A table in form: how its grants stand is told by its rows, and its grants are in form exactly when the conditions of each row
-- ascend.
use Prim.Native.Nat.{Ordering}
use Prim.Native.Nat.{ℕ, zero, suc, ◌≤◌, ◌<◌}
use mathlib.Core.Path.{◌≡◌, refl, sym, ◌∙◌, ap₂}
use mathlib.Core.Bool.{Bool, true, false, cond}
use mathlib.Core.List.{List}
use mathlib.Core.Logic.{◌⊎◌, inl, inr}
use native.Mathlib.Omega.{arith}
use native.Mathlib.Decide.{ℕ_discrete}
use lib.ListN.{get_or}
use lib.Dec.{eqb}
use borrow.Author.Tests.{eqb-true}
use Rattle.sorts.specs.Numbers.{item_var}
use Rattle.sorts.specs.declared.Res.TheVariants.{Issue, Run, Export}
use Rattle.sorts.specs.declared.Concl as c
use Rattle.sorts.specs.declared.Concl.TheVariants.{Property, Perm}
use Rattle.sorts.specs.declared.Row.{Row}
use Rattle.sorts.specs.Blank.{blank_cond, no_row}
use Rattle.rows.specs.Written.{Grant}
use Rattle.sorts.specs.RowForm.{ConclForm, RowForm}
use Rattle.rows.specs.Form.{no_grant}
use Rattle.rows.proofs.Shown.{Shown}
use Rattle.canon.specs.Canon.{Canonical}
use Rattle.canon.specs.Compare.{cmp_grant}
use Rattle.canon.specs.RowOrder.{row_by, numbers_by, Tells, Ascends}
use Rattle.canon.proofs.Compare.{cmp_refl}
use Rattle.canon.proofs.RowOrder.{row_by_lem, row_form}

concl_up : (n m v s : ℕ) (e : c.Concl) → n ≤ m → ConclForm n v s e → ConclForm m v s e
concl_up n m v s (Property k p) l a = a
concl_up n m v s (Perm p (Issue g)) l a = (a.0, go a.1)
  where
    go : (g.0 < n) ⊎ ((g.0 ≡ item_var) × (s ≡ 1)) → (g.0 < m) ⊎ ((g.0 ≡ item_var) × (s ≡ 1))
    go (inl h) = inl (omega arith)
    go (inr h) = inr h
concl_up n m v s (Perm p (Run k)) l a = a
concl_up n m v s (Perm p (Export k)) l a = a

-- what is in form at a number is at every higher one
pub row_up : (n m : ℕ) (x : Row) → n ≤ m → RowForm n x → RowForm m x
row_up n m x l a = record {
  prins = a.prins;
  res = a.res;
  count = a.count;
  places = a.places;
  used = λ j h. ((a.used j h).0, concl_up n m x.prins x.res (get_or x.conds j blank_cond).what l (a.used j h).1);
  unused = a.unused;
  head = concl_up n m x.prins x.res x.head l a.head;
}

module _ (rows : List Row) (count : ℕ) (N : List Grant) (shown : Shown rows count N) where
  -- the rows tell how the grants stand
  pub numbers_tell : (k : ℕ) → k ≤ count → Tells (numbers_by k rows) N k
  unfolding numbers_by
  numbers_tell zero l i j a b = absurd (omega arith)
  numbers_tell (suc k) l i j a b = go (eqb i j) refl (numbers_tell k (omega arith))
    where
      go : (t : Bool) → eqb i j ≡ t → Tells (numbers_by k rows) N k → cond t Ordering.eq (row_by (numbers_by k rows) (get_or rows i no_row) (get_or rows j no_row)) ≡ cmp_grant (get_or N i no_grant) (get_or N j no_grant)
      go true e ih = rw (eqb-true i j e) (sym (cmp_refl (get_or N j no_grant)))
      go false e ih =
          row_by_lem N k (numbers_by k rows) ih (get_or rows i no_row) (get_or rows j no_row) (row_up i k (get_or rows i no_row) (omega arith) (shown.used i (omega arith))) (row_up j k (get_or rows j no_row) (omega arith) (shown.used j (omega arith)))
          ∙ ap₂ cmp_grant (sym (shown.written i (omega arith))) (sym (shown.written j (omega arith)))

  tells_up_to : (i : ℕ) → i ≤ count → Tells (numbers_by count rows) N i
  tells_up_to i l a b p q = numbers_tell count (omega arith) a b (omega arith) (omega arith)

  ascending_below : ((i : ℕ) → i < count → Ascends (numbers_by count rows) (get_or rows i no_row)) → (k : ℕ) → k ≤ count → (i : ℕ) → i < k → Canonical (get_or N i no_grant)
  ascending_below up zero l i h = absurd (omega arith)
  ascending_below up (suc k) l i h = go (ℕ_discrete i k) (ascending_below up k (omega arith))
    where
      go : Dec (i ≡ k) → ((j : ℕ) → j < k → Canonical (get_or N j no_grant)) → Canonical (get_or N i no_grant)
      go (yes e) low = rw e (rw (shown.written k (omega arith)) (row_form N k (numbers_by count rows) (tells_up_to k (omega arith)) (get_or rows k no_row) (shown.used k (omega arith)) low (up k (omega arith))))
      go (no e) low = low i (omega arith)
