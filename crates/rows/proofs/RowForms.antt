-- A row that is an allowed grant, written out, is in form.
use Prim.Native.Nat.{ℕ, zero, suc, ◌+◌, ◌<◌, ◌≤◌}
use mathlib.Core.List.{List}
use mathlib.Core.Bool.{Bool, true, false}
use mathlib.Core.Path.{◌≡◌, refl, subst}
use mathlib.Core.Logic.{inl, inr}
use native.Mathlib.Omega.{arith}
use lib.ListN.{length, get_or}
use lib.Dec.{eqb}
use borrow.Author.Tests.{eqb-true, eqb-false, eq-eqb}
use Rattle.sorts.specs.Numbers.{conditions, grants, item_var}
use Rattle.sorts.specs.declared.Res.{Res}
use Rattle.sorts.specs.declared.Res.TheVariants.{Issue, Run, Export}
use Rattle.sorts.specs.declared.Concl as rc
use Rattle.sorts.specs.declared.Concl.TheVariants.{Property, Perm}
use Rattle.sorts.specs.declared.Cond.{Cond}
use Rattle.sorts.specs.declared.Row.{Row}
use Rattle.sorts.specs.Blank.{blank_cond}
use Rattle.rows.specs.Written.{Grant}
use Rattle.rows.specs.Form.{write_res, write_concl, write_conds, write_row}
use Rattle.sorts.specs.RowForm.{ResForm, ConclForm, CondForm, RowForm}
use Rattle.rows.specs.Allowed.{Allowed, AllowedConds, AllowedConcl, AllowedRight}
use Rattle.rows.proofs.Rows.{ResBelow, ConclBelow}

module _ (N : List Grant) where
  res_form : (res : ℕ) (x : Res) → ResBelow (length N) x → AllowedRight res (write_res N x) → ResForm (length N) res x
  unfolding Allowed
  res_form res (Issue g) (inl l) a = inl l
  res_form res (Issue g) (inr e) a = inr (e, rw (eq-eqb g.0 item_var e) at a)
  res_form res (Run n) b a = a
  res_form res (Export n) b a = a

  concl_form : (prins res : ℕ) (x : rc.Concl) → ConclBelow (length N) x → AllowedConcl prins res (write_concl N x) → ConclForm (length N) prins res x
  unfolding Allowed
  concl_form prins res (Property k p) b a = a
  concl_form prins res (Perm p x) b a = (a.0, res_form res x b a.1)

  conds_form : (prins res : ℕ) (cs : List Cond) (i k : ℕ) → ((j : ℕ) → j < i + k → ConclBelow (length N) (get_or cs j blank_cond).what) →
      AllowedConds prins res (write_conds N cs i k) → (j : ℕ) → i ≤ j → j < i + k → CondForm (length N) prins res (get_or cs j blank_cond)
  unfolding Allowed write_conds
  conds_form prins res cs i zero b a j l h = absurd (omega arith)
  conds_form prins res cs i (suc k) b a j l h =
      go (eqb i j) refl (conds_form prins res cs (i + 1) k (λ j' h'. b j' (omega arith)) a.2 j)
    where
      here : CondForm (length N) prins res (get_or cs i blank_cond)
      here = (a.0, concl_form prins res (get_or cs i blank_cond).what (b i (omega arith)) a.1)

      go : (q : Bool) → eqb i j ≡ q → (i + 1 ≤ j → j < i + 1 + k → CondForm (length N) prins res (get_or cs j blank_cond)) → CondForm (length N) prins res (get_or cs j blank_cond)
      go true q f = subst (λ (n : ℕ). CondForm (length N) prins res (get_or cs n blank_cond)) (eqb-true i j q) here
      go false q f = let ne = eqb-false i j q in f (omega arith) (omega arith)

  pub row_form : length N ≤ grants → (x : Row) → length x.conds ≡ conditions → ((j : ℕ) → j < x.count → ConclBelow (length N) (get_or x.conds j blank_cond).what) →
      ((j : ℕ) → x.count ≤ j → get_or x.conds j blank_cond ≡ blank_cond) → ConclBelow (length N) x.head → x.count ≤ conditions → Allowed (write_row N x) → RowForm (length N) x
  unfolding Allowed write_row
  row_form small x four below blank head most a = record {
    prins = a.0;
    res = a.1;
    count = most;
    places = four;
    used = λ j l. conds_form x.prins x.res x.conds 0 x.count (λ j' h. below j' (omega arith)) a.3 j (omega arith) (omega arith);
    unused = blank;
    head = concl_form x.prins x.res x.head head a.4;
  }
