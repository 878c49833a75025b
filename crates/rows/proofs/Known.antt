-- A grant that has a number numbers nothing new; and the conclusion of a row, written out, has the row's numbers.
use Prim.Native.Nat.{ℕ, zero, suc, ◌+◌, ◌<◌, ◌≤◌}
use mathlib.Core.List.{List}
use mathlib.Core.Bool.{true}
use mathlib.Core.Path.{◌≡◌, refl, sym, ap, subst, ◌∙◌}
use mathlib.Core.Logic.{inl, inr}
use native.Mathlib.Omega.{arith}
use lib.ListN.{length, get_or}
use Rattle.sorts.specs.Numbers.{grants, item_var}
use Rattle.sorts.specs.declared.Res as r
use Rattle.sorts.specs.declared.Res.TheVariants.{Issue, Run, Export}
use Rattle.sorts.specs.declared.Concl as rc
use Rattle.sorts.specs.declared.Concl.TheVariants.{Property, Perm}
use Rattle.sorts.specs.declared.Cond.{Cond}
use Rattle.sorts.specs.declared.Row.{Row}
use Rattle.sorts.specs.Blank.{blank_cond, no_row}
use Rattle.sorts.proofs.Marks.{grant_is}
use Rattle.rows.specs.Written.{Grant, Conds, Concl, Right, grant, none, also, property, perm, issue, issue_any, run, export}
use Rattle.rows.specs.Numbering.{place, has, add, number, number_conds, number_concl, number_right}
use Rattle.rows.specs.Form.{no_grant, write_res, write_concl, write_conds, write_row, res_of, concl_of}
use Rattle.rows.proofs.Place.{Distinct, place_at, place_is, has_in, has_lt}
use Rattle.rows.proofs.Rows.{ResBelow, ConclBelow, RowBelow, write_issue, write_any}
use Rattle.rows.proofs.Shown.{Shown, shown_below}

-- the grants that one holds are numbered
abbrev RightIn : List Grant → Right → Type 0
RightIn N (issue g) = has g N ≡ true
RightIn N issue_any = Unit {0}
RightIn N (run n) = Unit {0}
RightIn N (export n) = Unit {0}

abbrev ConclIn : List Grant → Concl → Type 0
ConclIn N (property k p) = Unit {0}
ConclIn N (perm p x) = RightIn N x

abbrev CondsIn : List Grant → Conds → Type 0
CondsIn N none = Unit {0}
CondsIn N (also p c cs) = ConclIn N c × CondsIn N cs

abbrev GrantIn : List Grant → Grant → Type 0
GrantIn N (grant v r cs c) = CondsIn N cs × ConclIn N c

module _ (N : List Grant) (small : length N ≤ grants) where
  res_in : (x : r.Res) → ResBelow (length N) x → RightIn N (write_res N x)
  res_in (Issue g) (inl l) = subst (RightIn N) (sym (write_issue N g.0 (omega arith))) (has_in (get_or N g.0 no_grant) N g.0 l refl)
  res_in (Issue g) (inr e) = subst (RightIn N) (sym (write_any N g.0 e)) tt
  res_in (Run n) h = tt
  res_in (Export n) h = tt

  concl_in : (x : rc.Concl) → ConclBelow (length N) x → ConclIn N (write_concl N x)
  concl_in (Property k p) h = tt
  concl_in (Perm p x) h = res_in x h

  conds_in : (cs : List Cond) (i k : ℕ) → ((j : ℕ) → j < i + k → ConclBelow (length N) (get_or cs j blank_cond).what) → CondsIn N (write_conds N cs i k)
  unfolding write_conds
  conds_in cs i zero h = tt
  conds_in cs i (suc k) h = (concl_in (get_or cs i blank_cond).what (h i (omega arith)), conds_in cs (i + 1) k (λ j q. h j (omega arith)))

  row_in : (x : Row) → RowBelow (length N) x → GrantIn N (write_row N x)
  unfolding write_row
  row_in x b = (conds_in x.conds 0 x.count (λ j q. b.used j (omega arith)), concl_in x.head b.head)

-- with a grant N has all that it holds
shown_in : {rows : List Row} {count : ℕ} {N : List Grant} → Shown rows count N → (g : Grant) → has g N ≡ true → GrantIn N g
shown_in {rows} {count} {N} R g e =
    let l = has_lt g N e in
    let c = R.counted in
    let s = R.small in
    let i = place g N in
    subst (GrantIn N) (sym (R.written i (omega arith)) ∙ place_at g N l)
    (row_in N (omega arith) (get_or rows i no_row) (shown_below R i (omega arith)))

add_known : (g : Grant) (N : List Grant) → has g N ≡ true → add g N ≡ N
unfolding add
add_known g N e = rw e

module _ (N : List Grant) (closed : (h : Grant) → has h N ≡ true → GrantIn N h) where
  mutual
    unfolding number

    known : (g : Grant) → has g N ≡ true → number g N ≡ N
    known (grant v r cs c) e =
        ap (λ (X : List Grant). add (grant v r cs c) (number_concl c X)) (known_conds cs (closed (grant v r cs c) e).0) ∙
        ap (add (grant v r cs c)) (known_concl c (closed (grant v r cs c) e).1) ∙ add_known (grant v r cs c) N e

    known_conds : (cs : Conds) → CondsIn N cs → number_conds cs N ≡ N
    known_conds none i = refl
    known_conds (also p c cs) i = ap (number_conds cs) (known_concl c i.0) ∙ known_conds cs i.1

    known_concl : (c : Concl) → ConclIn N c → number_concl c N ≡ N
    known_concl (property k p) i = refl
    known_concl (perm p x) i = known_right x i

    known_right : (x : Right) → RightIn N x → number_right x N ≡ N
    known_right (issue g) i = known g i
    known_right issue_any i = refl
    known_right (run n) i = refl
    known_right (export n) i = refl

-- numbering a grant that has a number changes nothing
pub numbered_known : {rows : List Row} {count : ℕ} {N : List Grant} → Shown rows count N → (g : Grant) → has g N ≡ true → number g N ≡ N
numbered_known {rows} {count} {N} R g e = known N (shown_in R) g e

-- a row's conclusion, written out and with its grants as their numbers again

module _ (N : List Grant) (small : length N ≤ grants) (dis : Distinct N) where
  res_back : (x : r.Res) → ResBelow (length N) x → res_of N (write_res N x) ≡ x
  res_back (Issue g) (inl l) =
      ap (res_of N) (write_issue N g.0 (omega arith)) ∙ ap Issue (grant_is (record { 0 = place (get_or N g.0 no_grant) N }) g (place_is (get_or N g.0 no_grant) N dis g.0 l refl))
  res_back (Issue g) (inr e) = ap (res_of N) (write_any N g.0 e) ∙ ap Issue (grant_is (record { 0 = item_var }) g (sym e))
  res_back (Run n) h = refl
  res_back (Export n) h = refl

  pub concl_back : (x : rc.Concl) → ConclBelow (length N) x → concl_of N (write_concl N x) ≡ x
  concl_back (Property k p) h = refl
  concl_back (Perm p x) h = ap (Perm p) (res_back x h)
