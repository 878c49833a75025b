-- A table and the list N that its rows are, written out.
use Prim.Native.Nat.{ℕ, zero, suc, ◌+◌, ◌<◌, ◌≤◌}
use mathlib.Core.List.{List, ◌++◌}
use mathlib.Core.Bool.{Bool, true, false}
use mathlib.Core.Path.{◌≡◌, refl, sym, ap, subst, ◌∙◌}
use mathlib.Core.Logic.{◌⊎◌, inl, inr, ⊎_elim}
use native.Mathlib.Omega.{arith}
use lib.ListN.{length, get_or, get_or-append}
use lib.Seq.{ext_get_or}
use lib.Dec.{eqb, ltb}
use borrow.Author.Tests.{eqb-true, eqb-false, eq-eqb, ne_eqb, ltb-true, ltb-false}
use Rattle.sorts.specs.Numbers.{conditions, grants, item_var}
use Rattle.sorts.specs.declared.Res as r
use Rattle.sorts.specs.declared.Res.TheVariants.{Issue, Run, Export}
use Rattle.sorts.specs.declared.Concl as rc
use Rattle.sorts.specs.declared.Concl.TheVariants.{Property, Perm}
use Rattle.sorts.specs.declared.Cond.{Cond}
use Rattle.sorts.specs.declared.Row.{Row}
use Rattle.sorts.specs.Blank.{blank_cond}
use Rattle.sorts.proofs.Marks.{prin_is, grant_is, pack_is}
use Rattle.rows.specs.Written.{Grant, Right, grant, also, perm, issue, issue_any, run, export}
use Rattle.rows.specs.Form.{no_grant, write_res, write_concl, write_conds, write_row}
use Rattle.sorts.specs.RowForm.{ConclForm, RowForm}
use Rattle.rows.proofs.Place.{Distinct}
use Rattle.rows.proofs.RowSame.{row_path}

-- the grants that a row holds have numbers below n, or are the variable
abbrev pub ResBelow : ℕ → r.Res → Type 0
ResBelow n (Issue g) = (g.0 < n) ⊎ (g.0 ≡ item_var)
ResBelow n (Run k) = Unit {0}
ResBelow n (Export k) = Unit {0}

abbrev pub ConclBelow : ℕ → rc.Concl → Type 0
ConclBelow n (Property k p) = Unit {0}
ConclBelow n (Perm p x) = ResBelow n x

pub record RowBelow (n : ℕ) (x : Row) : Type 0 where
  pub places : length x.conds ≡ conditions
  pub used : (j : ℕ) → j < x.count → ConclBelow n (get_or x.conds j blank_cond).what
  pub unused : (j : ℕ) → x.count ≤ j → get_or x.conds j blank_cond ≡ blank_cond
  pub head : ConclBelow n x.head

concl_below : (n prins res : ℕ) (c : rc.Concl) → ConclForm n prins res c → ConclBelow n c
concl_below n prins res (Property k p) f = tt
concl_below n prins res (Perm p (Issue g)) f = ⊎_elim (λ h. inl h) (λ h. inr h.0) f.1
concl_below n prins res (Perm p (Run k)) f = tt
concl_below n prins res (Perm p (Export k)) f = tt

pub form_below : (n : ℕ) (x : Row) → RowForm n x → RowBelow n x
form_below n x f = record {
  places = f.places;
  used = λ j l. concl_below n x.prins x.res (get_or x.conds j blank_cond).what (f.used j l).1;
  unused = f.unused;
  head = concl_below n x.prins x.res x.head f.head;
}

pub concl_up : (n m : ℕ) (x : rc.Concl) → n ≤ m → ConclBelow n x → ConclBelow m x
concl_up n m (Property k p) l h = tt
concl_up n m (Perm p (Issue g)) l h = ⊎_elim (λ a. inl (omega arith)) (λ a. inr a) h
concl_up n m (Perm p (Run k)) l h = tt
concl_up n m (Perm p (Export k)) l h = tt

pub below_up : (n m : ℕ) (x : Row) → n ≤ m → RowBelow n x → RowBelow m x
below_up n m x l b = record { places = b.places; used = λ j h. concl_up n m (get_or x.conds j blank_cond).what l (b.used j h); unused = b.unused; head = concl_up n m x.head l b.head }

-- an issue right written out, by what its number is

pub write_any : (N : List Grant) (g : ℕ) → g ≡ item_var → write_res N (Issue (record { 0 = g })) ≡ issue_any
write_any N g e = rw (eq-eqb g item_var e)

pub write_issue : (N : List Grant) (g : ℕ) → g < item_var → write_res N (Issue (record { 0 = g })) ≡ issue (get_or N g no_grant)
write_issue N g l = rw (ne_eqb g item_var (λ (e : g ≡ item_var). omega arith))

-- more numbers change nothing that is written out

module _ (N X : List Grant) (small : length N ≤ grants) where
  res_ext : (x : r.Res) → ResBelow (length N) x → write_res (N ++ X) x ≡ write_res N x
  res_ext (Issue g) (inl l) =
      write_issue (N ++ X) g.0 (omega arith) ∙ ap issue (get_or-append N X no_grant g.0 l) ∙ sym (write_issue N g.0 (omega arith))
  res_ext (Issue g) (inr e) = write_any (N ++ X) g.0 e ∙ sym (write_any N g.0 e)
  res_ext (Run k) b = refl
  res_ext (Export k) b = refl

  pub concl_ext : (x : rc.Concl) → ConclBelow (length N) x → write_concl (N ++ X) x ≡ write_concl N x
  concl_ext (Property k p) b = refl
  concl_ext (Perm p x) b = ap (perm p.0) (res_ext x b)

  pub conds_ext : (cs : List Cond) (i k : ℕ) → ((j : ℕ) → j < i + k → ConclBelow (length N) (get_or cs j blank_cond).what) → write_conds (N ++ X) cs i k ≡ write_conds N cs i k
  unfolding write_conds
  conds_ext cs i zero h = refl
  conds_ext cs i (suc k) h =
      λ z. also (get_or cs i blank_cond).who.0 (concl_ext (get_or cs i blank_cond).what (h i (omega arith)) z) (conds_ext cs (i + 1) k (λ j l. h j (omega arith)) z)

  pub row_ext : (x : Row) → RowBelow (length N) x → write_row (N ++ X) x ≡ write_row N x
  unfolding write_row
  row_ext x b = λ z. grant x.prins x.res (conds_ext x.conds 0 x.count (λ j l. b.used j (omega arith)) z) (concl_ext x.head b.head z)

-- a row written out tells the row

module _ (N : List Grant) (small : length N ≤ grants) (dis : Distinct N) where
  issue_inj : (g h : ℕ) → (g < length N) ⊎ (g ≡ item_var) → (h < length N) ⊎ (h ≡ item_var) → write_res N (Issue (record { 0 = g })) ≡ write_res N (Issue (record { 0 = h })) → g ≡ h
  issue_inj g h (inl a) (inl b) e =
      let d : issue (get_or N g no_grant) ≡ issue (get_or N h no_grant) = sym (write_issue N g (omega arith)) ∙ e ∙ write_issue N h (omega arith) in
      let f : get_or N g no_grant ≡ get_or N h no_grant = cc in
      dis g h a b f
  issue_inj g h (inl a) (inr b) e =
      let d : issue (get_or N g no_grant) ≡ issue_any = sym (write_issue N g (omega arith)) ∙ e ∙ write_any N h b in
      cc
  issue_inj g h (inr a) (inl b) e =
      let d : issue_any ≡ issue (get_or N h no_grant) = sym (write_any N g a) ∙ e ∙ write_issue N h (omega arith) in
      cc
  issue_inj g h (inr a) (inr b) e = a ∙ sym b

  -- an issue right is not written like another right
  issue_not : (g : ℕ) → (g < length N) ⊎ (g ≡ item_var) → (x : Right) → ((w : Grant) → x ≡ issue w → ⊥) → (x ≡ issue_any → ⊥) → write_res N (Issue (record { 0 = g })) ≡ x → ⊥
  issue_not g (inl a) x f k e = f (get_or N g no_grant) (sym e ∙ write_issue N g (omega arith))
  issue_not g (inr a) x f k e = k (sym e ∙ write_any N g a)

  run_not : (n : ℕ) → ((w : Grant) → run n ≡ issue w → ⊥) × (run n ≡ issue_any → ⊥)
  run_not n = (λ w e. cc, λ e. cc)

  export_not : (n : ℕ) → ((w : Grant) → export n ≡ issue w → ⊥) × (export n ≡ issue_any → ⊥)
  export_not n = (λ w e. cc, λ e. cc)

  res_inj : (x y : r.Res) → ResBelow (length N) x → ResBelow (length N) y → write_res N x ≡ write_res N y → x ≡ y
  res_inj (Issue g) (Issue h) p q e = ap Issue (grant_is g h (issue_inj g.0 h.0 p q e))
  res_inj (Issue g) (Run n) p q e = absurd (issue_not g.0 p (run n.0) (run_not n.0).0 (run_not n.0).1 e)
  res_inj (Issue g) (Export n) p q e = absurd (issue_not g.0 p (export n.0) (export_not n.0).0 (export_not n.0).1 e)
  res_inj (Run m) (Issue h) p q e = absurd (issue_not h.0 q (run m.0) (run_not m.0).0 (run_not m.0).1 (sym e))
  res_inj (Run m) (Run n) p q e = let d : m.0 ≡ n.0 = cc in ap Run (pack_is m n d)
  res_inj (Run m) (Export n) p q e = cc
  res_inj (Export m) (Issue h) p q e = absurd (issue_not h.0 q (export m.0) (export_not m.0).0 (export_not m.0).1 (sym e))
  res_inj (Export m) (Run n) p q e = cc
  res_inj (Export m) (Export n) p q e = let d : m.0 ≡ n.0 = cc in ap Export (pack_is m n d)

  concl_inj : (x y : rc.Concl) → ConclBelow (length N) x → ConclBelow (length N) y → write_concl N x ≡ write_concl N y → x ≡ y
  concl_inj (Property k p) (Property l q) a b e =
      let d : k ≡ l = cc in
      let f : p.0 ≡ q.0 = cc in
      let g = prin_is p q f in
      cc
  concl_inj (Property k p) (Perm q y) a b e = cc
  concl_inj (Perm p x) (Property l q) a b e = cc
  concl_inj (Perm p x) (Perm q y) a b e =
      let f : p.0 ≡ q.0 = cc in
      let g = prin_is p q f in
      let d : write_res N x ≡ write_res N y = cc in
      let h : x ≡ y = res_inj x y a b d in
      cc

  -- as many conditions, and each the same
  conds_many : (cs ds : List Cond) (i k l : ℕ) → write_conds N cs i k ≡ write_conds N ds i l → k ≡ l
  unfolding write_conds
  conds_many cs ds i zero zero e = refl
  conds_many cs ds i zero (suc l) e = cc
  conds_many cs ds i (suc k) zero e = cc
  conds_many cs ds i (suc k) (suc l) e =
      let d : write_conds N cs (i + 1) k ≡ write_conds N ds (i + 1) l = cc in
      ap suc (conds_many cs ds (i + 1) k l d)

  conds_inj : (cs ds : List Cond) (i k : ℕ) →
      ((j : ℕ) → j < i + k → ConclBelow (length N) (get_or cs j blank_cond).what) →
      ((j : ℕ) → j < i + k → ConclBelow (length N) (get_or ds j blank_cond).what) →
      write_conds N cs i k ≡ write_conds N ds i k → (j : ℕ) → i ≤ j → j < i + k → get_or cs j blank_cond ≡ get_or ds j blank_cond
  unfolding write_conds
  conds_inj cs ds i zero a b e j l h = absurd (omega arith)
  conds_inj cs ds i (suc k) a b e j l h =
      go (eqb i j) refl
      (conds_inj cs ds (i + 1) k (λ j' h'. a j' (omega arith)) (λ j' h'. b j' (omega arith)) rest j)
    where
      rest : write_conds N cs (i + 1) k ≡ write_conds N ds (i + 1) k
      rest = cc

      here : get_or cs i blank_cond ≡ get_or ds i blank_cond
      here =
          let w : (get_or cs i blank_cond).who.0 ≡ (get_or ds i blank_cond).who.0 = cc in
          let t : write_concl N (get_or cs i blank_cond).what ≡ write_concl N (get_or ds i blank_cond).what = cc in
          let c : (get_or cs i blank_cond).what ≡ (get_or ds i blank_cond).what = concl_inj _ _ (a i (omega arith)) (b i (omega arith)) t in
          λ n. record { who = prin_is _ _ w n; what = c n }

      go : (q : Bool) → eqb i j ≡ q → (i + 1 ≤ j → j < i + 1 + k → get_or cs j blank_cond ≡ get_or ds j blank_cond) → get_or cs j blank_cond ≡ get_or ds j blank_cond
      go true q f = subst (λ (n : ℕ). get_or cs n blank_cond ≡ get_or ds n blank_cond) (eqb-true i j q) here
      go false q f = let ne = eqb-false i j q in f (omega arith) (omega arith)

  pub row_inj : (x y : Row) → RowBelow (length N) x → RowBelow (length N) y → write_row N x ≡ write_row N y → x ≡ y
  unfolding write_row
  row_inj x y a b e =
      let v : x.prins ≡ y.prins = cc in
      let s : x.res ≡ y.res = cc in
      let t : write_conds N x.conds 0 x.count ≡ write_conds N y.conds 0 y.count = cc in
      let n : x.count ≡ y.count = conds_many x.conds y.conds 0 x.count y.count t in
      let w : write_concl N x.head ≡ write_concl N y.head = cc in
      let t' : write_conds N x.conds 0 x.count ≡ write_conds N y.conds 0 x.count = t ∙ ap (write_conds N y.conds 0) (sym n) in
      row_path x y v s n (ext_get_or blank_cond x.conds y.conds (a.places ∙ sym b.places) (λ j h. at j (ltb j x.count) refl n t'))
      (concl_inj x.head y.head a.head b.head w)
    where
      at : (j : ℕ) (q : Bool) → ltb j x.count ≡ q → x.count ≡ y.count → write_conds N x.conds 0 x.count ≡ write_conds N y.conds 0 x.count →
          get_or x.conds j blank_cond ≡ get_or y.conds j blank_cond
      at j true q n t =
          let l : j < x.count = ltb-true j x.count q in
          conds_inj x.conds y.conds 0 x.count (λ i h. a.used i (omega arith)) (λ i h. b.used i (omega arith)) t j (omega arith) (omega arith)
      at j false q n t =
          let l : x.count ≤ j = ltb-false j x.count q in
          a.unused j l ∙ sym (b.unused j (omega arith))
