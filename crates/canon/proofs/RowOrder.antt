-- The order of rows is that of the grants written out, and a row whose conditions ascend is, written out, in form.
use Prim.Native.Nat.{ℕ, zero, suc, ◌+◌, ◌≤◌, ◌<◌, compare, Ordering}
use mathlib.Core.Path.{◌≡◌, refl, sym, ◌∙◌, ap, ap₂, subst}
use mathlib.Core.Bool.{Bool, true, false, cond}
use mathlib.Core.List.{List}
use mathlib.Core.Logic.{◌⊎◌, inl, inr}
use native.Mathlib.Omega.{arith}
use native.Mathlib.Decide.{ℕ_discrete}
use lib.ListN.{get_or}
use lib.Dec.{eqb}
use borrow.Author.Tests.{eqb-false}
use Rattle.sorts.specs.Numbers.{item_var}
use Rattle.sorts.specs.declared.Res as r
use Rattle.sorts.specs.declared.Res.TheVariants.{Issue, Run, Export}
use Rattle.sorts.specs.declared.Concl as c
use Rattle.sorts.specs.declared.Concl.TheVariants.{Property, Perm}
use Rattle.sorts.specs.declared.Cond.{Cond}
use Rattle.sorts.specs.declared.Row.{Row}
use Rattle.sorts.specs.Blank.{blank_cond}
use Rattle.rows.specs.Written.{Grant, issue, issue_any, run, export, how_many, kind_of}
use Rattle.sorts.specs.RowForm.{ResForm, ConclForm, CondForm, RowForm}
use Rattle.rows.specs.Form.{no_grant, write_res, write_concl, write_conds, write_row}
use Rattle.canon.specs.Canon.{and_then, order_cond, Canonical, CanonicalConds, CanonicalConcl, CanonicalRight}
use Rattle.canon.specs.Compare.{cmp_grant, cmp_conds, cmp_concl, cmp_right}
use Rattle.canon.specs.RowOrder.{kind_res, res_by, concl_by, cond_by, conds_by, row_by, Tells, Ascends}
use Rattle.canon.proofs.Order.{and_then_assoc}
use Rattle.canon.proofs.Compare.{when_eq, order_cond_cmp}

-- a number that is not the variable's is of a lower grant
lower : (n res : ℕ) (g : ℕ) → (g < n) ⊎ ((g ≡ item_var) × (res ≡ 1)) → eqb g item_var ≡ false → g < n
lower n res g (inl h) e = h
lower n res g (inr h) e = absurd (eqb-false g item_var e h.0)

module _ (N : List Grant) (n : ℕ) where
  kind_write : (x : r.Res) → kind_of (write_res N x) ≡ kind_res x
  kind_write (Issue g) = go (eqb g.0 item_var)
    where
      go : (b : Bool) → kind_of (cond b issue_any (issue (get_or N g.0 no_grant))) ≡ 1
      go true = refl
      go false = refl
  kind_write (Run m) = refl
  kind_write (Export m) = refl

  count_write : (cs : List Cond) (i k : ℕ) → how_many (write_conds N cs i k) ≡ k
  unfolding write_conds
  count_write cs i zero = refl
  count_write cs i (suc k) = ap suc (count_write cs (i + 1) k)

  -- a conclusion that holds grants of lower numbers
  concl_low : ((i : ℕ) → i < n → Canonical (get_or N i no_grant)) → (v s : ℕ) (e : c.Concl) → ConclForm n v s e → CanonicalConcl (write_concl N e)
  unfolding Canonical
  concl_low low v s (Property k p) a = tt
  concl_low low v s (Perm p (Issue g)) a = go (eqb g.0 item_var) refl
    where
      go : (b : Bool) → eqb g.0 item_var ≡ b → CanonicalRight (cond b issue_any (issue (get_or N g.0 no_grant)))
      go true e = tt
      go false e = low g.0 (lower n s g.0 a.1 e)
  concl_low low v s (Perm p (Run m)) a = tt
  concl_low low v s (Perm p (Export m)) a = tt

  module _ (f : ℕ → ℕ → Ordering) (tells : Tells f N n) where
    res_by_lem : (v w : ℕ) (x y : r.Res) → ResForm n v x → ResForm n w y → res_by f x y ≡ cmp_right (write_res N x) (write_res N y)
    unfolding cmp_grant
    res_by_lem v w (Issue g) (Issue h) a b = go (eqb g.0 item_var) refl (eqb h.0 item_var) refl
      where
        go : (s : Bool) → eqb g.0 item_var ≡ s → (t : Bool) → eqb h.0 item_var ≡ t
            → cond s (cond t Ordering.eq Ordering.gt) (cond t Ordering.lt (f g.0 h.0)) ≡ cmp_right (cond s issue_any (issue (get_or N g.0 no_grant))) (cond t issue_any (issue (get_or N h.0 no_grant)))
        go true p true q = refl
        go true p false q = refl
        go false p true q = refl
        go false p false q = tells g.0 h.0 (lower n v g.0 a p) (lower n w h.0 b q)
    res_by_lem v w (Issue g) (Run m) a b = go (eqb g.0 item_var)
      where
        go : (s : Bool) → Ordering.lt ≡ cmp_right (cond s issue_any (issue (get_or N g.0 no_grant))) (run m.0)
        go true = refl
        go false = refl
    res_by_lem v w (Issue g) (Export m) a b = go (eqb g.0 item_var)
      where
        go : (s : Bool) → Ordering.lt ≡ cmp_right (cond s issue_any (issue (get_or N g.0 no_grant))) (export m.0)
        go true = refl
        go false = refl
    res_by_lem v w (Run m) (Issue h) a b = go (eqb h.0 item_var)
      where
        go : (s : Bool) → Ordering.gt ≡ cmp_right (run m.0) (cond s issue_any (issue (get_or N h.0 no_grant)))
        go true = refl
        go false = refl
    res_by_lem v w (Run m) (Run k) a b = refl
    res_by_lem v w (Run m) (Export k) a b = refl
    res_by_lem v w (Export m) (Issue h) a b = go (eqb h.0 item_var)
      where
        go : (s : Bool) → Ordering.gt ≡ cmp_right (export m.0) (cond s issue_any (issue (get_or N h.0 no_grant)))
        go true = refl
        go false = refl
    res_by_lem v w (Export m) (Run k) a b = refl
    res_by_lem v w (Export m) (Export k) a b = refl

    concl_by_lem : (v s w t : ℕ) (d e : c.Concl) → ConclForm n v s d → ConclForm n w t e → concl_by f d e ≡ cmp_concl (write_concl N d) (write_concl N e)
    unfolding cmp_grant
    concl_by_lem v s w t (Property k p) (Property j q) a b = refl
    concl_by_lem v s w t (Property k p) (Perm q y) a b = refl
    concl_by_lem v s w t (Perm p x) (Property j q) a b = refl
    concl_by_lem v s w t (Perm p x) (Perm q y) a b = rw (kind_write x, kind_write y, res_by_lem s t x y a.1 b.1)

    -- how two conditions stand
    pub cond_by_lem : (v s w t : ℕ) (a b : Cond) → CondForm n v s a → CondForm n w t b → cond_by f a b ≡ order_cond a.who.0 (write_concl N a.what) b.who.0 (write_concl N b.what)
    cond_by_lem v s w t a b g h = ap (and_then (compare a.who.0 b.who.0)) (concl_by_lem v s w t a.what b.what g.1 h.1) ∙ sym (order_cond_cmp a.who.0 (write_concl N a.what) b.who.0 (write_concl N b.what))

    conds_by_lem : (v s w t : ℕ) (cs ds : List Cond) (m k i : ℕ) → i + k ≤ m → ((j : ℕ) → j < m → CondForm n v s (get_or cs j blank_cond)) → ((j : ℕ) → j < m → CondForm n w t (get_or ds j blank_cond))
        → conds_by f cs ds i k ≡ cmp_conds (write_conds N cs i k) (write_conds N ds i k)
    unfolding cmp_grant conds_by write_conds
    conds_by_lem v s w t cs ds m zero i l a b = refl
    conds_by_lem v s w t cs ds m (suc k) i l a b =
        let C = get_or cs i blank_cond in
        let D = get_or ds i blank_cond in
        and_then_assoc (compare C.who.0 D.who.0) (concl_by f C.what D.what) (conds_by f cs ds (i + 1) k)
        ∙ ap₂ (λ (o p : Ordering). and_then (compare C.who.0 D.who.0) (and_then o p)) (concl_by_lem v s w t C.what D.what (a i (omega arith)).1 (b i (omega arith)).1) (conds_by_lem v s w t cs ds m k (i + 1) (omega arith) a b)

    -- how two rows stand
    pub row_by_lem : (x y : Row) → RowForm n x → RowForm n y → row_by f x y ≡ cmp_grant (write_row N x) (write_row N y)
    unfolding row_by write_row cmp_grant
    row_by_lem x y a b =
        let under : x.count ≡ y.count → and_then (conds_by f x.conds y.conds 0 x.count) (concl_by f x.head y.head)
        ≡ and_then (cmp_conds (write_conds N x.conds 0 x.count) (write_conds N y.conds 0 y.count)) (cmp_concl (write_concl N x.head) (write_concl N y.head))
        = λ e. rw (← e) (ap₂ and_then (conds_by_lem x.prins x.res y.prins y.res x.conds y.conds x.count x.count 0 (omega arith) a.used (λ j h. b.used j (omega arith))) (concl_by_lem x.prins x.res y.prins y.res x.head y.head a.head b.head)) in
        rw (count_write x.conds 0 x.count, count_write y.conds 0 y.count)
        (ap (λ (o : Ordering). and_then (compare x.prins y.prins) (and_then (compare x.res y.res) o))
        (when_eq x.count y.count (and_then (conds_by f x.conds y.conds 0 x.count) (concl_by f x.head y.head))
        (and_then (cmp_conds (write_conds N x.conds 0 x.count) (write_conds N y.conds 0 y.count)) (cmp_concl (write_concl N x.head) (write_concl N y.head))) under))

    -- conditions that ascend are in form, written out, where what they hold is
    conds_form : (v s : ℕ) (cs : List Cond) (m k i : ℕ) → i + k ≤ m → ((j : ℕ) → j < m → CondForm n v s (get_or cs j blank_cond)) → ((j : ℕ) → j < m → CanonicalConcl (write_concl N (get_or cs j blank_cond).what))
        → ((j : ℕ) → j + 1 < m → cond_by f (get_or cs j blank_cond) (get_or cs (j + 1) blank_cond) ≡ Ordering.lt) → CanonicalConds (write_conds N cs i k)
    unfolding Canonical write_conds
    conds_form v s cs m zero i l a b up = tt
    conds_form v s cs m (suc zero) i l a b up = (tt, b i (omega arith), tt)
    conds_form v s cs m (suc (suc k)) i l a b up =
        (sym (cond_by_lem v s v s (get_or cs i blank_cond) (get_or cs (i + 1) blank_cond) (a i (omega arith)) (a (i + 1) (omega arith))) ∙ up i (omega arith), b i (omega arith), conds_form v s cs m (suc k) (i + 1) (omega arith) a b up)

    -- and conditions in form ascend
    form_conds_lem : (v s : ℕ) (cs : List Cond) (m k i : ℕ) → i + k ≡ m → ((j : ℕ) → j < m → CondForm n v s (get_or cs j blank_cond)) → CanonicalConds (write_conds N cs i k)
        → (j : ℕ) → i ≤ j → j + 1 < m → cond_by f (get_or cs j blank_cond) (get_or cs (j + 1) blank_cond) ≡ Ordering.lt
    unfolding Canonical write_conds
    form_conds_lem v s cs m zero i l a h j u w = absurd (omega arith)
    form_conds_lem v s cs m (suc zero) i l a h j u w = absurd (omega arith)
    form_conds_lem v s cs m (suc (suc k)) i l a h j u w = go (ℕ_discrete i j) (form_conds_lem v s cs m (suc k) (i + 1) (omega arith) a h.2 j)
      where
        At : ℕ → Type 0
        At z = cond_by f (get_or cs z blank_cond) (get_or cs (z + 1) blank_cond) ≡ Ordering.lt

        go : Dec (i ≡ j) → (i + 1 ≤ j → j + 1 < m → cond_by f (get_or cs j blank_cond) (get_or cs (j + 1) blank_cond) ≡ Ordering.lt) → cond_by f (get_or cs j blank_cond) (get_or cs (j + 1) blank_cond) ≡ Ordering.lt
        go (yes e) ih = subst At e (cond_by_lem v s v s (get_or cs i blank_cond) (get_or cs (i + 1) blank_cond) (a i (omega arith)) (a (i + 1) (omega arith)) ∙ h.0)
        go (no e) ih = ih (omega arith) w

    -- A row is, written out, in form exactly when its conditions ascend, where the grants of lower numbers are in form.
    pub row_form : (x : Row) → RowForm n x → ((i : ℕ) → i < n → Canonical (get_or N i no_grant)) → Ascends f x → Canonical (write_row N x)
    unfolding Canonical write_row
    row_form x a low up =
        (conds_form x.prins x.res x.conds x.count x.count 0 (omega arith) a.used (λ j h. concl_low low x.prins x.res (get_or x.conds j blank_cond).what (a.used j h).1) up, concl_low low x.prins x.res x.head a.head)

    pub form_row : (x : Row) → RowForm n x → Canonical (write_row N x) → Ascends f x
    unfolding Canonical write_row
    form_row x a h j l = form_conds_lem x.prins x.res x.conds x.count x.count 0 (omega arith) a.used h.0 j (omega arith) l
