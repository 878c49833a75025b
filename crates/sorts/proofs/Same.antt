-- The derived equality of conclusions, conditions and rows is equality.
use Prim.Native.Nat.{ℕ}
use mathlib.Core.Path.{◌≡◌, refl, sym, ap, subst}
use mathlib.Core.Bool.{Bool, true, false, true≢false, ◌&&◌}
use lib.Dec.{eqb}
use lib.Pointwise.{pointwise_decides}
use borrow.Author.Tests.{eqb-true, eq-eqb}
use Rattle.std.specs.Prelude.{Decides}
use Rattle.sorts.specs.declared.Res.{Res}
use Rattle.sorts.specs.declared.Res.TheVariants.{Issue, Run, Export}
use Rattle.sorts.specs.declared.Concl.{Concl}
use Rattle.sorts.specs.declared.Concl.TheVariants.{Property, Perm}
use Rattle.sorts.specs.declared.Cond.{Cond}
use Rattle.sorts.specs.declared.Row.{Row}
use Rattle.sorts.specs.contracts.ResPartialEq.TheImpl as res
use Rattle.sorts.specs.contracts.ConclPartialEq.TheImpl as concl
use Rattle.sorts.specs.contracts.CondPartialEq.TheImpl as cond
use Rattle.sorts.specs.contracts.RowPartialEq.TheImpl as row
use Rattle.sorts.proofs.Marks.{prin_is, grant_is, pack_is}

first : (a b : Bool) → (a && b) ≡ true → a ≡ true
first true b e = refl
first false b e = e

second : (a b : Bool) → (a && b) ≡ true → b ≡ true
second true b e = e
second false b e = absurd (true≢false (sym e))

both : (a b : Bool) → a ≡ true → b ≡ true → (a && b) ≡ true
both a b p q = rw (p, q)

-- A test that finds each value the same as itself, and no other, decides equality.
decides : {A : Type 0} (E : A → A → Bool) → ((x y : A) → E x y ≡ true → x ≡ y) → ((x : A) → E x x ≡ true) → (x y : A) → Decides (E x y) (x ≡ y)
decides E sound itself x y = (sound x y, λ e. subst (λ z. E x z ≡ true) e (itself x))

res_sound : (x y : Res) → res.ghosts.eq x y ≡ true → x ≡ y
res_sound (Issue x) (Issue y) e = ap Issue (grant_is x y (eqb-true x.0 y.0 e))
res_sound (Issue x) (Run y) e = absurd (true≢false (sym e))
res_sound (Issue x) (Export y) e = absurd (true≢false (sym e))
res_sound (Run x) (Issue y) e = absurd (true≢false (sym e))
res_sound (Run x) (Run y) e = ap Run (pack_is x y (eqb-true x.0 y.0 e))
res_sound (Run x) (Export y) e = absurd (true≢false (sym e))
res_sound (Export x) (Issue y) e = absurd (true≢false (sym e))
res_sound (Export x) (Run y) e = absurd (true≢false (sym e))
res_sound (Export x) (Export y) e = ap Export (pack_is x y (eqb-true x.0 y.0 e))

itself : (n : ℕ) → eqb n n ≡ true
itself n = eq-eqb n n refl

res_itself : (x : Res) → res.ghosts.eq x x ≡ true
res_itself (Issue x) = itself x.0
res_itself (Run x) = itself x.0
res_itself (Export x) = itself x.0

pub res_same : (x y : Res) → Decides (res.ghosts.eq x y) (x ≡ y)
res_same = decides res.ghosts.eq res_sound res_itself

concl_sound : (x y : Concl) → concl.ghosts.eq x y ≡ true → x ≡ y
concl_sound (Property k p) (Property l q) e =
    let a : k ≡ l = eqb-true k l (first _ _ e) in
    let b : p ≡ q = prin_is p q (eqb-true p.0 q.0 (second _ _ e)) in
    cc
concl_sound (Property k p) (Perm q y) e = absurd (true≢false (sym e))
concl_sound (Perm p x) (Property l q) e = absurd (true≢false (sym e))
concl_sound (Perm p x) (Perm q y) e =
    let a : p ≡ q = prin_is p q (eqb-true p.0 q.0 (first _ _ e)) in
    let b : x ≡ y = res_sound x y (second _ _ e) in
    cc

concl_itself : (x : Concl) → concl.ghosts.eq x x ≡ true
concl_itself (Property k p) = both _ _ (itself k) (itself p.0)
concl_itself (Perm p x) = both _ _ (itself p.0) (res_itself x)

pub concl_same : (x y : Concl) → Decides (concl.ghosts.eq x y) (x ≡ y)
concl_same = decides concl.ghosts.eq concl_sound concl_itself

cond_sound : (x y : Cond) → cond.ghosts.eq x y ≡ true → x ≡ y
cond_sound x y e = λ i. record { who = prin_is x.who y.who (eqb-true x.who.0 y.who.0 (first _ _ e)) i; what = concl_sound x.what y.what (second _ _ e) i }

pub cond_same : (x y : Cond) → Decides (cond.ghosts.eq x y) (x ≡ y)
cond_same = decides cond.ghosts.eq cond_sound (λ x. both _ _ (itself x.who.0) (concl_itself x.what))

row_path : (a b : Row) → a.prins ≡ b.prins → a.res ≡ b.res → a.count ≡ b.count → a.conds ≡ b.conds → a.head ≡ b.head → a ≡ b
row_path a b p q r s t = λ i. record { prins = p i; res = q i; count = r i; conds = s i; head = t i }

row_sound : (x y : Row) → row.ghosts.eq x y ≡ true → x ≡ y
row_sound x y e =
    let e1 = second _ _ e in
    let e2 = second _ _ e1 in
    let e3 = second _ _ e2 in
    row_path x y (eqb-true _ _ (first _ _ e)) (eqb-true _ _ (first _ _ e1)) (eqb-true _ _ (first _ _ e2))
    ((pointwise_decides cond_same x.conds y.conds).0 (first _ _ e3)) (concl_sound x.head y.head (second _ _ e3))

row_itself : (x : Row) → row.ghosts.eq x x ≡ true
row_itself x = both _ _ (itself x.prins) (both _ _ (itself x.res) (both _ _ (itself x.count) (both _ _ ((pointwise_decides cond_same x.conds x.conds).1 refl) (concl_itself x.head))))

pub row_same : (x y : Row) → Decides (row.ghosts.eq x y) (x ≡ y)
row_same = decides row.ghosts.eq row_sound row_itself
