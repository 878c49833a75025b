-- The bytes of a grant tell the grant.
use Prim.Native.Nat.{ℕ}
use mathlib.Core.List.{List, [], ◌∷◌, ◌++◌, append_assoc, append-nil}
use mathlib.Core.Bool.{Bool, true, false, ◌&&◌}
use mathlib.Core.Path.{◌≡◌, refl, sym, ◌∙◌}
use native.Mathlib.Omega.{arith}
use lib.Dec.{eqb}
use borrow.Author.Tests.{eqb-true, eq-eqb}
use Rattle.rows.specs.Written.{Grant, Conds, Concl, Right, grant, none, also, property, perm, issue, issue_any, run, export, how_many, kind_of, written, written_conds, written_concl, written_right, same_bytes, same_written}

hd : {a b : ℕ} {x y : List ℕ} → a ∷ x ≡ b ∷ y → a ≡ b
hd e = cc

tl : {a b : ℕ} {x y : List ℕ} → a ∷ x ≡ b ∷ y → x ≡ y
tl e = cc

-- no right has the kind of a property
right_kind : (r : Right) → kind_of r ≡ 0 → ⊥
right_kind (issue g) e = omega arith
right_kind issue_any e = omega arith
right_kind (run n) e = omega arith
right_kind (export n) e = omega arith

-- Where grants with other bytes after them are the same bytes, the grants are the same and so is what follows.
mutual
  unfolding written

  free : (g h : Grant) (x y : List ℕ) → written g ++ x ≡ written h ++ y → (g ≡ h) × (x ≡ y)
  free (grant v r cs c) (grant v' r' cs' c') x y e =
      let e1 = tl (tl (tl e)) in
      let a = free_conds cs cs' (written_concl c ++ x) (written_concl c' ++ y) (hd (tl (tl e))) (sym (append_assoc (written_conds cs) (written_concl c) x) ∙ e1 ∙ append_assoc (written_conds cs') (written_concl c') y) in
      let b = free_concl c c' x y a.1 in
      (λ i. grant (hd e i) (hd (tl e) i) (a.0 i) (b.0 i), b.1)

  free_conds : (cs cs' : Conds) (x y : List ℕ) → how_many cs ≡ how_many cs' → written_conds cs ++ x ≡ written_conds cs' ++ y → (cs ≡ cs') × (x ≡ y)
  free_conds none none x y n e = (refl, e)
  free_conds none (also p c cs) x y n e = absurd (omega arith)
  free_conds (also p c cs) none x y n e = absurd (omega arith)
  free_conds (also p c cs) (also p' c' cs') x y n e =
      let a = free_concl c c' (written_conds cs ++ x) (written_conds cs' ++ y) (sym (append_assoc (written_concl c) (written_conds cs) x) ∙ tl e ∙ append_assoc (written_concl c') (written_conds cs') y) in
      let b = free_conds cs cs' x y (omega arith) a.1 in
      (λ i. also (hd e i) (a.0 i) (b.0 i), b.1)

  free_concl : (c d : Concl) (x y : List ℕ) → written_concl c ++ x ≡ written_concl d ++ y → (c ≡ d) × (x ≡ y)
  free_concl (property k p) (property k' p') x y e = (λ i. property (hd (tl e) i) (hd (tl (tl e)) i), tl (tl (tl e)))
  free_concl (property k p) (perm p' r) x y e = absurd (right_kind r (sym (hd e)))
  free_concl (perm p r) (property k' p') x y e = absurd (right_kind r (hd e))
  free_concl (perm p r) (perm p' r') x y e =
      let a = free_right r r' x y (hd e) (tl (tl e)) in
      (λ i. perm (hd (tl e) i) (a.0 i), a.1)

  free_right : (r t : Right) (x y : List ℕ) → kind_of r ≡ kind_of t → written_right r ++ x ≡ written_right t ++ y → (r ≡ t) × (x ≡ y)
  free_right (issue g) (issue h) x y k e = let a = free g h x y (tl e) in (λ i. issue (a.0 i), a.1)
  free_right (issue g) issue_any x y k e = let z = hd e in absurd (omega arith)
  free_right (issue g) (run n) x y k e = absurd (omega arith)
  free_right (issue g) (export n) x y k e = absurd (omega arith)
  free_right issue_any (issue h) x y k e = let z = hd e in absurd (omega arith)
  free_right issue_any issue_any x y k e = (refl, tl e)
  free_right issue_any (run n) x y k e = absurd (omega arith)
  free_right issue_any (export n) x y k e = absurd (omega arith)
  free_right (run m) (issue h) x y k e = absurd (omega arith)
  free_right (run m) issue_any x y k e = absurd (omega arith)
  free_right (run m) (run n) x y k e = (λ i. run (hd e i), tl e)
  free_right (run m) (export n) x y k e = absurd (omega arith)
  free_right (export m) (issue h) x y k e = absurd (omega arith)
  free_right (export m) issue_any x y k e = absurd (omega arith)
  free_right (export m) (run n) x y k e = absurd (omega arith)
  free_right (export m) (export n) x y k e = (λ i. export (hd e i), tl e)

-- Two grants with the same bytes are the same.
pub written_injective : (g h : Grant) → written g ≡ written h → g ≡ h
written_injective g h e = (free g h [] [] (append-nil (written g) ∙ e ∙ sym (append-nil (written h)))).0

pub no_true : false ≡ true → ⊥
no_true e = cc

and_1 : (a b : Bool) → (a && b) ≡ true → a ≡ true
and_1 true b e = refl
and_1 false b e = absurd (no_true e)

and_2 : (a b : Bool) → (a && b) ≡ true → b ≡ true
and_2 true b e = e
and_2 false b e = absurd (no_true e)

bytes_eq : (x y : List ℕ) → same_bytes x y ≡ true → x ≡ y
unfolding same_bytes
bytes_eq [] [] e = refl
bytes_eq [] (b ∷ y) e = absurd (no_true e)
bytes_eq (a ∷ x) [] e = absurd (no_true e)
bytes_eq (a ∷ x) (b ∷ y) e =
    let h = eqb-true a b (and_1 (eqb a b) (same_bytes x y) e) in
    let t = bytes_eq x y (and_2 (eqb a b) (same_bytes x y) e) in
    cc

bytes_refl : (x : List ℕ) → same_bytes x x ≡ true
unfolding same_bytes
bytes_refl [] = refl
bytes_refl (a ∷ x) = rw (eq-eqb a a refl) (bytes_refl x)

-- Sameness is equality.
pub same_eq : (g h : Grant) → same_written g h ≡ true → g ≡ h
unfolding same_written
same_eq g h e = written_injective g h (bytes_eq (written g) (written h) e)

pub same_refl : (g : Grant) → same_written g g ≡ true
unfolding same_written
same_refl g = bytes_refl (written g)
