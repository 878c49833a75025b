-- The form of a grant is no longer than the grant, as deep, and allowed where the grant is.
use Prim.Native.Nat.{ℕ, zero, suc, ◌+◌, ◌*◌, ◌≤◌, max, Ordering}
use mathlib.Core.Path.{◌≡◌, refl, sym, ◌∙◌, ap}
use mathlib.Core.Bool.{Bool, true, false, cond}
use native.Mathlib.Omega.{arith}
use lib.ListN.{length, length-append}
use lib.Dec.{leb}
use borrow.Author.Tests.{leb-true, leb-false}
use Rattle.rows.specs.Written.{Grant, Conds, Concl, Right, grant, none, also, property, perm, issue, issue_any, run, export, how_many, written, written_conds, written_concl, written_right}
use Rattle.sorts.specs.Numbers.{conditions}
use Rattle.sorts.specs.RowForm.{PrinForm}
use Rattle.rows.specs.Form.{larger, depth, depth_conds, depth_concl, depth_right}
use Rattle.rows.specs.Allowed.{Allowed, AllowedConds, AllowedConcl, AllowedRight}
use Rattle.canon.specs.Canon.{order_cond, insert, canon, canon_conds, canon_concl, canon_right}
use Rattle.canon.specs.Most.{most, most_grant, most_concl}
use Rattle.canon.proofs.Form.{cond_eq}

-- how many
insert_count : (p : ℕ) (c : Concl) (cs : Conds) → how_many (insert p c cs) ≤ suc (how_many cs)
unfolding insert
insert_count p c none = omega arith
insert_count p c (also q d cs) = go (order_cond p c q d) refl (insert_count p c cs)
  where
    go : (o : Ordering) → order_cond p c q d ≡ o → how_many (insert p c cs) ≤ suc (how_many cs) → how_many (insert p c (also q d cs)) ≤ suc (suc (how_many cs))
    go Ordering.lt u ih = rw u (omega arith)
    go Ordering.eq u ih = rw u (omega arith)
    go Ordering.gt u ih = rw u (omega arith)

pub canon_count : (cs : Conds) → how_many (canon_conds cs) ≤ how_many cs
unfolding canon
canon_count none = omega arith
canon_count (also p c cs) = omega (arith, insert_count p (canon_concl c) (canon_conds cs), canon_count cs)

-- the bytes
insert_length : (p : ℕ) (c : Concl) (cs : Conds) → length (written_conds (insert p c cs)) ≤ suc (length (written_concl c) + length (written_conds cs))
unfolding insert written
insert_length p c none = simp length-append (omega arith)
insert_length p c (also q d cs) = go (order_cond p c q d) refl (insert_length p c cs)
  where
    go : (o : Ordering) → order_cond p c q d ≡ o → length (written_conds (insert p c cs)) ≤ suc (length (written_concl c) + length (written_conds cs))
        → length (written_conds (insert p c (also q d cs))) ≤ suc (length (written_concl c) + length (written_conds (also q d cs)))
    go Ordering.lt u ih = rw u (simp length-append (omega arith))
    go Ordering.eq u ih = rw u (simp length-append (omega arith))
    go Ordering.gt u ih = rw u (simp length-append (omega arith))

mutual
  unfolding canon written

  pub canon_length : (g : Grant) → length (written (canon g)) ≤ length (written g)
  canon_length (grant v r cs c) = simp length-append (omega (arith, conds_length cs, concl_length c))

  pub conds_length : (cs : Conds) → length (written_conds (canon_conds cs)) ≤ length (written_conds cs)
  conds_length none = omega arith
  conds_length (also p c cs) = simp length-append (omega (arith, insert_length p (canon_concl c) (canon_conds cs), concl_length c, conds_length cs))

  pub concl_length : (c : Concl) → length (written_concl (canon_concl c)) ≤ length (written_concl c)
  concl_length (property k p) = omega arith
  concl_length (perm p r) = omega (arith, right_length r)

  pub right_length : (r : Right) → length (written_right (canon_right r)) ≤ length (written_right r)
  right_length (issue g) = omega (arith, canon_length g)
  right_length issue_any = omega arith
  right_length (run n) = omega arith
  right_length (export n) = omega arith

-- the depth
pub larger_max : (a b : ℕ) → larger a b ≡ max a b
larger_max a b = go (leb a b) refl
  where
    go : (t : Bool) → leb a b ≡ t → cond t b a ≡ max a b
    go true e = let h = leb-true a b e in omega arith
    go false e = let h = leb-false a b e in omega arith

insert_depth : (p : ℕ) (c : Concl) (cs : Conds) → depth_conds (insert p c cs) ≡ max (depth_concl c) (depth_conds cs)
unfolding insert depth
insert_depth p c none = simp larger_max
insert_depth p c (also q d cs) = go (order_cond p c q d) refl (insert_depth p c cs)
  where
    go : (o : Ordering) → order_cond p c q d ≡ o → depth_conds (insert p c cs) ≡ max (depth_concl c) (depth_conds cs) → depth_conds (insert p c (also q d cs)) ≡ max (depth_concl c) (depth_conds (also q d cs))
    go Ordering.lt u ih = rw u (simp larger_max)
    go Ordering.eq u ih = rw u (let e = ap depth_concl (cond_eq p c q d u).1 in simp larger_max (omega arith))
    go Ordering.gt u ih = rw u (simp larger_max (omega arith))

mutual
  unfolding canon depth

  pub canon_depth : (g : Grant) → depth (canon g) ≡ depth g
  canon_depth (grant v r cs c) = rw (conds_depth cs, concl_depth c)

  pub conds_depth : (cs : Conds) → depth_conds (canon_conds cs) ≡ depth_conds cs
  conds_depth none = refl
  conds_depth (also p c cs) = insert_depth p (canon_concl c) (canon_conds cs) ∙ rw (conds_depth cs, concl_depth c) (sym (larger_max (depth_concl c) (depth_conds cs)))

  pub concl_depth : (c : Concl) → depth_concl (canon_concl c) ≡ depth_concl c
  concl_depth (property k p) = refl
  concl_depth (perm p r) = right_depth r

  pub right_depth : (r : Right) → depth_right (canon_right r) ≡ depth_right r
  right_depth (issue g) = canon_depth g
  right_depth issue_any = refl
  right_depth (run n) = refl
  right_depth (export n) = refl

-- what a record can hold
insert_allowed : (v r p : ℕ) (c : Concl) (cs : Conds) → PrinForm v (record { 0 = p }) → AllowedConcl v r c → AllowedConds v r cs → AllowedConds v r (insert p c cs)
unfolding insert Allowed
insert_allowed v r p c none a b h = (a, b, tt)
insert_allowed v r p c (also q d cs) a b h = go (order_cond p c q d) refl (insert_allowed v r p c cs a b h.2)
  where
    go : (o : Ordering) → order_cond p c q d ≡ o → AllowedConds v r (insert p c cs) → AllowedConds v r (insert p c (also q d cs))
    go Ordering.lt u ih = rw u (a, b, h)
    go Ordering.eq u ih = rw u h
    go Ordering.gt u ih = rw u (h.0, h.1, ih)

mutual
  unfolding canon Allowed

  pub canon_allowed : (g : Grant) → Allowed g → Allowed (canon g)
  canon_allowed (grant v r cs c) h = (h.0, h.1, omega (arith, canon_count cs, h.2), conds_allowed cs v r h.3, concl_allowed c v r h.4)

  pub conds_allowed : (cs : Conds) (v r : ℕ) → AllowedConds v r cs → AllowedConds v r (canon_conds cs)
  conds_allowed none v r h = tt
  conds_allowed (also p c cs) v r h = insert_allowed v r p (canon_concl c) (canon_conds cs) h.0 (concl_allowed c v r h.1) (conds_allowed cs v r h.2)

  pub concl_allowed : (c : Concl) (v r : ℕ) → AllowedConcl v r c → AllowedConcl v r (canon_concl c)
  concl_allowed (property k p) v r h = h
  concl_allowed (perm p x) v r h = (h.0, right_allowed x r h.1)

  pub right_allowed : (x : Right) (r : ℕ) → AllowedRight r x → AllowedRight r (canon_right x)
  right_allowed (issue g) r h = canon_allowed g h
  right_allowed issue_any r h = h
  right_allowed (run n) r h = h
  right_allowed (export n) r h = h

-- the most bytes that an allowed grant has, so many grants deep
mutual
  unfolding written depth Allowed

  pub grant_most : (g : Grant) (left : ℕ) → Allowed g → depth g ≤ left → length (written g) ≤ most left
  grant_most (grant v r cs c) zero a d = absurd (omega arith)
  grant_most (grant v r cs c) (suc below) a d =
      let l = larger_max (depth_conds cs) (depth_concl c) in
      let x = conds_most cs conditions v r below a.2 a.3 (omega arith) in
      let y = concl_most c v r below a.4 (omega arith) in
      simp length-append (omega arith)

  conds_most : (cs : Conds) (k v r left : ℕ) → how_many cs ≤ k → AllowedConds v r cs → depth_conds cs ≤ left → length (written_conds cs) ≤ k * (4 + most left)
  conds_most none k v r left n a d = omega arith
  conds_most (also p c cs) zero v r left n a d = absurd (omega arith)
  conds_most (also p c cs) (suc k) v r left n a d =
      let l = larger_max (depth_concl c) (depth_conds cs) in
      let x = conds_most cs k v r left (omega arith) a.2 (omega arith) in
      let y = concl_most c v r left a.1 (omega arith) in
      simp length-append (omega arith)

  pub concl_most : (c : Concl) (v r left : ℕ) → AllowedConcl v r c → depth_concl c ≤ left → length (written_concl c) ≤ 3 + most left
  concl_most (property k p) v r left a d = omega arith
  concl_most (perm p x) v r left a d = omega (arith, right_most x r left a.1 d)

  right_most : (x : Right) (r left : ℕ) → AllowedRight r x → depth_right x ≤ left → length (written_right x) ≤ 1 + most left
  right_most (issue g) r left a d = omega (arith, grant_most g left a d)
  right_most issue_any r left a d = omega arith
  right_most (run n) r left a d = omega arith
  right_most (export n) r left a d = omega arith

-- 3,432 bytes at the greatest depth, and 3,435 of a query's conclusion
pub most_numbers : (most_grant ≡ 3432) × (most_concl ≡ 3435)
most_numbers = (refl, refl)
