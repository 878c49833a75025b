-- Two grants are the same exactly when the one can be turned into the other.
use Prim.Native.Nat.{ℕ, Ordering}
use mathlib.Core.Path.{◌≡◌, refl, sym, ◌∙◌, ap, subst}
use mathlib.Core.Bool.{true}
use mathlib.Core.Logic.{inl, inr, ◌↔◌}
use Rattle.rows.specs.Written.{Grant, Conds, Concl, Right, grant, none, also, property, perm, issue, issue_any, run, export}
use Rattle.canon.specs.Canon.{order_cond, insert, canon, canon_conds, canon_concl, canon_right, same, CanonicalConds, CanonicalConcl}
use Rattle.canon.specs.Parts.{Has}
use Rattle.canon.specs.Turns.{Turned, TurnedConds, TurnedConcl, parts, undone, further, stay, within, swap, twice, back, on, plain, inner}
use Rattle.canon.proofs.Form.{cond_eq, insert_canonical, concl_canonical, conds_canonical}
use Rattle.canon.proofs.Sets.{Within, members_tell, has_insert, insert_has, same_canon, canon_same}

-- Conditions may be put in from the first on.
swap_has : (p : ℕ) (c : Concl) (q : ℕ) (d : Concl) (cs : Conds) → Within (insert p c (insert q d cs)) (insert q d (insert p c cs))
swap_has p c q d cs s x m = go (has_insert p c (insert q d cs) s x m)
  where
    past : Has s x (also q d cs) → Has s x (insert q d (insert p c cs))
    past (inl e) = insert_has q d (insert p c cs) s x (inl e)
    past (inr n) = insert_has q d (insert p c cs) s x (inr (insert_has p c cs s x (inr n)))

    go : Has s x (also p c (insert q d cs)) → Has s x (insert q d (insert p c cs))
    go (inl e) = insert_has q d (insert p c cs) s x (inr (insert_has p c cs s x (inl e)))
    go (inr n) = past (has_insert q d cs s x n)

pub insert_swap : (p : ℕ) (c : Concl) (q : ℕ) (d : Concl) (cs : Conds) → CanonicalConcl c → CanonicalConcl d → CanonicalConds cs → insert p c (insert q d cs) ≡ insert q d (insert p c cs)
insert_swap p c q d cs h k a = members_tell (insert p c (insert q d cs)) (insert q d (insert p c cs))
    (insert_canonical p c (insert q d cs) h (insert_canonical q d cs k a)) (insert_canonical q d (insert p c cs) k (insert_canonical p c cs h a))
    (swap_has p c q d cs) (swap_has q d p c cs)

insert_twice : (p : ℕ) (c : Concl) (cs : Conds) → CanonicalConcl c → CanonicalConds cs → insert p c (insert p c cs) ≡ insert p c cs
insert_twice p c cs h a = members_tell (insert p c (insert p c cs)) (insert p c cs)
    (insert_canonical p c (insert p c cs) h (insert_canonical p c cs h a)) (insert_canonical p c cs h a)
    (λ q d m. once q d (has_insert p c (insert p c cs) q d m)) (λ q d m. insert_has p c (insert p c cs) q d (inr m))
  where
    once : (q : ℕ) (d : Concl) → Has q d (also p c (insert p c cs)) → Has q d (insert p c cs)
    once q d (inl e) = insert_has p c cs q d (inl e)
    once q d (inr m) = m

-- a turn keeps the form
mutual
  unfolding canon

  pub turned_canon : {g h : Grant} → Turned g h → canon g ≡ canon h
  turned_canon (parts a b) = let x = turned_conds a in let y = turned_concl b in cc
  turned_canon (undone a) = sym (turned_canon a)
  turned_canon (further a b) = turned_canon a ∙ turned_canon b

  turned_conds : {cs ds : Conds} → TurnedConds cs ds → canon_conds cs ≡ canon_conds ds
  turned_conds stay = refl
  turned_conds (within a b) = let x = turned_concl a in let y = turned_conds b in cc
  turned_conds (swap {p = p} {q = q} {c = c} {d = d} {cs = cs}) = insert_swap p (canon_concl c) q (canon_concl d) (canon_conds cs) (concl_canonical c) (concl_canonical d) (conds_canonical cs)
  turned_conds (twice {p = p} {c = c} {cs = cs}) = sym (insert_twice p (canon_concl c) (canon_conds cs) (concl_canonical c) (conds_canonical cs))
  turned_conds (back a) = sym (turned_conds a)
  turned_conds (on a b) = turned_conds a ∙ turned_conds b

  turned_concl : {c d : Concl} → TurnedConcl c d → canon_concl c ≡ canon_concl d
  turned_concl plain = refl
  turned_concl (inner {p = p} a) = ap (λ (g : Grant). perm p (issue g)) (turned_canon a)

-- an insertion is made of turns
turn_insert : (p : ℕ) (c : Concl) (cs : Conds) → TurnedConds (also p c cs) (insert p c cs)
unfolding insert
turn_insert p c none = stay
turn_insert p c (also q d cs) = go (order_cond p c q d) refl (turn_insert p c cs)
  where
    go : (o : Ordering) → order_cond p c q d ≡ o → TurnedConds (also p c cs) (insert p c cs) → TurnedConds (also p c (also q d cs)) (insert p c (also q d cs))
    go Ordering.lt u ih = rw u stay
    go Ordering.eq u ih = rw (u, (cond_eq p c q d u).0, (cond_eq p c q d u).1) (back twice)
    go Ordering.gt u ih = rw u (on swap (within plain ih))

mutual
  unfolding canon

  pub turn_canon : (g : Grant) → Turned g (canon g)
  turn_canon (grant v r cs c) = parts (turn_conds cs) (turn_concl c)

  turn_conds : (cs : Conds) → TurnedConds cs (canon_conds cs)
  turn_conds none = stay
  turn_conds (also p c cs) = on (within (turn_concl c) (turn_conds cs)) (turn_insert p (canon_concl c) (canon_conds cs))

  turn_concl : (c : Concl) → TurnedConcl c (canon_concl c)
  turn_concl (property k p) = plain
  turn_concl (perm p r) = turn_right p r

  turn_right : (p : ℕ) (r : Right) → TurnedConcl (perm p r) (perm p (canon_right r))
  turn_right p (issue g) = inner (turn_canon g)
  turn_right p issue_any = plain
  turn_right p (run n) = plain
  turn_right p (export n) = plain

pub same_turned : (g h : Grant) → (same g h ≡ true) ↔ Turned g h
same_turned g h = (λ e. further (turn_canon g) (subst (λ (k : Grant). Turned k h) (sym (same_canon g h e)) (undone (turn_canon h))), λ t. canon_same g h (turned_canon t))
