-- Conditions in form are told by their members, so the form depends on the set of the conditions alone.
use Prim.Native.Nat.{ℕ, Ordering}
use mathlib.Core.Path.{◌≡◌, refl, sym, ◌∙◌, ap}
use mathlib.Core.Bool.{true}
use native.Mathlib.Omega.{arith}
use mathlib.Core.Logic.{inl, inr, ◌↔◌}
use Rattle.rows.specs.Written.{Grant, Conds, Concl, Right, grant, none, also, property, perm, issue, issue_any, run, export}
use Rattle.rows.specs.Written as w
use Rattle.rows.proofs.Bytes.{same_eq, same_refl}
use Rattle.canon.specs.Canon.{order_cond, pick, insert, canon, canon_conds, canon_concl, canon_right, same, First, CanonicalConds, Canonical}
use Rattle.canon.specs.Parts.{Has, SameRight, SameConcl, Among, SameParts}
use Rattle.canon.proofs.Order.{lt_eq}
use Rattle.canon.proofs.Form.{cond_refl, cond_eq, cond_trans, conds_canonical}

-- Members of sorted conditions.

-- nothing is below itself
cond_irrefl : (p : ℕ) (c : Concl) → order_cond p c p c ≡ Ordering.lt → ⊥
cond_irrefl p c e = lt_eq (sym e ∙ cond_refl p c)

-- the first is below each other
below : (p : ℕ) (c : Concl) (cs : Conds) → First p c cs → CanonicalConds cs → (q : ℕ) (d : Concl) → Has q d cs → order_cond p c q d ≡ Ordering.lt
unfolding Canonical
below p c none f h q d m = absurd m
below p c (also s e cs) f h q d (inl m) = rw (m.0, m.1) f
below p c (also s e cs) f h q d (inr m) = cond_trans p c s e q d f (below s e cs h.0 h.2 q d m)

abbrev pub Within : Conds → Conds → Type 0
Within cs ds = (p : ℕ) (c : Concl) → Has p c cs → Has p c ds

-- a member of the rest stays one when the first is taken away on both sides
rest : (p : ℕ) (c : Concl) (cs : Conds) (q : ℕ) (d : Concl) (ds : Conds) → (p ≡ q) × (c ≡ d) → First p c cs → CanonicalConds cs → Within (also p c cs) (also q d ds) → Within cs ds
rest p c cs q d ds e f h w s x m = go (w s x (inr m))
  where
    go : Has s x (also q d ds) → Has s x ds
    go (inl u) = absurd (cond_irrefl p c (rw (u.0 ∙ sym e.0, u.1 ∙ sym e.1) at (below p c cs f h s x m)))
    go (inr n) = n

-- conditions in form with the same members are equal
pub members_tell : (cs ds : Conds) → CanonicalConds cs → CanonicalConds ds → Within cs ds → Within ds cs → cs ≡ ds
unfolding Canonical
members_tell none none h k w v = refl
members_tell none (also q d ds) h k w v = absurd (v q d (inl (refl, refl)))
members_tell (also p c cs) none h k w v = absurd (w p c (inl (refl, refl)))
members_tell (also p c cs) (also q d ds) h k w v = go (heads (w p c (inl (refl, refl))) (v q d (inl (refl, refl)))) (members_tell cs ds h.2 k.2)
  where
    heads : Has p c (also q d ds) → Has q d (also p c cs) → (p ≡ q) × (c ≡ d)
    heads (inl e) n = e
    heads (inr m) (inl e) = (sym e.0, sym e.1)
    heads (inr m) (inr n) = absurd (cond_irrefl p c (cond_trans p c q d p c (below p c cs h.0 h.2 q d n) (below q d ds k.0 k.2 p c m)))

    go : (p ≡ q) × (c ≡ d) → (Within cs ds → Within ds cs → cs ≡ ds) → also p c cs ≡ also q d ds
    go e ih = let t = ih (rest p c cs q d ds e h.0 h.2 w) (rest q d ds p c cs (sym e.0, sym e.1) k.0 k.2 v) in cc

-- The members after an insertion, and of the form.
pub has_insert : (p : ℕ) (c : Concl) (cs : Conds) → Within (insert p c cs) (also p c cs)
unfolding insert
has_insert p c none q d m = m
has_insert p c (also s e cs) q d m = go (order_cond p c s e) m (has_insert p c cs q d)
  where
    past : Has q d (also p c cs) → Has q d (also p c (also s e cs))
    past (inl x) = inl x
    past (inr x) = inr (inr x)

    go : (o : Ordering) → Has q d (pick o (also p c (also s e cs)) (also s e cs) (also s e (insert p c cs))) → (Has q d (insert p c cs) → Has q d (also p c cs)) → Has q d (also p c (also s e cs))
    go Ordering.lt m ih = m
    go Ordering.eq m ih = inr m
    go Ordering.gt (inl x) ih = inr (inl x)
    go Ordering.gt (inr x) ih = past (ih x)

pub insert_has : (p : ℕ) (c : Concl) (cs : Conds) → Within (also p c cs) (insert p c cs)
unfolding insert
insert_has p c none q d m = m
insert_has p c (also s e cs) q d m = go (order_cond p c s e) refl m (insert_has p c cs q d)
  where
    go : (o : Ordering) → order_cond p c s e ≡ o → Has q d (also p c (also s e cs)) → (Has q d (also p c cs) → Has q d (insert p c cs)) → Has q d (insert p c (also s e cs))
    go Ordering.lt u m ih = rw u m
    go Ordering.eq u (inl x) ih = let y = cond_eq p c s e u in rw u (inl (x.0 ∙ y.0, x.1 ∙ y.1))
    go Ordering.eq u (inr m) ih = rw u m
    go Ordering.gt u (inl x) ih = rw u (inr (ih (inl x)))
    go Ordering.gt u (inr (inl x)) ih = rw u (inl x)
    go Ordering.gt u (inr (inr x)) ih = rw u (inr (ih (inr x)))

pub of_form : (cs : Conds) (p : ℕ) (c : Concl) → Has p c (canon_conds cs) → (d : Concl) × Has p d cs × (c ≡ canon_concl d)
unfolding canon
of_form none p c m = absurd m
of_form (also q e cs) p c m = go (has_insert q (canon_concl e) (canon_conds cs) p c m) (of_form cs p c)
  where
    go : Has p c (also q (canon_concl e) (canon_conds cs)) → (Has p c (canon_conds cs) → (d : Concl) × Has p d cs × (c ≡ canon_concl d)) → (d : Concl) × Has p d (also q e cs) × (c ≡ canon_concl d)
    go (inl x) ih = (e, inl (x.0, refl), x.1)
    go (inr x) ih = let z = ih x in (z.0, inr z.1, z.2)

pub in_form_lem : (cs : Conds) (p : ℕ) (c : Concl) → Has p c cs → Has p (canon_concl c) (canon_conds cs)
unfolding canon
in_form_lem none p c m = absurd m
in_form_lem (also q e cs) p c (inl x) = insert_has q (canon_concl e) (canon_conds cs) p (canon_concl c) (inl (x.0, ap canon_concl x.1))
in_form_lem (also q e cs) p c (inr x) = insert_has q (canon_concl e) (canon_conds cs) p (canon_concl c) (inr (in_form_lem cs p c x))

-- Two lists of conditions have the same form exactly when each condition of one has, in the other, one with the same form.
abbrev pub Covers : Conds → Conds → Type 0
Covers cs ds = (p : ℕ) (c : Concl) → Has p c cs → (d : Concl) × Has p d ds × (canon_concl c ≡ canon_concl d)

covers_within : (cs ds : Conds) → Covers cs ds → Within (canon_conds cs) (canon_conds ds)
covers_within cs ds w p c m = let z = of_form cs p c m in let y = w p z.0 z.1 in rw (z.2 ∙ y.2) (in_form_lem ds p y.0 y.1)

pub form_of_set : (cs ds : Conds) → Covers cs ds → Covers ds cs → canon_conds cs ≡ canon_conds ds
form_of_set cs ds w v = members_tell (canon_conds cs) (canon_conds ds) (conds_canonical cs) (conds_canonical ds) (covers_within cs ds w) (covers_within ds cs v)

pub set_of_form : (cs ds : Conds) → canon_conds cs ≡ canon_conds ds → Covers cs ds
set_of_form cs ds e p c m = of_form ds p (canon_concl c) (rw e at (in_form_lem cs p c m))

-- Conditions in any order, and however often each is repeated: with the same members the form is the same.
pub same_members : (v r : ℕ) (cs ds : Conds) (c : Concl) → Within cs ds → Within ds cs → canon (grant v r cs c) ≡ canon (grant v r ds c)
unfolding canon
same_members v r cs ds c w u = let e = form_of_set cs ds (λ p d m. (d, w p d m, refl)) (λ p d m. (d, u p d m, refl)) in cc

-- Sameness is equality of the forms.
pub same_canon : (g h : Grant) → same g h ≡ true → canon g ≡ canon h
unfolding same w.same_written
same_canon g h e = same_eq (canon g) (canon h) e

pub canon_same : (g h : Grant) → canon g ≡ canon h → same g h ≡ true
unfolding same w.same_written
canon_same g h e = rw e (same_refl (canon h))

-- Sameness by parts.
abbrev which : Right → ℕ
which (issue g) = 0
which issue_any = 1
which (run n) = 2
which (export n) = 3

right_parts : (r t : Right) → canon_right r ≡ canon_right t → SameRight r t
unfolding canon
right_parts (issue g) (issue h) e = canon_same g h (cc)
right_parts (issue g) issue_any e = let z = ap which e in omega arith
right_parts (issue g) (run n) e = let z = ap which e in omega arith
right_parts (issue g) (export n) e = let z = ap which e in omega arith
right_parts issue_any (issue h) e = let z = ap which e in omega arith
right_parts issue_any issue_any e = tt
right_parts issue_any (run n) e = let z = ap which e in omega arith
right_parts issue_any (export n) e = let z = ap which e in omega arith
right_parts (run m) (issue h) e = let z = ap which e in omega arith
right_parts (run m) issue_any e = let z = ap which e in omega arith
right_parts (run m) (run n) e = cc
right_parts (run m) (export n) e = let z = ap which e in omega arith
right_parts (export m) (issue h) e = let z = ap which e in omega arith
right_parts (export m) issue_any e = let z = ap which e in omega arith
right_parts (export m) (run n) e = let z = ap which e in omega arith
right_parts (export m) (export n) e = cc

parts_right : (r t : Right) → SameRight r t → canon_right r ≡ canon_right t
unfolding canon
parts_right (issue g) (issue h) e = ap issue (same_canon g h e)
parts_right (issue g) issue_any e = absurd e
parts_right (issue g) (run n) e = absurd e
parts_right (issue g) (export n) e = absurd e
parts_right issue_any (issue h) e = absurd e
parts_right issue_any issue_any e = refl
parts_right issue_any (run n) e = absurd e
parts_right issue_any (export n) e = absurd e
parts_right (run m) (issue h) e = absurd e
parts_right (run m) issue_any e = absurd e
parts_right (run m) (run n) e = ap run e
parts_right (run m) (export n) e = absurd e
parts_right (export m) (issue h) e = absurd e
parts_right (export m) issue_any e = absurd e
parts_right (export m) (run n) e = absurd e
parts_right (export m) (export n) e = ap export e

abbrev is_right : Concl → ℕ
is_right (property k p) = 0
is_right (perm p r) = 1

pub concl_parts : (c d : Concl) → canon_concl c ≡ canon_concl d → SameConcl c d
unfolding canon
concl_parts (property k p) (property j q) e = (cc, cc)
concl_parts (property k p) (perm q t) e = let z = ap is_right e in omega arith
concl_parts (perm p r) (property j q) e = let z = ap is_right e in omega arith
concl_parts (perm p r) (perm q t) e = (cc, right_parts r t (cc))

pub parts_concl : (c d : Concl) → SameConcl c d → canon_concl c ≡ canon_concl d
unfolding canon
parts_concl (property k p) (property j q) e = cc
parts_concl (property k p) (perm q t) e = absurd e
parts_concl (perm p r) (property j q) e = absurd e
parts_concl (perm p r) (perm q t) e = let z = parts_right r t e.1 in cc

covers_among : (cs ds : Conds) → Covers cs ds → Among cs ds
covers_among cs ds w p c m = let z = w p c m in (z.0, z.1, concl_parts c z.0 z.2)

among_covers : (cs ds : Conds) → Among cs ds → Covers cs ds
among_covers cs ds w p c m = let z = w p c m in (z.0, z.1, parts_concl c z.0 z.2)

-- Two grants are the same exactly when their variables are equal, their conclusions the same, and each condition of one is
-- among those of the other; inner grants up to sameness.
pub same_parts : (g h : Grant) → (same g h ≡ true) ↔ SameParts g h
unfolding canon
same_parts (grant v r cs c) (grant w t ds d) = (parts, whole)
  where
    parts : same (grant v r cs c) (grant w t ds d) ≡ true → SameParts (grant v r cs c) (grant w t ds d)
    parts e =
        let f : grant v r (canon_conds cs) (canon_concl c) ≡ grant w t (canon_conds ds) (canon_concl d) = same_canon (grant v r cs c) (grant w t ds d) e in
        let k : canon_conds cs ≡ canon_conds ds = cc in
        (cc, cc, concl_parts c d (cc), covers_among cs ds (set_of_form cs ds k), covers_among ds cs (set_of_form ds cs (sym k)))

    whole : SameParts (grant v r cs c) (grant w t ds d) → same (grant v r cs c) (grant w t ds d) ≡ true
    whole e =
        let k = form_of_set cs ds (among_covers cs ds e.3) (among_covers ds cs e.4) in
        let l = parts_concl c d e.2 in
        let a = e.0 in
        let b = e.1 in
        canon_same (grant v r cs c) (grant w t ds d) (cc)

-- Sameness is an equivalence.
pub same_self : (g : Grant) → same g g ≡ true
same_self g = canon_same g g refl

pub same_back : (g h : Grant) → same g h ≡ true → same h g ≡ true
same_back g h e = canon_same h g (sym (same_canon g h e))

pub same_on : (g h k : Grant) → same g h ≡ true → same h k ≡ true → same g k ≡ true
same_on g h k a b = canon_same g k (same_canon g h a ∙ same_canon h k b)
