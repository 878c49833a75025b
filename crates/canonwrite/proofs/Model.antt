-- The form written from bytes, as code does it, is the bytes of the grant's form.
use Prim.Native.Nat.{ℕ, zero, suc, ◌+◌, ◌≤◌, Ordering}
use mathlib.Core.List.{List, [], ◌∷◌, ◌++◌, append_assoc}
use mathlib.Core.Path.{◌≡◌, refl, sym, ◌∙◌, ap}
use native.Mathlib.Omega.{arith}
use lib.ListN.{length, get_or, drop, length-append}
use lib.Seq.{get_or-drop, drop-drop, drop-append_seam}
use Rattle.rows.specs.Written.{Grant, Conds, Concl, Right, grant, none, also, property, perm, issue, issue_any, run, export, how_many, kind_of, written, written_conds, written_concl, written_right}
use Rattle.rows.specs.Form.{depth, depth_conds, depth_concl, depth_right}
use Rattle.canon.specs.Canon.{pick, order, cond_bytes, order_cond, insert, canon, canon_conds, canon_concl, canon_right, Canonical, CanonicalConds, CanonicalConcl}
use Rattle.canonwrite.specs.Model.{Wrote, Sorted, put_segment, joined, form_concl, form_conds, form_with, form_grant}
use Rattle.canon.proofs.Turns.{insert_swap}
use Rattle.canon.proofs.Form.{insert_canonical, concl_canonical}
use Rattle.canon.proofs.Size.{larger_max}

unfoldable pub put_all : Conds → Conds → Conds
put_all none acc = acc
put_all (also p c cs) acc = put_all cs (insert p (canon_concl c) acc)

put_all_insert : (cs : Conds) (p : ℕ) (c : Concl) (acc : Conds) → CanonicalConcl c → CanonicalConds acc → put_all cs (insert p c acc) ≡ insert p c (put_all cs acc)
unfolding put_all
put_all_insert none p c acc h a = refl
put_all_insert (also q d cs) p c acc h a =
    ap (put_all cs) (insert_swap q (canon_concl d) p c acc (concl_canonical d) h a)
    ∙ put_all_insert cs p c (insert q (canon_concl d) acc) h (insert_canonical q (canon_concl d) acc (concl_canonical d) a)

pub put_all_form : (cs : Conds) → put_all cs none ≡ canon_conds cs
unfolding put_all canon Canonical
put_all_form none = refl
put_all_form (also p c cs) = put_all_insert cs p (canon_concl c) none (concl_canonical c) tt ∙ ap (insert p (canon_concl c)) (put_all_form cs)

-- Conditions as segments.
abbrev pub segments_of : Conds → List (List ℕ)
segments_of none = []
segments_of (also p c cs) = cond_bytes p c ∷ segments_of cs

pub segments_put : (p : ℕ) (c : Concl) (cs : Conds) → segments_of (insert p c cs) ≡ put_segment (cond_bytes p c) (segments_of cs)
unfolding insert put_segment order_cond
segments_put p c none = refl
segments_put p c (also q d cs) = go (order (cond_bytes p c) (cond_bytes q d)) (segments_put p c cs)
  where
    go : (o : Ordering) → segments_of (insert p c cs) ≡ put_segment (cond_bytes p c) (segments_of cs)
        → segments_of (pick o (also p c (also q d cs)) (also q d cs) (also q d (insert p c cs))) ≡ pick o (cond_bytes p c ∷ (cond_bytes q d ∷ segments_of cs)) (cond_bytes q d ∷ segments_of cs) (cond_bytes q d ∷ put_segment (cond_bytes p c) (segments_of cs))
    go Ordering.lt ih = refl
    go Ordering.eq ih = refl
    go Ordering.gt ih = ap (λ (l : List (List ℕ)). cond_bytes q d ∷ l) ih

pub segments_joined : (cs : Conds) → joined (segments_of cs) ≡ written_conds cs
unfolding written cond_bytes
segments_joined none = refl
segments_joined (also p c cs) = ap (λ (l : List ℕ). p ∷ (written_concl c ++ l)) (segments_joined cs)

pub segments_count : (cs : Conds) → length (segments_of cs) ≡ how_many cs
segments_count none = refl
segments_count (also p c cs) = ap suc (segments_count cs)

-- Bytes at a place.
pub byte_at : (s : List ℕ) (at b : ℕ) (x : List ℕ) → drop at s ≡ b ∷ x → (get_or s at 0 ≡ b) × (drop (at + 1) s ≡ x)
byte_at s at b x e =
    let z : at + 0 ≡ at = omega arith in
    let f : get_or s (at + 0) 0 ≡ b = sym (get_or-drop at s 0 0) ∙ ap (λ (l : List ℕ). get_or l 0 0) e in
    (rw z at f, sym (drop-drop 1 at s) ∙ ap (drop 1) e)

pub three_at : (s : List ℕ) (at a b c : ℕ) (x : List ℕ) → drop at s ≡ a ∷ b ∷ c ∷ x → (get_or s at 0 ≡ a) × (get_or s (at + 1) 0 ≡ b) × (get_or s (at + 2) 0 ≡ c) × (drop (at + 3) s ≡ x)
three_at s at a b c x e =
    let f = byte_at s at a (b ∷ c ∷ x) e in
    let g = byte_at s (at + 1) b (c ∷ x) f.1 in
    let h = byte_at s (at + 1 + 1) c x g.1 in
    let y : at + 1 + 1 ≡ at + 2 = omega arith in
    let z : at + 1 + 1 + 1 ≡ at + 3 = omega arith in
    (f.0, g.0, rw y at h.0, rw z at h.1)

next_path : (b : List ℕ) (m n : ℕ) → m ≡ n → ◌≡◌ {A = Wrote} (record { bytes = b; next = m }) (record { bytes = b; next = n })
next_path b m n e = λ i. record { bytes = b; next = e i }

sorted_path : (b : List (List ℕ)) (m n : ℕ) → m ≡ n → ◌≡◌ {A = Sorted} (record { segments = b; next = m }) (record { segments = b; next = n })
sorted_path b m n e = λ i. record { segments = b; next = e i }

pub past : (s : List ℕ) (at : ℕ) (w x : List ℕ) → drop at s ≡ w ++ x → drop (at + length w) s ≡ x
past s at w x e = sym (drop-drop (length w) at s) ∙ ap (drop (length w)) e ∙ drop-append_seam w x

conds_none : (inner : ℕ → Wrote) (s : List ℕ) (at : ℕ) (ps : List (List ℕ)) → form_conds inner s 0 at ps ≡ record { segments = ps; next = at }
unfolding form_conds
conds_none inner s at ps = refl

conds_step_lem : (inner : ℕ → Wrote) (s : List ℕ) (k at : ℕ) (ps : List (List ℕ))
    → form_conds inner s (suc k) at ps ≡ form_conds inner s k (form_concl inner s (at + 1)).next (put_segment (get_or s at 0 ∷ (form_concl inner s (at + 1)).bytes) ps)
unfolding form_conds
conds_step_lem inner s k at ps = refl

mutual
  unfolding form_grant form_with form_concl put_all written canon depth cond_bytes

  pub form_grant_lem : (g : Grant) (left : ℕ) (s : List ℕ) (at : ℕ) (x : List ℕ) → depth g ≤ left → drop at s ≡ written g ++ x → form_grant left s at ≡ record { bytes = written (canon g); next = at + length (written g) }
  form_grant_lem (grant v r cs c) zero s at x h e = absurd (omega arith)
  form_grant_lem (grant v r cs c) (suc below) s at x h e =
      let f = three_at s at v r (how_many cs) ((written_conds cs ++ written_concl c) ++ x) e in
      let k = f.3 ∙ append_assoc (written_conds cs) (written_concl c) x in
      let l = larger_max (depth_conds cs) (depth_concl c) in
      let a = form_conds_lem cs below s (at + 3) (written_concl c ++ x) none (omega arith) k in
      let b = form_concl_lem c below s (at + 3 + length (written_conds cs)) x (omega arith) (past s (at + 3) (written_conds cs) (written_concl c ++ x) k) in
      rw (f.0, f.1, f.2, a, b, put_all_form cs, segments_count (canon_conds cs), segments_joined (canon_conds cs))
      (next_path (v ∷ r ∷ how_many (canon_conds cs) ∷ (written_conds (canon_conds cs) ++ written_concl (canon_concl c))) (at + 3 + length (written_conds cs) + length (written_concl c)) (at + length (written (grant v r cs c)))
      (omega (arith, length-append (written_conds cs) (written_concl c))))

  form_conds_lem : (cs : Conds) (left : ℕ) (s : List ℕ) (at : ℕ) (x : List ℕ) (acc : Conds) → depth_conds cs ≤ left → drop at s ≡ written_conds cs ++ x
      → form_conds (form_grant left s) s (how_many cs) at (segments_of acc) ≡ record { segments = segments_of (put_all cs acc); next = at + length (written_conds cs) }
  form_conds_lem none left s at x acc h e = conds_none (form_grant left s) s at (segments_of acc) ∙ sorted_path (segments_of acc) at (at + 0) (omega arith)
  form_conds_lem (also p c cs) left s at x acc h e =
      let f = byte_at s at p ((written_concl c ++ written_conds cs) ++ x) e in
      let k = f.1 ∙ append_assoc (written_concl c) (written_conds cs) x in
      let l = larger_max (depth_concl c) (depth_conds cs) in
      let a = form_concl_lem c left s (at + 1) (written_conds cs ++ x) (omega arith) k in
      let b = form_conds_lem cs left s (at + 1 + length (written_concl c)) x (insert p (canon_concl c) acc) (omega arith) (past s (at + 1) (written_concl c) (written_conds cs ++ x) k) in
      conds_step_lem (form_grant left s) s (how_many cs) at (segments_of acc)
      ∙ rw (f.0, a, ← segments_put p (canon_concl c) acc, b)
      (sorted_path (segments_of (put_all cs (insert p (canon_concl c) acc))) (at + 1 + length (written_concl c) + length (written_conds cs)) (at + length (written_conds (also p c cs)))
      (omega (arith, length-append (written_concl c) (written_conds cs))))

  pub form_concl_lem : (c : Concl) (left : ℕ) (s : List ℕ) (at : ℕ) (x : List ℕ) → depth_concl c ≤ left → drop at s ≡ written_concl c ++ x
      → form_concl (form_grant left s) s at ≡ record { bytes = written_concl (canon_concl c); next = at + length (written_concl c) }
  form_concl_lem (property k p) left s at x h e = let f = three_at s at 0 k p x e in rw (f.0, f.1, f.2)
  form_concl_lem (perm p r) left s at x h e = form_right r p left s at x h e

  form_right : (r : Right) (p left : ℕ) (s : List ℕ) (at : ℕ) (x : List ℕ) → depth_right r ≤ left → drop at s ≡ kind_of r ∷ p ∷ (written_right r ++ x)
      → form_concl (form_grant left s) s at ≡ record { bytes = kind_of (canon_right r) ∷ p ∷ written_right (canon_right r); next = at + length (kind_of r ∷ p ∷ written_right r) }
  form_right (issue g) p left s at x h e = let f = three_at s at 1 p 0 (written g ++ x) e in rw (f.0, f.1, f.2, form_grant_lem g left s (at + 3) x h f.3) (next_path (1 ∷ p ∷ 0 ∷ written (canon g)) (at + 3 + length (written g)) (at + suc (suc (suc (length (written g))))) (omega arith))
  form_right issue_any p left s at x h e = let f = three_at s at 1 p 1 x e in rw (f.0, f.1, f.2)
  form_right (run n) p left s at x h e = let f = three_at s at 2 p n x e in rw (f.0, f.1, f.2)
  form_right (export n) p left s at x h e = let f = three_at s at 3 p n x e in rw (f.0, f.1, f.2)
