-- The readers find what is spelled: where bytes of something allowed stand, reading there gives it.
use Prim.Native.Nat.{ℕ, zero, suc, ◌≤◌, ◌-◌}
use mathlib.Core.Path.{◌≡◌, refl, ap}
use mathlib.Core.List.{List, [], ◌∷◌, ◌++◌}
use mathlib.Core.Bool.{Bool, true, false, cond}
use mathlib.Core.Logic.{inl, inr}
use native.Mathlib.Omega.{arith}
use lib.ListN.{length}
use lib.Dec.{ltb, leb, eqb}
use borrow.Author.Tests.{leb-true, leb-false, lt-ltb, le-leb}
use Rattle.sorts.specs.Numbers.{conditions, packs, principals, properties, first_var, item_var, second_var}
use Rattle.rows.specs.Written.{Grant, Conds, Concl, Right, grant, none, also, property, perm, issue, issue_any, run, export, how_many, kind_of, written, written_conds, written_concl, written_right}
use Rattle.rows.specs.Form.{larger, depth, depth_conds, depth_concl, depth_right}
use Rattle.sorts.specs.RowForm.{PrinForm, PackForm}
use Rattle.rows.specs.Allowed.{Allowed, AllowedConds, AllowedConcl, AllowedRight}
use Rattle.sorts.specs.declared.Refusal.TheVariants.{Range}
use Rattle.frames.specs.declared.ranges.Scope.{Scope}
use Rattle.frames.specs.Bytes.{Outcome, got, refused, byte_at, upto, principal, pack, tag, header, declared}
use Rattle.grants.specs.Grants.{read_property, read_packed, read_issue, read_concl, read_conds, read_with, read_grant}
use Rattle.grants.proofs.Spelled.{Spelled, part, byte_stands}

module _ {s : List ℕ} {at b n : ℕ} (x : Spelled s at (b ∷ []) n) where
  -- a byte that stands at a place is read there
  pub byte_reads : byte_at s at ≡ got b n
  unfolding byte_at
  byte_reads =
      let y = byte_stands x in
      rw (lt-ltb at (length s) y.0) (cc (y.1, y.2))

  -- and within a range, where it is in it
  pub upto_reads : (most : ℕ) → b ≤ most → upto most s at ≡ got b n
  unfolding upto
  upto_reads most h = rw (byte_reads, le-leb b most h)

  -- and as a principal
  pub principal_reads : (v : Scope) → PrinForm v.prins (record { 0 = b }) → principal v s at ≡ got b n
  unfolding principal
  principal_reads v f = rw byte_reads (go f)
    where
      go : PrinForm v.prins (record { 0 = b }) →
          ◌≡◌ {A = Outcome ℕ} (cond (ltb b principals) (got b n) (cond (eqb b first_var) (declared (ltb 0 v.prins) b n) (cond (eqb b second_var) (declared (ltb 1 v.prins) b n) (refused Range)))) (got b n)
      go (inl h) = rw (lt-ltb b principals h)
      go (inr (inl h)) = rw (h.0, lt-ltb 0 v.prins h.1)
      go (inr (inr h)) = rw (h.0, lt-ltb 1 v.prins h.1)

  -- and as a pack
  pub pack_reads : (v : Scope) → PackForm v.res (record { 0 = b }) → pack v s at ≡ got b n
  unfolding pack
  pack_reads v f = rw byte_reads (go f)
    where
      go : PackForm v.res (record { 0 = b }) →
          ◌≡◌ {A = Outcome ℕ} (cond (ltb b packs) (got b n) (cond (eqb b item_var) (declared (eqb v.res 2) b n) (refused Range))) (got b n)
      go (inl h) = rw (lt-ltb b packs h)
      go (inr h) = rw (h.0, h.1)

-- a bound on the larger of two bounds both
larger_of : (a b most : ℕ) → larger a b ≤ most → (a ≤ most) × (b ≤ most)
larger_of a b most h = go (leb a b) refl h
  where
    go : (t : Bool) → leb a b ≡ t → cond t b a ≤ most → (a ≤ most) × (b ≤ most)
    go true e h = omega (arith, leb-true a b e)
    go false e h = omega (arith, leb-false a b e)

-- A reader of inner grants finds those that are spelled.
abbrev pub Rereads : ℕ → List ℕ → (ℕ → Outcome Grant) → Type 0
Rereads left s inner = (g : Grant) (at n : ℕ) → Allowed g → depth g ≤ left → Spelled s at (written g) n → inner at ≡ got g n

module _ (left : ℕ) (s : List ℕ) (inner : ℕ → Outcome Grant) (ok : Rereads left s inner) (v : Scope) where
  -- what is spelled after a right's principal is read
  right_reads : (r : Right) (p at n : ℕ) → AllowedRight v.res r → depth_right r ≤ left → Spelled s at (written_right r) n →
      cond (eqb (kind_of r) 1) (read_issue inner v p s at) (read_packed v (kind_of r) p s at) ≡ got (perm p r) n
  unfolding read_issue read_packed tag AllowedConcl depth written
  right_reads (issue g) p at n a d x =
      let y = part (0 ∷ []) (written g) x in
      rw (byte_reads y.first, ok g y.place n a d y.second)
  right_reads issue_any p at n a d x = rw (byte_reads x, a)
  right_reads (run b) p at n a d x = rw (pack_reads x v a)
  right_reads (export b) p at n a d x = rw (pack_reads x v a)

  -- a conclusion that is spelled is read
  pub concl_reads : (c : Concl) (at n : ℕ) → AllowedConcl v.prins v.res c → depth_concl c ≤ left → Spelled s at (written_concl c) n → read_concl inner v s at ≡ got c n
  unfolding read_concl read_property AllowedConcl depth written
  concl_reads (property k p) at n a d x =
      let y = part (0 ∷ []) (k ∷ p ∷ []) x in
      let z = part (k ∷ []) (p ∷ []) y.second in
      rw (upto_reads y.first 3 (omega arith), upto_reads z.first (properties - 1) (let h = a.0 in omega arith), principal_reads z.second v a.1)
  concl_reads (perm p r) at n a d x =
      let y = part (kind_of r ∷ []) (p ∷ written_right r) x in
      let z = part (p ∷ []) (written_right r) y.second in
      rw (upto_reads y.first 3 (kind r).0, (kind r).1, principal_reads z.first v a.0) (right_reads r p z.place n a.1 d z.second)
    where
      kind : (r : Right) → (kind_of r ≤ 3) × (eqb (kind_of r) 0 ≡ false)
      kind (issue g) = (omega arith, refl)
      kind issue_any = (omega arith, refl)
      kind (run b) = (omega arith, refl)
      kind (export b) = (omega arith, refl)

  -- conditions that are spelled are read
  pub conds_reads : (cs : Conds) (at n : ℕ) → AllowedConds v.prins v.res cs → depth_conds cs ≤ left → Spelled s at (written_conds cs) n → read_conds inner v s (how_many cs) at ≡ got cs n
  unfolding read_conds AllowedConcl depth written
  conds_reads none at n a d x = let e = x.ends in ap (got none) (omega arith)
  conds_reads (also p c cs) at n a d x =
      let y = part (p ∷ []) (written_concl c ++ written_conds cs) x in
      let z = part (written_concl c) (written_conds cs) y.second in
      let l = larger_of (depth_concl c) (depth_conds cs) left d in
      rw (principal_reads y.first v a.0, concl_reads c y.place z.place a.1 l.0 z.first, conds_reads cs z.place n a.2 l.1 z.second)

-- one grant around those that the inner reader finds
with_reads : (left : ℕ) (s : List ℕ) (inner : ℕ → Outcome Grant) → Rereads left s inner → Rereads (suc left) s (read_with inner s)
unfolding read_with header AllowedConcl depth written
with_reads left s inner ok (grant prins res cs c) at n a d x =
    let v : Scope = record { prins = prins; res = res } in
    let y = part (prins ∷ []) (res ∷ how_many cs ∷ (written_conds cs ++ written_concl c)) x in
    let z = part (res ∷ []) (how_many cs ∷ (written_conds cs ++ written_concl c)) y.second in
    let w = part (how_many cs ∷ []) (written_conds cs ++ written_concl c) z.second in
    let u = part (written_conds cs) (written_concl c) w.second in
    let l = larger_of (depth_conds cs) (depth_concl c) left (omega arith) in
    rw (
      upto_reads y.first 2 a.0,
      upto_reads z.first 2 a.1,
      upto_reads w.first conditions a.2,
      conds_reads left s inner ok v cs w.place u.place a.3 l.0 u.first,
      concl_reads left s inner ok v c u.place n a.4 l.1 u.second,
    )

-- a grant that is spelled is read
pub grant_reads : (left : ℕ) (s : List ℕ) → Rereads left s (read_grant left s)
unfolding read_grant depth
grant_reads zero s (grant prins res cs c) at n a d x = absurd (omega arith)
grant_reads (suc below) s g at n a d x = with_reads below s (read_grant below s) (grant_reads below s) g at n a d x
