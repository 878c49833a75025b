-- What the readers find: it is allowed, not too deep, and spelled by the bytes read. One pass over the readers shows all three.
use Prim.Native.Nat.{ℕ, zero, suc, ◌≤◌, ◌-◌}
use mathlib.Core.Path.{◌≡◌, refl, ap}
use mathlib.Core.List.{List, [], ◌∷◌}
use mathlib.Core.Bool.{Bool, true, false, cond}
use mathlib.Core.Logic.{◌⊎◌, inl, inr}
use native.Mathlib.Omega.{arith}
use lib.ListN.{length}
use lib.Dec.{ltb, leb, eqb}
use borrow.Author.Tests.{ltb-true, leb-true, eqb-true, eqb-false}
use Rattle.sorts.specs.Numbers.{conditions, packs, principals, properties, first_var, item_var, second_var}
use Rattle.rows.specs.Written.{Grant, Conds, Concl, Right, perm, issue, issue_any, run, export, how_many, kind_of, written, written_conds, written_concl, written_right}
use Rattle.rows.specs.Form.{larger, depth, depth_conds, depth_concl, depth_right}
use Rattle.sorts.specs.RowForm.{PrinForm, PackForm}
use Rattle.rows.specs.Allowed.{Allowed, AllowedConds, AllowedConcl, AllowedRight}
use Rattle.frames.specs.declared.ranges.Scope.{Scope}
use Rattle.frames.specs.declared.ranges.Header.{Header}
use Rattle.frames.specs.Bytes.{Outcome, and_then, byte_at, upto, principal, pack, tag, header, declared}
use Rattle.grants.specs.Grants.{read_property, read_packed, read_issue, read_concl, read_conds, read_with, read_grant}
use Rattle.grants.proofs.Spelled.{Spelled, join, nothing, byte_spelled}
use Rattle.grants.proofs.Gives.{Gives, done, not_got, after, choose}

-- A byte that stands at its place, and for which F holds.
pub record ByteRead (F : ℕ → Type 0) (s : List ℕ) (at b n : ℕ) : Type 0 where
  pub is : F b
  pub stands : Spelled s at (b ∷ []) n

-- a byte that was read stands at its place
pub byte_found : (s : List ℕ) (at : ℕ) → Gives (λ b n. Spelled s at (b ∷ []) n) (byte_at s at)
unfolding byte_at
byte_found s at =
    choose _ (ltb at (length s)) _ _
    (λ h. done _ _ _ (byte_spelled s at (ltb-true at (length s) h)))
    (λ h. not_got _ _)

-- a byte, and then a test that lets only bytes with F through
byte_then : (F : ℕ → Type 0) (s : List ℕ) (at : ℕ) (f : ℕ → ℕ → Outcome ℕ) →
    ((b n : ℕ) → Spelled s at (b ∷ []) n → Gives (ByteRead F s at) (f b n)) → Gives (ByteRead F s at) (and_then (byte_at s at) f)
byte_then F s at f h = after _ _ (byte_at s at) f (byte_found s at) h

-- a byte that was read within a range is in it
pub upto_found : (most : ℕ) (s : List ℕ) (at : ℕ) → Gives (ByteRead (λ b. b ≤ most) s at) (upto most s at)
unfolding upto
upto_found most s at =
    byte_then _ s at _ (λ b n x.
    choose _ (leb b most) _ _
    (λ h. done _ b n (record { is = leb-true b most h; stands = x }))
    (λ h. not_got _ _))

-- a listed variable byte
variable_found : (F : ℕ → Type 0) (s : List ℕ) (at : ℕ) (is : Bool) (b n : ℕ) → Spelled s at (b ∷ []) n → (is ≡ true → F b) → Gives (ByteRead F s at) (declared is b n)
variable_found F s at is b n x f =
    choose _ is _ _
    (λ h. done _ b n (record { is = f h; stands = x }))
    (λ h. not_got _ _)

-- a principal that was read is one, or a variable that is declared
pub principal_found : (v : Scope) (s : List ℕ) (at : ℕ) → Gives (ByteRead (λ p. PrinForm v.prins (record { 0 = p })) s at) (principal v s at)
unfolding principal
principal_found v s at =
    byte_then _ s at _ (λ b n x.
    choose _ (ltb b principals) _ _
    (λ h. done _ b n (record { is = inl (ltb-true b principals h); stands = x }))
    (λ h. choose _ (eqb b first_var) _ _
    (λ h. variable_found _ s at (ltb 0 v.prins) b n x (λ k. inr (inl (eqb-true b first_var h, ltb-true 0 v.prins k))))
    (λ h. choose _ (eqb b second_var) _ _
    (λ h. variable_found _ s at (ltb 1 v.prins) b n x (λ k. inr (inr (eqb-true b second_var h, ltb-true 1 v.prins k))))
    (λ h. not_got _ _))))

-- a pack that was read is one, or the pack variable where it is declared
pub pack_found : (v : Scope) (s : List ℕ) (at : ℕ) → Gives (ByteRead (λ p. PackForm v.res (record { 0 = p })) s at) (pack v s at)
unfolding pack
pack_found v s at =
    byte_then _ s at _ (λ b n x.
    choose _ (ltb b packs) _ _
    (λ h. done _ b n (record { is = inl (ltb-true b packs h); stands = x }))
    (λ h. choose _ (eqb b item_var) _ _
    (λ h. variable_found _ s at (eqb v.res 2) b n x (λ k. inr (eqb-true b item_var h, eqb-true v.res 2 k)))
    (λ h. not_got _ _)))

-- The byte after an issue's principal: a whole grant follows, or the grant variable stands there and is declared.
abbrev pub TagIs : Scope → ℕ → Type 0
TagIs v b = (b ≡ 0) ⊎ ((b ≡ 1) × (v.res ≡ 1))

-- the byte that was read after an issue's principal is such a byte
pub tag_found : (v : Scope) (s : List ℕ) (at : ℕ) → Gives (ByteRead (TagIs v) s at) (tag v s at)
unfolding tag
tag_found v s at =
    byte_then _ s at _ (λ b n x.
    choose _ (eqb b 0) _ _
    (λ h. done _ b n (record { is = inl (eqb-true b 0 h); stands = x }))
    (λ h. choose _ (eqb b 1) _ _
    (λ h. variable_found _ s at (eqb v.res 1) b n x (λ k. inr (eqb-true b 1 h, eqb-true v.res 1 k)))
    (λ h. not_got _ _)))

-- A grant found with at most left grants one inside the other, from place at up to place n.
pub record GrantFound (left : ℕ) (s : List ℕ) (at : ℕ) (g : Grant) (n : ℕ) : Type 0 where
  pub allowed : Allowed g
  pub deep : depth g ≤ left
  pub spelled : Spelled s at (written g) n

-- A conclusion found in a grant that declares v.
pub record ConclFound (left : ℕ) (v : Scope) (s : List ℕ) (at : ℕ) (c : Concl) (n : ℕ) : Type 0 where
  pub allowed : AllowedConcl v.prins v.res c
  pub deep : depth_concl c ≤ left
  pub spelled : Spelled s at (written_concl c) n

-- The k conditions found in a grant that declares v.
pub record CondsFound (left : ℕ) (v : Scope) (s : List ℕ) (k at : ℕ) (cs : Conds) (n : ℕ) : Type 0 where
  pub allowed : AllowedConds v.prins v.res cs
  pub deep : depth_conds cs ≤ left
  pub many : how_many cs ≡ k
  pub spelled : Spelled s at (written_conds cs) n

-- the larger of two is no more than a bound where both are
larger_most : (a b most : ℕ) → a ≤ most → b ≤ most → larger a b ≤ most
larger_most a b most h k = go (leb a b)
  where
    go : (t : Bool) → cond t b a ≤ most
    go true = k
    go false = h

-- A reader of inner grants finds grants.
abbrev pub Finds : ℕ → List ℕ → (ℕ → Outcome Grant) → Type 0
Finds left s inner = (at : ℕ) → Gives (GrantFound left s at) (inner at)

module _ (left : ℕ) (s : List ℕ) (inner : ℕ → Outcome Grant) (ok : Finds left s inner) (v : Scope) where
  -- what is read after the kind byte of a property, which stands at place at
  property_found : (at n1 : ℕ) → Spelled s at (0 ∷ []) n1 → Gives (ConclFound left v s at) (read_property v s n1)
  unfolding read_property AllowedConcl depth written
  property_found at n1 x =
      after _ _ _ _ (upto_found (properties - 1) s n1) (λ k n2 a.
      after _ _ _ _ (principal_found v s n2) (λ p n3 b.
      done _ _ _ (record { allowed = (let h = a.is in omega arith, b.is); deep = omega arith; spelled = join x (join a.stands b.stands) })))

  -- A principal byte at its place.
  abbrev PrinRead : ℕ → ℕ → ℕ → Type 0
  PrinRead = ByteRead (λ p. PrinForm v.prins (record { 0 = p })) s

  -- a kind byte, a principal and what follows them make a right
  right_found : (at n1 p n2 : ℕ) (r : Right) (n : ℕ) → Spelled s at (kind_of r ∷ []) n1 → PrinRead n1 p n2 →
      AllowedRight v.res r → depth_right r ≤ left → Spelled s n2 (written_right r) n → ConclFound left v s at (perm p r) n
  unfolding AllowedConcl depth written
  right_found at n1 p n2 r n x y a d w = record { allowed = (y.is, a); deep = d; spelled = join x (join y.stands w) }

  -- a run or an export that was read
  packed_found : (at kind n1 p n2 : ℕ) → kind ≤ 3 → (kind ≡ 0 → ⊥) → (kind ≡ 1 → ⊥) → Spelled s at (kind ∷ []) n1 → PrinRead n1 p n2 →
      Gives (ConclFound left v s at) (read_packed v kind p s n2)
  unfolding read_packed AllowedConcl depth written
  packed_found at kind n1 p n2 most h0 h1 x y =
      after _ _ _ _ (pack_found v s n2) (λ b n3 z.
      done _ _ _ (go (eqb kind 2) refl b n3 z))
    where
      go : (t : Bool) → eqb kind 2 ≡ t → (b n3 : ℕ) → ByteRead (λ p. PackForm v.res (record { 0 = p })) s n2 b n3 → ConclFound left v s at (perm p (cond t (run b) (export b))) n3
      go true e b n3 z = right_found at n1 p n2 (run b) n3 (rw (eqb-true kind 2 e) at x) y z.is (omega arith) z.stands
      go false e b n3 z =
          let ne = eqb-false kind 2 e in
          let q : kind ≡ 3 = omega arith in
          right_found at n1 p n2 (export b) n3 (rw q at x) y z.is (omega arith) z.stands

  -- an issue that was read
  issue_found : (at n1 p n2 : ℕ) → Spelled s at (1 ∷ []) n1 → PrinRead n1 p n2 → Gives (ConclFound left v s at) (read_issue inner v p s n2)
  unfolding read_issue AllowedConcl depth written
  issue_found at n1 p n2 x y =
      after _ _ _ _ (tag_found v s n2) (λ b n3 z.
      choose _ (eqb b 1) _ _
      (λ h. let q : b ≡ 1 = eqb-true b 1 h in
      done _ _ _ (right_found at n1 p n2 issue_any n3 x y (any b q z.is) (omega arith) (rw q at z.stands)))
      (λ h. let q : b ≡ 0 = whole b (eqb-false b 1 h) z.is in
      after _ _ _ _ (ok n3) (λ g n4 i.
      done _ _ _ (right_found at n1 p n2 (issue g) n4 x y i.allowed i.deep (join (rw q at z.stands) i.spelled)))))
    where
      any : (b : ℕ) → b ≡ 1 → TagIs v b → v.res ≡ 1
      any b e (inl h) = absurd (omega arith)
      any b e (inr h) = h.1

      whole : (b : ℕ) → (b ≡ 1 → ⊥) → TagIs v b → b ≡ 0
      whole b e (inl h) = h
      whole b e (inr h) = absurd (e h.0)

  -- what a conclusion's reader finds
  pub concl_found : (at : ℕ) → Gives (ConclFound left v s at) (read_concl inner v s at)
  unfolding read_concl
  concl_found at =
      after _ _ _ _ (upto_found 3 s at) (λ kind n1 a.
      choose _ (eqb kind 0) _ _
      (λ h. property_found at n1 (rw (eqb-true kind 0 h) at a.stands))
      (λ h0. after _ _ _ _ (principal_found v s n1) (λ p n2 b.
      choose _ (eqb kind 1) _ _
      (λ h. issue_found at n1 p n2 (rw (eqb-true kind 1 h) at a.stands) b)
      (λ h1. packed_found at kind n1 p n2 a.is (eqb-false kind 0 h0) (eqb-false kind 1 h1) a.stands b))))

  -- what the conditions' reader finds
  pub conds_found : (k at : ℕ) → Gives (CondsFound left v s k at) (read_conds inner v s k at)
  unfolding read_conds AllowedConcl depth written
  conds_found zero at = done _ _ _ (record { allowed = tt; deep = omega arith; many = refl; spelled = nothing at })
  conds_found (suc k) at =
      after _ _ _ _ (principal_found v s at) (λ p n1 a.
      after _ _ _ _ (concl_found n1) (λ c n2 b.
      after _ _ _ _ (conds_found k n2) (λ cs n3 d.
      done _ _ _ (record {
        allowed = (a.is, b.allowed, d.allowed);
        deep = larger_most (depth_concl c) (depth_conds cs) left b.deep d.deep;
        many = ap suc d.many;
        spelled = join a.stands (join b.spelled d.spelled);
      }))))

-- The three bytes that open a grant.
pub record HeaderFound (s : List ℕ) (at : ℕ) (h : Header) (n : ℕ) : Type 0 where
  pub prins : h.scope.prins ≤ 2
  pub res : h.scope.res ≤ 2
  pub count : h.count ≤ conditions
  pub spelled : Spelled s at (h.scope.prins ∷ h.scope.res ∷ h.count ∷ []) n

-- what is found in the bytes that open a grant
pub header_found : (s : List ℕ) (at : ℕ) → Gives (HeaderFound s at) (header s at)
unfolding header
header_found s at =
    after _ _ _ _ (upto_found 2 s at) (λ prins n1 a.
    after _ _ _ _ (upto_found 2 s n1) (λ res n2 b.
    after _ _ _ _ (upto_found conditions s n2) (λ count n3 c.
    done _ _ _ (record { prins = a.is; res = b.is; count = c.is; spelled = join a.stands (join b.stands c.stands) }))))

-- one grant around those that the inner reader finds
with_found : (left : ℕ) (s : List ℕ) (inner : ℕ → Outcome Grant) → Finds left s inner → Finds (suc left) s (read_with inner s)
unfolding read_with AllowedConcl depth written
with_found left s inner ok at =
    after _ _ _ _ (header_found s at) (λ h n1 a.
    after _ _ _ _ (conds_found left s inner ok h.scope h.count n1) (λ cs n2 b.
    after _ _ _ _ (concl_found left s inner ok h.scope n2) (λ c n3 d.
    done _ _ _ (record {
      allowed = (a.prins, a.res, let e = b.many in let f = a.count in omega arith, b.allowed, d.allowed);
      deep = let l = larger_most (depth_conds cs) (depth_concl c) left b.deep d.deep in omega arith;
      spelled = join (rw (← b.many) at a.spelled) (join b.spelled d.spelled);
    }))))

-- what a grant's reader finds
pub grant_found : (left : ℕ) (s : List ℕ) → Finds left s (read_grant left s)
unfolding read_grant
grant_found zero s at = not_got _ _
grant_found (suc below) s at = with_found below s (read_grant below s) (grant_found below s) at
