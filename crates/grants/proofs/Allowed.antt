-- What is read is allowed, and not too deep.
use Prim.Native.Nat.{ℕ, ◌≤◌}
use mathlib.Core.Path.{◌≡◌}
use mathlib.Core.List.{List}
use Rattle.rows.specs.Written.{Grant, Conds, Concl, how_many}
use Rattle.rows.specs.Form.{depth, depth_conds, depth_concl}
use Rattle.rows.specs.Allowed.{Allowed, AllowedConds, AllowedConcl}
use Rattle.frames.specs.declared.ranges.Scope.{Scope}
use Rattle.frames.specs.Bytes.{got}
use Rattle.grants.specs.Grants.{read_concl, read_conds, read_grant}
use Rattle.grants.proofs.Found.{concl_found, conds_found, grant_found}

module _ (left : ℕ) (s : List ℕ) where
  -- a grant that was read is allowed, and no deeper than was left
  pub read_allowed : (at : ℕ) (g : Grant) (n : ℕ) → read_grant left s at ≡ got g n → Allowed g × (depth g ≤ left)
  read_allowed at g n e = let f = grant_found left s at g n e in (f.allowed, f.deep)

  -- so is a conclusion that was read
  pub concl_allowed : (v : Scope) (at : ℕ) (c : Concl) (n : ℕ) → read_concl (read_grant left s) v s at ≡ got c n → AllowedConcl v.prins v.res c × (depth_concl c ≤ left)
  concl_allowed v at c n e = let f = concl_found left s (read_grant left s) (grant_found left s) v at c n e in (f.allowed, f.deep)

  -- so are conditions that were read, and they are as many as were asked for
  pub conds_allowed : (v : Scope) (k at : ℕ) (cs : Conds) (n : ℕ) → read_conds (read_grant left s) v s k at ≡ got cs n →
      AllowedConds v.prins v.res cs × (depth_conds cs ≤ left) × (how_many cs ≡ k)
  conds_allowed v k at cs n e = let f = conds_found left s (read_grant left s) (grant_found left s) v k at cs n e in (f.allowed, f.deep, f.many)
