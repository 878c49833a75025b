-- The readers of grants, conditions and conclusions are exact: what they read are the bytes they read, and reading what was
-- written gives it back.
use Prim.Native.Nat.{ℕ, ◌+◌, ◌≤◌, ◌<◌}
use mathlib.Core.Path.{◌≡◌}
use mathlib.Core.List.{List, ◌++◌}
use native.Mathlib.Omega.{arith}
use lib.ListN.{length, take, drop}
use Rattle.rows.specs.Written.{Grant, Concl, grant, property, perm, written, written_concl}
use Rattle.rows.specs.Form.{depth, depth_concl}
use Rattle.rows.specs.Allowed.{Allowed, AllowedConcl}
use Rattle.frames.specs.declared.ranges.Scope.{Scope}
use Rattle.frames.specs.Bytes.{got}
use Rattle.grants.specs.Grants.{read_concl, read_grant}
use Rattle.grants.proofs.Spelled.{Spelled, spelled_take, spelled_fits, spelled_starts, between}
use Rattle.grants.proofs.Found.{concl_found, grant_found}
use Rattle.grants.proofs.Reread.{concl_reads, grant_reads}

-- From place at up to place n, within s, stand the bytes w.
abbrev pub Exactly : List ℕ → ℕ → List ℕ → ℕ → Type 0
Exactly s at w n = (n ≡ at + length w) × (n ≤ length s) × (take (length w) (drop at s) ≡ w)

-- what is spelled stands there exactly
exactly : (s : List ℕ) (at : ℕ) (w : List ℕ) (n : ℕ) → at ≤ length s → Spelled s at w n → Exactly s at w n
exactly s at w n h x = (x.ends, spelled_fits x h, spelled_take x)

-- a grant has bytes
grant_some : (g : Grant) → 0 < length (written g)
unfolding written
grant_some (grant prins res cs c) = omega arith

-- and so has a conclusion
concl_some : (c : Concl) → 0 < length (written_concl c)
unfolding written
concl_some (property k p) = omega arith
concl_some (perm p r) = omega arith

module _ (left : ℕ) (s : List ℕ) (at : ℕ) where
  -- a grant that was read is exactly the bytes read
  pub read_exact : (g : Grant) (n : ℕ) → read_grant left s at ≡ got g n → Exactly s at (written g) n
  read_exact g n e =
      let x = (grant_found left s at g n e).spelled in
      let h = spelled_starts x (grant_some g) in
      exactly s at (written g) n (omega arith) x

  -- so is a conclusion
  pub concl_exact : (v : Scope) (c : Concl) (n : ℕ) → read_concl (read_grant left s) v s at ≡ got c n → Exactly s at (written_concl c) n
  concl_exact v c n e =
      let x = (concl_found left s (read_grant left s) (grant_found left s) v at c n e).spelled in
      let h = spelled_starts x (concl_some c) in
      exactly s at (written_concl c) n (omega arith) x

module _ (left : ℕ) (x y : List ℕ) where
  -- reading a grant that was written, wherever it stands, gives it back
  pub written_read : (g : Grant) → Allowed g → depth g ≤ left → read_grant left (x ++ (written g ++ y)) (length x) ≡ got g (length x + length (written g))
  written_read g a d = grant_reads left (x ++ (written g ++ y)) g (length x) (length x + length (written g)) a d (between x (written g) y)

  -- so with a conclusion
  pub concl_read : (v : Scope) (c : Concl) → AllowedConcl v.prins v.res c → depth_concl c ≤ left →
      read_concl (read_grant left (x ++ (written_concl c ++ y))) v (x ++ (written_concl c ++ y)) (length x) ≡ got c (length x + length (written_concl c))
  concl_read v c a d =
      let s = x ++ (written_concl c ++ y) in
      concl_reads left s (read_grant left s) (grant_reads left s) v c (length x) (length x + length (written_concl c)) a d (between x (written_concl c) y)
