-- The written grants that a record can hold: every byte in its list or range, and only variables that the grant itself
-- declares. Depth is apart (`depth` of Form).
use Rattle.std.specs.Prelude.{ℕ, ◌≤◌, ◌<◌, ◌≡◌}
use Rattle.rows.specs.Written.{Grant, Conds, Concl, Right, grant, none, also, property, perm, issue, issue_any, run, export, how_many}
use Rattle.sorts.specs.Numbers.{properties, conditions}
use Rattle.sorts.specs.RowForm.{PrinForm, PackForm}

unfoldable mutual
  pub Allowed : Grant → Type 0
  Allowed (grant prins res cs e) = (prins ≤ 2) × (res ≤ 2) × (how_many cs ≤ conditions) × AllowedConds prins res cs × AllowedConcl prins res e

  pub AllowedConds : ℕ → ℕ → Conds → Type 0
  AllowedConds prins res none = Unit {0}
  AllowedConds prins res (also p e cs) = PrinForm prins (record { 0 = p }) × AllowedConcl prins res e × AllowedConds prins res cs

  pub AllowedConcl : ℕ → ℕ → Concl → Type 0
  AllowedConcl prins res (property k p) = (k < properties) × PrinForm prins (record { 0 = p })
  AllowedConcl prins res (perm p x) = PrinForm prins (record { 0 = p }) × AllowedRight res x

  pub AllowedRight : ℕ → Right → Type 0
  AllowedRight res (issue g) = Allowed g
  AllowedRight res issue_any = res ≡ 1
  AllowedRight res (run n) = PackForm res (record { 0 = n })
  AllowedRight res (export n) = PackForm res (record { 0 = n })
