-- Rows and written grants: a row written out, the row of a written grant, and the form of a table.
use Rattle.std.specs.Prelude.{ℕ, zero, suc, ◌+◌, ◌≤◌, ◌<◌, ◌≡◌, cond, List, [], ◌∷◌, ◌++◌, length, get_or, eqb, leb}
use Rattle.sorts.specs.declared.Res as r
use Rattle.sorts.specs.declared.Res.TheVariants.{Issue, Run, Export}
use Rattle.sorts.specs.declared.Concl as c
use Rattle.sorts.specs.declared.Concl.TheVariants.{Property, Perm}
use Rattle.sorts.specs.declared.Cond.{Cond}
use Rattle.sorts.specs.declared.Row.{Row}
use Rattle.sorts.specs.Numbers.{grants, conditions, depths, item_var}
use Rattle.sorts.specs.Blank.{blank_cond, blank_row, no_row}
use Rattle.sorts.specs.RowForm.{RowForm}
use Rattle.rows.specs.declared.Table.{Table}
use Rattle.rows.specs.Written.{Grant, Conds, Concl, Right, grant, none, also, property, perm, issue, issue_any, run, export, how_many}
use Rattle.rows.specs.Numbering.{place}

-- "A row is the grant with each inner grant as its number": its place in N. In a row the grant variable is a number of its own.
abbrev pub res_of : List Grant → Right → r.Res
res_of N (issue g) = Issue (record { 0 = place g N })
res_of N issue_any = Issue (record { 0 = item_var })
res_of N (run n) = Run (record { 0 = n })
res_of N (export n) = Export (record { 0 = n })

abbrev pub concl_of : List Grant → Concl → c.Concl
concl_of N (property k p) = Property k (record { 0 = p })
concl_of N (perm p x) = Perm (record { 0 = p }) (res_of N x)

-- The conditions, then blank ones up to so many.
unfoldable pub conds_of : List Grant → Conds → ℕ → List Cond
conds_of N cs zero = []
conds_of N none (suc k) = blank_cond ∷ conds_of N none k
conds_of N (also p e cs) (suc k) = record { who = record { 0 = p }; what = concl_of N e } ∷ conds_of N cs k

unfoldable pub row_of : List Grant → Grant → Row
row_of N (grant prins res cs e) = record { prins = prins; res = res; count = how_many cs; conds = conds_of N cs conditions; head = concl_of N e }

-- The other way: a row written out, its numbers read in N.

-- what stands past the end of N
abbrev pub no_grant : Grant
no_grant = grant 0 0 none (property 0 0)

abbrev pub write_res : List Grant → r.Res → Right
write_res N (Issue g) = cond (eqb g.0 item_var) issue_any (issue (get_or N g.0 no_grant))
write_res N (Run n) = run n.0
write_res N (Export n) = export n.0

abbrev pub write_concl : List Grant → c.Concl → Concl
write_concl N (Property k p) = property k p.0
write_concl N (Perm p x) = perm p.0 (write_res N x)

-- k conditions from place i on
unfoldable pub write_conds : List Grant → List Cond → ℕ → ℕ → Conds
write_conds N cs i zero = none
write_conds N cs i (suc k) = also (get_or cs i blank_cond).who.0 (write_concl N (get_or cs i blank_cond).what) (write_conds N cs (i + 1) k)

unfoldable pub write_row : List Grant → Row → Grant
write_row N x = grant x.prins x.res (write_conds N x.conds 0 x.count) (write_concl N x.head)

-- The first k rows written out, in order.
unfoldable pub rows_out : List Row → ℕ → List Grant
rows_out rows zero = []
rows_out rows (suc k) = rows_out rows k ++ (write_row (rows_out rows k) (get_or rows k no_row) ∷ [])

-- "Its depth, worked out and not stored, is 1, or one more than that of the deepest grant it holds."
abbrev pub larger : ℕ → ℕ → ℕ
larger a b = cond (leb a b) b a

unfoldable mutual
  pub depth : Grant → ℕ
  depth (grant prins res cs e) = suc (larger (depth_conds cs) (depth_concl e))

  pub depth_conds : Conds → ℕ
  depth_conds none = 0
  depth_conds (also p e cs) = larger (depth_concl e) (depth_conds cs)

  pub depth_concl : Concl → ℕ
  depth_concl (property k p) = 0
  depth_concl (perm p x) = depth_right x

  pub depth_right : Right → ℕ
  depth_right (issue g) = depth g
  depth_right issue_any = 0
  depth_right (run n) = 0
  depth_right (export n) = 0

-- "the count is at most 64; rows from the count on are blank"
pub record TableForm (t : Table) : Type 0 where
  pub places : length t.rows ≡ grants
  pub count : t.count ≤ grants
  pub used : (i : ℕ) → i < t.count → RowForm i (get_or t.rows i no_row)
  pub unused : (i : ℕ) → t.count ≤ i → i < grants → get_or t.rows i no_row ≡ blank_row
  pub distinct : (i j : ℕ) → i < t.count → j < t.count → get_or t.rows i no_row ≡ get_or t.rows j no_row → i ≡ j
  pub depths : (i : ℕ) → i < t.count → depth (get_or (rows_out t.rows t.count) i no_grant) ≤ depths
