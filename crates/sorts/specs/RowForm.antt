-- The form of a row. Document 01: "every other row is in range, with unused conditions blank, distinct, of depth at most 4, uses
-- only variables it declares, and holds only lower-numbered grants". Distinctness and depth are said of a whole table.
use Rattle.std.specs.Prelude.{ℕ, ◌≤◌, ◌<◌, ◌≡◌, ◌⊎◌, length, get_or}
use Rattle.sorts.specs.Numbers.{principals, properties, packs, conditions, first_var, second_var, item_var}
use Rattle.sorts.specs.Blank.{blank_cond}
use Rattle.sorts.specs.declared.Prin.{Prin}
use Rattle.sorts.specs.declared.Pack.{Pack}
use Rattle.sorts.specs.declared.Res.{Res}
use Rattle.sorts.specs.declared.Res.TheVariants.{Issue, Run, Export}
use Rattle.sorts.specs.declared.Concl.{Concl}
use Rattle.sorts.specs.declared.Concl.TheVariants.{Property, Perm}
use Rattle.sorts.specs.declared.Cond.{Cond}
use Rattle.sorts.specs.declared.Row.{Row}

-- Of a row with number i that declares prins principal variables and the resource variable res:

-- a principal, or a variable that is declared
abbrev pub PrinForm : ℕ → Prin → Type 0
PrinForm prins p = (p.0 < principals) ⊎ ((p.0 ≡ first_var) × (0 < prins)) ⊎ ((p.0 ≡ second_var) × (1 < prins))

-- a pack, or the pack variable where it is declared
abbrev pub PackForm : ℕ → Pack → Type 0
PackForm res n = (n.0 < packs) ⊎ ((n.0 ≡ item_var) × (res ≡ 2))

-- a grant of a lower number, or the grant variable where it is declared; a pack
abbrev pub ResForm : ℕ → ℕ → Res → Type 0
ResForm i res (Issue g) = (g.0 < i) ⊎ ((g.0 ≡ item_var) × (res ≡ 1))
ResForm i res (Run n) = PackForm res n
ResForm i res (Export n) = PackForm res n

abbrev pub ConclForm : ℕ → ℕ → ℕ → Concl → Type 0
ConclForm i prins res (Property k p) = (k < properties) × PrinForm prins p
ConclForm i prins res (Perm p x) = PrinForm prins p × ResForm i res x

abbrev pub CondForm : ℕ → ℕ → ℕ → Cond → Type 0
CondForm i prins res x = PrinForm prins x.who × ConclForm i prins res x.what

pub record RowForm (i : ℕ) (x : Row) : Type 0 where
  pub prins : x.prins ≤ 2
  pub res : x.res ≤ 2
  pub count : x.count ≤ conditions
  pub places : length x.conds ≡ conditions
  pub used : (j : ℕ) → j < x.count → CondForm i x.prins x.res (get_or x.conds j blank_cond)
  pub unused : (j : ℕ) → x.count ≤ j → get_or x.conds j blank_cond ≡ blank_cond
  pub head : ConclForm i x.prins x.res x.head
