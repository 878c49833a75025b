-- What a numbering is: a table, and whether a grant found no number left.
use Rattle.std.specs.Prelude.{Bool}
use Rattle.rows.specs.declared.Table.{Table}

pub record Numbers : Type 0 where
  pub table : Table
  pub full : Bool
