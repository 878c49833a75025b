-- "A blank row, like an unused condition, has no variables or conditions and byte 00 in every place."
use Rattle.std.specs.Prelude.{[], replicate}
use Rattle.sorts.specs.Numbers.{conditions}
use Rattle.sorts.specs.declared.Concl.{Concl}
use Rattle.sorts.specs.declared.Concl.TheVariants.{Property}
use Rattle.sorts.specs.declared.Cond.{Cond}
use Rattle.sorts.specs.declared.Row.{Row}

abbrev pub blank_concl : Concl
blank_concl = Property 0 (record { 0 = 0 })

abbrev pub blank_cond : Cond
blank_cond = record { who = record { 0 = 0 }; what = blank_concl }

abbrev pub blank_row : Row
blank_row = record { prins = 0; res = 0; count = 0; conds = replicate conditions blank_cond; head = blank_concl }

-- What stands past the end of a list of rows.
abbrev pub no_row : Row
no_row = record { prins = 0; res = 0; count = 0; conds = []; head = blank_concl }
