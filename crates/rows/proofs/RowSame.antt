-- Rows of the same parts are the same.
use mathlib.Core.Path.{◌≡◌}
use Rattle.sorts.specs.declared.Row.{Row}

pub row_path : (a b : Row) → a.prins ≡ b.prins → a.res ≡ b.res → a.count ≡ b.count → a.conds ≡ b.conds → a.head ≡ b.head → a ≡ b
row_path a b p q r s t = λ i. record { prins = p i; res = q i; count = r i; conds = s i; head = t i }
