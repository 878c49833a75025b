-- Rows as words. A word is 256 times a key and, below the key, the number of an inner grant plus 1, or 0 for none. The key has
-- the bytes of a part in their order, up to the inner grant: so keys stand as the bytes do.
use Rattle.std.specs.Prelude.{ℕ, zero, suc, ◌+◌, ◌*◌, cond, get_or, eqb, ltb}
use Rattle.sorts.specs.declared.Res.{Res}
use Rattle.sorts.specs.declared.Res.TheVariants.{Issue, Run, Export}
use Rattle.sorts.specs.declared.Concl.{Concl}
use Rattle.sorts.specs.declared.Concl.TheVariants.{Property, Perm}
use Rattle.sorts.specs.declared.Cond.{Cond}
use Rattle.sorts.specs.declared.Row.{Row}
use Rattle.sorts.specs.Numbers.{conditions, item_var}
use Rattle.sorts.specs.Blank.{blank_cond}

-- The key of a right of principal p: the kind byte, the principal, and the pack, or 1 for the grant variable and 0 for a grant.
unfoldable pub res_key : ℕ → Res → ℕ
res_key p (Issue g) = 65536 + (256 * p + cond (eqb g.0 item_var) 1 0)
res_key p (Run n) = 131072 + (256 * p + n.0)
res_key p (Export n) = 196608 + (256 * p + n.0)

-- The inner grant that a right is over, counted from 1; 0 where it is over none.
unfoldable pub res_inner : Res → ℕ
res_inner (Issue g) = cond (eqb g.0 item_var) 0 (g.0 + 1)
res_inner (Run n) = 0
res_inner (Export n) = 0

-- The word of a right.
unfoldable pub res_word : ℕ → Res → ℕ
res_word p x = 256 * res_key p x + res_inner x

-- The key of a conclusion. A property's kind byte is 0, so it is the property and the principal.
unfoldable pub concl_key : Concl → ℕ
concl_key (Property k p) = 256 * k + p.0
concl_key (Perm p x) = res_key p.0 x

-- The inner grant of a conclusion, likewise.
unfoldable pub concl_inner : Concl → ℕ
concl_inner (Property k p) = 0
concl_inner (Perm p x) = res_inner x

-- The word of a conclusion.
unfoldable pub concl_word : Concl → ℕ
concl_word e = 256 * concl_key e + concl_inner e

-- Of three bytes, the first a kind: the keys of conclusions are below this.
abbrev pub keys : ℕ
keys = 4 * 65536

-- The key of a condition: who must have said it comes first.
unfoldable pub cond_key : Cond → ℕ
cond_key c = keys * c.who.0 + concl_key c.what

-- The word of a condition.
unfoldable pub cond_word : Cond → ℕ
cond_word c = 256 * cond_key c + concl_inner c.what

-- The word of a row's counts: the variables declared and how many conditions.
unfoldable pub header_word : Row → ℕ
header_word x = 256 * (65536 * x.prins + (256 * x.res + x.count))

-- The words of a row by place, 0 to 5: the counts, the four conditions, the conclusion granted.
unfoldable pub row_word : Row → ℕ → ℕ
row_word x zero = header_word x
row_word x (suc k) = cond (ltb k conditions) (cond_word (get_or x.conds k blank_cond)) (concl_word x.head)
