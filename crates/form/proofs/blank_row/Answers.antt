use Prim.Native.Nat.{ℕ, ◌≤◌}
use mathlib.Core.Bool.{Bool, true, false}
use mathlib.Core.Path.{◌≡◌, sym, ap, ◌∙◌}
use native.Mathlib.Omega.{arith}
use lib.ListN.{length, get_or, replicate}
use lib.Seq.{ext_get_or}
use borrow.Author.Rules.{rules}
use Rattle.rows.proofs.Deciding.{length_mapped}
use Rattle.sorts.specs.Numbers.{conditions}
use Rattle.sorts.specs.declared.Row.{Row}
use Rattle.sorts.specs.Blank.{blank_concl, blank_cond, blank_row}
use Rattle.sorts.specs.Decides.{Decides}
use Rattle.form.proofs.blank_row.Goals as goal

blanks : (j : ℕ) → get_or (replicate conditions blank_cond) j blank_cond ≡ blank_cond
blanks j = search rules

-- the conditions of a row decide whether it is blank, where nothing else in it is not
row_blank : (x : Row) (b : Bool) → x.prins ≡ 0 → x.res ≡ 0 → x.count ≡ 0 → x.head ≡ blank_concl → length x.conds ≡ conditions →
    Decides b ((j : ℕ) → x.count ≤ j → get_or x.conds j blank_cond ≡ blank_cond) → Decides b (x ≡ blank_row)
row_blank x true p r n h l d =
    let e : x.conds ≡ replicate conditions blank_cond = ext_get_or blank_cond x.conds (replicate conditions blank_cond) l (λ j q. d j (omega arith) ∙ sym (blanks j)) in
    λ i. record { prins = p i; res = r i; count = n i; conds = e i; head = h i }
row_blank x false p r n h l d = λ e. d (λ j q. ap (λ (y : Row). get_or y.conds j blank_cond) e ∙ blanks j)

pub returns-then-eq : goal.returns-then-eq
returns-then-eq c = row_blank c.args.x c.unused_conds_ok.result (search rules) (search rules) (search rules) (search rules) (search (rules, length_mapped)) c.unused_conds_ok.ensures
