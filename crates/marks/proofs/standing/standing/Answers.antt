use Prim.Native.Nat.{ℕ, ◌+◌}
use mathlib.Core.Bool.{Bool, true, false, cond}
use mathlib.Core.List.{List}
use mathlib.Core.Path.{◌≡◌, refl, sym, ◌∙◌}
use native.Mathlib.Omega.{arith}
use lib.Dec.{eqb}
use borrow.Author.Rules.{rules}
use Rattle.std.specs.List.{count_by}
use Rattle.std.proofs.lemmas.List.Recursion.{is_count_by}
use Rattle.marks.specs.Counts.{ones}
use Rattle.marks.proofs.standing.standing.Goals as goal

one_more : (t : Bool) (n : ℕ) → cond t 1 0 + n ≡ cond t (1 + n) n
one_more true n = refl
one_more false n = omega arith

ones_counted : (m : List ℕ) → ones m ≡ count_by (λ a. eqb a 1) m
unfolding ones
ones_counted = is_count_by ones (λ a. eqb a 1) refl (λ x xs. one_more (eqb x 1) (ones xs))

pub returns : goal.returns
returns c = let e : c.count.result ≡ count_by (λ a. eqb a 1) c.args.marks.now = search rules in e ∙ sym (ones_counted c.args.marks.now)
