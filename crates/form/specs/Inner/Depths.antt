-- The depth of a row, worked out from the depths of the grants with lower numbers.
use Rattle.std.specs.Prelude.{ℕ, zero, suc, ◌+◌, max, List, get_or}
use Rattle.sorts.specs.Numbers.{conditions}
use Rattle.sorts.specs.declared.Res.{Res}
use Rattle.sorts.specs.declared.Res.TheVariants.{Issue, Run, Export}
use Rattle.sorts.specs.declared.Concl.{Concl}
use Rattle.sorts.specs.declared.Concl.TheVariants.{Property, Perm}
use Rattle.sorts.specs.declared.Cond.{Cond}
use Rattle.sorts.specs.declared.Row.{Row}
use Rattle.sorts.specs.Blank.{blank_cond}

-- the depth of the grant that a resource is, or 0 where it is none
unfoldable pub depth_of_res : List ℕ → Res → ℕ
depth_of_res depths (Issue g) = get_or depths g.0 0
depth_of_res depths (Run n) = 0
depth_of_res depths (Export n) = 0

unfoldable pub depth_of_concl : List ℕ → Concl → ℕ
depth_of_concl depths (Property k p) = 0
depth_of_concl depths (Perm p x) = depth_of_res depths x

-- the largest of those that k conditions from place i on hold
unfoldable pub depth_of_conds : List ℕ → List Cond → ℕ → ℕ → ℕ
depth_of_conds depths cs i zero = 0
depth_of_conds depths cs i (suc k) = max (depth_of_concl depths (get_or cs i blank_cond).what) (depth_of_conds depths cs (i + 1) k)

-- the depth of the deepest grant that a row holds, or 0 where it holds none; a place that it does not use holds none
abbrev pub held_depth : List ℕ → Row → ℕ
held_depth depths x = max (depth_of_conds depths x.conds 0 conditions) (depth_of_concl depths x.head)
