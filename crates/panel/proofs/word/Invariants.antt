use Prim.Native.Nat.{◌-◌}
use Rattle.sorts.specs.Numbers.{packs}
use Rattle.panel.specs.Inner.Words.{WordFrom}
use Rattle.panel.proofs.word.Given as goal

abbrev pub invariant-loop-n : goal.invariant-loop-n
invariant-loop-n l = WordFrom l.marks l.second l.p l.x l.n (packs - l.n) l.w
