-- How two segments stand, as code answers it.
use Prim.Native.Nat as n
use Rattle.std.specs.declared.cmp.Ordering.{Ordering}
use Rattle.std.specs.declared.cmp.Ordering.TheVariants.{Less, Equal, Greater}

abbrev pub ordering_of : n.Ordering → Ordering
ordering_of n.Ordering.lt = Less
ordering_of n.Ordering.eq = Equal
ordering_of n.Ordering.gt = Greater
