-- A net as the code has it.
use Prim.Native.Nat.{◌<◌}
use mathlib.Core.Path.{◌≡◌}
use lib.IntN.{ℤ}
use lib.Signed.{mag}
use mir.Syntax.{w32}
use mir.Val.{to_z, of_z}
use mir.Facts.{to_z-of_z}
use borrow.Author.Rules.{sfits_of}

pub net_as : (z : ℤ) → mag z < 2147483648 → to_z w32 (of_z w32 z) ≡ z
net_as z l = to_z-of_z {w = w32} {z = z} (sfits_of l)
