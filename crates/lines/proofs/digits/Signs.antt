-- The sign of a net, as the machine reads it.
use mathlib.Core.Path.{◌≡◌, refl, sym, ap, ◌∙◌, subst}
use mathlib.Core.Bool.{true, false}
use mathlib.Core.List.{◌∷◌}
use native.Mathlib.Omega.{arith}
use lib.IntN.{ℤ, pos, negsuc, nat_abs}
use lib.Dec.{T}
use lib.Signed.{lt_z}
use mir.Syntax.{w32}
use mir.Val.{to_z, of_z, SFits}
use mir.Facts.{to_z-of_z}
use borrow.Author.Tests.{ltb-true}
use Rattle.lines.specs.Decimals.{signed, decimal}

signed_minus : (z : ℤ) → lt_z z (pos 0) ≡ true → signed z ≡ 45 ∷ decimal (nat_abs z)
unfolding signed
signed_minus (pos n) e = absurd (omega (arith, ltb-true n 0 e))
signed_minus (negsuc n) e = refl

signed_plus : (z : ℤ) → lt_z z (pos 0) ≡ false → signed z ≡ 43 ∷ decimal (nat_abs z)
unfolding signed
signed_plus (pos n) e = refl
signed_plus (negsuc n) e = absurd (subst T e tt)

module _ (z : ℤ) (f : SFits w32 z) where
  read : to_z w32 (of_z w32 z) ≡ z
  read = to_z-of_z f

  pub minus_signed : lt_z (to_z w32 (of_z w32 z)) (pos 0) ≡ true → signed z ≡ 45 ∷ decimal (nat_abs z)
  minus_signed l = signed_minus z (ap (λ (x : ℤ). lt_z x (pos 0)) (sym read) ∙ l)

  pub plus_signed : lt_z (to_z w32 (of_z w32 z)) (pos 0) ≡ false → signed z ≡ 43 ∷ decimal (nat_abs z)
  plus_signed l = signed_plus z (ap (λ (x : ℤ). lt_z x (pos 0)) (sym read) ∙ l)
