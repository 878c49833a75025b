-- Each refusal has a number of its own.
use Prim.Native.Nat.{ℕ, ◌-◌}
use mathlib.Core.List.{List, [], ◌∷◌}
use lib.ListN.{get_or}
use mathlib.Core.Path.{◌≡◌, refl, sym, ap, ◌∙◌}
use Rattle.sorts.specs.declared.Refusal.{Refusal}
use Rattle.sorts.specs.declared.Refusal.TheVariants.{Missing, Mark, Range, Variable, Depth, Full, Absent, Length, Form, Content}
use Rattle.sorts.specs.Refusals.{refusal_number}

-- the refusals in the order of their numbers, from 1
abbrev all : List Refusal
all = Missing ∷ Mark ∷ Range ∷ Variable ∷ Depth ∷ Full ∷ Absent ∷ Length ∷ Form ∷ Content ∷ []

abbrev refusal_of : ℕ → Refusal
refusal_of n = get_or all (n - 1) Content

back : (r : Refusal) → refusal_of (refusal_number r) ≡ r
back Missing = refl
back Mark = refl
back Range = refl
back Variable = refl
back Depth = refl
back Full = refl
back Absent = refl
back Length = refl
back Form = refl
back Content = refl

pub one_number : (a b : Refusal) → refusal_number a ≡ refusal_number b → a ≡ b
one_number a b e = sym (back a) ∙ ap refusal_of e ∙ back b
