-- The two extreme choices decide: more licences lose nothing.
use Prim.Native.Nat.{ℕ}
use mathlib.Core.Logic.{inl, inr}
use Rattle.machine.specs.Machine.{State}
use Rattle.machine.specs.Closed.{Choice, none, all, Licensed, ClosedSet, Stands, Lacking}
use Rattle.machine.specs.Choices.{AlwaysStands, NeverStands, Undecided}

-- one choice is within another
abbrev Within : Choice → Choice → Type 0
Within C D = (p g : ℕ) → C p g → D p g

licensed_more : (M : State) (C D : Choice) → Within C D → (p g : ℕ) → Licensed M C p g → Licensed M D p g
licensed_more M C D w p g (inl h) = inl h
licensed_more M C D w p g (inr h) = inr (h.0, w p g h.1)

module _ (M : State) {C D : Choice} (w : Within C D) where
  -- a set that is closed with more licences is closed with fewer
  pub closed_fewer : (S : ℕ → Type 0) → ClosedSet M D S → ClosedSet M C S
  closed_fewer S K = record {
    saying = λ g x y z p v l h m. K.saying g x y z p v l (licensed_more M C D w p g h) m;
    trust = K.trust;
    authority = λ g x y z p v l h s m. K.authority g x y z p v l (licensed_more M C D w p g h) s m;
  }

  -- so what stands with fewer stands with more
  pub stands_more : (n : ℕ) → Stands M C n → Stands M D n
  stands_more n h S K = h S (closed_fewer S K)

  -- and what is lacking with more is lacking with fewer
  pub lacking_fewer : (n : ℕ) → Lacking M D n → Lacking M C n
  lacking_fewer n h = (h.0, closed_fewer h.0 h.1, h.2)

none_within : (C : Choice) → Within none C
none_within C p g h = absurd h

within_all : (C : Choice) → Within C all
within_all C p g h = tt

-- Permitted is decided with none of the provisional licences, not permitted with all, and open with both.
module _ (M : State) (n : ℕ) where
  pub permitted_none : (AlwaysStands M n → Stands M none n) × (Stands M none n → AlwaysStands M n)
  permitted_none = (λ h. h none, λ h C. stands_more M (none_within C) n h)

  pub not_permitted_all : (NeverStands M n → Lacking M all n) × (Lacking M all n → NeverStands M n)
  not_permitted_all = (λ h. h all, λ h C. lacking_fewer M (within_all C) n h)

  pub open_both : (Undecided M n → Stands M all n × Lacking M none n) × (Stands M all n × Lacking M none n → Undecided M n)
  open_both = (
    λ h. (stands_more M (within_all h.firm) n h.stands, lacking_fewer M (none_within h.waiting) n h.lacks),
    λ h. record { firm = all; stands = h.0; waiting = none; lacks = h.1 },
  )

  -- one of the three at most
  stands_lacks : {C : Choice} → Stands M C n → Lacking M C n → ⊥
  stands_lacks h k = k.2 (h k.0 k.1)

  pub always_never : AlwaysStands M n → NeverStands M n → ⊥
  always_never h k = stands_lacks (h none) (k none)

  pub always_open : AlwaysStands M n → Undecided M n → ⊥
  always_open h k = stands_lacks (h k.waiting) k.lacks

  pub never_open : NeverStands M n → Undecided M n → ⊥
  never_open h k = stands_lacks k.stands (h k.firm)
