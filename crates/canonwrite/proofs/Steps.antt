-- The parts of the model, as the code meets them.
use Prim.Native.Nat.{ℕ, zero, suc, ◌+◌, ◌-◌, ◌*◌, ◌≤◌, ◌<◌, min}
use mathlib.Core.Bool.{Bool, true, false, cond, ◌&&◌}
use mathlib.Core.List.{List, []}
use mathlib.Core.Logic.{◌⊎◌, inl, inr}
use mathlib.Core.Path.{◌≡◌, refl, sym, ◌∙◌, ap}
use native.Mathlib.Omega.{arith}
use lib.ListN.{length, get_or, set}
use lib.Dec.{eqb}
use borrow.Author.Tests.{eq-eqb, ne_eqb}
use Rattle.sorts.specs.Numbers.{conditions}
use Rattle.canon.specs.Most.{most}
use Rattle.canonwrite.specs.Buffer.{Spot, Kept, copy_three, put_concl, put_in, put_conds, put_with, put_grant}
use Rattle.canonwrite.specs.Inner.Writing.{room}

-- room
pub most_step : (left : ℕ) → 0 < left → most left ≡ 22 + 5 * most (left - 1)
most_step zero h = absurd (omega arith)
most_step (suc below) h = let e : suc below - 1 ≡ below = omega arith in rw e (omega arith)

pub room_none : (m : ℕ) → room 0 m ≡ 3 + m
unfolding room
room_none m = refl

pub room_step : (k m : ℕ) → 0 < k → room k m ≡ 4 + m + room (k - 1) m
unfolding room
room_step zero m h = absurd (omega arith)
room_step (suc k) m h = let e : suc k - 1 ≡ k = omega arith in rw e

pub room_most : (k m : ℕ) → k ≤ 4 → 3 + room k m ≤ 22 + 5 * m
unfolding room
room_most zero m h = omega arith
room_most (suc zero) m h = omega arith
room_most (suc (suc zero)) m h = omega arith
room_most (suc (suc (suc zero))) m h = omega arith
room_most (suc (suc (suc (suc zero)))) m h = omega arith
room_most (suc (suc (suc (suc (suc k))))) m h = absurd (omega arith)

pub spot_path : {o o' : List ℕ} → o ≡ o' → (at to : ℕ) → ◌≡◌ {A = Spot} (record { out = o; at = at; to = to }) (record { out = o'; at = at; to = to })
spot_path e at to = λ i. record { out = e i; at = at; to = to }

module _ (inner : ℕ → List ℕ → ℕ → Spot) (s : List ℕ) (at : ℕ) (out : List ℕ) (to : ℕ) where
  abbrev plain : Spot
  plain = record { out = copy_three s at out to; at = at + 3; to = to + 3 }

  split : (a b : Bool) → eqb (get_or s at 0) 1 ≡ a → eqb (get_or s (at + 2) 0) 0 ≡ b → put_concl inner s at out to ≡ cond (a && b) (inner (at + 3) (copy_three s at out to) (to + 3)) plain
  unfolding put_concl
  split a b e f = λ i. cond (e i && f i) (inner (at + 3) (copy_three s at out to) (to + 3)) plain

  both : (a b : Bool) → a ≡ false → cond (a && b) (inner (at + 3) (copy_three s at out to) (to + 3)) plain ≡ plain
  both a b e = rw e

  second : (a b : Bool) → b ≡ false → cond (a && b) (inner (at + 3) (copy_three s at out to) (to + 3)) plain ≡ plain
  second true b e = rw e
  second false b e = refl

  concl_other : (get_or s at 0 ≡ 1 → ⊥) → put_concl inner s at out to ≡ plain
  concl_other h = split (eqb (get_or s at 0) 1) (eqb (get_or s (at + 2) 0) 0) refl refl ∙ both (eqb (get_or s at 0) 1) (eqb (get_or s (at + 2) 0) 0) (ne_eqb (get_or s at 0) 1 h)

  concl_any : (get_or s (at + 2) 0 ≡ 0 → ⊥) → put_concl inner s at out to ≡ plain
  concl_any h = split (eqb (get_or s at 0) 1) (eqb (get_or s (at + 2) 0) 0) refl refl ∙ second (eqb (get_or s at 0) 1) (eqb (get_or s (at + 2) 0) 0) (ne_eqb (get_or s (at + 2) 0) 0 h)

  -- no right over a grant
  pub concl_plain : (kind form : ℕ) → kind ≡ get_or s at 0 → form ≡ get_or s (at + 2) 0 → ((kind ≡ 1) × (form ≡ 0 → ⊥)) ⊎ (kind ≡ 1 → ⊥) → put_concl inner s at out to ≡ plain
  concl_plain kind form e f (inl h) = concl_any (λ z. h.1 (f ∙ z))
  concl_plain kind form e f (inr h) = concl_other (λ z. h (e ∙ z))

  pub concl_inner_lem : get_or s at 0 ≡ 1 → get_or s (at + 2) 0 ≡ 0 → put_concl inner s at out to ≡ inner (at + 3) (copy_three s at out to) (to + 3)
  concl_inner_lem h k = split true true (eq-eqb (get_or s at 0) 1 h) (eq-eqb (get_or s (at + 2) 0) 0 k)

  -- a grant's parts
  pub grant_parts : (o1 o3 : List ℕ) (k count : ℕ) (K : Kept) (r : Spot) → o1 ≡ copy_three s at out to → k ≡ min (get_or s (at + 2) 0) conditions
      → K ≡ put_conds inner s (to + 3) k (record { out = o1; at = at + 3; to = to + 3; lens = [] }) → count ≡ length K.lens → o3 ≡ set K.out (to + 2) count → r ≡ put_concl inner s K.at o3 K.to → r ≡ put_with inner s at out to
  unfolding put_with
  grant_parts o1 o3 k count K r e1 ek e_k ec e3 er =
      er ∙ ap (λ (o : List ℕ). put_concl inner s K.at o K.to) (e3 ∙ ap (set K.out (to + 2)) ec)
      ∙ ap (λ (K : Kept). put_concl inner s K.at (set K.out (to + 2) (length K.lens)) K.to) (e_k ∙ (λ i. put_conds inner s (to + 3) (ek i) (record { out = e1 i; at = at + 3; to = to + 3; lens = [] })))

pub grant_none : (left : ℕ) (s : List ℕ) (at : ℕ) (out : List ℕ) (to : ℕ) → left ≡ 0 → put_grant left s at out to ≡ record { out = out; at = at; to = to }
unfolding put_grant
grant_none left s at out to e = rw e

pub grant_step : (left : ℕ) (s : List ℕ) (at : ℕ) (out : List ℕ) (to : ℕ) → 0 < left → put_grant left s at out to ≡ put_with (put_grant (left - 1) s) s at out to
unfolding put_grant
grant_step zero s at out to h = absurd (omega arith)
grant_step (suc below) s at out to h = let e : suc below - 1 ≡ below = omega arith in rw e

module _ (inner : ℕ → List ℕ → ℕ → Spot) (s : List ℕ) (b : ℕ) (was : Kept) where
  pub conds_none : (k : ℕ) → k ≡ 0 → put_conds inner s b k was ≡ was
  unfolding put_conds
  conds_none k e = rw e

  conds_step_lem : (k : ℕ) → 0 < k → put_conds inner s b k was ≡ put_conds inner s b (k - 1) (put_in b was.to was.lens (put_concl inner s (was.at + 1) (set was.out was.to (get_or s was.at 0)) (was.to + 1)))
  unfolding put_conds
  conds_step_lem zero h = absurd (omega arith)
  conds_step_lem (suc k) h = let e : suc k - 1 ≡ k = omega arith in rw e

  pub conds_parts : (k p : ℕ) (o1 : List ℕ) (one : Spot) (next r : Kept) → 0 < k → p ≡ get_or s was.at 0 → o1 ≡ set was.out was.to p → one ≡ put_concl inner s (was.at + 1) o1 (was.to + 1)
      → next ≡ put_in b was.to was.lens one → r ≡ put_conds inner s b (k - 1) next → r ≡ put_conds inner s b k was
  conds_parts k p o1 one next r h ep e1 eo en er =
      er ∙ ap (put_conds inner s b (k - 1)) (en ∙ ap (put_in b was.to was.lens) (eo ∙ ap (λ (o : List ℕ). put_concl inner s (was.at + 1) o (was.to + 1)) (e1 ∙ ap (set was.out was.to) ep)))
      ∙ sym (conds_step_lem k h)
