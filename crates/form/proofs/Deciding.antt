-- What `all` decides of the items that it is asked of.
use Prim.Native.Nat.{ℕ, ◌+◌, ◌-◌, ◌≤◌, ◌<◌}
use mathlib.Core.Bool.{Bool, true, false}
use mathlib.Core.List.{List}
use mathlib.Core.Path.{◌≡◌, sym, ap, subst, ◌∙◌}
use native.Mathlib.Omega.{arith}
use lib.ListN.{length, get_or, drop, length-drop}
use lib.Seq.{get_or-drop}
use denote.Param.Members.{Mut}
use Rattle.std.specs.Bool.{MatchBool}
use Rattle.std.specs.Fn.{Called}
use Rattle.std.specs.List.{FoldsTo, AllWithin, HoldsAt}
use Rattle.std.specs.declared.option.Option.{Option}
use Rattle.std.specs.Option.{MatchOption}
use Rattle.std.specs.Iterator.{YieldsThen}
use Rattle.std.proofs.lemmas.Iterator.{YieldsList, cases_from_all}
use Rattle.sorts.specs.Decides.{Decides}

-- Where each call decides P of its item, `all` decides whether P holds of each item; and so Q, which says the same.
pub all_decides : {S A B F : Type 0} {steps : S → Option A → S → Type 0} {v : A → B} {g : Mut F (A × Unit {0}) Bool} {s : S} (items : List B) (d : B) (u : S) (f : F) (r : Bool) (P : B → Type 0) {Q : Type 0}
    → (xs : List A) × (o : Option A) × (j : F) × YieldsThen steps s xs o u × FoldsTo (λ p x q. Called g p (x, tt) true q) f xs j × MatchOption o (r ≡ true) (λ x. (r ≡ false) × ((h : F) × Called g j (x, tt) false h))
    → YieldsList steps v s items → ((x : A) (q : F) → Called g f (x, tt) true q → (q ≡ f) × P (v x)) → ((x : A) (q : F) → Called g f (x, tt) false q → P (v x) → ⊥)
    → (((k : ℕ) → k < length items → P (get_or items k d)) → Q) → (Q → (k : ℕ) → k < length items → P (get_or items k d)) → Decides r Q
all_decides items d u f r P {Q} ran road has lacks to from = go r (cases_from_all u f r P (λ x. P x → ⊥) ran road has lacks)
  where
    go : (b : Bool) → MatchBool b (AllWithin P items 0 (length items)) ((k : ℕ) × (k < length items) × HoldsAt (λ x. P x → ⊥) items k) → Decides b Q
    go true h = to (λ k l. h k d (omega arith) l)
    go false h = λ q. h.2 d (from q h.0 h.1)

-- What holds of each item after the first n holds from place n on, and the other way round.
pub each_left : {X : Type 0} (P : X → Type 0) (n : ℕ) (xs : List X) (d : X) → ((k : ℕ) → k < length (drop n xs) → P (get_or (drop n xs) k d)) → (i : ℕ) → n ≤ i → i < length xs → P (get_or xs i d)
each_left P n xs d h i l m =
    let e : n + (i - n) ≡ i = omega arith in
    subst P (get_or-drop n xs (i - n) d ∙ ap (λ (j : ℕ). get_or xs j d) e) (h (i - n) (omega (arith, l, m, length-drop n xs)))

pub left_each : {X : Type 0} (P : X → Type 0) (n : ℕ) (xs : List X) (d : X) → ((i : ℕ) → n ≤ i → i < length xs → P (get_or xs i d)) → (k : ℕ) → k < length (drop n xs) → P (get_or (drop n xs) k d)
left_each P n xs d h k l = subst P (sym (get_or-drop n xs k d)) (h (n + k) (omega arith) (omega (arith, l, length-drop n xs)))
