-- What `all` over a range decides.
use Prim.Native.Nat.{ℕ, ◌+◌, ◌-◌, ◌≤◌, ◌<◌}
use mathlib.Core.Bool.{Bool, true, false}
use mathlib.Core.List.{List}
use mathlib.Core.Path.{◌≡◌, refl, subst}
use native.Mathlib.Omega.{arith}
use lib.ListN.{length, get_or}
use denote.Param.Members.{Mut}
use Rattle.std.specs.declared.ops.Range.{Range}
use Rattle.std.specs.Bool.{MatchBool}
use Rattle.std.specs.Fn.{Called}
use Rattle.std.specs.List.{range_with_len, FoldsTo, AllWithin, HoldsAt}
use Rattle.std.specs.declared.option.Option.{Option}
use Rattle.std.specs.Option.{MatchOption}
use Rattle.std.specs.Iterator.{YieldsThen}
use Rattle.std.proofs.iter.Yields.{nat_range_steps}
use Rattle.std.proofs.lemmas.Iterator.{YieldsList-from_range, cases_from_all}
use Rattle.std.proofs.lemmas.List.FromFn.{length-range_with_len, get_or-range_with_len}
use Rattle.sorts.specs.Decides.{Decides}

-- Where each call decides P of its number, `all` decides whether P holds of each number of the range; and so Q, which says the same.
pub all_decides : {F : Type 0} {g : Mut F (ℕ × Unit {0}) Bool} (s u : Range ℕ) (f : F) (r : Bool) (P : ℕ → Type 0) {Q : Type 0}
    → (xs : List ℕ) × (o : Option ℕ) × (j : F) × YieldsThen nat_range_steps s xs o u × FoldsTo (λ p x q. Called g p (x, tt) true q) f xs j × MatchOption o (r ≡ true) (λ x. (r ≡ false) × ((h : F) × Called g j (x, tt) false h))
    → ((x : ℕ) (q : F) → Called g f (x, tt) true q → (q ≡ f) × (x < s.end → P x)) → ((x : ℕ) (q : F) → Called g f (x, tt) false q → x < s.end → P x → ⊥)
    → (((k : ℕ) → s.start ≤ k → k < s.end → P k) → Q) → (Q → (k : ℕ) → s.start ≤ k → k < s.end → P k) → Decides r Q
all_decides s u f r P {Q} d has lacks to from = go r (cases_from_all u f r (λ x. x < s.end → P x) (λ x. x < s.end → P x → ⊥) d (YieldsList-from_range s.start s.end n refl refl) has lacks)
  where
    n : ℕ
    n = s.end - s.start

    all : List ℕ
    all = range_with_len s.start n

    len : length all ≡ n
    len = length-range_with_len s.start n

    go : (b : Bool) → MatchBool b (AllWithin (λ x. x < s.end → P x) all 0 (length all)) ((k : ℕ) × (k < length all) × HoldsAt (λ x. x < s.end → P x → ⊥) all k) → Decides b Q
    go true h =
        to (λ k l m.
        let e : get_or all (k - s.start) 0 ≡ k = omega (arith, get_or-range_with_len s.start n (k - s.start) 0 (omega arith)) in
        subst (λ x. x < s.end → P x) e (h (k - s.start) 0 (omega arith) (omega (arith, len))) m)
    go false h = λ p.
        let l : h.0 < n = omega (arith, len, h.1) in
        let e = get_or-range_with_len s.start n h.0 0 l in
        subst (λ x. x < s.end → P x → ⊥) e (h.2 0) (omega arith) (from p (s.start + h.0) (omega arith) (omega arith))
