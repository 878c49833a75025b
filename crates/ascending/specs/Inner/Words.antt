-- What is said of the words of many rows.
use Prim.Native.Nat.{ℕ, ◌+◌, ◌/◌, ◌%◌, ◌<◌, ◌≤◌, compare, Ordering}
use Rattle.std.specs.Prelude.{◌≡◌, Bool, true, false, ◌⊎◌, List, [], length, get_or}
use Rattle.sorts.specs.declared.Cond.{Cond}
use Rattle.sorts.specs.declared.Row.{Row}
use Rattle.sorts.specs.Blank.{blank_cond}
use Rattle.canon.specs.Canon.{and_then}
use Rattle.rows.specs.Words.{cond_word}

-- Word k of row i.
abbrev pub word : List (List ℕ) → ℕ → ℕ → ℕ
word words i k = get_or (get_or words i []) k 0

-- Words of n rows, of which each has inner grants of lower numbers only.
pub record Laid (words : List (List ℕ)) (n : ℕ) : Type 0 where
  pub long : n ≤ length words
  pub lower : (i k : ℕ) → i < n → k < 6 → word words i k % 256 ≤ i

-- Of the six words of two rows, those before k are the same; and k is the last, or there they differ.
pub record First (v w : List ℕ) (k : ℕ) : Type 0 where
  pub inside : k < 6
  pub same : (l : ℕ) → l < k → get_or v l 0 ≡ get_or w l 0
  pub apart : k < 5 → get_or v k 0 ≡ get_or w k 0 → ⊥

-- Two inner grants decide how two words stand, or they do not.
abbrev pub Inside : Bool → ℕ → ℕ → Type 0
Inside true a b = (a / 256 ≡ b / 256) × (0 < a % 256) × (0 < b % 256) × (a % 256 ≡ b % 256 → ⊥)
Inside false a b = a / 256 ≡ b / 256 → (a % 256 ≡ b % 256) ⊎ (a % 256 ≡ 0) ⊎ (b % 256 ≡ 0)

-- How two words stand: by their keys, then as f says of their inner grants.
abbrev pub by_word : (ℕ → ℕ → Ordering) → ℕ → ℕ → Ordering
by_word f a b = and_then (compare (a / 256) (b / 256)) (f (a % 256) (b % 256))

-- f says how the first n rows stand, counted from 1, as their words do: the first in which they differ decides.
pub record Told (f : ℕ → ℕ → Ordering) (words : List (List ℕ)) (n : ℕ) : Type 0 where
  pub same : (i : ℕ) → f i i ≡ Ordering.eq
  pub left : (j : ℕ) → f 0 j ≡ Ordering.eq
  pub right : (i : ℕ) → f i 0 ≡ Ordering.eq
  pub first : (i j k : ℕ) → i < n → j < n → (i ≡ j → ⊥) → First (get_or words i []) (get_or words j []) k → f (i + 1) (j + 1) ≡ by_word f (word words i k) (word words j k)

-- Condition j of row i is below the next.
abbrev pub NextAbove : (ℕ → ℕ → Ordering) → List (List ℕ) → ℕ → ℕ → Type 0
NextAbove f words i j = by_word f (word words i (j + 1)) (word words i (j + 2)) ≡ Ordering.lt

-- One condition is below another whatever inner grants they have: by who must have said it, or by the key.
abbrev pub KeyBelow : Cond → Cond → Type 0
KeyBelow a b = (a.who.0 < b.who.0) ⊎ (cond_word a / 256 < cond_word b / 256)

-- The keys of a row's conditions ascend.
abbrev pub KeysAscend : Row → Type 0
KeysAscend x = (j : ℕ) → j + 1 < x.count → KeyBelow (get_or x.conds j blank_cond) (get_or x.conds (j + 1) blank_cond)
