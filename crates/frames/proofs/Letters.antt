-- The letters of a kind, and those of a record that is read.
use Prim.Native.Nat.{ℕ}
use mathlib.Core.Path.{◌≡◌, refl, sym, ap, subst, ◌∙◌}
use mathlib.Core.Bool.{Bool, true, false, ◌&&◌, cond}
use mathlib.Core.List.{List, [], ◌∷◌}
use native.Mathlib.Omega.{arith}
use lib.ListN.{length, get_or, take}
use lib.Dec.{eqb}
use borrow.Author.Tests.{eq-eqb, eqb-true, lt-ltb}
use Rattle.frames.specs.declared.Kind.{Kind}
use Rattle.frames.specs.declared.Kind.TheVariants.{Tg, St, Li, Wd, Qu, Pl, Cf, Pv}
use Rattle.sorts.specs.declared.Refusal.{Refusal}
use Rattle.sorts.specs.declared.Refusal.TheVariants.{Missing, Mark}
use Rattle.frames.specs.Bytes.{got, refused, byte_at}
use Rattle.frames.specs.Frames.{letters_of, kinds, opens, kind_with, read_mark}

-- The letters of a kind are two.
abbrev pub first : Kind → ℕ
first k = get_or (letters_of k) 0 0

abbrev pub second : Kind → ℕ
second k = get_or (letters_of k) 1 0

pub two_letters : (k : Kind) → letters_of k ≡ first k ∷ second k ∷ []
two_letters Tg = refl
two_letters St = refl
two_letters Li = refl
two_letters Wd = refl
two_letters Qu = refl
two_letters Pl = refl
two_letters Cf = refl
two_letters Pv = refl

-- a kind that two letters open has them
letters_are : (k : Kind) (a b : ℕ) → opens k a b ≡ true → a ∷ b ∷ [] ≡ letters_of k
letters_are k a b e = go (eqb a (first k)) (eqb b (second k)) refl refl e
  where
    go : (t u : Bool) → eqb a (first k) ≡ t → eqb b (second k) ≡ u → t && u ≡ true → a ∷ b ∷ [] ≡ letters_of k
    go true true p q e = (λ i. eqb-true a (first k) p i ∷ eqb-true b (second k) q i ∷ []) ∙ sym (two_letters k)
    go true false p q e = let z : ◌≡◌ {A = ℕ} 0 1 = cc in absurd (omega arith)
    go false u p q e = let z : ◌≡◌ {A = ℕ} 0 1 = cc in absurd (omega arith)

opens_own : (k : Kind) → opens k (first k) (second k) ≡ true
opens_own k = rw (eq-eqb (first k) (first k) refl, eq-eqb (second k) (second k) refl)

-- two letters open a kind exactly where they are its letters
opens_same : (k : Kind) (l : List ℕ) → letters_of k ≡ l → opens k (get_or l 0 0) (get_or l 1 0) ≡ true
opens_same k l e = subst (λ (x : List ℕ). opens k (get_or x 0 0) (get_or x 1 0) ≡ true) e (opens_own k)

opens_other : (k : Kind) (l : List ℕ) → length l ≡ 2 → (letters_of k ≡ l → ⊥) → opens k (get_or l 0 0) (get_or l 1 0) ≡ false
opens_other k [] n d = absurd (omega arith)
opens_other k (a ∷ []) n d = absurd (omega arith)
opens_other k (a ∷ b ∷ c ∷ l) n d = absurd (omega arith)
opens_other k (a ∷ b ∷ []) n d = go (opens k a b) refl
  where
    go : (t : Bool) → opens k a b ≡ t → opens k a b ≡ false
    go true e = absurd (d (sym (letters_are k a b e)))
    go false e = e

-- whether they are the same decides whether they open it
pub opens_is : (k : Kind) (l : List ℕ) (b : Bool) → length l ≡ 2 → (b ≡ true → letters_of k ≡ l) → (b ≡ false → letters_of k ≡ l → ⊥) → b ≡ opens k (get_or l 0 0) (get_or l 1 0)
opens_is k l true n f g = sym (opens_same k l (f refl))
opens_is k l false n f g = sym (opens_other k l n (g refl))

-- no kind before it has them
pub kind_again : (k : Kind) (n : ℕ) → kind_with kinds (first k) (second k) n ≡ got k n
unfolding kind_with
kind_again Tg n = refl
kind_again St n = refl
kind_again Li n = refl
kind_again Wd n = refl
kind_again Qu n = refl
kind_again Pl n = refl
kind_again Cf n = refl
kind_again Pv n = refl

-- a kind that is found has the two letters, and the place after them stays
pub kind_letters : (ks : List Kind) (a b n : ℕ) (k : Kind) (m : ℕ) → kind_with ks a b n ≡ got k m → (a ∷ b ∷ [] ≡ letters_of k) × (m ≡ n)
unfolding kind_with
kind_letters [] a b n k m e = let z : ◌≡◌ {A = ℕ} 0 1 = cc in absurd (omega arith)
kind_letters (j ∷ ks) a b n k m e = go (opens j a b) refl (kind_letters ks a b n k m) e
  where
    go : (t : Bool) → opens j a b ≡ t → (kind_with ks a b n ≡ got k m → (a ∷ b ∷ [] ≡ letters_of k) × (m ≡ n)) → cond t (got j n) (kind_with ks a b n) ≡ got k m →
        (a ∷ b ∷ [] ≡ letters_of k) × (m ≡ n)
    go true p h e = let d : j ≡ k = cc in (letters_are j a b p ∙ ap letters_of d, cc)
    go false p h e = h e

-- or 2 is said
pub kind_none : (ks : List Kind) (a b n : ℕ) (j : Refusal) → kind_with ks a b n ≡ refused j → j ≡ Mark
unfolding kind_with
kind_none [] a b n j e = cc
kind_none (k ∷ ks) a b n j e = go (opens k a b) (kind_none ks a b n j) e
  where
    go : (t : Bool) → (kind_with ks a b n ≡ refused j → j ≡ Mark) → cond t (got k n) (kind_with ks a b n) ≡ refused j → j ≡ Mark
    go true h e = let z : ◌≡◌ {A = ℕ} 0 1 = cc in absurd (omega arith)
    go false h e = h e

-- the two letters of a record, or too few bytes
first_byte : (a : ℕ) (s : List ℕ) → byte_at (a ∷ s) 0 ≡ got a 1
unfolding byte_at
first_byte a s = rw (lt-ltb 0 (length (a ∷ s)) (omega arith))

second_byte : (a b : ℕ) (s : List ℕ) → byte_at (a ∷ b ∷ s) 1 ≡ got b 2
unfolding byte_at
second_byte a b s = rw (lt-ltb 1 (length (a ∷ b ∷ s)) (omega arith))

pub letters_read : (a b : ℕ) (s : List ℕ) → read_mark (a ∷ b ∷ s) ≡ kind_with kinds a b 2
unfolding read_mark
letters_read a b s = rw (first_byte a (b ∷ s), second_byte a b s)

pub mark_none : read_mark [] ≡ refused Missing
unfolding read_mark byte_at
mark_none = refl

pub mark_one : (a : ℕ) → read_mark (a ∷ []) ≡ refused Missing
unfolding read_mark byte_at
mark_one a = refl

-- a kind that is read has the record's first bytes
pub mark_spelt : (s : List ℕ) (k : Kind) (n : ℕ) → read_mark s ≡ got k n → letters_of k ≡ take 2 s
mark_spelt [] k n e = let z : refused Missing ≡ got k n = sym mark_none ∙ e in let w : ◌≡◌ {A = ℕ} 0 1 = cc in absurd (omega arith)
mark_spelt (a ∷ []) k n e = let z : refused Missing ≡ got k n = sym (mark_one a) ∙ e in let w : ◌≡◌ {A = ℕ} 0 1 = cc in absurd (omega arith)
mark_spelt (a ∷ b ∷ s) k n e = sym (kind_letters kinds a b 2 k n (sym (letters_read a b s) ∙ e)).0
