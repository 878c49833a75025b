-- A word made bit by bit, from the last pack to the first.
use Prim.Native.Nat.{ℕ, zero, suc, ◌+◌, ◌*◌, ◌-◌, ◌/◌, ◌%◌, ◌^◌, ◌≤◌, ◌<◌}
use mathlib.Core.Path.{◌≡◌, sym, ap, ◌∙◌, subst}
use mathlib.Core.List.{List}
use native.Mathlib.Nat.{le_of_suc-le-suc, lt_of_lt_of_le, div-eq_of_lt, div-div-eq-div-mul, pow-succ'}
use native.Mathlib.Omega.{arith}
use lib.Pow.{pow_mono}
use Rattle.sorts.specs.Numbers.{number_of, packs}
use Rattle.bookform.specs.declared.answer.Answer.{Answer}
use Rattle.bookform.specs.declared.answer.Answer.TheVariants.{Permitted, Open, NotPermitted, Changed, Previewed, Refused}
use Rattle.bookform.specs.Answers.{answer_at}
use Rattle.panel.specs.declared.PackRight.{PackRight}
use Rattle.panel.specs.Panels.{conclusion_of, bit}
use Rattle.panel.specs.Inner.Words.{one_for, pack_bit, WordFrom, WordOf}

-- A word twice as large, with one bit more.

bit_first : (w b : ℕ) → b < 2 → bit (2 * w + b) 0 ≡ b
unfolding bit
bit_first w b l = omega arith

bit_next : (w b j : ℕ) → b < 2 → bit (2 * w + b) (suc j) ≡ bit w j
unfolding bit
bit_next w b j l =
    let e : (2 * w + b) / 2 ≡ w = omega arith in
    ap (λ (x : ℕ). x % 2) (ap (λ (x : ℕ). (2 * w + b) / x) (pow-succ' 2 j) ∙ sym (div-div-eq-div-mul (2 * w + b) 2 (2 ^ j)) ∙ ap (λ (x : ℕ). x / 2 ^ j) e)

-- a bit is 0 or 1
pub bit_small : (w n : ℕ) → bit w n < 2
unfolding bit
bit_small w n = omega arith

-- A word below 2 ^ k has no bit from k on: the two words of a panel have no bit but those of the packs.
pub no_other : (k w n : ℕ) → w < 2 ^ k → k ≤ n → bit w n ≡ 0
unfolding bit
no_other k w n l h = omega (arith, ap (λ (x : ℕ). x % 2) (div-eq_of_lt (lt_of_lt_of_le l (pow_mono h))))

pub one_small : (a : Answer) → one_for a < 2
one_small Permitted = omega arith
one_small Open = omega arith
one_small NotPermitted = omega arith
one_small (Changed c) = omega arith
one_small (Previewed c) = omega arith
one_small (Refused k) = omega arith

module _ (m k : List ℕ) (p : ℕ) (x : PackRight) where
  -- one pack more, before the others
  word_more : (n u w b : ℕ) → WordFrom m k p x (suc n) u w → b ≡ pack_bit m k p x n → WordFrom m k p x n (suc u) (2 * w + b)
  word_more n u w b W e = record { bits = at; size = omega (arith, W.size, pow-succ' 2 u, small) }
    where
      small : b < 2
      small = subst (λ (c : ℕ). c < 2) (sym e) (one_small (answer_at m k (number_of (conclusion_of p x n))))

      at : (j : ℕ) → j < suc u → bit (2 * w + b) j ≡ pack_bit m k p x (j + n)
      at zero l = let q : n ≡ 0 + n = omega arith in bit_first w b small ∙ e ∙ ap (pack_bit m k p x) q
      at (suc j) l = let q : j + suc n ≡ suc j + n = omega arith in bit_next w b j small ∙ W.bits j (le_of_suc-le-suc l) ∙ ap (pack_bit m k p x) q

  module _ (n w : ℕ) (h : 0 < n) (l : n ≤ packs) (W : WordFrom m k p x n (packs - n) w) where
    pub word_next : (b : ℕ) → b ≡ pack_bit m k p x (n - 1) → WordFrom m k p x (n - 1) (packs - (n - 1)) (2 * w + b)
    word_next b e =
        let q : n ≡ suc (n - 1) = omega arith in
        let r : suc (packs - n) ≡ packs - (n - 1) = omega arith in
        subst (λ (u : ℕ). WordFrom m k p x (n - 1) u (2 * w + b)) r
        (word_more (n - 1) (packs - n) w b (subst (λ (i : ℕ). WordFrom m k p x i (packs - n) w) q W) e)

  -- the bit of each pack
  pub word_bit : (w : ℕ) → WordOf m k p x w → (n : ℕ) → n < packs → bit w n ≡ pack_bit m k p x n
  word_bit w W n l = let q : n + 0 ≡ n = omega arith in W.bits n l ∙ ap (pack_bit m k p x) q
