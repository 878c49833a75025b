-- Numbers in decimal: how the digits grow, and how many they are.
use Prim.Native.Nat.{ℕ, zero, suc, ◌+◌, ◌*◌, ◌/◌, ◌%◌, ◌^◌, ◌≤◌, ◌<◌}
use mathlib.Core.Path.{◌≡◌, refl, sym, ap, ◌∙◌, subst}
use mathlib.Core.List.{List, [], ◌∷◌, ◌++◌}
use native.Mathlib.Omega.{arith}
use native.Mathlib.Decide.{dec_lt}
use native.Mathlib.Nat.{div-lt_self, div-lt_iff_lt-mul, div-div-eq-div-mul, pow-suc, pow-succ', pow-le-pow_right}
use borrow.Author.Tests.{lt-ltb, le-ltb}
use lib.ListN.{length, length-append, get_or, get_or-append}
use lib.Seq.{get_or-append_seam}
use Rattle.std.specs.Prelude.{Option, None, Some}
use Rattle.std.specs.Option.{IfNone, IfSome, unwrap_or}
use Rattle.lines.specs.Decimals.{digits, decimal}

digits_none : (n : ℕ) → digits zero n ≡ []
unfolding digits
digits_none n = refl

digits_one : (k n : ℕ) → n < 10 → digits (suc k) n ≡ (48 + n) ∷ []
unfolding digits
digits_one k n h = rw (lt-ltb n 10 h)

digits_more : (k n : ℕ) → 10 ≤ n → digits (suc k) n ≡ digits k (n / 10) ++ ((48 + n % 10) ∷ [])
unfolding digits
digits_more k n h = rw (le-ltb n 10 h)

tenth : (n k : ℕ) → 10 ≤ n → n < suc k → n / 10 < k
tenth n k h l = let e : n / 10 < n = div-lt_self {n = n} {k = 10} (omega arith) (omega arith) in omega arith

-- any two counts above n give the same digits
same_digits : (j k n : ℕ) → n < j → n < k → digits j n ≡ digits k n
same_digits zero k n p q = absurd (omega arith)
same_digits (suc j) zero n p q = absurd (omega arith)
same_digits (suc j) (suc k) n p q = go (dec_lt n 10) (same_digits j k (n / 10))
  where
    go : Dec (n < 10) → (n / 10 < j → n / 10 < k → digits j (n / 10) ≡ digits k (n / 10)) → digits (suc j) n ≡ digits (suc k) n
    go (yes h) f = digits_one j n h ∙ sym (digits_one k n h)
    go (no h) f =
        let l : 10 ≤ n = omega arith in
        digits_more j n l ∙ ap (λ (x : List ℕ). x ++ ((48 + n % 10) ∷ [])) (f (tenth n j l p) (tenth n k l q)) ∙ sym (digits_more k n l)

pub decimal_one : (n : ℕ) → n < 10 → decimal n ≡ (48 + n) ∷ []
unfolding decimal
decimal_one n h = digits_one n n h

pub decimal_more : (n : ℕ) → 10 ≤ n → decimal n ≡ decimal (n / 10) ++ ((48 + n % 10) ∷ [])
unfolding decimal
decimal_more n h =
    digits_more n n h ∙
    ap (λ (x : List ℕ). x ++ ((48 + n % 10) ∷ [])) (same_digits n (suc (n / 10)) (n / 10) (tenth n n h (omega arith)) (omega arith))

-- by one byte
pub decimal_grows : (n : ℕ) → 10 ≤ n → length (decimal n) ≡ length (decimal (n / 10)) + 1
decimal_grows n h = ap (length {A = ℕ}) (decimal_more n h) ∙ length-append (decimal (n / 10)) ((48 + n % 10) ∷ [])

-- below 10 ^ (k + 1) there are at most k + 1 digits
digits_few : (k j n : ℕ) → n < 10 ^ (suc k) → length (digits j n) ≤ suc k
digits_few k zero n h = omega (arith, ap (length {A = ℕ}) (digits_none n))
digits_few zero (suc j) n h = let e : n < 10 = omega arith in omega (arith, ap (length {A = ℕ}) (digits_one j n e))
digits_few (suc k) (suc j) n h = go (dec_lt n 10) (digits_few k j (n / 10))
  where
    go : Dec (n < 10) → (n / 10 < 10 ^ (suc k) → length (digits j (n / 10)) ≤ suc k) → length (digits (suc j) n) ≤ suc (suc k)
    go (yes l) d = omega (arith, ap (length {A = ℕ}) (digits_one j n l))
    go (no l) d =
        let f : 10 ≤ n = omega arith in
        let e : n / 10 < 10 ^ (suc k) = (div-lt_iff_lt-mul {k = 10} {x = n} {y = 10 ^ (suc k)} (omega arith)).1 (subst (λ (x : ℕ). n < x) (pow-suc 10 (suc k)) h) in
        omega (arith, ap (length {A = ℕ}) (digits_more j n f), length-append (digits j (n / 10)) ((48 + n % 10) ∷ []), d e)

-- 20 digits hold what 64 bits do
pub decimal_few : (n : ℕ) → n < 18446744073709551616 → length (decimal n) ≤ 20
unfolding decimal
decimal_few n h = digits_few 19 (suc n) n (omega arith)

-- a number of two digits or more is 10 or more
long_ten : (n : ℕ) → 2 ≤ length (decimal n) → 10 ≤ n
long_ten n h = go (dec_lt n 10)
  where
    go : Dec (n < 10) → 10 ≤ n
    go (yes l) = absurd (omega (arith, ap (length {A = ℕ}) (decimal_one n l)))
    go (no l) = omega arith

-- the digits before the last are those of the tenth part
digit_up : (n i : ℕ) → 10 ≤ n → i < length (decimal (n / 10)) → get_or (decimal (n / 10)) i 0 ≡ get_or (decimal n) i 0
digit_up n i h l = sym (ap (λ (x : List ℕ). get_or x i 0) (decimal_more n h) ∙ get_or-append (decimal (n / 10)) ((48 + n % 10) ∷ []) 0 i l)

-- and the last is what is left
digit_last : (n i : ℕ) → i + 1 ≡ length (decimal n) → get_or (decimal n) i 0 ≡ 48 + n % 10
digit_last n i e = go (dec_lt n 10)
  where
    go : Dec (n < 10) → get_or (decimal n) i 0 ≡ 48 + n % 10
    go (yes l) =
        let z : i ≡ 0 = omega (arith, ap (length {A = ℕ}) (decimal_one n l)) in
        let m : 48 + n ≡ 48 + n % 10 = omega arith in
        ap (λ (x : List ℕ). get_or x i 0) (decimal_one n l) ∙ ap (λ (j : ℕ). get_or ((48 + n) ∷ []) j 0) z ∙ m
    go (no l) =
        let t : 10 ≤ n = omega arith in
        let z : i ≡ length (decimal (n / 10)) = omega (arith, decimal_grows n t) in
        ap (λ (x : List ℕ). get_or x i 0) (decimal_more n t) ∙
        ap (λ (j : ℕ). get_or (decimal (n / 10) ++ ((48 + n % 10) ∷ [])) j 0) z ∙
        get_or-append_seam (decimal (n / 10)) (48 + n % 10) [] 0

-- with k + 1 digits a number is from 10 ^ k on, and below 10 ^ (k + 1)
decimal_log : (k n : ℕ) → 10 ^ k ≤ n → n < 10 * 10 ^ k → length (decimal n) ≡ k + 1
decimal_log zero n a b = let l : n < 10 = omega arith in ap (length {A = ℕ}) (decimal_one n l)
decimal_log (suc k) n a b =
    let p = pow-le-pow_right {n = 10} (omega arith) {i = 0} {j = k} (omega arith) in
    let e = pow-suc 10 k in
    let t : 10 ≤ n = omega (arith, a, e, p) in
    omega (arith, decimal_grows n t, decimal_log k (n / 10) (omega (arith, a, e)) (omega (arith, b, e)))

pub decimal_long : (n : ℕ) (o : Option ℕ) → IfNone o (n ≡ 0) → IfSome o (λ k. 10 ^ k ≤ n) → IfSome o (λ k. n < 10 * 10 ^ k) → length (decimal n) ≡ unwrap_or o 0 + 1
decimal_long n None z a b = ap (length {A = ℕ}) (decimal_one n (omega (arith, z)))
decimal_long n (Some k) z a b = decimal_log k n a b

-- the digit with e digits after it
pub digit_at : (e n i : ℕ) → i + e + 1 ≡ length (decimal n) → get_or (decimal n) i 0 ≡ 48 + n / 10 ^ e % 10
digit_at zero n i h = let z : 48 + n % 10 ≡ 48 + n / 1 % 10 = omega arith in digit_last n i (omega (arith, h)) ∙ z
digit_at (suc e) n i h =
    let t = long_ten n (omega (arith, h)) in
    let g = decimal_grows n t in
    let q : n / 10 / 10 ^ e ≡ n / 10 ^ (suc e) = div-div-eq-div-mul n 10 (10 ^ e) ∙ ap (λ (p : ℕ). n / p) (sym (pow-succ' 10 e)) in
    sym (digit_up n i t (omega (arith, h, g))) ∙ digit_at e (n / 10) i (omega (arith, h, g)) ∙ ap (λ (m : ℕ). 48 + m % 10) q
