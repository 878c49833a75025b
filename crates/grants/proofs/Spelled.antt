-- Bytes that stand in a list from one place to another.
use Prim.Native.Nat.{ℕ, suc, ◌+◌, ◌-◌, ◌≤◌, ◌<◌}
use mathlib.Core.Path.{◌≡◌, refl, sym, ap, ◌∙◌}
use mathlib.Core.List.{List, [], ◌∷◌, ◌++◌, append_assoc}
use native.Mathlib.Numerals.{add-one}
use native.Mathlib.Omega.{arith}
use lib.ListN.{length, get_or, take, drop, length-append, length-drop}
use lib.Seq.{drop-cons, drop-drop, take_at, drop_at}

-- From place at up to place n of s stand the bytes w.
pub record Spelled (s : List ℕ) (at : ℕ) (w : List ℕ) (n : ℕ) : Type 0 where
  pub rest : drop at s ≡ w ++ drop n s
  pub ends : n ≡ at + length w

module _ {s : List ℕ} {at : ℕ} {w : List ℕ} {n : ℕ} (x : Spelled s at w n) where
  -- they are what stands there, taken by their length
  pub spelled_take : take (length w) (drop at s) ≡ w
  spelled_take = rw x.rest (take_at w (drop n s) (length w) refl)

  -- as many bytes are left from place at on as they are, and as are left from place n on
  lengths : length s - at ≡ length w + (length s - n)
  lengths = omega (arith, length-drop at s, length-drop n s, length-append w (drop n s), ap length x.rest)

  -- bytes that start within s end within it
  pub spelled_fits : at ≤ length s → n ≤ length s
  spelled_fits h = omega (arith, lengths, x.ends)

  -- and where there are some they start within s
  pub spelled_starts : 0 < length w → at < length s
  spelled_starts h = omega (arith, lengths)

-- no bytes stand at every place
pub nothing : {s : List ℕ} (at : ℕ) → Spelled s at [] at
nothing at = record { rest = refl; ends = omega arith }

-- one after the other
pub join : {s : List ℕ} {at : ℕ} {w : List ℕ} {m : ℕ} {u : List ℕ} {n : ℕ} → Spelled s at w m → Spelled s m u n → Spelled s at (w ++ u) n
join {s} {at} {w} {m} {u} {n} x y = record {
  rest = x.rest ∙ ap (λ (l : List ℕ). w ++ l) y.rest ∙ sym (append_assoc w u (drop n s));
  ends = omega (arith, length-append w u);
}

-- Bytes taken apart at the place between them.
pub record Parts (s : List ℕ) (at : ℕ) (w u : List ℕ) (n : ℕ) : Type 0 where
  pub place : ℕ
  pub first : Spelled s at w place
  pub second : Spelled s place u n

-- what follows bytes that stand somewhere
drop_past : (s : List ℕ) (at : ℕ) (w r : List ℕ) → drop at s ≡ w ++ r → drop (at + length w) s ≡ r
drop_past s at w r e = sym (drop-drop (length w) at s) ∙ ap (λ (l : List ℕ). drop (length w) l) e ∙ drop_at w r (length w) refl

-- and apart again
pub part : (w u : List ℕ) {s : List ℕ} {at n : ℕ} → Spelled s at (w ++ u) n → Parts s at w u n
part w u {s} {at} {n} x =
    let e : drop at s ≡ w ++ (u ++ drop n s) = x.rest ∙ append_assoc w u (drop n s) in
    let d : drop (at + length w) s ≡ u ++ drop n s = drop_past s at w (u ++ drop n s) e in
    record {
      place = at + length w;
      first = record { rest = rw d e; ends = refl };
      second = record { rest = d; ends = omega (arith, length-append w u) };
    }

-- a byte that stands somewhere is the byte of that place
pub byte_stands : {s : List ℕ} {at b n : ℕ} → Spelled s at (b ∷ []) n → (at < length s) × (get_or s at 0 ≡ b) × (n ≡ at + 1)
byte_stands {s} {at} {b} {n} x =
    let h : at < length s = spelled_starts x (omega arith) in
    let e : get_or s at 0 ∷ drop (suc at) s ≡ b ∷ drop n s = sym (drop-cons s at 0 h) ∙ x.rest in
    (h, cc, omega arith)

-- the byte of a place stands there
pub byte_spelled : (s : List ℕ) (at : ℕ) → at < length s → Spelled s at (get_or s at 0 ∷ []) (at + 1)
byte_spelled s at h = record { rest = rw (add-one, drop-cons s at 0); ends = refl }

-- bytes between others
pub between : (x w y : List ℕ) → Spelled (x ++ (w ++ y)) (length x) w (length x + length w)
between x w y =
    let d : drop (length x) (x ++ (w ++ y)) ≡ w ++ y = drop_at x (w ++ y) (length x) refl in
    let e : drop (length x + length w) (x ++ (w ++ y)) ≡ y = drop_past (x ++ (w ++ y)) (length x) w y d in
    record { rest = rw (e, d) refl; ends = refl }
