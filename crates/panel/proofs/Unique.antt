-- At the panel no choice is left: book, marks and principal decide it.
use Prim.Native.Nat.{ℕ, zero, suc, ◌/◌, ◌%◌, ◌^◌, ◌<◌}
use mathlib.Core.Path.{◌≡◌, sym, ap, ◌∙◌}
use mathlib.Core.List.{List}
use mathlib.Core.Logic.{◌⊎◌, inl, inr}
use native.Mathlib.Nat.{zero-lt-suc, div-div-eq-div-mul, pow-succ'}
use native.Mathlib.Omega.{arith}
use native.Mathlib.Decide.{ℕ_discrete, dec_lt}
use Rattle.std.specs.Prelude.{Result, Ok}
use Rattle.sorts.specs.declared.Refusal.{Refusal}
use Rattle.sorts.specs.Numbers.{speakers, packs}
use Rattle.bookform.specs.declared.Book.{Book}
use Rattle.bookform.specs.Books.{BookForm}
use Rattle.panel.specs.declared.PackRight.{PackRight}
use Rattle.panel.specs.declared.Panel.{Panel}
use Rattle.panel.specs.Panels.{bit, Packs, PanelOf}
use Rattle.panel.proofs.Words.{bit_small}

-- the bits of half a word are those after the first
half_bit : (w n : ℕ) → bit (w / 2) n ≡ bit w (suc n)
unfolding bit
half_bit w n = ap (λ (x : ℕ). x % 2) (div-div-eq-div-mul w 2 (2 ^ n) ∙ ap (λ (x : ℕ). w / x) (sym (pow-succ' 2 n)))

halves : (w v : ℕ) → bit w 0 ≡ bit v 0 → w / 2 ≡ v / 2 → w ≡ v
unfolding bit
halves w v e h = omega (arith, e, h)

half_lt : (k w : ℕ) → w < 2 ^ suc k → w / 2 < 2 ^ k
half_lt k w l = omega (arith, l, pow-succ' 2 k)

-- two words of k bits with the same bits are the same
pub same_bits : (k w v : ℕ) → w < 2 ^ k → v < 2 ^ k → ((n : ℕ) → n < k → bit w n ≡ bit v n) → w ≡ v
same_bits zero w v l h e = omega arith
same_bits (suc k) w v l h e =
    halves w v (e 0 (zero-lt-suc k))
    (same_bits k (w / 2) (v / 2) (half_lt k w l) (half_lt k v h) (λ n u. half_bit w n ∙ e (suc n) (omega arith) ∙ sym (half_bit v n)))

module _ (b : Book) (m k : List ℕ) (p : ℕ) where
  packs_only : (x : PackRight) (w v : ℕ) → Packs b m k p x w → Packs b m k p x v → w ≡ v
  packs_only x w v P Q = same_bits packs w v P.size Q.size (λ n r. go n r (ℕ_discrete (bit w n) 1) (ℕ_discrete (bit v n) 1))
    where
      go : (n : ℕ) → n < packs → Dec (bit w n ≡ 1) → Dec (bit v n ≡ 1) → bit w n ≡ bit v n
      go n r (yes e) (yes f) = e ∙ sym f
      go n r (yes e) (no d) = absurd (d ((Q.bits n r).1 ((P.bits n r).0 e)))
      go n r (no d) (yes f) = absurd (d ((P.bits n r).1 ((Q.bits n r).0 f)))
      go n r (no d) (no c) = omega (arith, bit_small w n, bit_small v n)

  -- Two panels of one book, marks and principal are the same.
  pub panel_only : (r q : Result Panel Refusal) → PanelOf b m k p r → PanelOf b m k p q → r ≡ q
  panel_only r q P Q = by P.decided
    where
      formed : BookForm b m k → Dec (p < speakers) → r ≡ q
      formed f (yes l) =
          let x = P.shown f l in
          let y = Q.shown f l in
          x.1 ∙ (λ i. Ok (record { run = packs_only _ x.0.run y.0.run x.2 y.2 i; export = packs_only _ x.0.export y.0.export x.3 y.3 i })) ∙ sym y.1
      formed f (no l) = P.above f (omega arith) ∙ sym (Q.above f (omega arith))

      by : BookForm b m k ⊎ (BookForm b m k → ⊥) → r ≡ q
      by (inl f) = formed f (dec_lt p speakers)
      by (inr d) = P.unformed d ∙ sym (Q.unformed d)
