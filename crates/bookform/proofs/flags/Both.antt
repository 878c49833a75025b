-- The flags with provisional licences taken as firm, flag by flag.
use Prim.Native.Nat.{ℕ, ◌+◌, ◌-◌, ◌/◌, ◌%◌, ◌≤◌, ◌<◌, max}
use mathlib.Core.Path.{◌≡◌, refl, sym, ap, subst, ◌∙◌}
use mathlib.Core.List.{List}
use mathlib.Core.Logic.{◌↔◌, ◌⊎◌, inl, inr, ⊎_elim}
use native.Mathlib.Omega.{arith}
use native.Mathlib.Decide.{ℕ_discrete, dec_lt}
use lib.ListN.{length, get_or}
use lib.Seq.{ext_get_or}
use borrow.Author.Tests.{eq-eqb, ne_eqb, le-leb, lt-leb}
use Rattle.sorts.specs.declared.Prin.{Prin}
use Rattle.sorts.specs.declared.Status.{Status}
use Rattle.sorts.specs.declared.Status.TheVariants.{Trusted, Issued, Provisional}
use Rattle.sorts.specs.Numbers.{speakers, grants}
use Rattle.sorts.specs.Flags.{FirmRange, firm_flags, row_flags, all_flags, flag_place, flag}
use Rattle.sorts.proofs.Flags.{place_fits}
use Rattle.std.proofs.lemmas.List.FromFn.{length-map-range_with_len, get_or-map-range_with_len}
use Rattle.bookform.specs.Both.{both_at, both_flags}

-- The larger of two.

larger_cases : (P : ℕ → Type 0) (a b : ℕ) → (a ≤ b → P b) → (b ≤ a → P a) → P (max a b)
larger_cases P a b f g = go (dec_lt a b)
  where
    go : Dec (a < b) → P (max a b)
    go (yes l) = let e : b ≡ max a b = omega arith in subst P e (f (omega arith))
    go (no d) = let e : a ≡ max a b = omega arith in subst P e (g (omega arith))

-- The flags.

module _ (flags : List ℕ) where
  pub both_length : length (both_flags flags) ≡ all_flags
  unfolding both_flags
  both_length = length-map-range_with_len (both_at flags) 0 all_flags

  both_at_lem : (i : ℕ) → i < all_flags → get_or (both_flags flags) i 0 ≡ both_at flags i
  unfolding both_flags
  both_at_lem i l = get_or-map-range_with_len (both_at flags) 0 all_flags i i 0 l (omega arith)

  -- trust, and what follows the firm flags
  pub other_at : (i : ℕ) → (i % row_flags ≡ 0) ⊎ (firm_flags ≤ i % row_flags) → both_at flags i ≡ get_or flags i 0
  other_at i (inl e) = rw (eq-eqb (i % row_flags) 0 e)
  other_at i (inr l) = rw (ne_eqb (i % row_flags) 0 (λ e. absurd (omega arith)), le-leb firm_flags (i % row_flags) l)

  -- the flags of issuers
  pub issuer_at : (i : ℕ) → 0 < i % row_flags → i % row_flags < firm_flags → both_at flags i ≡ max (get_or flags i 0) (get_or flags (i + speakers) 0)
  issuer_at i k l = rw (ne_eqb (i % row_flags) 0 (λ e. absurd (omega arith)), lt-leb firm_flags (i % row_flags) l)

  module _ (g : ℕ) (l : g < grants) where
    pub both_trusted : flag (both_flags flags) Trusted g ≡ flag flags Trusted g
    both_trusted = both_at_lem (flag_place Trusted g) (place_fits Trusted g tt l) ∙ other_at (flag_place Trusted g) (inl (omega arith))

    module _ (p : Prin) (k : p.0 < speakers) where
      -- issued by p is the larger of the two flags of p
      pub both_issued : flag (both_flags flags) (Issued p) g ≡ max (flag flags (Issued p) g) (flag flags (Provisional p) g)
      both_issued =
          let e : flag_place (Issued p) g + speakers ≡ flag_place (Provisional p) g = omega arith in
          both_at_lem (flag_place (Issued p) g) (place_fits (Issued p) g k l) ∙ issuer_at (flag_place (Issued p) g) (omega arith) (omega arith)
          ∙ ap (λ (i : ℕ). max (flag flags (Issued p) g) (get_or flags i 0)) e

      -- it is set exactly where one of the two is
      pub both_set : (flag (both_flags flags) (Issued p) g ≡ 0 → ⊥) ↔ ((flag flags (Issued p) g ≡ 0 → ⊥) ⊎ (flag flags (Provisional p) g ≡ 0 → ⊥))
      both_set = (
        λ n. to (ℕ_discrete (flag flags (Issued p) g) 0) n,
        λ w e.
            let z = sym both_issued ∙ e in
            ⊎_elim (λ n. n (left z)) (λ n. n (right z)) w,
      )
        where
          left : max (flag flags (Issued p) g) (flag flags (Provisional p) g) ≡ 0 → flag flags (Issued p) g ≡ 0
          left = larger_cases (λ r. r ≡ 0 → flag flags (Issued p) g ≡ 0) _ _ (λ m e. omega arith) (λ m e. e)

          right : max (flag flags (Issued p) g) (flag flags (Provisional p) g) ≡ 0 → flag flags (Provisional p) g ≡ 0
          right = larger_cases (λ r. r ≡ 0 → flag flags (Provisional p) g ≡ 0) _ _ (λ m e. e) (λ m e. omega arith)

          none : flag flags (Issued p) g ≡ 0 → flag flags (Provisional p) g ≡ 0 → max (flag flags (Issued p) g) (flag flags (Provisional p) g) ≡ 0
          none e f = larger_cases (λ r. r ≡ 0) _ _ (λ m. f) (λ m. e)

          to : Dec (flag flags (Issued p) g ≡ 0) → (flag (both_flags flags) (Issued p) g ≡ 0 → ⊥) → (flag flags (Issued p) g ≡ 0 → ⊥) ⊎ (flag flags (Provisional p) g ≡ 0 → ⊥)
          to (no d) n = inl d
          to (yes e) n = inr (λ f. n (both_issued ∙ none e f))

  -- what is firm stays firm
  pub both_keeps : (by : Status) (g : ℕ) → FirmRange by → g < grants → (flag flags by g ≡ 0 → ⊥) → flag (both_flags flags) by g ≡ 0 → ⊥
  both_keeps Trusted g k l n e = n (sym (both_trusted g l) ∙ e)
  both_keeps (Issued p) g k l n e = (both_set g l p k).1 (inl n) e
  both_keeps (Provisional p) g k l n e = absurd k

  -- where nothing is provisional they are the flags themselves
  pub both_firm : length flags ≡ all_flags → ((p : Prin) (g : ℕ) → p.0 < speakers → g < grants → flag flags (Provisional p) g ≡ 0) → both_flags flags ≡ flags
  both_firm len none =
      ext_get_or 0 (both_flags flags) flags (both_length ∙ sym len) (λ i k.
      let l : i < all_flags = omega (arith, k, both_length) in both_at_lem i l ∙ at i l (ℕ_discrete (i % row_flags) 0) (dec_lt (i % row_flags) firm_flags))
    where
      at : (i : ℕ) → i < all_flags → Dec (i % row_flags ≡ 0) → Dec (i % row_flags < firm_flags) → both_at flags i ≡ get_or flags i 0
      at i l (yes e) d = other_at i (inl e)
      at i l (no n) (no d) = other_at i (inr (omega arith))
      at i l (no n) (yes d) =
          let p : Prin = record { 0 = i % row_flags - 1 } in
          let k : p.0 < speakers = omega arith in
          let e : flag_place (Provisional p) (i / row_flags) ≡ i + speakers = omega arith in
          let z = ap (λ (j : ℕ). get_or flags j 0) (sym e) ∙ none p (i / row_flags) k (omega arith) in
          issuer_at i (omega arith) d ∙ larger_cases (λ r. r ≡ get_or flags i 0) (get_or flags i 0) (get_or flags (i + speakers) 0) (λ m. omega arith) (λ m. refl)
