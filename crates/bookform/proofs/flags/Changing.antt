-- Flags that are 0 or 1, after a change too.
use Prim.Native.Nat.{ℕ, ◌*◌, ◌≤◌, ◌<◌}
use native.Mathlib.Omega.{arith}
use native.Mathlib.Decide.{ℕ_discrete}
use lib.ListN.{length, get_or, set, length-set}
use lib.Seq.{get_or-set_same, get_or-set_other}
use mathlib.Core.Path.{◌≡◌, ap, ◌∙◌}
use mathlib.Core.Bool.{Bool, true, false, cond}
use mathlib.Core.List.{List}
use Rattle.sorts.specs.declared.Prin.{Prin}
use Rattle.sorts.specs.declared.Status.{Status}
use Rattle.sorts.specs.declared.Status.TheVariants.{Trusted, Issued, Provisional}
use Rattle.sorts.specs.Numbers.{speakers, grants}
use Rattle.sorts.specs.Flags.{StatusRange, row_flags, all_flags, flag_place}
use Rattle.sorts.proofs.Flags.{place_in, place_fits}
use Rattle.bookform.specs.Changes.{is_set, put, entered_flags, removed_flags}

-- Flags that are 0 or 1, and 0 from the count on.
pub record FlagsFit (count : ℕ) (F : List ℕ) : Type 0 where
  pub bits : (i : ℕ) → get_or F i 0 ≤ 1
  pub unflagged : (i : ℕ) → row_flags * count ≤ i → get_or F i 0 ≡ 0

module _ (count : ℕ) (small : count ≤ grants) (g : ℕ) (l : g < count) where
  pub put_fit : (F : List ℕ) (by : Status) (v : ℕ) → length F ≡ all_flags → StatusRange by → v ≤ 1 → FlagsFit count F → FlagsFit count (put F by g v)
  put_fit F by v len known b f = record {
    bits = λ i. bit_at i (ℕ_discrete i (flag_place by g));
    unflagged = λ i h. get_or-set_other F (flag_place by g) i v 0 (λ (e : i ≡ flag_place by g). omega (arith, e, h, place_in by g count known l)) ∙ f.unflagged i h;
  }
    where
      bit_at : (i : ℕ) → Dec (i ≡ flag_place by g) → get_or (set F (flag_place by g) v) i 0 ≤ 1
      bit_at i (yes e) =
          let h = ap (λ (n : ℕ). get_or (set F (flag_place by g) v) n 0) e ∙ get_or-set_same F (flag_place by g) v 0 (omega (arith, len, place_fits by g known (omega arith))) in omega arith
      bit_at i (no d) = let h = get_or-set_other F (flag_place by g) i v 0 d in let k = f.bits i in omega arith

  both_fit : (F : List ℕ) (p : Prin) (v : ℕ) → length F ≡ all_flags → p.0 < speakers → v ≤ 1 → FlagsFit count F → FlagsFit count (put (put F (Provisional p) g 0) (Issued p) g v)
  both_fit F p v len k b f =
      put_fit (put F (Provisional p) g 0) (Issued p) v (length-set F (flag_place (Provisional p) g) 0 ∙ len) k b (put_fit F (Provisional p) 0 len k (omega arith) f)

  pub entered_fit : (F : List ℕ) (by : Status) → length F ≡ all_flags → StatusRange by → FlagsFit count F → FlagsFit count (entered_flags by g F)
  entered_fit F Trusted len k f = put_fit F Trusted 1 len k (omega arith) f
  entered_fit F (Issued p) len k f = both_fit F p 1 len k (omega arith) f
  entered_fit F (Provisional p) len k f = go (is_set F (Issued p) g)
    where
      go : (b : Bool) → FlagsFit count (cond b F (put F (Provisional p) g 1))
      go true = f
      go false = put_fit F (Provisional p) 1 len k (omega arith) f

  pub removed_fit : (F : List ℕ) (by : Status) → length F ≡ all_flags → StatusRange by → FlagsFit count F → FlagsFit count (removed_flags by g F)
  removed_fit F Trusted len k f = put_fit F Trusted 0 len k (omega arith) f
  removed_fit F (Issued p) len k f = both_fit F p 0 len k (omega arith) f
  removed_fit F (Provisional p) len k f = put_fit F (Provisional p) 0 len k (omega arith) f
