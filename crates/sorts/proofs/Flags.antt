-- The place of a flag tells the row and the status.
use Prim.Native.Nat.{ℕ, zero, suc, ◌-◌, ◌*◌, ◌≤◌, ◌<◌}
use mathlib.Core.Path.{◌≡◌, refl, sym, ap}
use mathlib.Core.Bool.{Bool, true, false, cond, true≢false}
use native.Mathlib.Omega.{arith}
use lib.Dec.{ltb}
use borrow.Author.Tests.{eqb-true, eq-eqb, ltb-true, ltb-false}
use Rattle.sorts.specs.declared.Status.{Status}
use Rattle.sorts.specs.declared.Status.TheVariants.{Trusted, Issued, Provisional}
use Rattle.sorts.specs.Numbers.{speakers, grants}
use Rattle.sorts.specs.Flags.{StatusRange, FirmRange, firm_flags, row_flags, all_flags, flag_of, flag_place, same_status}
use Rattle.sorts.proofs.Marks.{prin_is}

pub flag_high : (by : Status) → StatusRange by → flag_of by < row_flags
flag_high Trusted f = omega arith
flag_high (Issued p) f = omega arith
flag_high (Provisional p) f = omega arith

pub firm_high : (by : Status) → FirmRange by → flag_of by < firm_flags
firm_high Trusted f = omega arith
firm_high (Issued p) f = omega arith
firm_high (Provisional p) f = absurd f

-- a firm flag is one status's, whether the other is in form or not
pub firm_by : (by by' : Status) → FirmRange by' → flag_of by ≡ flag_of by' → by ≡ by'
firm_by Trusted Trusted f e = refl
firm_by Trusted (Issued q) f e = absurd (omega arith)
firm_by Trusted (Provisional q) f e = absurd f
firm_by (Issued p) Trusted f e = absurd (omega arith)
firm_by (Issued p) (Issued q) f e = ap Issued (prin_is p q (omega arith))
firm_by (Issued p) (Provisional q) f e = absurd f
firm_by (Provisional p) Trusted f e = absurd (omega arith)
firm_by (Provisional p) (Issued q) f e = absurd (omega arith)
firm_by (Provisional p) (Provisional q) f e = absurd f

pub flag_by : (by by' : Status) → StatusRange by → StatusRange by' → flag_of by ≡ flag_of by' → by ≡ by'
flag_by by Trusted f f' e = firm_by by Trusted tt e
flag_by by (Issued q) f f' e = firm_by by (Issued q) f' e
flag_by Trusted (Provisional q) f f' e = absurd (omega arith)
flag_by (Issued p) (Provisional q) f f' e = absurd (omega arith)
flag_by (Provisional p) (Provisional q) f f' e = ap Provisional (prin_is p q (omega arith))

pub place_in : (by : Status) (g n : ℕ) → StatusRange by → g < n → flag_place by g < row_flags * n
place_in by g n f l = omega (arith, flag_high by f)

pub place_fits : (by : Status) (g : ℕ) → StatusRange by → g < grants → flag_place by g < all_flags
place_fits by g f l = omega (arith, flag_high by f)

pub place_from : (by : Status) (count g : ℕ) → count ≤ g → row_flags * count ≤ flag_place by g
place_from by count g l = omega arith

pub place_row : (by by' : Status) (g h : ℕ) → StatusRange by → StatusRange by' → flag_place by g ≡ flag_place by' h → g ≡ h
place_row by by' g h f f' e = omega (arith, flag_high by f, flag_high by' f')

pub place_by : (by by' : Status) (g : ℕ) → StatusRange by → StatusRange by' → flag_place by g ≡ flag_place by' g → by ≡ by'
place_by by by' g f f' e = flag_by by by' f f' (omega arith)

-- sameness of statuses is equality

pub status_eq : (by by' : Status) → same_status by by' ≡ true → by ≡ by'
status_eq Trusted Trusted e = refl
status_eq Trusted (Issued q) e = absurd (true≢false (sym e))
status_eq Trusted (Provisional q) e = absurd (true≢false (sym e))
status_eq (Issued p) Trusted e = absurd (true≢false (sym e))
status_eq (Issued p) (Provisional q) e = absurd (true≢false (sym e))
status_eq (Provisional p) Trusted e = absurd (true≢false (sym e))
status_eq (Provisional p) (Issued q) e = absurd (true≢false (sym e))
status_eq (Issued p) (Issued q) e = ap Issued (prin_is p q (eqb-true p.0 q.0 e))
status_eq (Provisional p) (Provisional q) e = ap Provisional (prin_is p q (eqb-true p.0 q.0 e))

pub status_refl : (by : Status) → same_status by by ≡ true
status_refl Trusted = refl
status_refl (Issued p) = eq-eqb p.0 p.0 refl
status_refl (Provisional p) = eq-eqb p.0 p.0 refl

-- every flag of a row is some status's

abbrev pub status_of : ℕ → Status
status_of zero = Trusted
status_of (suc p) = cond (ltb p speakers) (Issued (record { 0 = p })) (Provisional (record { 0 = p - speakers }))

pub status_flag : (j : ℕ) → flag_of (status_of j) ≡ j
status_flag zero = refl
status_flag (suc p) = go (ltb p speakers) refl
  where
    go : (b : Bool) → ltb p speakers ≡ b → flag_of (cond b (Issued (record { 0 = p })) (Provisional (record { 0 = p - speakers }))) ≡ suc p
    go true e = omega arith
    go false e = omega (arith, ltb-false p speakers e)

pub status_range : (j : ℕ) → j < row_flags → StatusRange (status_of j)
status_range zero l = tt
status_range (suc p) l = go (ltb p speakers) refl
  where
    go : (b : Bool) → ltb p speakers ≡ b → StatusRange (cond b (Issued (record { 0 = p })) (Provisional (record { 0 = p - speakers })))
    go true e = ltb-true p speakers e
    go false e = omega (arith, l)

pub firm_status : (j : ℕ) → j < firm_flags → FirmRange (status_of j)
firm_status zero l = tt
firm_status (suc p) l = go (ltb p speakers) refl
  where
    go : (b : Bool) → ltb p speakers ≡ b → FirmRange (cond b (Issued (record { 0 = p })) (Provisional (record { 0 = p - speakers })))
    go true e = ltb-true p speakers e
    go false e = absurd (omega (arith, l, ltb-false p speakers e))

pub status_of_lem : (by : Status) → StatusRange by → status_of (flag_of by) ≡ by
status_of_lem by f = flag_by (status_of (flag_of by)) by (status_range (flag_of by) (flag_high by f)) f (status_flag (flag_of by))
