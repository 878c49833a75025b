-- Grants in form are the same exactly when their bytes are, and to number a grant in form numbers grants in form alone.
use Prim.Native.Nat.{ℕ, zero, suc, ◌<◌}
use native.Mathlib.Omega.{arith}
use lib.ListN.{length, get_or}
use mathlib.Core.List.{List, [], ◌∷◌, ◌++◌}
use mathlib.Core.Path.{◌≡◌, refl, sym, subst}
use mathlib.Core.Bool.{Bool, true, false, cond}
use Rattle.rows.specs.Written.{Grant, Conds, Concl, Right, grant, none, also, property, perm, issue, issue_any, run, export}
use Rattle.rows.specs.Written as w
use Rattle.rows.specs.declared.Table.{Table}
use Rattle.rows.specs.Form.{rows_out, no_grant}
use Rattle.rows.proofs.Shown.{out_length}
use Rattle.rows.specs.Numbering.{place, has, add, number, number_conds, number_concl, number_right}
use Rattle.canon.specs.Canon.{canon, same, Canonical, CanonicalConds, CanonicalConcl, CanonicalRight}
use Rattle.canon.specs.CanonicalRows.{CanonicalRows}
use Rattle.canon.proofs.Form.{canonical_own}

pub same_in_form : (g h : Grant) → Canonical g → Canonical h → same g h ≡ w.same_written g h
unfolding same w.same_written
same_in_form g h a b = rw (canonical_own g a, canonical_own h b)

abbrev pub AllInForm : List Grant → Type 0
AllInForm [] = Unit {0}
AllInForm (g ∷ N) = Canonical g × AllInForm N

all_at : (N : List Grant) → AllInForm N → (i : ℕ) → i < length N → Canonical (get_or N i no_grant)
all_at [] a i l = absurd (omega arith)
all_at (g ∷ N) a zero l = a.0
all_at (g ∷ N) a (suc i) l = all_at N a.1 i (omega arith)

at_all : (N : List Grant) → ((i : ℕ) → i < length N → Canonical (get_or N i no_grant)) → AllInForm N
at_all [] h = tt
at_all (g ∷ N) h = (h 0 (omega arith), at_all N (λ i l. h (suc i) (omega arith)))

-- the rows of a table written out
pub rows_all : (t : Table) → CanonicalRows t → AllInForm (rows_out t.rows t.count)
rows_all t h = at_all (rows_out t.rows t.count) (λ i l. h i (omega (arith, out_length t.rows t.count)))

pub all_rows : (t : Table) (N : List Grant) → rows_out t.rows t.count ≡ N → AllInForm N → CanonicalRows t
all_rows t N e a i l = all_at (rows_out t.rows t.count) (subst AllInForm (sym e) a) i (omega (arith, out_length t.rows t.count))

-- a grant's place under the sameness of §3
unfoldable pub place_same : Grant → List Grant → ℕ
place_same g [] = 0
place_same g (h ∷ N) = cond (same g h) 0 (suc (place_same g N))

pub place_in_form : (g : Grant) (N : List Grant) → AllInForm N → place_same g N ≡ place (canon g) N
unfolding place_same place same w.same_written
place_in_form g [] a = refl
place_in_form g (h ∷ N) a = rw (canonical_own h a.0, place_in_form g N a.1)

in_form_snoc : (N : List Grant) (g : Grant) → AllInForm N → Canonical g → AllInForm (N ++ (g ∷ []))
in_form_snoc [] g a h = (h, tt)
in_form_snoc (k ∷ N) g a h = (a.0, in_form_snoc N g a.1 h)

add_in_form : (g : Grant) (N : List Grant) → Canonical g → AllInForm N → AllInForm (add g N)
unfolding add
add_in_form g N h a = go (has g N)
  where
    go : (b : Bool) → AllInForm (cond b N (N ++ (g ∷ [])))
    go true = a
    go false = in_form_snoc N g a h

mutual
  unfolding number Canonical

  pub number_in_form : (g : Grant) (N : List Grant) → Canonical g → AllInForm N → AllInForm (number g N)
  number_in_form (grant v r cs c) N h a = add_in_form (grant v r cs c) (number_concl c (number_conds cs N)) h (concl_in_form c (number_conds cs N) h.1 (conds_in_form cs N h.0 a))

  pub conds_in_form : (cs : Conds) (N : List Grant) → CanonicalConds cs → AllInForm N → AllInForm (number_conds cs N)
  conds_in_form none N h a = a
  conds_in_form (also p c cs) N h a = conds_in_form cs (number_concl c N) h.2 (concl_in_form c N h.1 a)

  pub concl_in_form : (c : Concl) (N : List Grant) → CanonicalConcl c → AllInForm N → AllInForm (number_concl c N)
  concl_in_form (property k p) N h a = a
  concl_in_form (perm p r) N h a = right_in_form r N h a

  pub right_in_form : (r : Right) (N : List Grant) → CanonicalRight r → AllInForm N → AllInForm (number_right r N)
  right_in_form (issue g) N h a = number_in_form g N h a
  right_in_form issue_any N h a = a
  right_in_form (run n) N h a = a
  right_in_form (export n) N h a = a
