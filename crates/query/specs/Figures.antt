-- Document 000, section 3.3, the corrected query: figures 4 to 6, Query2(e, L, R, E), Auth2(e, L, R, E) and Holds2(d, L, S), over
-- the plain machine. L is its firm licences with those of its provisional ones that are chosen to become firm, R its trusted grants,
-- and a grant's place in N is its number. Each figure stands here once. Where a figure calls a figure the call is a parameter:
-- `query` is Query2(.., L, R, ..), and `said` is Holds2(.., L, ..) of one Said. What functions follow the figures is said in Query.
use Rattle.std.specs.Prelude.{ℕ, Bool, true, false, ◌&&◌, cond, List, [], ◌∷◌, ◌++◌, eqb, get_or}
use Rattle.sorts.specs.declared.Cond.{Cond}
use Rattle.sorts.specs.declared.Row.{Row}
use Rattle.sorts.specs.declared.Status.{Status}
use Rattle.sorts.specs.declared.Status.TheVariants.{Trusted, Issued, Provisional}
use Rattle.sorts.specs.Numbers.{number_of}
use Rattle.sorts.specs.Blank.{blank_cond}
use Rattle.rows.specs.Written.{Grant}
use Rattle.rows.specs.Numbering.{place}
use Rattle.rows.specs.Form.{row_of}
use Rattle.rules.specs.Rules.{prin_under, concl_under, granted, issue_mark, first_values, second_values, resource_values}
use Rattle.rules.specs.Standing.{each}
use Rattle.machine.specs.Machine.{State, Entry}

-- A license (p, g) of document 000.
pub record Licence : Type 0 where
  pub issuer : ℕ
  pub what : Grant

-- Document 02, 5: a "choice of which provisional licences become firm", as a test, by issuer and grant number. It is not asked of a
-- licence that is firm.
abbrev pub Chosen : Type 0
Chosen = ℕ → ℕ → Bool

-- none of them, and all
abbrev pub none_chosen : Chosen
none_chosen p g = false

abbrev pub all_chosen : Chosen
all_chosen p g = true

-- The licences and the trusted grants of the machine, L and R: a provisional licence is in L where it is chosen.
abbrev pub licence_of : Chosen → List Grant → Status → Grant → List Licence
licence_of C N Trusted g = []
licence_of C N (Issued p) g = record { issuer = p.0; what = g } ∷ []
licence_of C N (Provisional p) g = cond (C p.0 (place g N)) (record { issuer = p.0; what = g } ∷ []) []

abbrev pub trusted_of : Status → Grant → List Grant
trusted_of Trusted g = g ∷ []
trusted_of (Issued p) g = []
trusted_of (Provisional p) g = []

unfoldable pub licences : Chosen → List Grant → List Entry → List Licence
licences C N [] = []
licences C N (x ∷ E) = licence_of C N x.by x.what ++ licences C N E

unfoldable pub trusts : List Entry → List Grant
trusts [] = []
trusts (x ∷ E) = trusted_of x.by x.what ++ trusts E

abbrev pub licences_in : State → Chosen → List Licence
licences_in M C = licences C M.N M.entries

abbrev pub trusted_in : State → List Grant
trusted_in M = trusts M.entries

-- A closed conclusion e is its number. "Said(p, e)":
pub record Said : Type 0 where
  pub speaker : ℕ
  pub what : ℕ

abbrev pub same_said : Said → Said → Bool
same_said d d' = eqb d.speaker d'.speaker && eqb d.what d'.what

-- "A condition has the form d₁ ∧ .. ∧ dₙ, where each dᵢ is either true or Said(p, e)": its Saids. The empty list is true.
abbrev pub Condition : Type 0
Condition = List Said

-- The test holds of some of a list. (What a `let` binds is worked out only where it is read.)
abbrev pub some : {A : Type 0} → (A → Bool) → List A → Bool
some f [] = false
some f (a ∷ l) = let later = some f l in cond (f a) true later

-- d_g σ, for a grant's row and a closed substitution σ, which gives the variables the values x, y and z.
abbrev pub said_under : Cond → ℕ → ℕ → ℕ → Said
said_under c x y z = record { speaker = prin_under c.who x y; what = number_of (concl_under c.what x y z) }

unfoldable pub condition_under : Row → ℕ → ℕ → ℕ → Condition
condition_under r x y z = each r.count (λ i. said_under (get_or r.conds i blank_cond) x y z ∷ [])

-- "{d | d_g σ = d and e_g σ = e, for some closed substitution σ}", for a grant's row.
unfoldable pub conditions_of : Row → ℕ → List Condition
conditions_of r e =
    each (first_values r.prins) (λ x.
    each (second_values r.prins) (λ y.
    each (resource_values r.res) (λ z. cond (eqb (granted r x y z) e) (condition_under r x y z ∷ []) [])))

-- "D := ∅; for each grant ∀x₁ .. ∀xₙ (d_g → e_g) ∈ R': D := D ∪ {d | d_g σ = d and e_g σ = e, for some closed substitution σ}". In
-- figure 6, with R_p for R', the same set is "{d' | for some grant .. ∈ R_p and closed substitution σ, d_g σ = d' and e_g σ = e}".
unfoldable pub conditions : List Grant → List Grant → ℕ → List Condition
conditions N [] e = []
conditions N (g ∷ R) e = conditions_of (row_of N g) e ++ conditions N R e

-- "R_p = {g | for some principal p', (p', g) ∈ L and p' ∈ p}", where p is one principal: the grants that p issued.
unfoldable pub issued_by : ℕ → List Licence → List Grant
issued_by p [] = []
issued_by p (l ∷ L) = cond (eqb l.issuer p) (l.what ∷ issued_by p L) (issued_by p L)

-- Figure 6: "if d = true then return true; if d = d₁ ∧ .. ∧ dₙ then return ⋀ Holds2(dᵢ, L, S)". Every part is asked with the same S.
abbrev pub holds2 : (Said → List Said → Bool) → Condition → List Said → Bool
holds2 said [] S = true
holds2 said (d ∷ ds) S = let later = holds2 said ds S in cond (said d S) later false

-- Figure 5: "for each license (p, g) ∈ L: if Query2(Perm(p, issue, g), L, R, E') = true then R' := R' ∪ {g}". `query'` is Query2 at E'.
unfoldable pub allowed : State → (ℕ → Bool) → List Licence → List Grant
allowed M query' [] = []
allowed M query' (l ∷ L) = cond (query' (issue_mark l.issuer (place l.what M.N))) (l.what ∷ allowed M query' L) (allowed M query' L)

module _ (M : State) (C : Chosen) where
  -- Figure 6, for one Said: "if d = Said(p, e) and d ∈ S then return false; if d = Said(p, e) and d ∉ S then S' = S ∪ {d}; R_p = ..;
  -- D := ..; if Holds2(d', L, S') = true for a condition d' ∈ D then return true else return false".
  unfoldable pub said2 : (Said → List Said → Bool) → Said → List Said → Bool
  said2 said d S =
      let S' = d ∷ S in
      let D = conditions M.N (issued_by d.speaker (licences_in M C)) d.what in
      let held = some (λ d'. holds2 said d' S') D in
      cond (some (same_said d) S) false held

  -- Figure 5: "if e ∈ E then return ∅ else E' := E ∪ {e}; R' := R; for each license ..; D := ∅; for each grant ..; return D".
  unfoldable pub auth2 : (ℕ → List ℕ → Bool) → ℕ → List ℕ → List Condition
  auth2 query e E =
      let E' = e ∷ E in
      let R' = trusted_in M ++ allowed M (λ e'. query e' E') (licences_in M C) in
      let D = conditions M.N R' e in
      cond (some (eqb e) E) [] D

  -- Figure 4: "D := Auth2(e, L, R, E); if Holds2(d, L, ∅) = true for a condition d ∈ D then return true else return false".
  unfoldable pub query2 : (ℕ → List ℕ → Bool) → (Said → List Said → Bool) → ℕ → List ℕ → Bool
  query2 query said e E = some (λ d. holds2 said d []) (auth2 query e E)
