-- Document 01, "How a grant is written": "a grant holds conclusions and a conclusion may hold a grant".
-- A principal stands as its byte: 0 to 15, or 128 or 129 for the first or second variable. A pack likewise: 0 to 31, or 128.
use Rattle.std.specs.Prelude.{ℕ, suc, Bool, true, false, ◌&&◌, List, [], ◌∷◌, ◌++◌, eqb}

mutual
  -- how many principal variables, the resource variable (0 none, 1 over grants, 2 over packs), the conditions, and the
  -- conclusion granted
  pub data Grant : Type 0 where
    grant : ℕ → ℕ → Conds → Concl → Grant

  -- "each condition: a principal (who must have said it) and a conclusion"
  pub data Conds : Type 0 where
    none : Conds
    also : ℕ → Concl → Conds → Conds

  -- Property(k, p), or a principal's right
  pub data Concl : Type 0 where
    property : ℕ → ℕ → Concl
    perm : ℕ → Right → Concl

  -- issue of a whole grant or of the grant variable; run and export of a pack or of the pack variable
  pub data Right : Type 0 where
    issue : Grant → Right
    issue_any : Right
    run : ℕ → Right
    export : ℕ → Right

abbrev pub how_many : Conds → ℕ
how_many none = 0
how_many (also p c cs) = suc (how_many cs)

-- "A conclusion opens with a kind byte."
abbrev pub kind_of : Right → ℕ
kind_of (issue g) = 1
kind_of issue_any = 1
kind_of (run n) = 2
kind_of (export n) = 3

-- The bytes of a grant, of its conditions, of a conclusion, and of what follows a right's principal.
unfoldable mutual
  pub written : Grant → List ℕ
  written (grant prins res cs c) = prins ∷ res ∷ how_many cs ∷ (written_conds cs ++ written_concl c)

  pub written_conds : Conds → List ℕ
  written_conds none = []
  written_conds (also p c cs) = p ∷ (written_concl c ++ written_conds cs)

  pub written_concl : Concl → List ℕ
  written_concl (property k p) = 0 ∷ k ∷ p ∷ []
  written_concl (perm p r) = kind_of r ∷ p ∷ written_right r

  pub written_right : Right → List ℕ
  written_right (issue g) = 0 ∷ written g
  written_right issue_any = 1 ∷ []
  written_right (run n) = n ∷ []
  written_right (export n) = n ∷ []

unfoldable pub same_bytes : List ℕ → List ℕ → Bool
same_bytes [] [] = true
same_bytes [] (b ∷ ys) = false
same_bytes (a ∷ xs) [] = false
same_bytes (a ∷ xs) (b ∷ ys) = eqb a b && same_bytes xs ys

-- Whether two grants are written with the same bytes. Of grants in canonical form this is document 02's sameness.
unfoldable pub same_written : Grant → Grant → Bool
same_written g h = same_bytes (written g) (written h)
