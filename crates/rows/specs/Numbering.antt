-- Document 01: "A new grant gets the lowest number not given, inner grants before the one that holds them, left to right. A
-- number is kept for the life of the book." N is the list of the grants numbered, in order; a grant's number is its place.
use Rattle.std.specs.Prelude.{ℕ, suc, Bool, cond, List, [], ◌∷◌, ◌++◌, length, ltb}
use Rattle.rows.specs.Written.{Grant, Conds, Concl, Right, grant, none, also, property, perm, issue, issue_any, run, export, same_written}

-- A grant's place in N, from 0; N's length where it is not there. What is looked up and what is numbered is in canonical form
-- (document 02, 3), and such grants are the same when their bytes are.
unfoldable pub place : Grant → List Grant → ℕ
place g [] = 0
place g (h ∷ N) = cond (same_written g h) 0 (suc (place g N))

unfoldable pub has : Grant → List Grant → Bool
has g N = ltb (place g N) (length N)

-- N with g at its end, where g is new
unfoldable pub add : Grant → List Grant → List Grant
add g N = cond (has g N) N (N ++ (g ∷ []))

-- N with the new grants of one that is numbered
unfoldable mutual
  pub number : Grant → List Grant → List Grant
  number (grant prins res cs c) N = add (grant prins res cs c) (number_concl c (number_conds cs N))

  pub number_conds : Conds → List Grant → List Grant
  number_conds none N = N
  number_conds (also p c cs) N = number_conds cs (number_concl c N)

  pub number_concl : Concl → List Grant → List Grant
  number_concl (property k p) N = N
  number_concl (perm p r) N = number_right r N

  pub number_right : Right → List Grant → List Grant
  number_right (issue g) N = number g N
  number_right issue_any N = N
  number_right (run n) N = N
  number_right (export n) N = N
