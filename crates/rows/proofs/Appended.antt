-- Numbering only appends: a number is kept for the life of the book.
use Prim.Native.Nat.{◌+◌, ◌≤◌}
use mathlib.Core.List.{List, [], ◌∷◌, ◌++◌, append_assoc, append-nil}
use mathlib.Core.Bool.{Bool, true, false, cond}
use mathlib.Core.Path.{◌≡◌, refl, sym, ap, ◌∙◌}
use native.Mathlib.Omega.{arith}
use lib.ListN.{length, length-append}
use Rattle.rows.specs.Written.{Grant, Conds, Concl, Right, grant, none, also, property, perm, issue, issue_any, run, export}
use Rattle.rows.specs.Numbering.{has, add, number, number_conds, number_concl, number_right}

-- N' is N and more
pub record Ext (N N' : List Grant) : Type 0 where
  pub more : List Grant
  pub is : N' ≡ N ++ more

pub ext_refl : (N : List Grant) → Ext N N
ext_refl N = record { more = []; is = sym (append-nil N) }

pub ext_trans : {N N' N'' : List Grant} → Ext N N' → Ext N' N'' → Ext N N''
ext_trans {N} {N'} {N''} a b = record { more = a.more ++ b.more; is = b.is ∙ ap (λ (l : List Grant). l ++ b.more) a.is ∙ append_assoc N a.more b.more }

pub ext_length : {N N' : List Grant} → Ext N N' → length N ≤ length N'
ext_length {N} {N'} a = let h : length N' ≡ length N + length a.more = ap length a.is ∙ length-append N a.more in omega arith

pub add_ext : (g : Grant) (N : List Grant) → Ext N (add g N)
unfolding add
add_ext g N = go (has g N)
  where
    go : (b : Bool) → Ext N (cond b N (N ++ (g ∷ [])))
    go true = ext_refl N
    go false = record { more = g ∷ []; is = refl }

-- numbering only appends
mutual
  unfolding number

  pub number_ext : (g : Grant) (N : List Grant) → Ext N (number g N)
  number_ext (grant v r cs c) N = ext_trans (conds_more cs N) (ext_trans (concl_more c (number_conds cs N)) (add_ext (grant v r cs c) (number_concl c (number_conds cs N))))

  pub conds_more : (cs : Conds) (N : List Grant) → Ext N (number_conds cs N)
  conds_more none N = ext_refl N
  conds_more (also p c cs) N = ext_trans (concl_more c N) (conds_more cs (number_concl c N))

  pub concl_more : (c : Concl) (N : List Grant) → Ext N (number_concl c N)
  concl_more (property k p) N = ext_refl N
  concl_more (perm p x) N = right_more x N

  right_more : (x : Right) (N : List Grant) → Ext N (number_right x N)
  right_more (issue g) N = number_ext g N
  right_more issue_any N = ext_refl N
  right_more (run n) N = ext_refl N
  right_more (export n) N = ext_refl N
