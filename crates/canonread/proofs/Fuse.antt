-- Read as written and again in its form, a grant is read and numbered as its form is.
use Prim.Native.Nat.{ℕ, ◌<◌}
use mathlib.Core.List.{List}
use mathlib.Core.Bool.{Bool, true, false, cond}
use mathlib.Core.Path.{◌≡◌, refl, sym, ap, subst, ◌∙◌}
use native.Mathlib.Omega.{arith}
use lib.ListN.{length, get_or, take, drop}
use lib.Seq.{get_or-take}
use Rattle.sorts.specs.Numbers.{depths}
use Rattle.sorts.specs.declared.GrantNo.{GrantNo}
use Rattle.sorts.specs.declared.Concl as rc
use Rattle.rows.specs.Written.{Grant, Concl, property, perm, issue, issue_any, run, export, written, written_concl}
use Rattle.rows.proofs.Bytes.{no_true}
use Rattle.grants.proofs.Exact.{concl_exact}
use Rattle.rows.specs.declared.Numbering.{Numbering}
use Rattle.rows.proofs.Entering.{Good}
use Rattle.frames.specs.declared.ranges.Scope.{Scope}
use Rattle.frames.specs.Bytes.{Outcome, got, refused, and_then}
use Rattle.grants.specs.Grants.{read_grant, read_concl}
use Rattle.grants.specs.Inner.OnePass.{Numbered, over, onward, num_grant}
use Rattle.grants.proofs.Steps.{at_got, at_refused}
use Rattle.grants.proofs.Fuse.{FusedG, FuseG, FusedC, FuseC, fuse_grant, fuse_concl}
use Rattle.canon.specs.Canon.{canon, canon_concl}
use Rattle.canonread.specs.Inner.Again.{form_bytes, concl_bytes, again, num_form, holds_grant, read_concl_whole, num_concl_form}
use Rattle.canonread.proofs.Blank.{form_bytes_read, concl_bytes_read}

-- another place after it leaves what was read
again_fused : (N : List Grant) (g : Grant) (m : ℕ) (R : Numbered GrantNo) → FusedG N g m R → (n : ℕ) → FusedG N g n (onward R (λ no k w. over w (got no n)))
again_fused N g m R u n = rw (at_got R _ u.out) (record { no = u.no; out = refl; good = u.good; names = u.names })

concl_again_fused : (N : List Grant) (c : Concl) (m : ℕ) (R : Numbered rc.Concl) → FusedC N c m R → (n : ℕ) → FusedC N c n (onward R (λ x k w. over w (got x n)))
concl_again_fused N c m R u n = rw (at_got R _ u.out) (record { row = u.row; out = refl; good = u.good; names = u.names })

-- A conclusion that holds no grant is its own form, and its bytes tell it.
abbrev Plain : Concl → Type 0
Plain (property k p) = Unit {0}
Plain (perm p (issue g)) = ⊥
Plain (perm p issue_any) = Unit {0}
Plain (perm p (run n)) = Unit {0}
Plain (perm p (export n)) = Unit {0}

plain_own : (c : Concl) → Plain c → canon_concl c ≡ c
unfolding canon
plain_own (property k p) h = refl
plain_own (perm p (issue g)) h = absurd h
plain_own (perm p issue_any) h = refl
plain_own (perm p (run n)) h = refl
plain_own (perm p (export n)) h = refl

opens : (l w : List ℕ) → take (length w) l ≡ w → (i : ℕ) → i < length w → get_or l i 0 ≡ get_or w i 0
opens l w e i h = sym (get_or-take (length w) l i 0 h) ∙ ap (λ (x : List ℕ). get_or x i 0) e

holds_told_lem : (l : List ℕ) (p : ℕ) (g : Grant) → take (length (written_concl (perm p (issue g)))) l ≡ written_concl (perm p (issue g)) → holds_grant l ≡ true
unfolding holds_grant written
holds_told_lem l p g e = rw (opens l (written_concl (perm p (issue g))) e 0 (omega arith), opens l (written_concl (perm p (issue g))) e 2 (omega arith))

plain : (l : List ℕ) (c : Concl) → take (length (written_concl c)) l ≡ written_concl c → holds_grant l ≡ false → Plain c
plain l (property k p) e h = tt
plain l (perm p (issue g)) e h = absurd (no_true (sym h ∙ holds_told_lem l p g e))
plain l (perm p issue_any) e h = tt
plain l (perm p (run n)) e h = tt
plain l (perm p (export n)) e h = tt

module _ (s : List ℕ) (at : ℕ) (t : Numbering) (N : List Grant) (G : Good t N) where
  pub fuse_form : FuseG N (and_then (read_grant depths s at) (λ g n. got (canon g) n)) (num_form s at t)
  unfolding num_form
  fuse_form = go (read_grant depths s at) refl (num_grant depths s at t) (fuse_grant depths (omega arith) s at t N G)
    where
      form : Numbering → Numbered GrantNo
      form = num_grant depths (form_bytes (drop at s)) 0

      go : (o : Outcome Grant) → read_grant depths s at ≡ o → (R : Numbered GrantNo) → FuseG N o R → FuseG N (and_then o (λ g n. got (canon g) n)) (again R.out form t)
      go (refused k) e R f = rw (at_refused (over t R.out) _ f) refl
      go (got g n) e R u =
          let f = subst (λ (o : Outcome Grant). FuseG N o (form t)) (form_bytes_read s at g n e) (fuse_grant depths (omega arith) (form_bytes (drop at s)) 0 t N G) in
          rw (at_got (over t R.out) _ u.out) (again_fused N (canon g) _ (form t) f n)

  pub fuse_concl_form : (v : Scope) → FuseC N (and_then (read_concl (read_grant depths s) v s at) (λ c n. got (canon_concl c) n)) (num_concl_form v s at t)
  unfolding num_concl_form
  fuse_concl_form v = go (read_concl (read_grant depths s) v s at) refl (read_concl_whole v s at t) (fused s at) (holds_grant (drop at s)) refl
    where
      fused : (l : List ℕ) (i : ℕ) → FuseC N (read_concl (read_grant depths l) v l i) (read_concl_whole v l i t)
      fused l i = fuse_concl (read_grant depths l) (num_grant depths l) (fuse_grant depths (omega arith) l) v l i t N G

      form : Numbering → Numbered rc.Concl
      form = read_concl_whole v (concl_bytes (drop at s)) 0

      -- read again, or as it is
      go : (o : Outcome Concl) → read_concl (read_grant depths s) v s at ≡ o → (R : Numbered rc.Concl) → FuseC N o R → (b : Bool) → holds_grant (drop at s) ≡ b →
          FuseC N (and_then o (λ c n. got (canon_concl c) n)) (cond b (again R.out form t) R)
      go (refused k) e R f true h = rw (at_refused (over t R.out) _ f) refl
      go (refused k) e R f false h = f
      go (got c n) e R u true h =
          let f = subst (λ (o : Outcome Concl). FuseC N o (form t)) (concl_bytes_read s at v c n e) (fused (concl_bytes (drop at s)) 0) in
          rw (at_got (over t R.out) _ u.out) (concl_again_fused N (canon_concl c) _ (form t) f n)
      go (got c n) e R u false h = subst (λ (d : Concl). FusedC N d n R) (sym (plain_own c (plain (drop at s) c (concl_exact depths s at v c n e).2 h))) u
