-- The form written into a blank buffer.
use Prim.Native.Nat.{ℕ, ◌≤◌}
use mathlib.Core.List.{List}
use mathlib.Core.Path.{◌≡◌, refl, ap}
use native.Mathlib.Omega.{arith}
use lib.ListN.{length, drop, replicate, length-replicate}
use Rattle.sorts.specs.Numbers.{depths}
use Rattle.rows.specs.Written.{Grant, Concl, written, written_concl}
use Rattle.frames.specs.declared.ranges.Scope.{Scope}
use Rattle.frames.specs.Bytes.{got}
use Rattle.grants.specs.Grants.{read_grant, read_concl}
use Rattle.canon.specs.Canon.{canon, canon_concl}
use Rattle.std.specs.Prelude.{Option, Some, None}
use Rattle.canonwrite.specs.declared.Place.{Place}
use Rattle.canon.specs.Most.{most_grant, most_concl}
use Rattle.canonwrite.specs.Answers.{Answers}
use Rattle.canonwrite.specs.Buffer.{Spot, put_concl, put_grant}
use Rattle.canonread.specs.Inner.Again.{form_bytes, concl_bytes}
use Rattle.canonread.proofs.Read.{form_read_back, grant_from, concl_from, concl_again_lem}

-- a buffer with room holds what the model has
answers_out : (most : ℕ) (m : Spot) (before after : List ℕ) (r : Option Place) → Answers most m before after r → most ≤ length before → after ≡ m.out
answers_out most m before after None a h = absurd (omega (arith, a.0))
answers_out most m before after (Some p) a h = ap (λ (r : Spot). r.out) a.1

enough : (n : ℕ) → n ≤ length {A = ℕ} (replicate n 0)
enough n = omega (arith, length-replicate {A = ℕ} n 0)

pub form_is : (s after : List ℕ) (r : Option Place) → Answers most_grant (put_grant depths s 0 (replicate most_grant 0) 0) (replicate most_grant 0) after r → after ≡ form_bytes s
unfolding form_bytes
form_is s after r a = answers_out most_grant (put_grant depths s 0 (replicate most_grant 0) 0) (replicate most_grant 0) after r a (enough most_grant)

-- over the form's bytes of a grant that was read at a place, the reader reads the grant in form
pub form_bytes_read : (s : List ℕ) (at : ℕ) (g : Grant) (n : ℕ) → read_grant depths s at ≡ got g n → read_grant depths (form_bytes (drop at s)) 0 ≡ got (canon g) (put_grant depths (drop at s) 0 (replicate most_grant 0) 0).to
unfolding form_bytes
form_bytes_read s at g n e = form_read_back (drop at s) 0 (replicate most_grant 0) g (length (written g)) (grant_from depths s at g n e) (enough most_grant)

pub concl_form_is : (s after : List ℕ) (r : Option Place) → Answers most_concl (put_concl (put_grant depths s) s 0 (replicate most_concl 0) 0) (replicate most_concl 0) after r → after ≡ concl_bytes s
unfolding concl_bytes
concl_form_is s after r a = answers_out most_concl (put_concl (put_grant depths s) s 0 (replicate most_concl 0) 0) (replicate most_concl 0) after r a (enough most_concl)

pub concl_bytes_read : (s : List ℕ) (at : ℕ) (v : Scope) (c : Concl) (n : ℕ) → read_concl (read_grant depths s) v s at ≡ got c n
    → read_concl (read_grant depths (concl_bytes (drop at s))) v (concl_bytes (drop at s)) 0 ≡ got (canon_concl c) (put_concl (put_grant depths (drop at s)) (drop at s) 0 (replicate most_concl 0) 0).to
unfolding concl_bytes
concl_bytes_read s at v c n e =
    let l = drop at s in
    let m = put_concl (put_grant depths l) l 0 (replicate most_concl 0) 0 in
    concl_again_lem l (replicate most_concl 0) m.out m.at m.to v c (length (written_concl c)) (concl_from depths s at v c n e) (enough most_concl, refl)
