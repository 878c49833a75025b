-- The bytes from a place on, and the form that is written from them.
use Prim.Native.Nat.{ℕ, ◌-◌, min}
use mathlib.Core.List.{List}
use mathlib.Core.Bool.{Bool}
use mathlib.Core.Path.{◌≡◌, sym, ◌∙◌, ap}
use native.Mathlib.Omega.{arith}
use native.Mathlib.Decide.{ℕ_discrete}
use lib.ListN.{length, take, drop, replicate, length-drop, drop_of_length-le}
use lib.Seq.{take_all}
use Rattle.sorts.specs.Numbers.{depths}
use Rattle.canon.specs.Most.{most_grant, most_concl}
use Rattle.canonwrite.specs.Answers.{Answers}
use Rattle.canonwrite.specs.Buffer.{put_concl, put_grant}
use Rattle.std.specs.Prelude.{Option}
use Rattle.canonwrite.specs.declared.Place.{Place}
use Rattle.canonread.specs.Inner.Again.{form_bytes, concl_bytes, holds_grant}
use Rattle.canonread.proofs.Blank.{form_is, concl_form_is}

-- what stands from a place on, or from the end where the place is beyond it
pub rest_from : (s : List ℕ) (at m : ℕ) → m ≡ min at (length s) → take (length s - m) (drop m s) ≡ drop at s
rest_from s at m e = go (ℕ_discrete m at)
  where
    whole : take (length s - m) (drop m s) ≡ drop m s
    whole = take_all (length s - m) (drop m s) (omega (arith, length-drop m s))

    go : Dec (m ≡ at) → take (length s - m) (drop m s) ≡ drop at s
    go (yes d) = whole ∙ ap (λ (k : ℕ). drop k s) d
    go (no d) = whole ∙ drop_of_length-le s {i = m} (omega (arith, e)) ∙ sym (drop_of_length-le s {i = at} (omega (arith, e)))

module _ (s : List ℕ) (at m : ℕ) (e : m ≡ min at (length s)) where
  abbrev rest : List ℕ
  rest = take (length s - m) (drop m s)

  -- what the code asks of these bytes is told of the bytes from the place on
  pub told : {b h : Bool} → b ≡ holds_grant rest → b ≡ h → holds_grant (drop at s) ≡ h
  told x y = ap holds_grant (sym (rest_from s at m e)) ∙ sym x ∙ y

  pub grant_form : {after : List ℕ} (r : Option Place) → Answers most_grant (put_grant depths rest 0 (replicate most_grant 0) 0) (replicate most_grant 0) after r → after ≡ form_bytes (drop at s)
  grant_form {after} r a = form_is rest after r a ∙ ap form_bytes (rest_from s at m e)

  pub concl_form : {after : List ℕ} (r : Option Place) → Answers most_concl (put_concl (put_grant depths rest) rest 0 (replicate most_concl 0) 0) (replicate most_concl 0) after r → after ≡ concl_bytes (drop at s)
  concl_form {after} r a = concl_form_is rest after r a ∙ ap concl_bytes (rest_from s at m e)
