-- Read as written, and then in its form.
use Prim.Native.Nat.{ℕ}
use mathlib.Core.List.{List}
use mathlib.Core.Bool.{true}
use mathlib.Core.Path.{◌≡◌, refl, sym, ap, ◌∙◌}
use lib.ListN.{drop}
use Rattle.std.specs.Prelude.{Result, Ok, Err}
use Rattle.std.specs.Result.{IsErrAnd}
use Rattle.std.proofs.lemmas.Result.{err_from_is_err_and}
use Rattle.sorts.specs.declared.Refusal.{Refusal}
use Rattle.rows.specs.declared.Numbering.{Numbering}
use Rattle.frames.specs.declared.ranges.Scope.{Scope}
use Rattle.frames.specs.declared.ranges.Cursor.{Cursor}
use Rattle.frames.specs.Bytes.{Outcome, got, as_read}
use Rattle.frames.proofs.ranges.Answers.{was_got, was_refused}
use Rattle.grants.specs.Inner.OnePass.{Numbered, Matches, over, onward}
use Rattle.grants.proofs.Steps.{GoesOn, at_got, at_refused}
use Rattle.canonread.specs.Inner.Again.{again, concl_bytes, holds_grant, num_concl_form, read_concl_whole}

-- From the cursor c on it is read as written, and from x on its form.
module _ {A : Type 0} (c x : Cursor) (written : List ℕ → ℕ → Outcome A) (form : List ℕ → ℕ → Numbering → Numbered A) {reader : List ℕ → ℕ → Numbered A} {t u : Numbering} {q p : Result (A × Cursor) Refusal} {a : A} {d : Cursor}
    (e : q ≡ as_read c written) (f : q ≡ Ok (a, d)) (m : Matches x reader p u) (same : reader x.bytes.now x.at ≡ form c.bytes.now c.at t) where
  form_read : again (written c.bytes.now c.at) (form c.bytes.now c.at) t ≡ onward (reader x.bytes.now x.at) (λ b n w. over w (got b d.at))
  form_read = at_got (over t (written c.bytes.now c.at)) _ (was_got c _ e f).found ∙ ap (λ (R : Numbered A). onward R (λ b n w. over w (got b d.at))) (sym same)

  pub form_goes : {b : A} {y : Cursor} → p ≡ Ok (b, y) → Matches c (λ s at. again (written s at) (form s at) t) (Ok (b, d)) u
  form_goes {b} g =
      let z = form_read ∙ at_got (reader x.bytes.now x.at) _ (was_got x _ m.value g).found in
      let w = (was_got c _ e f).bytes in
      record { value = rw z (λ i. Ok (b, record { bytes = w i; at = d.at })); numbering = rw z m.numbering }

  pub form_stops : {k : Refusal} {r : Result (A × Cursor) Refusal} → p ≡ Err k → IsErrAnd r (λ y. y ≡ k) → Matches c (λ s at. again (written s at) (form s at) t) r u
  form_stops {r = r} g h =
      let z = form_read ∙ at_refused (reader x.bytes.now x.at) _ (was_refused x _ m.value g) in
      let o = err_from_is_err_and r h in
      record { value = rw z (rw (o.1, o.2)); numbering = rw z m.numbering }

-- a conclusion that holds a grant is read twice
pub concl_twice : (v : Scope) (c : Cursor) (t : Numbering) → holds_grant (drop c.at c.bytes.now) ≡ true →
    GoesOn c (λ s at. num_concl_form v s at t) c (λ s at. again (read_concl_whole v s at t).out (read_concl_whole v (concl_bytes (drop at s)) 0) t)
unfolding num_concl_form
concl_twice v c t h = record { bytes = refl; same = rw h refl }
