-- One step of the one pass: the code goes on, or stops, as the reader does.
use Prim.Native.Nat.{ℕ, zero, suc, ◌+◌, ◌-◌, ◌<◌}
use mathlib.Core.Path.{◌≡◌, refl, sym, ap, ◌∙◌}
use mathlib.Core.List.{List}
use native.Mathlib.Numerals.{sub-one}
use native.Mathlib.Omega.{arith}
use lib.ListN.{set}
use Rattle.std.specs.Prelude.{Result, Ok, Err}
use Rattle.std.specs.Result.{IsErrAnd}
use Rattle.std.proofs.lemmas.Result.{err_from_is_err_and}
use Rattle.sorts.specs.declared.Cond.{Cond}
use Rattle.sorts.specs.declared.GrantNo.{GrantNo}
use Rattle.sorts.specs.declared.Refusal.{Refusal}
use Rattle.rows.specs.declared.Numbering.{Numbering}
use Rattle.frames.specs.declared.ranges.Scope.{Scope}
use Rattle.frames.specs.declared.ranges.Cursor.{Cursor}
use Rattle.frames.specs.Bytes.{Outcome, got, refused, as_read, principal}
use Rattle.frames.proofs.ranges.Answers.{was_got, was_refused}
use Rattle.grants.specs.Inner.OnePass.{Numbered, Matches, over, onward, num_grant, num_with, num_conds, num_concl}

-- what numbers nothing
pub plain : {A : Type 0} {c : Cursor} {reader : List ℕ → ℕ → Outcome A} {q : Result (A × Cursor) Refusal} {t : Numbering} → q ≡ as_read c reader → Matches c (λ s at. over t (reader s at)) q t
plain e = record { value = e; numbering = refl }

-- To read from c on by f is to read from d on, over the same bytes, by g.
pub record GoesOn {A : Type 0} (c : Cursor) (f : List ℕ → ℕ → Numbered A) (d : Cursor) (g : List ℕ → ℕ → Numbered A) : Type 0 where
  pub bytes : d.bytes ≡ c.bytes
  pub same : f c.bytes.now c.at ≡ g c.bytes.now d.at

module _ {A : Type 0} {c d : Cursor} {f g : List ℕ → ℕ → Numbered A} (x : GoesOn c f d g) where
  pub along : {r : Result (A × Cursor) Refusal} {t : Numbering} → Matches d g r t → Matches c f r t
  along y = record { value = rw x.same (rw x.bytes at y.value); numbering = rw x.same (rw x.bytes at y.numbering) }

  pub further : {e : Cursor} {h : List ℕ → ℕ → Numbered A} → GoesOn d g e h → GoesOn c f e h
  further y = record { bytes = y.bytes ∙ x.bytes; same = x.same ∙ (rw x.bytes at y.same) }

module _ {A B : Type 0} (R : Numbered A) (f : A → ℕ → Numbering → Numbered B) where
  pub at_got : {a : A} {n : ℕ} → R.out ≡ got a n → onward R f ≡ f a n R.numbering
  unfolding onward
  at_got e = rw e

  pub at_refused : {k : Refusal} → R.out ≡ refused k → onward R f ≡ over R.numbering (refused k)
  unfolding onward
  at_refused e = rw e

module _ {A B : Type 0} {c : Cursor} (first : List ℕ → ℕ → Numbered A) (f : List ℕ → A → ℕ → Numbering → Numbered B) {q : Result (A × Cursor) Refusal} {t : Numbering} where
  -- the code goes on from the cursor after what was read
  pub on_got : {a : A} {d : Cursor} → Matches c first q t → q ≡ Ok (a, d) → GoesOn c (λ s at. onward (first s at) (f s)) d (λ s at. f s a at t)
  on_got {a} {d} x e =
      let w = was_got c _ x.value e in
      record { bytes = w.bytes; same = at_got (first c.bytes.now c.at) (f c.bytes.now) w.found ∙ ap (f c.bytes.now a d.at) (sym x.numbering) }

  pub goes : {a : A} {d : Cursor} {r : Result (B × Cursor) Refusal} {u : Numbering} → Matches c first q t → q ≡ Ok (a, d) → Matches d (λ s at. f s a at t) r u →
      Matches c (λ s at. onward (first s at) (f s)) r u
  goes x e y = along (on_got x e) y

  pub stops : {k : Refusal} {r : Result (B × Cursor) Refusal} → Matches c first q t → q ≡ Err k → IsErrAnd r (λ y. y ≡ k) → Matches c (λ s at. onward (first s at) (f s)) r t
  stops {r = r} x e y =
      let p = err_from_is_err_and r y in
      let g = at_refused (first c.bytes.now c.at) (f c.bytes.now) (was_refused c _ x.value e) in
      record { value = rw g (rw (p.1, p.2)); numbering = rw g x.numbering }

-- where the depth left, or the number of conditions left, is not 0

pub grant_step : (left : ℕ) (c : Cursor) (t : Numbering) → (left ≡ 0 → ⊥) → GoesOn c (λ s at. num_grant left s at t) c (λ s at. num_with (num_grant (left - 1) s) s at t)
unfolding num_grant
grant_step zero c t f = absurd (f refl)
grant_step (suc n) c t f = record { bytes = refl; same = ap (λ (k : ℕ). num_with (num_grant k c.bytes.now) c.bytes.now c.at t) (sym (sub-one (suc n))) }

abbrev pub conds_step : (ℕ → Numbering → Numbered GrantNo) → Scope → List ℕ → ℕ → ℕ → ℕ → List Cond → Numbering → Numbered (List Cond)
conds_step inner v s k at i cs t =
    onward (over t (principal v s at)) (λ p n1 u.
    onward (num_concl inner v s n1 u) (λ c n2 w.
    num_conds inner v s k n2 (i + 1) (set cs i (record { who = record { 0 = p }; what = c })) w))

pub conds_step_lem : (inner : List ℕ → ℕ → Numbering → Numbered GrantNo) (v : Scope) (c : Cursor) (k i : ℕ) (cs : List Cond) (t : Numbering) → 0 < k →
    GoesOn c (λ s at. num_conds (inner s) v s k at i cs t) c (λ s at. conds_step (inner s) v s (k - 1) at i cs t)
unfolding num_conds
conds_step_lem inner v c zero i cs t f = absurd (omega arith)
conds_step_lem inner v c (suc n) i cs t f = record { bytes = refl; same = ap (λ (k : ℕ). conds_step (inner c.bytes.now) v c.bytes.now k c.at i cs t) (sym (sub-one (suc n))) }
