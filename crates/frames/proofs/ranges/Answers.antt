-- A reader's answer tells what the definition found.
use mathlib.Core.Path.{◌≡◌, sym, ◌∙◌}
use Rattle.std.specs.Prelude.{Result, Ok, Err}
use Rattle.sorts.specs.declared.Refusal.{Refusal}
use Rattle.frames.specs.declared.ranges.Cursor.{Cursor}
use Rattle.frames.specs.Bytes.{Outcome, got, refused, with_cursor}

module _ {A : Type 0} where
  -- a was found from the cursor c on, with the cursor d after it
  pub record ReadOn (c : Cursor) (o : Outcome A) (a : A) (d : Cursor) : Type 0 where
    pub found : o ≡ got a d.at
    pub bytes : d.bytes ≡ c.bytes

  pub was_got : (c : Cursor) (o : Outcome A) {q : Result (A × Cursor) Refusal} {a : A} {d : Cursor} → q ≡ with_cursor c o → q ≡ Ok (a, d) → ReadOn c o a d
  was_got c (got b m) {a = a} {d = d} e f =
      let h : ◌≡◌ {A = Result (A × Cursor) Refusal} (Ok (b, record { bytes = c.bytes; at = m })) (Ok (a, d)) = sym e ∙ f in
      let p : ◌≡◌ {A = A × Cursor} (b, record { bytes = c.bytes; at = m }) (a, d) = cc in
      record { found = λ i. got (p i).0 (p i).1.at; bytes = sym (λ i. (p i).1.bytes) }
  was_got c (refused k) e f = cc

  pub was_refused : (c : Cursor) (o : Outcome A) {q : Result (A × Cursor) Refusal} {k : Refusal} → q ≡ with_cursor c o → q ≡ Err k → o ≡ refused k
  was_refused c (got b m) e d = cc
  was_refused c (refused j) e d = cc
