-- What a closure makes of a number that was found.
use Prim.Native.Nat.{ℕ}
use mathlib.Core.List.{List}
use mathlib.Core.Path.{◌≡◌, ap, ◌∙◌}
use Rattle.std.specs.Prelude.{Result, Ok, Err}
use Rattle.std.specs.Result.{MatchResult, IsOkAnd}
use Rattle.sorts.specs.declared.GrantNo.{GrantNo}
use Rattle.sorts.specs.declared.Refusal.{Refusal}
use Rattle.rows.specs.declared.Table.{Table}
use Rattle.rows.specs.declared.Numbering.{Numbering}
use Rattle.frames.specs.declared.ranges.Cursor.{Cursor}
use Rattle.frames.proofs.ranges.Answers.{was_got}
use Rattle.grants.specs.Inner.OnePass.{Numbered, Matches}
use Rattle.reader.specs.declared.contents.Request.{Request}
use Rattle.reader.specs.declared.contents.Reading.{Reading}
use Rattle.reader.specs.Inner.Numbered.{Makes, asked, known, revision_of}

module _ (answers : GrantNo → Request → Type 0) (q : GrantNo → Request) (makes : Makes answers q) where
  pub asked_is : (a : Result GrantNo Refusal) (r : Result Request Refusal) → MatchResult a (λ g. IsOkAnd r (answers g)) (λ k. r ≡ Err k) → r ≡ asked q a
  asked_is (Ok g) (Ok x) h = ap Ok (makes g x h)
  asked_is (Ok g) (Err k) h = absurd h
  asked_is (Err k) r h = h

-- a grant that was read to be revised
pub revised_is : (q : GrantNo → Request) (t : Table) (c : Cursor) (reader : List ℕ → ℕ → Numbered GrantNo) (r : Result (GrantNo × Cursor) Refusal) (u : Numbering) (g : GrantNo) (d : Cursor) (f : Result Request Refusal) →
    Matches c reader r u → r ≡ Ok (g, d) → f ≡ asked q (known t.count u.full g) → ◌≡◌ {A = Result Reading Refusal} (Ok (record { table = t; found = f; used = d.at })) (revision_of q t (reader c.bytes.now c.at))
revised_is q t c reader r u g d f m e h =
    rw (was_got c _ m.value e).found (ap (λ (x : Result Request Refusal). Ok (record { table = t; found = x; used = d.at })) (h ∙ ap (λ (w : Numbering). asked q (known t.count w.full g)) m.numbering))
