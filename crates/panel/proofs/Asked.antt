-- The query for a right over a pack: it is read back, the machine asks for its number, and nothing changes by it.
use Prim.Native.Nat.{ℕ, ◌<◌}
use mathlib.Core.Path.{◌≡◌, refl, sym, ap, ◌∙◌}
use mathlib.Core.Bool.{true}
use mathlib.Core.List.{List, [], append-nil}
use mathlib.Core.Logic.{◌↔◌, inl}
use native.Mathlib.Omega.{arith}
use borrow.Author.Tests.{le-leb}
use lib.ListN.{length}
use Rattle.sorts.specs.Numbers.{number_of, speakers, principals, packs, grants, all_marks}
use Rattle.rows.specs.Numbering.{number_concl}
use Rattle.rows.specs.Form.{depth}
use Rattle.rows.specs.Allowed.{AllowedConcl}
use Rattle.frames.specs.Bytes.{Outcome, got}
use Rattle.canon.specs.Canon.{canon}
use Rattle.frames.specs.Frames.{extent}
use Rattle.reader.specs.Contents.{Record, query, canon_record}
use Rattle.reader.specs.Records.{read_record, read_canonical}
use Rattle.reader.specs.Found.{fits}
use Rattle.exact.specs.Writing.{AllowedRecord}
use Rattle.exact.proofs.Exact.{record_read}
use Rattle.exact.proofs.CanonicalRecords.{canonical_of}
use Rattle.bookform.specs.declared.Book.{Book}
use Rattle.bookform.specs.declared.answer.Answer.TheVariants.{Permitted}
use Rattle.bookform.specs.declared.answer.Answered.{Answered}
use Rattle.machine.specs.Machine.{State, Step, asks, act, acted, step}
use Rattle.bookform.specs.Books.{BookForm, Lent}
use Rattle.book.specs.Shows.{Shows}
use Rattle.bookform.specs.Answers.{answer_at}
use Rattle.book.specs.Calls.{answer_of, Called}
use Rattle.bookform.specs.Books.{fresh_marks}
use Rattle.demands.proofs.ClosedBook.{shown}
use Rattle.demands.proofs.Existence.{call_some, blank_preview}
use Rattle.demands.proofs.Shown.{shows_some}
use Rattle.demands.proofs.Unique.{no_choice}
use Rattle.panel.specs.declared.PackRight.{PackRight}
use Rattle.panel.specs.declared.PackRight.TheVariants.{Run, Export}
use Rattle.panel.specs.Panels.{asked, conclusion_of, query_for, IsPermitted}

-- a book in form shows no more grants than there is room for
pub room : (b : Book) (m k : List ℕ) (M : State) → BookForm b m k → Shows b M → fits M.N ≡ true
room b m k M f sh = le-leb (length M.N) grants (omega (arith, (shown b m k M f sh).counted, f.table.count))

module _ (p : ℕ) (x : PackRight) (n : ℕ) where
  module _ (l : p < speakers) (r : n < packs) where
    known : p < principals
    known = omega (arith, l)

    allowed : (y : PackRight) → AllowedRecord (query (asked p y n))
    unfolding AllowedRecord AllowedConcl depth
    allowed Run = ((inl known, inl r), omega arith)
    allowed Export = ((inl known, inl r), omega arith)

    written_back : read_record (query_for p x n) ≡ got (query (asked p x n)) (length (query_for p x n))
    written_back = ap read_record (sym (append-nil (query_for p x n))) ∙ record_read (query (asked p x n)) [] (allowed x)

    -- it holds no grant, and so it is in canonical form
    read_back : read_canonical (query_for p x n) ≡ got (query (asked p x n)) (length (query_for p x n))
    unfolding canon
    read_back = canonical_of (query_for p x n) (query (asked p x n)) (length (query_for p x n)) written_back ∙ own x
      where
        own : (y : PackRight) → ◌≡◌ {A = Outcome Record} (got (canon_record (query (asked p y n))) (length (query_for p x n))) (got (query (asked p y n)) (length (query_for p x n)))
        own Run = refl
        own Export = refl

    -- the machine asks for the number, and stays as it is
    pub step_asks : (M : State) → fits M.N ≡ true → step M (query_for p x n) ≡ record { next = M; says = asks (number_of (conclusion_of p x n)); used = length (query_for p x n) }
    unfolding step act number_concl
    step_asks M e = ap (acted M (extent (query_for p x n))) read_back ∙ go x (length (query_for p x n))
      where
        go : (y : PackRight) (u : ℕ) → act M (query (asked p y n)) u ≡ record { next = M; says = asks (number_of (conclusion_of p y n)); used = u }
        go Run u = rw e
        go Export u = rw e

    module _ (b : Book) (m k : List ℕ) (f : BookForm b m k) where
      -- every call of the query answers from the marks
      pub answered : (v : List ℕ) → length v ≡ all_marks → (a : Answered) (m' k' v' : List ℕ) → Called b m k v (query_for p x n) a m' k' v' → a.answer ≡ answer_at m k (number_of (conclusion_of p x n))
      unfolding answer_of
      answered v e a m' k' v' C =
          let s = shows_some b m k f in
          (C.formed (record { book = f; preview = e }) s.0 s.1).answer ∙
          ap (λ (t : Step). answer_of t.says m k m' v') (step_asks s.0 (room b m k s.0 f s.1))

      -- so it is permitted exactly where that answer is
      pub permitted_at : IsPermitted b m k p x n ↔ (answer_at m k (number_of (conclusion_of p x n)) ≡ Permitted)
      permitted_at = (
        λ h.
            let C = call_some b m k fresh_marks (query_for p x n) (record { book = f; preview = blank_preview }) in
            sym (answered fresh_marks blank_preview _ _ _ _ C) ∙ h fresh_marks blank_preview _ _ _ _ C,
        λ e v l a m' k' v' C. answered v l a m' k' v' C ∙ e,
      )

  -- On a book in form, with a preview buffer as long as the marks, the query has an answer,
  pub asked_some : (b : Book) (m k v : List ℕ) → Lent b m k v → (a : Answered) × (m' : List ℕ) × (k' : List ℕ) × (v' : List ℕ) × Called b m k v (query_for p x n) a m' k' v'
  asked_some b m k v f = (_, _, _, _, call_some b m k v (query_for p x n) f)

  -- and, whatever is lent, one only.
  pub asked_only : (b : Book) (m k v : List ℕ) (a a' : Answered) (m₁ m₂ k₁ k₂ v₁ v₂ : List ℕ) → Called b m k v (query_for p x n) a m₁ k₁ v₁ → Called b m k v (query_for p x n) a' m₂ k₂ v₂ →
      a.answer ≡ a'.answer
  asked_only b m k v a a' m₁ m₂ k₁ k₂ v₁ v₂ C D = ap (λ (r : Answered). r.answer) (no_choice b m k v (query_for p x n) a a' m₁ m₂ k₁ k₂ v₁ v₂ C D).0
