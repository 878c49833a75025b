-- What the panel promises, from what its parts say.
use Prim.Native.Nat.{ℕ, ◌<◌}
use mathlib.Core.Path.{◌≡◌, refl, sym, ap, ◌∙◌}
use mathlib.Core.List.{List}
use mathlib.Core.Logic.{inl, inr}
use native.Mathlib.Omega.{arith}
use Rattle.std.specs.Prelude.{Ok, Err}
use Rattle.sorts.specs.Numbers.{number_of, speakers}
use Rattle.sorts.specs.declared.Refusal.{Refusal}
use Rattle.bookform.specs.declared.Book.{Book}
use Rattle.bookform.specs.declared.answer.Answer.{Answer}
use Rattle.bookform.specs.declared.answer.Answer.TheVariants.{Permitted, Open, NotPermitted, Changed, Previewed, Refused}
use Rattle.bookform.specs.Books.{BookForm}
use Rattle.bookform.specs.Answers.{answer_at}
use Rattle.panel.specs.declared.PackRight.{PackRight}
use Rattle.panel.specs.declared.PackRight.TheVariants.{Run, Export}
use Rattle.panel.specs.Panels.{conclusion_of, Packs, PanelOf}
use Rattle.panel.specs.Inner.Words.{one_for, Admitted, admitted, unformed, above, WordOf}
use Rattle.panel.proofs.Words.{word_bit}
use Rattle.panel.proofs.Asked.{permitted_at}

one_permitted : (a : Answer) → one_for a ≡ 1 → a ≡ Permitted
one_permitted Permitted e = refl
one_permitted Open e = absurd (omega arith)
one_permitted NotPermitted e = absurd (omega arith)
one_permitted (Changed c) e = absurd (omega arith)
one_permitted (Previewed c) e = absurd (omega arith)
one_permitted (Refused k) e = absurd (omega arith)

module _ (b : Book) (m k : List ℕ) (p : ℕ) where
  -- a word made from the answers shows what is permitted
  packs_shown : BookForm b m k → p < speakers → (x : PackRight) (w : ℕ) → WordOf m k p x w → Packs b m k p x w
  packs_shown f l x w W =
      record {
        bits = λ n r. let q = permitted_at p x n l r b m k f in (
          λ e. q.1 (one_permitted (answer_at m k (number_of (conclusion_of p x n))) (sym (word_bit m k p x w W n r) ∙ e)),
          λ h. word_bit m k p x w W n r ∙ ap one_for (q.0 h),
        );
        size = W.size;
      }

  pub admitted_form : (u : Unit {0}) → Admitted b m k p (Ok u) → BookForm b m k × (p < speakers)
  admitted_form _ (admitted f l) = (f, l)

  pub panel_shown : BookForm b m k → p < speakers → (w v : ℕ) → WordOf m k p Run w → WordOf m k p Export v → PanelOf b m k p (Ok (record { run = w; export = v }))
  panel_shown f l w v W X =
      record {
        decided = inl f;
        unformed = λ g. absurd (g f);
        above = λ g r. absurd (omega arith);
        shown = λ g r. (record { run = w; export = v }, refl, packs_shown f r Run w W, packs_shown f r Export v X);
      }

  -- what is refused is so for one of the two reasons
  pub panel_refused : (j : Refusal) → Admitted b m k p (Err j) → PanelOf b m k p (Err j)
  panel_refused _ (unformed g) =
      record {
        decided = inr g;
        unformed = λ h. refl;
        above = λ f l. absurd (g f);
        shown = λ f l. absurd (g f);
      }
  panel_refused _ (above f l) =
      record {
        decided = inl f;
        unformed = λ g. absurd (g f);
        above = λ g h. refl;
        shown = λ g h. absurd (omega arith);
      }
