-- The panel of a journal: it tells of the closed sets of the machine that was fed the journal's records, and there is one only. So is
-- there of its preview buffer.
use Prim.Native.Nat.{ℕ, ◌<◌}
use mathlib.Core.Path.{◌≡◌, refl, sym, subst}
use mathlib.Core.List.{List}
use native.Mathlib.Omega.{arith}
use Rattle.std.specs.Prelude.{Result, Ok}
use Rattle.sorts.specs.declared.Refusal.{Refusal}
use Rattle.sorts.specs.Numbers.{speakers}
use Rattle.bookform.specs.declared.Book.{Book}
use Rattle.machine.specs.Machine.{start}
use Rattle.book.specs.Chains.{records, runs}
use Rattle.journal.specs.Journals.{Leaves}
use Rattle.journal.proofs.Calling.{calls_chain}
use Rattle.journal.proofs.Leaving.{leaves_only}
use Rattle.panel.specs.declared.PackRight.TheVariants.{Run, Export}
use Rattle.panel.specs.declared.Panel.{Panel}
use Rattle.panel.specs.Panels.{PanelOf, Told}
use Rattle.panel.proofs.Reached.{panel_reached}
use Rattle.panel.proofs.Unique.{panel_only}
use Rattle.panel_boundary.specs.Crossing.{JournalPanel, over, read, JournalPreview, blank, left}

-- ON THE BOOK THAT A JOURNAL LEAVES the panel of a principal is shown, and both words tell of the closed sets.
pub journal_told : (s : List ℕ) (b : Book) (m k v : List ℕ) (L : Leaves s b m k v) (p : ℕ) → p < speakers → (r : Result Panel Refusal) → PanelOf b m k p r →
    (w : Panel) × (r ≡ Ok w) × Told (runs start (records L.calls)) p Run w.run × Told (runs start (records L.calls)) p Export w.export
journal_told s b m k v L p l r P = panel_reached L.calls b m k (calls_chain L.made) p l r P

-- A journal has one panel only for a principal.
pub journal_only : (s : List ℕ) (p : ℕ) (r q : Result Panel Refusal) → JournalPanel s p r → JournalPanel s p q → r ≡ q
journal_only s p r q (over l) (over h) = refl
journal_only s p r q (over l) (read b m k v x h L P) = absurd (omega arith)
journal_only s p r q (read b m k v x l L P) (over h) = absurd (omega arith)
journal_only s p r q (read b m k v x l L P) (read c n j w y h K Q) =
    let e = leaves_only s b c m n k j v w L K in
    panel_only b m k p x y P
    (subst (λ (a : Book). PanelOf a m k p y) (sym e.0)
    (subst (λ (z : List ℕ). PanelOf c z k p y) (sym e.1) (subst (λ (z : List ℕ). PanelOf c n z p y) (sym e.2) Q)))

-- A journal has one number and preview buffer only.
pub preview_only : (s : List ℕ) (i j : ℕ) (v w : List ℕ) → JournalPreview s i v → JournalPreview s j w → (i ≡ j) × (v ≡ w)
preview_only s i j v w (blank l) (blank h) = (refl, refl)
preview_only s i j v w (blank l) (left c n k y h K) = absurd (omega arith)
preview_only s i j v w (left b m k x l L) (blank h) = absurd (omega arith)
preview_only s i j v w (left b m k x l L) (left c n h y o K) = (refl, (leaves_only s b c m n k h x y L K).3)
