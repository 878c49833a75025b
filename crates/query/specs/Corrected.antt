-- What is proved of the corrected query: its answers against the closed sets, and that its recursion ends.
use Rattle.std.specs.Prelude.{ℕ, ◌<◌, ◌≡◌, Bool, true, false, List, [], ◌↔◌}
use Rattle.sorts.specs.Numbers.{said_mark, conclusions}
use Rattle.rules.specs.Standing.{All}
use Rattle.machine.specs.Machine.{State}
use Rattle.machine.specs.Closed.{Choice, ClosedSet, Stands, Lacking}
use Rattle.bookform.specs.declared.answer.Answer.{Answer}
use Rattle.bookform.specs.declared.answer.Answer.TheVariants.{Permitted, Open, NotPermitted}
use Rattle.query.specs.Figures.{Chosen, Said, Condition, holds2}
use Rattle.query.specs.Query.{InTruth, InSaid, Single, sayings, said_within, query_within, implied, holds}

-- A set of statements has a condition where it has each Said of it, "p said e".
abbrev pub Has : (ℕ → Type 0) → Condition → Type 0
Has S d = All (λ dᵢ. S (said_mark dᵢ.speaker dᵢ.what)) d

-- Under a choice every closed set has the condition; some closed set lacks it.
abbrev pub StandsAll : State → Choice → Condition → Type 1
StandsAll M C d = (S : ℕ → Type 0) → ClosedSet M C S → Has S d

abbrev pub LackingOne : State → Choice → Condition → Type 1
LackingOne M C d = (S : ℕ → Type 0) × ClosedSet M C S × (Has S d → ⊥)

-- What a test chooses, as a choice: the closed sets are those of this choice.
abbrev pub as_choice : Chosen → Choice
as_choice C p g = C p g ≡ true

-- Of functions Query2 and, of one Said, Holds2, where the provisional licences of C are in L:
pub record AsClosedSets (M : State) (C : Chosen) (query : ℕ → List ℕ → Bool) (said : Said → List Said → Bool) : Type 1 where
  -- Query2(e, L, R, ∅) is true exactly where every closed set has e, and false exactly where some closed set lacks it.
  pub queried : (e : ℕ) → InTruth e → ((query e [] ≡ true) ↔ Stands M (as_choice C) e) × ((query e [] ≡ false) ↔ Lacking M (as_choice C) e)
  -- Holds2(d, L, ∅) is true exactly where every closed set has the condition d, and false exactly where some closed set lacks it.
  pub held : (d : Condition) → All InSaid d → ((holds2 said d [] ≡ true) ↔ StandsAll M (as_choice C) d) × ((holds2 said d [] ≡ false) ↔ LackingOne M (as_choice C) d)
  -- Whatever is under question on a branch: what is answered yes there is in every closed set.
  pub query_sound : (e : ℕ) (E : List ℕ) → InTruth e → All InTruth E → Single E → query e E ≡ true → Stands M (as_choice C) e
  pub held_sound : (d : Condition) (S : List Said) → All InSaid d → All InSaid S → Single S → holds2 said d S ≡ true → StandsAll M (as_choice C) d

-- No answer is cut short: every budget above the number of statements gives the same, whatever a question out of budget is answered.
pub record Ends (M : State) (C : Chosen) : Type 0 where
  pub queried : (spent spent' : Bool) (k e : ℕ) → conclusions < k → InTruth e → query_within M C spent k e [] ≡ implied M C spent' e
  pub held : (spent spent' : Bool) (k : ℕ) (d : Condition) → sayings < k → All InSaid d → holds2 (λ dᵢ S. said_within M C spent k dᵢ S) d [] ≡ holds M C spent' d

-- A book's answer to a query for e, by the corrected query. Document 02, 5: "A query answers permitted when the conclusion stands under
-- every choice of which provisional licences become firm, not permitted when it stands under none, and open otherwise": where e is
-- implied under some choice, and not implied under some other.
pub record AsQuery (M : State) (spent : Bool) (e : ℕ) (a : Answer) : Type 0 where
  pub permitted : (a ≡ Permitted) ↔ ((C : Chosen) → implied M C spent e ≡ true)
  pub not_permitted : (a ≡ NotPermitted) ↔ ((C : Chosen) → implied M C spent e ≡ false)
  pub undecided : (a ≡ Open) ↔ (((C : Chosen) × (implied M C spent e ≡ true)) × ((C : Chosen) × (implied M C spent e ≡ false)))
