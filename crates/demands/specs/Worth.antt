-- What an answer is worth: its number and its counts.
use Rattle.std.specs.Prelude.{ℕ, ◌+◌, List, [], ◌∷◌, pos}
use Rattle.std.proofs.Math.Option.{Option, none, some}
use Rattle.marks.specs.declared.Change.{Change}
use Rattle.marks.specs.declared.Counts.{Counts}
use Rattle.bookform.specs.declared.answer.Answer.{Answer}
use Rattle.bookform.specs.declared.answer.Answer.TheVariants.{Permitted, Open, NotPermitted, Changed, Previewed, Refused}
use Rattle.marks.specs.Counts.{Statements, change_in}
use Rattle.book.specs.Chains.{Call}
use Rattle.sorts.specs.Refusals.{refusal_number}

-- "If an answer is an enum, a definition gives this paper's number and values for each of its cases." The number of a refusal, and
-- the counts: of truths and of sayings gained, lost and net. "QU .. has counts 0", "Every refusal has counts 0".
pub record Worth : Type 0 where
  pub number : Option ℕ
  pub counts : Counts

abbrev pub unchanged : Change
unchanged = record { gained = 0; lost = 0; net = pos 0 }

abbrev pub no_counts : Counts
no_counts = record { truths = unchanged; sayings = unchanged }

abbrev pub uncounted : Option ℕ → Worth
uncounted k = record { number = k; counts = no_counts }

abbrev pub worth : Answer → Worth
worth Permitted = uncounted none
worth Open = uncounted none
worth NotPermitted = uncounted none
worth (Changed c) = record { number = none; counts = c }
worth (Previewed c) = record { number = none; counts = c }
worth (Refused k) = uncounted (some (refusal_number k))

-- Document 02, 6: of a preview "these counts enter no sum over a list". The counts of what changed.
abbrev pub counted : Answer → Counts
counted Permitted = no_counts
counted Open = no_counts
counted NotPermitted = no_counts
counted (Changed c) = c
counted (Previewed c) = no_counts
counted (Refused k) = no_counts

-- What an answer reports of one kind of statement.
abbrev pub reported : Statements → Answer → Change
reported k a = change_in k (counted a)

-- All gains, and all losses, that a list of calls reports of one kind.
unfoldable pub all_gains : Statements → List Call → ℕ
all_gains k [] = 0
all_gains k (c ∷ cs) = (reported k c.gave.answer).gained + all_gains k cs

unfoldable pub all_losses : Statements → List Call → ℕ
all_losses k [] = 0
all_losses k (c ∷ cs) = (reported k c.gave.answer).lost + all_losses k cs
