-- A refusal, and the answer of a query, as the code composes them.
use Rattle.std.specs.Prelude.{ℕ, List}
use Rattle.sorts.specs.declared.Refusal.{Refusal}
use Rattle.sorts.specs.declared.Concl.{Concl}
use Rattle.sorts.specs.Numbers.{number_of}
use Rattle.rows.specs.declared.Table.{Table}
use Rattle.bookform.specs.declared.Book.{Book}
use Rattle.bookform.specs.declared.answer.Answer.{Answer}
use Rattle.bookform.specs.declared.answer.Answer.TheVariants.{Refused}
use Rattle.bookform.specs.declared.answer.Answered.{Answered}
use Rattle.bookform.specs.Answers.{answer_at}

abbrev pub refused_with : Book → Refusal → ℕ → Answered
refused_with b k n = record { book = b; answer = Refused k; used = n }

abbrev pub queried : Book → Table → Concl → List ℕ → List ℕ → Book × Answer
queried b t c m k = (record { table = t; flags = b.flags }, answer_at m k (number_of c))
