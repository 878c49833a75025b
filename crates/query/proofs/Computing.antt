-- What the examples compute with: to unfold one of these is to unfold all that its line names.
use Rattle.worked.proofs.Computing as worked
use Rattle.query.specs.Figures.{condition_under, conditions_of, conditions, issued_by, said2, allowed, auth2, query2, licences, trusts}
use Rattle.query.specs.Query.{said_within, query_within}
use Rattle.query.specs.ByBudget.{said_by_budget}
use Rattle.query.specs.Executions.{said_told, allowed_told, auth_told, query_told, implied_told}
use Rattle.query.specs.Examples.{tested, line_says, circle, circle_trusted, other_speaker, two_ways, two_ways_turned, examples}

-- the examples, and what their lines say
unfoldable pub listed : Unit {0}
unfolding worked.listed examples circle circle_trusted other_speaker two_ways two_ways_turned tested line_says
listed = tt

-- the figures
unfoldable pub figures : Unit {0}
unfolding worked.rowed condition_under conditions_of conditions licences trusts issued_by said2 allowed auth2 query2
figures = tt

-- the query on its budget, and by budget alone
unfoldable pub within : Unit {0}
unfolding said_within query_within said_by_budget
within = tt

-- executions
unfoldable pub told : Unit {0}
unfolding said_told allowed_told auth_told query_told implied_told
told = tt
