-- Examples, as the plain machine has them: each entry's record is fed to it as bytes. Document 01's table, and further ones.
use Rattle.std.specs.Prelude.{ℕ, suc, ◌≡◌, Bool, true, false, List, [], ◌∷◌, ◌++◌, map, eqb}
use Rattle.rows.specs.Written.{Grant, Concl, perm, issue, issue_any, run}
use Rattle.rules.specs.Standing.{All}
use Rattle.machine.specs.Machine.{State, start}
use Rattle.machine.specs.Closed.{Stands}
use Rattle.worked.specs.Worked.{trust, licence, machine, Accepted, number_in, Answer, permitted, not_permitted, undecided, marks, each, nets, Example}
use Rattle.worked.specs.Worked.{smart, good, trusted, plain, when, when2, for_grants, p7, p9, two_paths, table}
use Rattle.query.specs.Figures.{Chosen, none_chosen, all_chosen, Said}
use Rattle.query.specs.Query.{said_within, query_within, implied}
use Rattle.query.specs.Corrected.{as_choice}
use Rattle.query.specs.ByBudget.{said_by_budget}
use Rattle.query.specs.Executions.{as_written, parts_turned, handed_back, handed_on, implied_told}

-- The machine after an example's records.
abbrev pub machine_of : Example → State
machine_of x = machine x.entries

-- Trusted(2), which P9 and its like ask for.
abbrev pub trusted2 : Example → ℕ
trusted2 x = number_in (machine_of x) (trusted 2)

-- A test at each conclusion that an example's line says is permitted, or not, or open; and what the line says of it, where
-- `if_open` is what an open one is answered.
unfoldable pub tested : (Concl → Bool) → List Answer → List Bool
tested f [] = []
tested f (permitted c ∷ l) = f c ∷ tested f l
tested f (not_permitted c ∷ l) = f c ∷ tested f l
tested f (undecided c ∷ l) = f c ∷ tested f l
tested f (marks n ∷ l) = tested f l
tested f (each t s ∷ l) = tested f l
tested f (nets es y z ∷ l) = tested f l

unfoldable pub line_says : Bool → List Answer → List Bool
line_says if_open [] = []
line_says if_open (permitted c ∷ l) = true ∷ line_says if_open l
line_says if_open (not_permitted c ∷ l) = false ∷ line_says if_open l
line_says if_open (undecided c ∷ l) = if_open ∷ line_says if_open l
line_says if_open (marks n ∷ l) = line_says if_open l
line_says if_open (each t s ∷ l) = line_says if_open l
line_says if_open (nets es y z ∷ l) = line_says if_open l

-- A query over states answers each conclusion as the line says.
abbrev pub AsLinesSay : (State → ℕ → Bool) → Bool → List Example → Type 0
AsLinesSay query if_open examples =
    map (λ x. tested (λ c. query (machine_of x) (number_in (machine_of x) c)) x.answers) examples ≡ map (λ x. line_says if_open x.answers) examples

-- Every record of the examples is accepted, and the answers are as the lines say: a conclusion that is open is answered no where no
-- provisional licence is chosen, and yes where all are.
pub record Answered (query : State → Chosen → ℕ → Bool) (examples : List Example) : Type 0 where
  pub accepted : All (λ x. Accepted start x.entries) examples
  pub least : AsLinesSay (λ M. query M none_chosen) false examples
  pub most : AsLinesSay (λ M. query M all_chosen) true examples

-- Document 000's example 3.4: "Alice issues the grant "if I say Bob is smart, then he is" and Alice is permitted to issue this
-- grant. Can we conclude that Bob is smart?" Alice is 0 and Bob is 1.
unfoldable pub circle : Example
circle =
    let that = when 0 (smart 1) (smart 1) in
    record {
      entries = licence 0 that ∷ trust (plain (perm 0 (issue that))) ∷ [];
      answers = not_permitted (smart 1) ∷ [];
    }

-- "a slight modification of the previous example where we add the grant Smart(Bob) to R".
unfoldable pub circle_trusted : Example
circle_trusted =
    record {
      entries = circle.entries ++ (trust (plain (smart 1)) ∷ []);
      answers = permitted (smart 1) ∷ [];
    }

-- What 1 said is not what 0 said.
unfoldable pub other_speaker : Example
other_speaker =
    record {
      entries = licence 1 (plain (smart 2)) ∷ trust (when 0 (smart 2) (good 2)) ∷ [];
      answers = not_permitted (good 2) ∷ [];
    }

-- Document 01's P9 with a second licence for what 1 said, "1: Good(2)"; and the same with the trusted grant's conditions in the
-- other order.
abbrev pub two_ways_of : Grant → Example
two_ways_of g =
    record {
      entries = licence 0 (plain (smart 2)) ∷ licence 1 (when 0 (smart 2) (good 2)) ∷ licence 1 (plain (good 2)) ∷ trust g ∷ [];
      answers = permitted (trusted 2) ∷ [];
    }

unfoldable pub two_ways : Example
two_ways = two_ways_of (when2 0 (smart 2) 1 (good 2) (trusted 2))

unfoldable pub two_ways_turned : Example
two_ways_turned = two_ways_of (when2 1 (good 2) 0 (smart 2) (trusted 2))

-- Document 02, 5: the table's two provisional licences, of 0 and of 1, on two paths to one right. It is implied where the licences of 0
-- alone become firm, or those of 1 alone, and not where those of a third do.
abbrev pub licences_of : ℕ → Chosen
licences_of p q g = eqb q p

abbrev pub implied_by : ℕ → Bool → Bool
implied_by p spent = implied (machine_of two_paths) (licences_of p) spent (number_in (machine_of two_paths) (perm 5 (run 31)))

pub record EitherPath (spent : Bool) : Type 0 where
  pub first : implied_by 0 spent ≡ true
  pub second : implied_by 1 spent ≡ true
  pub neither : implied_by 2 spent ≡ false

-- All but the circle, of which CircleEnds speaks.
unfoldable pub examples : List Example
examples = table ++ (circle_trusted ∷ other_speaker ∷ two_ways ∷ two_ways_turned ∷ [])

-- THE FAULT: with one list for the whole query, document 01's P9 is answered no, although every closed set has Trusted(2). "0 said
-- Smart(2)" is asked for the first condition of the trusted grant, and then refused to the second, "1 said Good(2)", which needs it.
-- Nothing is provisional here, nor in what follows: it is so under every choice.
pub record Fault (C : Chosen) : Type 1 where
  pub denied : implied_told handed_on as_written (machine_of p9) C (trusted2 p9) ≡ false
  pub denied_turned : implied_told handed_on parts_turned (machine_of p9) C (trusted2 p9) ≡ false
  pub stands : Stands (machine_of p9) (as_choice C) (trusted2 p9)

-- With one list the order of a condition's parts changes the answer; with a list for each branch it does not. The grant itself
-- written with its conditions in the other order is the same grant (document 02, 3), and the machine is the same.
pub record OrderTells (C : Chosen) : Type 0 where
  pub one_list : implied_told handed_on as_written (machine_of two_ways) C (trusted2 two_ways) ≡ true
  pub one_list_turned : implied_told handed_on parts_turned (machine_of two_ways) C (trusted2 two_ways) ≡ false
  pub own_list : implied_told handed_back as_written (machine_of two_ways) C (trusted2 two_ways) ≡ true
  pub own_list_turned : implied_told handed_back parts_turned (machine_of two_ways) C (trusted2 two_ways) ≡ true
  pub written : machine_of two_ways_turned ≡ machine_of two_ways

-- In the circle of example 3.4 Smart(Bob), and "Alice said Smart(Bob)":
abbrev pub smart1 : Example → ℕ
smart1 x = number_in (machine_of x) (smart 1)

abbrev pub circle_said : Said
circle_said = record { speaker = 0; what = smart1 circle }

-- In document 01's P7, "0: for all x, Perm(0, issue, x). No trust", Perm(0, issue, that grant):
abbrev pub own_right : ℕ
own_right = number_in (machine_of p7) (perm 0 (issue (for_grants (perm 0 issue_any))))

-- A circle ends by its list in two questions, whatever a question out of budget is answered. By budget alone that is the answer, on
-- every budget: where it is yes, the circle would support itself.
pub record CircleEnds (C : Chosen) : Type 0 where
  pub by_list : (spent : Bool) (k : ℕ) → said_within (machine_of circle) C spent (suc (suc k)) circle_said [] ≡ false
  pub right_by_list : (spent : Bool) → query_within (machine_of p7) C spent 2 own_right [] ≡ false
  pub by_budget : (spent : Bool) (k : ℕ) → said_by_budget (machine_of circle) C spent k circle_said ≡ spent
