-- The worked examples: what the figures and their executions answer, computed.
use mathlib.Core.Path.{◌≡◌, refl, ap, ◌∙◌}
use mathlib.Core.Bool.{Bool, true, false, cond}
use Prim.Native.Nat.{ℕ, zero, suc}
use mathlib.Core.List.{List, [], ◌∷◌}
use lib.Dec.{T}
use Rattle.rules.specs.Standing.{All}
use Rattle.machine.specs.Machine.{start}
use Rattle.worked.specs.Worked.{Accepted, Example, p7}
use Rattle.worked.proofs.Certified.{both, left, right}
use Rattle.worked.proofs.Worked.{acceptedb, accepted}
use Rattle.worked.proofs.Computing.{fed}
use Rattle.query.specs.Figures.{Chosen, none_chosen, all_chosen}
use Rattle.query.specs.Query.{sayings, said_within, query_within, implied}
use Rattle.query.specs.ByBudget.{said_by_budget}
use Rattle.query.specs.Examples.{machine_of, AsLinesSay, Answered, EitherPath, examples, OrderTells, circle, circle_said, own_right, CircleEnds}
use Rattle.query.proofs.Computing.{listed, figures, within, told}

-- every record of the examples is accepted, by a test
abbrev accepted_all : List Example → Bool
accepted_all [] = true
accepted_all (x ∷ xs) = both (acceptedb start x.entries) (accepted_all xs)

all_accepted : (xs : List Example) → T (accepted_all xs) → All (λ x. Accepted start x.entries) xs
all_accepted [] t = tt
all_accepted (x ∷ xs) t =
    let a = acceptedb start x.entries in
    (accepted start x.entries (left a (accepted_all xs) t), all_accepted xs (right a (accepted_all xs) t))

-- one condition, of one part
one : (t : Bool) → cond (cond t true false) true false ≡ t
one true = refl
one false = refl

pub circle_ends : (C : Chosen) → CircleEnds C
unfolding listed fed figures within
circle_ends C = record { by_list = by_list; right_by_list = right_by_list; by_budget = by_budget }
  where
    by_list : (spent : Bool) (k : ℕ) → said_within (machine_of circle) C spent (suc (suc k)) circle_said [] ≡ false
    by_list spent zero = refl
    by_list spent (suc k) = refl

    right_by_list : (spent : Bool) → query_within (machine_of p7) C spent 2 own_right [] ≡ false
    right_by_list true = refl
    right_by_list false = refl

    by_budget : (spent : Bool) (k : ℕ) → said_by_budget (machine_of circle) C spent k circle_said ≡ spent
    by_budget spent zero = refl
    by_budget spent (suc k) = one (said_by_budget (machine_of circle) C spent k circle_said) ∙ by_budget spent k

-- The corrected query answers each example as its line says.
pub answered : (spent : Bool) → Answered (λ M C. implied M C spent) examples
unfolding listed fed figures within
answered spent = record { accepted = all_accepted examples tt; least = refl; most = refl }

pub either_path : (spent : Bool) → EitherPath spent
unfolding listed fed figures within
either_path spent = record { first = refl; second = refl; neither = refl }

pub order_tells : (C : Chosen) → OrderTells C
unfolding listed fed figures told
order_tells C = record { one_list = refl; one_list_turned = refl; own_list = refl; own_list_turned = refl; written = refl }

-- Document 000's example 3.4: Smart(Bob) is not implied.
pub circle_answered : (spent : Bool) → Answered (λ M C. implied M C spent) (circle ∷ [])
unfolding listed fed figures query_within
circle_answered spent = record { accepted = all_accepted (circle ∷ []) tt; least = denied none_chosen false; most = denied all_chosen true }
  where
    denied : (C : Chosen) (if_open : Bool) → AsLinesSay (λ M. implied M C spent) if_open (circle ∷ [])
    denied C if_open = ap (λ t. (t ∷ []) ∷ []) (one (said_within (machine_of circle) C spent (suc sayings) circle_said []) ∙ (circle_ends C).by_list spent 36863)
