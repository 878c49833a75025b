-- Executions of figures 4 to 6. Document 000: "the specification does not say in which order the conditions in D should be tested
-- .. As a result, there are a number of possible executions". Here the order is a parameter, and so is the list that the next
-- branch gets: the lists E and S are handed out with each answer, and the next branch gets the one that this branch got, or the
-- one that it left. With the first this is the corrected query, in every order. With the second there is ONE list for the whole
-- query, and what was asked stays asked: a fault. (The text of section 3.3 can be read so, "that have been the first argument to a
-- previous call"; the figures and "that are currently being evaluated" say the other.)
use Rattle.std.specs.Prelude.{ℕ, zero, suc, ◌≡◌, Bool, true, false, cond, List, [], ◌∷◌, ◌++◌, ◌↔◌, eqb}
use Rattle.sorts.specs.Numbers.{conclusions}
use Rattle.rows.specs.Written.{Grant}
use Rattle.rows.specs.Numbering.{place}
use Rattle.rules.specs.Rules.{issue_mark}
use Rattle.rules.specs.Standing.{Some}
use Rattle.machine.specs.Machine.{State}
use Rattle.query.specs.Figures.{Chosen, Said, same_said, Condition, some, conditions, issued_by, Licence, licences_in, trusted_in}
use Rattle.query.specs.Query.{sayings}

-- The order in which the parts of a condition, the conditions of D and the licences are gone through.
pub record Order : Type 0 where
  pub parts : Condition → Condition
  pub tried : List Condition → List Condition
  pub licences : List Licence → List Licence

-- Two lists have the same members.
abbrev pub SameMembers : {A : Type 0} → List A → List A → Type 0
SameMembers {A} l m = (a : A) → Some (λ b. b ≡ a) l ↔ Some (λ b. b ≡ a) m

-- Nothing is left out and nothing added.
pub record Fair (o : Order) : Type 0 where
  pub parts : (d : Condition) → SameMembers (o.parts d) d
  pub tried : (D : List Condition) → SameMembers (o.tried D) D
  pub licences : (L : List Licence) → SameMembers (o.licences L) L

abbrev pub as_written : Order
as_written = record { parts = λ d. d; tried = λ D. D; licences = λ L. L }

-- the parts of a condition from the last to the first
abbrev pub turn : Condition → Condition
turn [] = []
turn (d ∷ ds) = turn ds ++ (d ∷ [])

abbrev pub parts_turned : Order
parts_turned = record { parts = turn; tried = λ D. D; licences = λ L. L }

-- What was asked up to now.
pub record Asked : Type 0 where
  pub E : List ℕ
  pub S : List Said

-- An answer, with what was asked up to then.
pub record Told (A : Type 0) : Type 0 where
  pub answer : A
  pub asked : Asked

abbrev pub Asking : Type 0 → Type 0
Asking A = Asked → Told A

abbrev pub tell : {A : Type 0} → A → Asking A
tell a w = record { answer = a; asked = w }

-- What the next branch gets, of what this one got and what it left.
abbrev pub Passing : Type 0
Passing = Asked → Asked → Asked

-- a list for each branch
abbrev pub handed_back : Passing
handed_back got left = got

-- one list for the whole query
abbrev pub handed_on : Passing
handed_on got left = left

-- some of a list, every one of a list
abbrev pub some_told : Passing → {A : Type 0} → (A → Asking Bool) → List A → Asking Bool
some_told pass f [] w = tell false w
some_told pass f (a ∷ l) w =
    let r = f a w in
    let next = pass w r.asked in
    let later = some_told pass f l next in
    cond r.answer (tell true next) later

abbrev pub every_told : Passing → {A : Type 0} → (A → Asking Bool) → List A → Asking Bool
every_told pass f [] w = tell true w
every_told pass f (a ∷ l) w =
    let r = f a w in
    let next = pass w r.asked in
    let later = every_told pass f l next in
    cond r.answer later (tell false next)

module _ (pass : Passing) (order : Order) (M : State) (C : Chosen) where
  -- Figure 6
  unfoldable pub said_told : ℕ → Said → Asking Bool
  said_told zero d w = tell false w
  said_told (suc k) d w =
      let D = order.tried (conditions M.N (issued_by d.speaker (licences_in M C)) d.what) in
      let found = some_told pass (λ d' w'. every_told pass (λ dᵢ w''. said_told k dᵢ w'') (order.parts d') w') D (record { E = w.E; S = d ∷ w.S }) in
      cond (some (same_said d) w.S) (tell false w) found

  abbrev pub holds_told : Condition → Asking Bool
  holds_told d w = every_told pass (λ dᵢ w'. said_told (suc sayings) dᵢ w') (order.parts d) w

  -- Figure 5
  unfoldable pub allowed_told : (ℕ → Asking Bool) → List Licence → Asking (List Grant)
  allowed_told query [] w = tell [] w
  allowed_told query (l ∷ L) w =
      let r = query (issue_mark l.issuer (place l.what M.N)) w in
      let later = allowed_told query L (pass w r.asked) in
      record { answer = cond r.answer (l.what ∷ later.answer) later.answer; asked = later.asked }

  unfoldable pub auth_told : (ℕ → Asking Bool) → ℕ → Asking (List Condition)
  auth_told query e w =
      let r = allowed_told query (order.licences (licences_in M C)) (record { E = e ∷ w.E; S = w.S }) in
      let D : Told (List Condition) = record { answer = conditions M.N (trusted_in M ++ r.answer) e; asked = r.asked } in
      cond (some (eqb e) w.E) (tell [] w) D

  -- Figure 4
  unfoldable pub query_told : ℕ → ℕ → Asking Bool
  query_told zero e w = tell false w
  query_told (suc k) e w = let D = auth_told (λ e' w'. query_told k e' w') e w in some_told pass holds_told (order.tried D.answer) D.asked

  unfoldable pub implied_told : ℕ → Bool
  implied_told e = (query_told (suc conclusions) e (record { E = []; S = [] })).answer
