-- The two searches answer yes exactly where every closed set of the plain machine has the conclusion or the condition, and no exactly
-- where some closed set lacks it.
use mathlib.Core.Path.{◌≡◌, refl, sym, subst, ap, ◌∙◌}
use mathlib.Core.Bool.{Bool, true, false, cond}
use mathlib.Core.List.{List, [], ◌∷◌, ◌++◌}
use mathlib.Core.Logic.{⊎_elim, ◌↔◌}
use Prim.Native.Nat.{ℕ, zero, suc, ◌-◌, ◌/◌, ◌%◌, ◌<◌}
use native.Mathlib.Nat.{not-suc-le-zero}
use native.Mathlib.Decide.{ℕ_discrete, dec_lt}
use native.Mathlib.Omega.{arith}
use lib.Dec.{T, ltb, eqb}
use lib.ListN.{length, get_or, length-append, get_or-append, get_or-eq_default}
use lib.Seq.{get_or_at}
use borrow.Author.Tests.{lt-ltb, le-ltb}
use Rattle.sorts.specs.Numbers.{said_mark, conclusions, all_marks}
use Rattle.sorts.specs.Blank.{blank_cond}
use Rattle.rules.specs.Rules.{granted, condition, issue_mark, first_values, second_values, resource_values, Values, Met}
use Rattle.rules.specs.Standing.{All, In, each}
use Rattle.machine.specs.Machine.{State}
use Rattle.bookform.specs.Changes.{bit}
use Rattle.machine.specs.Closed.{row_at, ClosedSet, Stands, Lacking}
use Rattle.query.specs.Figures.{Chosen, Said, same_said, Condition, said_under}
use Rattle.query.specs.Query.{InSaid, InTruth, sayings, Formed}
use Rattle.query.specs.Corrected.{Has, StandsAll, LackingOne, as_choice}
use Rattle.query.proofs.Search.{walk, search_sound, search_closed}
use Rattle.query.proofs.Conditions.{every, every_out, every_in, Given, T_true}
use Rattle.query.proofs.Steps.{licensed_lt, said_step, query_step, heard, found, said_out, said_in, query_out, trust_in, authority_in, ranged, granted_in, said_under_lem, every_at, at_every, said_is, said_search, query_search}

-- a test against what it tests and against its contrary
decided : {A : Type 1} {B : Type 1} (t : Bool) → (T t → A) → (A → T t) → ((T t → ⊥) → B) → (A → B → ⊥) → ((t ≡ true) ↔ A) × ((t ≡ false) ↔ B)
decided true to of other not = ((λ q. to tt, λ h. refl), (λ q. absurd (subst T q tt), λ k. absurd (not (to tt) k)))
decided false to of other not = ((λ q. absurd (subst T (sym q) tt), λ h. absurd (of h)), (λ q. other (λ h. h), λ k. refl))

module _ (M : State) (C : Chosen) (F : Formed M) where
  values : (g : ℕ) → g < length M.N → (x y z : ℕ) → x < first_values (row_at M g).prins → y < second_values (row_at M g).prins → z < resource_values (row_at M g).res → Values (row_at M) g x y z
  values g l x y z hx hy hz = let n = F.few in record { grant = omega arith; first = hx; second = hy; resource = hz }

  -- (a) Soundness: what is answered yes is in every closed set.
  module _ (S : ℕ → Type 0) (c : ClosedSet M (as_choice C) S) where
    met : (a : Said → Bool) → ((d : Said) → InSaid d → T (a d) → S (said_mark d.speaker d.what)) → (g e : ℕ) → g < length M.N →
        (w : Given (every a) (row_at M g) e) → Met S (row_at M g) w.x w.y w.z
    unfolding condition
    met a f g e l w i k =
        let range = ranged M F g l in
        f (said_under (get_or (row_at M g).conds i blank_cond) w.x w.y w.z)
        (said_under_lem M F (row_at M g) range w.x w.y w.z w.first w.second w.resource i k)
        (every_at M F (row_at M g) range w.x w.y w.z w.first w.second w.resource a w.holds i k)

    pub said_sound : (k : ℕ) (d : Said) (E : List Said) → InSaid d → T (walk same_said (said_step M C) k d E) → S (said_mark d.speaker d.what)
    said_sound =
        search_sound (said_search M C F) (λ d. S (said_mark d.speaker d.what)) (λ a f d r h.
        let o = said_out M C F a d h in
        let g = o.0 in
        let l = licensed_lt M (as_choice C) d.speaker g o.1 in
        let w = o.2 in
        subst (λ (e : ℕ). S (said_mark d.speaker e)) w.gives
        (c.saying g w.x w.y w.z d.speaker (values g l w.x w.y w.z w.first w.second w.resource) r.0 o.1 (met a f g d.what l w)))

    pub query_sound_lem : (k e : ℕ) (E : List ℕ) → InTruth e → T (walk eqb (query_step M C (heard M C)) k e E) → S e
    unfolding heard
    query_sound_lem =
        search_sound (query_search M C F (heard M C)) S (λ a f e r h.
        ⊎_elim
        (λ o.
        let g = o.0 in
        let w = o.2 in
        subst S w.gives (c.trust g w.x w.y w.z (values g o.1.0 w.x w.y w.z w.first w.second w.resource) o.1 (held g e o.1.0 w)))
        (λ o.
        let g = o.0 in
        let p = o.1 in
        let small = o.2 in
        let l = licensed_lt M (as_choice C) p g o.3 in
        let few = F.few in
        let w = o.5 in
        subst S w.gives
        (c.authority g w.x w.y w.z p (values g l w.x w.y w.z w.first w.second w.resource) small o.3 (f (issue_mark p g) (omega arith) o.4) (held g e l w)))
        (query_out M C F (heard M C) a e h))
      where
        held : (g e : ℕ) → g < length M.N → (w : Given (every (heard M C)) (row_at M g) e) → Met S (row_at M g) w.x w.y w.z
        held g e l w = met (heard M C) (λ d r t. said_sound (suc sayings) d [] r t) g e l w

  -- The answers as a set of statements: statement n is a truth, or what somebody said.
  answer : ℕ → Bool
  answer n = cond (ltb n conclusions) (found M C n) (heard M C (record { speaker = n / conclusions - 1; what = n % conclusions }))

  answer_truth : (e : ℕ) → InTruth e → answer e ≡ found M C e
  unfolding answer
  answer_truth e r = ap (λ (t : Bool). cond t (found M C e) (heard M C (record { speaker = e / conclusions - 1; what = e % conclusions }))) (lt-ltb e conclusions r)

  answer_said : (d : Said) → InSaid d → answer (said_mark d.speaker d.what) ≡ heard M C d
  unfolding answer
  answer_said d r =
      let n = said_mark d.speaker d.what in
      let small = r.1 in
      let d' : Said = record { speaker = n / conclusions - 1; what = n % conclusions } in
      ap (λ (t : Bool). cond t (found M C n) (heard M C d')) (le-ltb n conclusions (omega arith)) ∙ ap (heard M C) (said_is d' d (omega arith) (omega arith))

  -- a row whose conditions are answered yes
  given_met : (g : ℕ) → g < length M.N → (x y z : ℕ) → Values (row_at M) g x y z → Met (λ n. T (answer n)) (row_at M g) x y z → Given (every (heard M C)) (row_at M g) (granted (row_at M g) x y z)
  unfolding condition
  given_met g l x y z v m =
      let r = row_at M g in
      let range = ranged M F g l in
      record {
        x = x;
        y = y;
        z = z;
        first = v.first;
        second = v.second;
        resource = v.resource;
        gives = refl;
        holds = at_every M F r range x y z v.first v.second v.resource (heard M C) (λ i k.
            let d = said_under (get_or r.conds i blank_cond) x y z in
            subst T (answer_said d (said_under_lem M F r range x y z v.first v.second v.resource i k)) (m i k));
      }

  answers_closed : ClosedSet M (as_choice C) (λ n. T (answer n))
  unfolding heard found
  answers_closed = record {
    saying = λ g x y z p v small l m.
        let d : Said = record { speaker = p; what = granted (row_at M g) x y z } in
        let k = licensed_lt M (as_choice C) p g l in
        let r : InSaid d = (small, granted_in M F (row_at M g) (ranged M F g k) x y z v.first v.second v.resource) in
        subst T (sym (answer_said d r)) (search_closed (said_search M C F) (suc sayings) (omega arith) d r (said_in M C F (heard M C) d g l (given_met g k x y z v m)));
    trust = λ g x y z v t m.
        let r = granted_in M F (row_at M g) (ranged M F g t.0) x y z v.first v.second v.resource in
        let e = granted (row_at M g) x y z in
        subst T (sym (answer_truth e r)) (search_closed (query_search M C F (heard M C)) (suc conclusions) (omega arith) e r
        (trust_in M C F (heard M C) (found M C) e g t (given_met g t.0 x y z v m)));
    authority = λ g x y z p v small l i m.
        let n = licensed_lt M (as_choice C) p g l in
        let r = granted_in M F (row_at M g) (ranged M F g n) x y z v.first v.second v.resource in
        let e = granted (row_at M g) x y z in
        let few = F.few in
        subst T (sym (answer_truth e r)) (search_closed (query_search M C F (heard M C)) (suc conclusions) (omega arith) e r
        (authority_in M C F (heard M C) (found M C) e g p l (subst T (answer_truth (issue_mark p g) (omega arith)) i) (given_met g n x y z v m)));
  }

  -- (b) Completeness: what is in every closed set is answered yes.
  stands_answered : (n : ℕ) → Stands M (as_choice C) n → T (answer n)
  stands_answered n h = h (λ k. T (answer k)) answers_closed

  -- (c) The answers as a list of marks: a closed set that has what is answered yes and nothing else.

  answer_marks : ℕ → List ℕ
  answer_marks n = each n (λ i. bit (answer i) ∷ [])

  marks_length : (n : ℕ) → length (answer_marks n) ≡ n
  unfolding answer_marks
  marks_length zero = refl
  marks_length (suc n) = simp length-append (omega (arith, marks_length n))

  marks_at : (n i : ℕ) → i < n → get_or (answer_marks n) i 0 ≡ bit (answer i)
  unfolding answer_marks
  marks_at zero i l = absurd (not-suc-le-zero l)
  marks_at (suc n) i l = go (ℕ_discrete i n) (marks_at n i)
    where
      go : Dec (i ≡ n) → (i < n → get_or (answer_marks n) i 0 ≡ bit (answer i)) → get_or (answer_marks n ++ (bit (answer n) ∷ [])) i 0 ≡ bit (answer i)
      go (yes e) ih = rw e (get_or_at (answer_marks n) (bit (answer n)) [] 0 n (marks_length n))
      go (no d) ih = get_or-append (answer_marks n) (bit (answer n) ∷ []) 0 i (omega (arith, marks_length n)) ∙ ih (omega arith)

  in_marks : (n i : ℕ) → i < n → T (answer i) → In (answer_marks n) i
  in_marks n i l h = marks_at n i l ∙ ap bit (T_true (answer i) h)

  marks_in_lem : (n i : ℕ) → In (answer_marks n) i → T (answer i)
  marks_in_lem n i h = go (dec_lt i n)
    where
      bit_one : (t : Bool) → bit t ≡ 1 → T t
      bit_one true e = tt
      bit_one false e = omega arith

      go : Dec (i < n) → T (answer i)
      go (yes l) = bit_one (answer i) (sym (marks_at n i l) ∙ h)
      go (no d) = let z = get_or-eq_default (answer_marks n) 0 {n = i} (omega (arith, marks_length n)) in absurd (not-suc-le-zero {n = 0} (omega arith))

  marks_closed : ClosedSet M (as_choice C) (In (answer_marks all_marks))
  marks_closed = record {
    saying = λ g x y z p v small l m.
        let e = granted_in M F (row_at M g) (ranged M F g (licensed_lt M (as_choice C) p g l)) x y z v.first v.second v.resource in
        in_marks all_marks (said_mark p (granted (row_at M g) x y z)) (omega arith) (answers_closed.saying g x y z p v small l (λ i k. marks_in_lem all_marks _ (m i k)));
    trust = λ g x y z v t m.
        let e = granted_in M F (row_at M g) (ranged M F g t.0) x y z v.first v.second v.resource in
        in_marks all_marks (granted (row_at M g) x y z) (omega arith) (answers_closed.trust g x y z v t (λ i k. marks_in_lem all_marks _ (m i k)));
    authority = λ g x y z p v small l r m.
        let e = granted_in M F (row_at M g) (ranged M F g (licensed_lt M (as_choice C) p g l)) x y z v.first v.second v.resource in
        in_marks all_marks (granted (row_at M g) x y z) (omega arith) (answers_closed.authority g x y z p v small l (marks_in_lem all_marks _ r) (λ i k. marks_in_lem all_marks _ (m i k)));
  }

  -- a condition, part by part
  parts_hold : (S : ℕ → Type 0) → ClosedSet M (as_choice C) S → (d : Condition) → All InSaid d → T (every (heard M C) d) → Has S d
  unfolding heard
  parts_hold S c d r h = go d r (every_out (heard M C) d h)
    where
      go : (d : Condition) → All InSaid d → All (λ dᵢ. T (heard M C dᵢ)) d → Has S d
      go [] r h = tt
      go (a ∷ d) r h = (said_sound S c (suc sayings) a [] r.0 h.0, go d r.1 h.1)

  parts_heard : (S : ℕ → Type 0) → ((n : ℕ) → S n → T (answer n)) → (d : Condition) → All InSaid d → Has S d → T (every (heard M C) d)
  parts_heard S f d r h = every_in (heard M C) d (go d r h)
    where
      go : (d : Condition) → All InSaid d → Has S d → All (λ dᵢ. T (heard M C dᵢ)) d
      go [] r h = tt
      go (a ∷ d) r h = (subst T (answer_said a r.0) (f (said_mark a.speaker a.what) h.0), go d r.1 h.1)

  -- The two searches against the closed sets.
  pub truth_answers : (e : ℕ) → InTruth e → ((found M C e ≡ true) ↔ Stands M (as_choice C) e) × ((found M C e ≡ false) ↔ Lacking M (as_choice C) e)
  unfolding found
  truth_answers e r =
      decided (found M C e)
      (λ h S c. query_sound_lem S c (suc conclusions) e [] r h)
      (λ h. subst T (answer_truth e r) (stands_answered e h))
      (λ n. (In (answer_marks all_marks), marks_closed, λ h. n (subst T (answer_truth e r) (marks_in_lem all_marks e h))))
      (λ h k. k.2 (h k.0 k.1))

  pub condition_answers : (d : Condition) → All InSaid d → ((every (heard M C) d ≡ true) ↔ StandsAll M (as_choice C) d) × ((every (heard M C) d ≡ false) ↔ LackingOne M (as_choice C) d)
  condition_answers d r =
      decided (every (heard M C) d)
      (λ h S c. parts_hold S c d r h)
      (λ h. parts_heard (λ k. T (answer k)) (λ n t. t) d r (h (λ k. T (answer k)) answers_closed))
      (λ n. (In (answer_marks all_marks), marks_closed, λ h. n (parts_heard (In (answer_marks all_marks)) (marks_in_lem all_marks) d r h)))
      (λ h k. k.2 (h k.0 k.1))
