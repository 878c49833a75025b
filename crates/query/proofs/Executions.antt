-- With the list handed back, every execution of figures 4 to 6 answers as the corrected query, in whatever order it goes.
use mathlib.Core.Path.{◌≡◌, refl, sym, subst, ap, ◌∙◌}
use mathlib.Core.Bool.{Bool, true, false, cond}
use mathlib.Core.List.{List, [], ◌∷◌, ◌++◌}
use mathlib.Core.Logic.{inl, inr, ⊎_elim}
use Prim.Native.Nat.{ℕ, zero, suc}
use lib.Dec.{T, eqb}
use Rattle.sorts.specs.Numbers.{conclusions}
use Rattle.rows.specs.Written.{Grant}
use Rattle.rows.specs.Numbering.{place}
use Rattle.rows.specs.Form.{row_of}
use Rattle.rules.specs.Rules.{issue_mark}
use Rattle.rules.specs.Standing.{All, Some}
use Rattle.rules.proofs.Lists.{some_one, some_join}
use Rattle.machine.specs.Machine.{State}
use Rattle.query.specs.Figures.{Chosen, Said, same_said, Condition, some, conditions, issued_by, allowed, holds2, said2, auth2, query2, Licence, licences_in, trusted_in}
use Rattle.query.specs.Query.{sayings, said_within, query_within, full_said, implied}
use Rattle.query.specs.Executions.{Order, SameMembers, Fair, as_written, turn, parts_turned, Asked, Told, Asking, tell, Passing, handed_back, some_told, every_told, said_told, holds_told, allowed_told, auth_told, query_told, implied_told}
use Rattle.query.proofs.Search.{same_answer}
use Rattle.query.proofs.Conditions.{every, some_out, some_in, every_out, every_in, some_where, some_of, some_left, some_right, holds_every}
use Rattle.query.proofs.Conditions.{Given, found_out, found_in, allowed_out, allowed_in}

-- some of a list, every one of a list, by its members

module _ {A : Type 0} where
  all_where : (P : A → Type 0) (l : List A) → All P l → (a : A) → Some (λ b. b ≡ a) l → P a
  all_where P [] h a m = absurd m
  all_where P (b ∷ l) h a (inl e) = subst P e h.0
  all_where P (b ∷ l) h a (inr m) = all_where P l h.1 a m

  all_of : (P : A → Type 0) (l : List A) → ((a : A) → Some (λ b. b ≡ a) l → P a) → All P l
  all_of P [] f = tt
  all_of P (b ∷ l) f = (f b (inl refl), all_of P l (λ a m. f a (inr m)))

  some_moved : (P : A → Type 0) (l m : List A) → SameMembers l m → Some P l → Some P m
  some_moved P l m s h = let w = some_where P l h in some_of P m w.0 w.1 ((s w.0).0 w.2)

  back_members : (l m : List A) → SameMembers l m → SameMembers m l
  back_members l m s a = ((s a).1, (s a).0)

  some_members : (f : A → Bool) (l m : List A) → SameMembers l m → some f l ≡ some f m
  some_members f l m s =
      same_answer (some f l) (some f m)
      (λ h. some_in f m (some_moved (λ a. T (f a)) l m s (some_out f l h)))
      (λ h. some_in f l (some_moved (λ a. T (f a)) m l (back_members l m s) (some_out f m h)))

  every_members : (f : A → Bool) (l m : List A) → SameMembers l m → every f l ≡ every f m
  every_members f l m s =
      same_answer (every f l) (every f m)
      (λ h. every_in f m (all_of (λ a. T (f a)) m (λ a k. all_where (λ b. T (f b)) l (every_out f l h) a ((s a).1 k))))
      (λ h. every_in f l (all_of (λ a. T (f a)) l (λ a k. all_where (λ b. T (f b)) m (every_out f m h) a ((s a).0 k))))

-- the order of the licences
module _ (M : State) (f : Condition → Bool) (a : ℕ → Bool) (e : ℕ) where
  allowed_moved : (L L' : List Licence) → SameMembers L L' → T (some f (conditions M.N (trusted_in M ++ allowed M a L) e)) → T (some f (conditions M.N (trusted_in M ++ allowed M a L') e))
  allowed_moved L L' s h =
      let P : Grant → Type 0 = λ g. Given f (row_of M.N g) e in
      let Q : Licence → Type 0 = λ l. T (a (issue_mark l.issuer (place l.what M.N))) × P l.what in
      found_in f M.N (trusted_in M ++ allowed M a L') e
      (⊎_elim
      (some_left P (trusted_in M) (allowed M a L'))
      (λ u. some_right P (trusted_in M) (allowed M a L') (allowed_in P M a L' (some_moved Q L L' s (allowed_out P M a L u))))
      (some_join P (trusted_in M) (allowed M a L) (found_out f M.N (trusted_in M ++ allowed M a L) e h)))

  allowed_members : (L L' : List Licence) → SameMembers L L' → some f (conditions M.N (trusted_in M ++ allowed M a L) e) ≡ some f (conditions M.N (trusted_in M ++ allowed M a L') e)
  allowed_members L L' s =
      same_answer (some f (conditions M.N (trusted_in M ++ allowed M a L) e)) (some f (conditions M.N (trusted_in M ++ allowed M a L') e))
      (allowed_moved L L' s) (allowed_moved L' L (back_members L L' s))

cond_answer : {A : Type 0} (t : Bool) (r r' : Told A) → (cond t r r').answer ≡ cond t r.answer r'.answer
cond_answer true r r' = refl
cond_answer false r r' = refl

module _ (pass : Passing) (back : (got left : Asked) → pass got left ≡ got) where
  module _ {A : Type 0} (f : A → Asking Bool) (g : A → Bool) (w : Asked) (h : (a : A) → (f a w).answer ≡ g a) where
    some_told_lem : (l : List A) → (some_told pass f l w).answer ≡ some g l
    some_told_lem [] = refl
    some_told_lem (a ∷ l) =
        let next = pass w (f a w).asked in
        cond_answer (f a w).answer (tell true next) (some_told pass f l next)
        ∙ (λ i. cond (h a i) true (some_told pass f l (back w (f a w).asked i)).answer)
        ∙ ap (cond (g a) true) (some_told_lem l)

    every_told_lem : (l : List A) → (every_told pass f l w).answer ≡ every g l
    every_told_lem [] = refl
    every_told_lem (a ∷ l) =
        let next = pass w (f a w).asked in
        cond_answer (f a w).answer (every_told pass f l next) (tell false next)
        ∙ (λ i. cond (h a i) (every_told pass f l (back w (f a w).asked i)).answer false)
        ∙ ap (λ (t : Bool). cond (g a) t false) (every_told_lem l)

  module _ (order : Order) (fair : Fair order) (M : State) (C : Chosen) where
    -- a condition, with its parts in order
    parts_told : (f : Said → Asking Bool) (said : Said → List Said → Bool) (w : Asked) (S : List Said) → ((d : Said) → (f d w).answer ≡ said d S) →
        (d : Condition) → (every_told pass f (order.parts d) w).answer ≡ holds2 said d S
    parts_told f said w S h d =
        every_told_lem f (λ dᵢ. said dᵢ S) w h (order.parts d)
        ∙ every_members (λ dᵢ. said dᵢ S) (order.parts d) d (fair.parts d)
        ∙ sym (holds_every said d S)

    said_told_lem : (k : ℕ) (d : Said) (w : Asked) → (said_told pass order M C k d w).answer ≡ said_within M C false k d w.S
    unfolding said_told said_within said2
    said_told_lem zero d w = refl
    said_told_lem (suc k) d w =
        let next : Asked = record { E = w.E; S = d ∷ w.S } in
        let D = conditions M.N (issued_by d.speaker (licences_in M C)) d.what in
        let f : Condition → Asking Bool = λ d' w'. every_told pass (λ dᵢ w''. said_told pass order M C k dᵢ w'') (order.parts d') w' in
        let g : Condition → Bool = λ d'. holds2 (λ dᵢ S. said_within M C false k dᵢ S) d' (d ∷ w.S) in
        cond_answer (some (same_said d) w.S) (tell false w) (some_told pass f (order.tried D) next)
        ∙ ap (cond (some (same_said d) w.S) false)
        (some_told_lem f g next (parts_told (λ dᵢ w''. said_told pass order M C k dᵢ w'') (λ dᵢ S. said_within M C false k dᵢ S) next (d ∷ w.S) (λ dᵢ. said_told_lem k dᵢ next)) (order.tried D)
        ∙ some_members g (order.tried D) D (fair.tried D))

    holds_told_lem : (d : Condition) (w : Asked) → w.S ≡ [] → (holds_told pass order M C d w).answer ≡ holds2 (full_said M C false) d []
    holds_told_lem d w e =
        parts_told (λ dᵢ w'. said_told pass order M C (suc sayings) dᵢ w') (full_said M C false) w [] (λ dᵢ. said_told_lem (suc sayings) dᵢ w ∙ ap (full_said M C false dᵢ) e) d

    module _ (f : ℕ → Asking Bool) (g : ℕ → Bool) (w : Asked) (h : (e : ℕ) → (f e w).answer ≡ g e) where
      allowed_told_lem : (L : List Licence) → (allowed_told pass order M C f L w).answer ≡ allowed M g L
      unfolding allowed_told allowed
      allowed_told_lem [] = refl
      allowed_told_lem (l ∷ L) =
          let e = issue_mark l.issuer (place l.what M.N) in
          (λ i.
          let later = (allowed_told pass order M C f L (back w (f e w).asked i)).answer in
          cond (h e i) (l.what ∷ later) later)
          ∙ ap (λ R. cond (g e) (l.what ∷ R) R) (allowed_told_lem L)

      allowed_asked : (L : List Licence) → (allowed_told pass order M C f L w).asked ≡ w
      unfolding allowed_told
      allowed_asked [] = refl
      allowed_asked (l ∷ L) =
          let e = issue_mark l.issuer (place l.what M.N) in
          (λ i. (allowed_told pass order M C f L (back w (f e w).asked i)).asked) ∙ allowed_asked L

    some_either : (f : Condition → Bool) (t : Bool) (D D' : List Condition) → some f D ≡ some f D' → some f (cond t [] D) ≡ some f (cond t [] D')
    some_either f true D D' e = refl
    some_either f false D D' e = e

    -- what was said is not under way where a conclusion is asked for
    query_told_lem : (k e : ℕ) (w : Asked) → w.S ≡ [] → (query_told pass order M C k e w).answer ≡ query_within M C false k e w.E
    unfolding query_told query_within auth_told auth2 query2
    query_told_lem zero e w s = refl
    query_told_lem (suc k) e w s =
        let next : Asked = record { E = e ∷ w.E; S = w.S } in
        let f : ℕ → Asking Bool = λ e' w'. query_told pass order M C k e' w' in
        let g : ℕ → Bool = λ e'. query_within M C false k e' (e ∷ w.E) in
        let ih : (e' : ℕ) → (f e' next).answer ≡ g e' = λ e'. query_told_lem k e' next s in
        let L = order.licences (licences_in M C) in
        let r = allowed_told pass order M C f L next in
        let D : Told (List Condition) = record { answer = conditions M.N (trusted_in M ++ r.answer) e; asked = r.asked } in
        let listed = some (eqb e) w.E in
        let A = cond listed (tell [] w) D in
        let ok : Condition → Bool = λ d. holds2 (full_said M C false) d [] in
        some_told_lem (holds_told pass order M C) ok A.asked
        (λ d. holds_told_lem d A.asked (unasked listed D (ap (λ (u : Asked). u.S) (allowed_asked f g next ih L) ∙ s))) (order.tried A.answer)
        ∙ some_members ok (order.tried A.answer) A.answer (fair.tried A.answer)
        ∙ ap (some ok)
        (cond_answer listed (tell [] w) D
        ∙ ap (λ (R : List Grant). cond listed [] (conditions M.N (trusted_in M ++ R) e)) (allowed_told_lem f g next ih L))
        ∙ some_either ok listed (conditions M.N (trusted_in M ++ allowed M g L) e) (conditions M.N (trusted_in M ++ allowed M g (licences_in M C)) e)
        (allowed_members M ok g e L (licences_in M C) (fair.licences (licences_in M C)))
      where
        unasked : (t : Bool) (D : Told (List Condition)) → D.asked.S ≡ [] → (cond t (tell [] w) D).asked.S ≡ []
        unasked true D q = s
        unasked false D q = q

-- The order of conditions, of their parts and of the licences cannot change the corrected query's answer.
pub handed_back_lem : (order : Order) → Fair order → (M : State) (C : Chosen) (e : ℕ) → implied_told handed_back order M C e ≡ implied M C false e
unfolding implied_told
handed_back_lem order fair M C e = query_told_lem handed_back (λ got left. refl) order fair M C (suc conclusions) e (record { E = []; S = [] }) refl

-- The two orders of the examples are fair.

pub as_written_fair : Fair as_written
as_written_fair = record { parts = λ d a. (λ h. h, λ h. h); tried = λ D a. (λ h. h, λ h. h); licences = λ L a. (λ h. h, λ h. h) }

turn_out : (a : Said) (d : Condition) → Some (λ b. b ≡ a) (turn d) → Some (λ b. b ≡ a) d
turn_out a [] h = h
turn_out a (c ∷ d) h = ⊎_elim (λ u. inr (turn_out a d u)) (λ u. inl (some_one (λ b. b ≡ a) c u)) (some_join (λ b. b ≡ a) (turn d) (c ∷ []) h)

turn_in : (a : Said) (d : Condition) → Some (λ b. b ≡ a) d → Some (λ b. b ≡ a) (turn d)
turn_in a [] h = h
turn_in a (c ∷ d) (inl e) = some_right (λ b. b ≡ a) (turn d) (c ∷ []) (inl e)
turn_in a (c ∷ d) (inr h) = some_left (λ b. b ≡ a) (turn d) (c ∷ []) (turn_in a d h)

pub parts_turned_fair : Fair parts_turned
parts_turned_fair = record { parts = λ d a. (turn_out a d, turn_in a d); tried = λ D a. (λ h. h, λ h. h); licences = λ L a. (λ h. h, λ h. h) }
