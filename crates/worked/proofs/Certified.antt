-- What stands, given by a short list of its statements, each in front of those that it follows from: computed tests, and what
-- they show.
use mathlib.Core.Path.{◌≡◌, refl, sym, subst, ap, ◌∙◌}
use mathlib.Core.Bool.{Bool, true, false, not, cond}
use mathlib.Core.List.{List, [], ◌∷◌}
use mathlib.Core.Logic.{◌⊎◌, inl, inr, ⊎_elim}
use Prim.Native.Nat.{ℕ, zero, suc, ◌≤◌, ◌<◌}
use native.Mathlib.Nat.{not-suc-le-zero, le_of_suc-le-suc}
use native.Mathlib.Omega.{arith}
use lib.Dec.{T, eqb, ltb, eqb→eq, eqb_refl, ltb→lt, leb→le, T_not}
use lib.ListN.{length, get_or, set, length-set}
use lib.Seq.{get_or-set_same, take-set-le, drop-set-lt}
use borrow.Author.Tests.{ltb-true, ltb-false}
use Rattle.sorts.specs.Numbers.{conclusions, all_marks, grants}
use Rattle.rules.specs.Standing.{All, Some, Rule, ClosedRules, In, Bits, blank}
use Rattle.rules.proofs.Lists.{met_map}
use Rattle.rules.proofs.Saturation.{in_set, in_set_cases, bits_set, same_marks}
use Rattle.rules.proofs.Standing.{blank_length, blank_bits, blank_none}
use Rattle.reader.specs.Found.{fits}
use Rattle.machine.specs.Machine.{State}
use Rattle.machine.specs.Closed.{ClosedSet, Stands, Lacking}
use Rattle.marks.specs.Counts.{Statements, truths, sayings, ones, marks_of as kind_marks}
use Rattle.demands.proofs.Views.{View, firm, choice_of}
use Rattle.demands.proofs.Balance.{ones_none, ones_kinds}
use Rattle.worked.specs.Worked.{MarksOf}
use Rattle.worked.proofs.Listed.{rules_of, closed_listed}

-- Tests joined.

abbrev pub both : Bool → Bool → Bool
both true b = b
both false b = false

abbrev pub or : Bool → Bool → Bool
or true b = true
or false b = b

abbrev pub imp : Bool → Bool → Bool
imp true b = b
imp false b = true

pub left : (a b : Bool) → T (both a b) → T a
left true b t = tt
left false b t = t

pub right : (a b : Bool) → T (both a b) → T b
right true b t = t
right false b t = absurd t

join : (a b : Bool) → T a → T b → T (both a b)
join true b t u = u
join false b t u = absurd t

or_cases : (a b : Bool) → T (or a b) → T a ⊎ T b
or_cases true b t = inl tt
or_cases false b t = inr t

or_left : (a b : Bool) → T a → T (or a b)
or_left true b t = tt
or_left false b t = absurd t

or_right : (a b : Bool) → T b → T (or a b)
or_right true b t = tt
or_right false b t = t

modus : (a b : Bool) → T (imp a b) → T a → T b
modus true b t u = t
modus false b t u = absurd u

-- The tests. What a `let` binds is computed only where it is read.

-- statement n is listed
abbrev pub memb : ℕ → List ℕ → Bool
memb n [] = false
memb n (m ∷ ns) = let later = memb n ns in or (eqb n m) later

abbrev pub Listed : List ℕ → ℕ → Type 0
Listed ns n = T (memb n ns)

-- some statement of ks is listed
abbrev pub anyb : List ℕ → List ℕ → Bool
anyb [] ns = false
anyb (k ∷ ks) ns = or (memb k ns) (anyb ks ns)

-- of each list some statement is listed
abbrev pub metb : List (List ℕ) → List ℕ → Bool
metb [] ns = true
metb (ks ∷ kss) ns = both (anyb ks ns) (metb kss ns)

-- what a rule gives is listed where its needs are
abbrev pub closedb : List Rule → List ℕ → Bool
closedb [] ns = true
closedb (r ∷ rs) ns = let listed = memb r.gives ns in both (imp (metb r.needs ns) listed) (closedb rs ns)

-- some rule gives n from what is listed
abbrev pub givenb : List Rule → List ℕ → ℕ → Bool
givenb [] ns n = false
givenb (r ∷ rs) ns n = let met = metb r.needs ns in let later = givenb rs ns n in or (both (eqb n r.gives) met) later

-- each follows from those behind it in the list, is none of them, and is a statement
abbrev pub orderb : List Rule → List ℕ → Bool
orderb rs [] = true
orderb rs (n ∷ ns) = both (givenb rs ns n) (both (not (memb n ns)) (both (ltb n all_marks) (orderb rs ns)))

abbrev pub test : List Rule → List ℕ → Bool
test rs ns = both (closedb rs ns) (orderb rs ns)

-- What each test shows.

any_of : (ks ns : List ℕ) → T (anyb ks ns) → Some (Listed ns) ks
any_of [] ns t = t
any_of (k ∷ ks) ns t = ⊎_elim (λ u. inl u) (λ u. inr (any_of ks ns u)) (or_cases (memb k ns) (anyb ks ns) t)

of_any : (ks ns : List ℕ) → Some (Listed ns) ks → T (anyb ks ns)
of_any [] ns h = h
of_any (k ∷ ks) ns (inl h) = or_left (memb k ns) (anyb ks ns) h
of_any (k ∷ ks) ns (inr h) = or_right (memb k ns) (anyb ks ns) (of_any ks ns h)

met_of : (kss : List (List ℕ)) (ns : List ℕ) → T (metb kss ns) → All (Some (Listed ns)) kss
met_of [] ns t = tt
met_of (ks ∷ kss) ns t = (any_of ks ns (left (anyb ks ns) (metb kss ns) t), met_of kss ns (right (anyb ks ns) (metb kss ns) t))

of_met : (kss : List (List ℕ)) (ns : List ℕ) → All (Some (Listed ns)) kss → T (metb kss ns)
of_met [] ns h = tt
of_met (ks ∷ kss) ns h = join (anyb ks ns) (metb kss ns) (of_any ks ns h.0) (of_met kss ns h.1)

closed_of : (rs : List Rule) (ns : List ℕ) → T (closedb rs ns) → ClosedRules rs (Listed ns)
closed_of [] ns t = tt
closed_of (r ∷ rs) ns t =
    let a = imp (metb r.needs ns) (memb r.gives ns) in (
      λ h. modus (metb r.needs ns) (memb r.gives ns) (left a (closedb rs ns) t) (of_met r.needs ns h),
      closed_of rs ns (right a (closedb rs ns) t),
    )

given_of : (S : ℕ → Type 0) (rs : List Rule) (ns : List ℕ) (n : ℕ) → ClosedRules rs S → ((k : ℕ) → Listed ns k → S k) → T (givenb rs ns n) → S n
given_of S [] ns n c f t = absurd t
given_of S (r ∷ rs) ns n c f t =
    ⊎_elim
    (λ u. subst S (sym (eqb→eq n r.gives (left (eqb n r.gives) (metb r.needs ns) u)))
    (c.0 (met_map (Listed ns) S r.needs f (met_of r.needs ns (right (eqb n r.gives) (metb r.needs ns) u)))))
    (λ u. given_of S rs ns n c.1 f u)
    (or_cases (both (eqb n r.gives) (metb r.needs ns)) (givenb rs ns n) t)

record First (rs : List Rule) (n : ℕ) (ns : List ℕ) : Type 0 where
  given : T (givenb rs ns n)
  new : Listed ns n → ⊥
  small : n < all_marks
  rest : T (orderb rs ns)

first : (rs : List Rule) (n : ℕ) (ns : List ℕ) → T (orderb rs (n ∷ ns)) → First rs n ns
first rs n ns t =
    let c = both (ltb n all_marks) (orderb rs ns) in
    let b = both (not (memb n ns)) c in
    let u : T b = right (givenb rs ns n) b t in
    let v : T c = right (not (memb n ns)) c u in
    record {
      given = left (givenb rs ns n) b t;
      new = T_not (memb n ns) (left (not (memb n ns)) c u);
      small = ltb→lt n all_marks (left (ltb n all_marks) (orderb rs ns) v);
      rest = right (ltb n all_marks) (orderb rs ns) v;
    }

order_of : (S : ℕ → Type 0) (rs : List Rule) (ns : List ℕ) → ClosedRules rs S → T (orderb rs ns) → (n : ℕ) → Listed ns n → S n
order_of S rs [] c t n h = absurd h
order_of S rs (m ∷ ns) c t n h =
    let p = first rs m ns t in
    let below = order_of S rs ns c p.rest in
    ⊎_elim (λ u. subst S (sym (eqb→eq n m u)) (given_of S rs ns m c below p.given)) (λ u. below n u) (or_cases (eqb n m) (memb n ns) h)

-- The marks with the listed statements set.

abbrev pub marks_of : List ℕ → List ℕ
marks_of [] = blank
marks_of (n ∷ ns) = set (marks_of ns) n 1

pub marks_length : (ns : List ℕ) → length (marks_of ns) ≡ all_marks
marks_length [] = blank_length
marks_length (n ∷ ns) = length-set (marks_of ns) n 1 ∙ marks_length ns

pub marks_bits : (ns : List ℕ) → Bits (marks_of ns)
marks_bits [] k = blank_bits k
marks_bits (n ∷ ns) k = bits_set (marks_of ns) n k (marks_bits ns k)

pub marks_listed : (ns : List ℕ) (n : ℕ) → In (marks_of ns) n → Listed ns n
marks_listed [] n h = absurd (blank_none n h)
marks_listed (m ∷ ns) n h =
    ⊎_elim
    (λ (e : n ≡ m). or_left (eqb n m) (memb n ns) (subst (λ (k : ℕ). T (eqb n k)) e (eqb_refl n)))
    (λ u. or_right (eqb n m) (memb n ns) (marks_listed ns n u))
    (in_set_cases (marks_of ns) m n h)

-- Where a statement is put in front: it is a mark, and it was not set.
pub record Added (n : ℕ) (ns : List ℕ) : Type 0 where
  pub small : n < length (marks_of ns)
  pub unset : get_or (marks_of ns) n 0 ≡ 0

pub added : (rs : List Rule) (n : ℕ) (ns : List ℕ) → T (orderb rs (n ∷ ns)) → Added n ns × T (orderb rs ns)
added rs n ns t =
    let p = first rs n ns t in
    let absent : In (marks_of ns) n → ⊥ = λ h. p.new (marks_listed ns n h) in
    (record { small = omega (arith, marks_length ns, p.small); unset = omega (arith, marks_bits ns n, absent) }, p.rest)

pub listed_marks : (rs : List Rule) (ns : List ℕ) → T (orderb rs ns) → (n : ℕ) → Listed ns n → In (marks_of ns) n
listed_marks rs [] t n h = absurd h
listed_marks rs (m ∷ ns) t n h =
    let p = added rs m ns t in
    ⊎_elim
    (λ u. subst (λ (k : ℕ). In (set (marks_of ns) m 1) k) (sym (eqb→eq n m u)) (get_or-set_same (marks_of ns) m 1 0 p.0.small))
    (λ u. in_set (marks_of ns) m n (listed_marks rs ns p.1 n u))
    (or_cases (eqb n m) (memb n ns) h)

-- As many marks as the list is long.

ones_set : (m : List ℕ) (i : ℕ) → i < length m → get_or m i 0 ≡ 0 → ones (set m i 1) ≡ suc (ones m)
unfolding ones
ones_set [] i l e = absurd (not-suc-le-zero l)
ones_set (b ∷ m) zero l e = rw e (omega arith)
ones_set (b ∷ m) (suc i) l e = omega (arith, ones_set m i (le_of_suc-le-suc l) e)

ones_blank : ones blank ≡ 0
unfolding blank
ones_blank = ones_none all_marks

ones_marks : (rs : List Rule) (ns : List ℕ) → T (orderb rs ns) → ones (marks_of ns) ≡ length ns
ones_marks rs [] t = ones_blank
ones_marks rs (n ∷ ns) t =
    let p = added rs n ns t in
    ones_set (marks_of ns) n p.0.small p.0.unset ∙ ap suc (ones_marks rs ns p.1)

-- How many of a list are truths, and how many sayings.
abbrev pub of_kind : Statements → List ℕ → ℕ
of_kind k [] = 0
of_kind truths (n ∷ ns) = cond (ltb n conclusions) (suc (of_kind truths ns)) (of_kind truths ns)
of_kind sayings (n ∷ ns) = cond (ltb n conclusions) (of_kind sayings ns) (suc (of_kind sayings ns))

-- As many marks of each kind as the list has of it.
kinds_marks : (rs : List Rule) (ns : List ℕ) → T (orderb rs ns) →
    (ones (kind_marks truths (marks_of ns)) ≡ of_kind truths ns) × (ones (kind_marks sayings (marks_of ns)) ≡ of_kind sayings ns)
kinds_marks rs [] t = let e = ones_kinds blank in let z = ones_blank in (omega arith, omega arith)
kinds_marks rs (n ∷ ns) t =
    let p = added rs n ns t in
    go (ltb n conclusions) refl (kinds_marks rs ns p.1) (ones_set (marks_of ns) n p.0.small p.0.unset)
  where
    go : (b : Bool) → ltb n conclusions ≡ b → (ones (kind_marks truths (marks_of ns)) ≡ of_kind truths ns) × (ones (kind_marks sayings (marks_of ns)) ≡ of_kind sayings ns) →
        ones (set (marks_of ns) n 1) ≡ suc (ones (marks_of ns)) →
        (ones (kind_marks truths (set (marks_of ns) n 1)) ≡ cond b (suc (of_kind truths ns)) (of_kind truths ns)) ×
        (ones (kind_marks sayings (set (marks_of ns) n 1)) ≡ cond b (of_kind sayings ns) (suc (of_kind sayings ns)))
    go true q ih s =
        let a = ih.0 in
        let c = ih.1 in
        let d = ap ones (drop-set-lt conclusions (marks_of ns) n 1 (ltb-true n conclusions q)) in
        let e = ones_kinds (set (marks_of ns) n 1) in
        let f = ones_kinds (marks_of ns) in
        (omega arith, omega arith)
    go false q ih s =
        let a = ih.0 in
        let c = ih.1 in
        let d = ap ones (take-set-le conclusions (marks_of ns) n 1 (ltb-false n conclusions q)) in
        let e = ones_kinds (set (marks_of ns) n 1) in
        let f = ones_kinds (marks_of ns) in
        (omega arith, omega arith)

-- Where the rules of a state pass the test, with the firm licences alone or with the provisional ones taken as firm, the listed
-- statements are those that stand under that choice.
abbrev pub certified : State → View → List ℕ → Bool
certified M v ns = both (fits M.N) (test (rules_of M v) ns)

module _ (M : State) (v : View) (ns : List ℕ) (passed : T (certified M v ns)) where
  abbrev rs : List Rule
  rs = rules_of M v

  small : length M.N ≤ grants
  small = leb→le (length M.N) grants (left (fits M.N) (test rs ns) passed)

  tested : T (test rs ns)
  tested = right (fits M.N) (test rs ns) passed

  order : T (orderb rs ns)
  order = right (closedb rs ns) (orderb rs ns) tested

  closed : ClosedSet M (choice_of v) (Listed ns)
  closed = (closed_listed M v (Listed ns) small).1 (closed_of rs ns (left (closedb rs ns) (orderb rs ns) tested))

  -- a listed statement is in every closed set
  pub present : (n : ℕ) → Listed ns n → Stands M (choice_of v) n
  present n h S c = order_of S rs ns ((closed_listed M v S small).0 c) order n h

  -- the listed statements are a closed set, which lacks the others
  pub missing : (n : ℕ) → T (not (memb n ns)) → Lacking M (choice_of v) n
  missing n u = (Listed ns, closed, T_not (memb n ns) u)

-- With the firm licences alone, the marks of the state are those of the listed statements.
module _ (M : State) (ns : List ℕ) (passed : T (certified M firm ns)) where
  marks_are : (m : List ℕ) → MarksOf M m → m ≡ marks_of ns
  marks_are m k =
      same_marks m (marks_of ns) (k.size ∙ sym (marks_length ns)) k.bits (marks_bits ns)
      (λ n h. listed_marks (rs M firm ns passed) ns (order M firm ns passed) n ((k.stand n).0 h (Listed ns) (closed M firm ns passed)))
      (λ n h. (k.stand n).1 (present M firm ns passed n (marks_listed ns n h)))

  pub counted : (m : List ℕ) → MarksOf M m → ones m ≡ length ns
  counted m k = ap ones (marks_are m k) ∙ ones_marks (rs M firm ns passed) ns (order M firm ns passed)

  pub counted_kind : (k : Statements) (m : List ℕ) → MarksOf M m → ones (kind_marks k m) ≡ of_kind k ns
  counted_kind truths m j = ap (λ (l : List ℕ). ones (kind_marks truths l)) (marks_are m j) ∙ (kinds_marks (rs M firm ns passed) ns (order M firm ns passed)).0
  counted_kind sayings m j = ap (λ (l : List ℕ). ones (kind_marks sayings l)) (marks_are m j) ∙ (kinds_marks (rs M firm ns passed) ns (order M firm ns passed)).1
