-- The table of worked examples, proved: a list of the standing statements for each example, and one test over all of them.
use mathlib.Core.Path.{◌≡◌, refl, sym, ap, ◌∙◌}
use mathlib.Core.Bool.{Bool, true, false, not}
use mathlib.Core.List.{List, [], ◌∷◌}
use Prim.Native.Nat.{ℕ, zero, suc}
use lib.Dec.{T, eqb, eqb→eq}
use lib.IntN.{ℤ, pos, negsuc, ◌-ℤ◌}
use lib.ListN.{length}
use Rattle.rows.specs.Written.{same_written}
use Rattle.rows.proofs.Bytes.{same_eq}
use Rattle.reader.specs.Contents.{Record}
use Rattle.machine.specs.Machine.{State, Verdict, changes, previews, asks, refuses, start}
use Rattle.machine.proofs.Choices.{permitted_none, not_permitted_all, open_both}
use Rattle.marks.specs.Counts.{Statements, truths, sayings, counts_of, change_in}
use Rattle.demands.proofs.Views.{firm, both as with_all}
use Rattle.worked.specs.Worked.{machine, taken, accepting, Accepted, number_in, Answer, permitted, not_permitted, undecided, marks, each, nets, MarksOf, Says, All, Example, Right, table}
use Rattle.worked.proofs.Computing.{listed, fed, rowed, grounded}
use Rattle.worked.proofs.Certified.{both, left, right, memb, of_kind, certified, present, missing, counted, counted_kind}
use Rattle.worked.proofs.Marks.{net_is}

-- The statements that stand after an example's records with the firm licences alone; those that stand with all provisional ones
-- taken as firm, where an answer needs them; and those that stood, with the firm licences alone, after the records that it is set
-- against, if there are any: each in front of those that it follows from.
record Certificate : Type 0 where
  now : List ℕ
  most : List ℕ
  before : List ℕ

-- The tests: the listed statements are those that stand, each record is accepted, and each answer is right of the list.

-- the first is a change or a preview, and the second is the same
abbrev pub saysb : Verdict → Verdict → Bool
saysb changes changes = true
saysb changes (previews q h) = false
saysb changes (asks c) = false
saysb changes (refuses k) = false
saysb (previews p g) changes = false
saysb (previews p g) (previews q h) = both (eqb p.0 q.0) (same_written g h)
saysb (previews p g) (asks c) = false
saysb (previews p g) (refuses k) = false
saysb (asks c) w = false
saysb (refuses k) w = false

abbrev pub acceptedb : State → List Record → Bool
acceptedb M [] = true
acceptedb M (e ∷ es) = both (saysb (accepting e) (taken M e).says) (acceptedb (taken M e).next es)

abbrev sameb : ℤ → ℤ → Bool
sameb (pos a) (pos b) = eqb a b
sameb (pos a) (negsuc b) = false
sameb (negsuc a) (pos b) = false
sameb (negsuc a) (negsuc b) = eqb a b

-- the marks of a kind that stand now less those that stood
abbrev difference : Statements → Certificate → ℤ
difference s k = pos (of_kind s k.now) -ℤ pos (of_kind s k.before)

abbrev answerb : List Record → Certificate → Answer → Bool
answerb es k (permitted c) = memb (number_in (machine es) c) k.now
answerb es k (not_permitted c) = both (certified (machine es) with_all k.most) (not (memb (number_in (machine es) c) k.most))
answerb es k (undecided c) = both (certified (machine es) with_all k.most) (both (memb (number_in (machine es) c) k.most) (not (memb (number_in (machine es) c) k.now)))
answerb es k (marks n) = eqb (length k.now) n
answerb es k (each t s) = both (eqb (of_kind truths k.now) t) (eqb (of_kind sayings k.now) s)
answerb es k (nets old y z) = both (certified (machine old) firm k.before) (both (sameb (difference truths k) y) (sameb (difference sayings k) z))

abbrev answersb : List Record → Certificate → List Answer → Bool
answersb es k [] = true
answersb es k (a ∷ l) = both (answerb es k a) (answersb es k l)

abbrev lineb : Example → Certificate → Bool
lineb e k = both (acceptedb start e.entries) (both (certified (machine e.entries) firm k.now) (answersb e.entries k e.answers))

abbrev tests : List Example → List Certificate → Bool
tests [] ks = true
tests (e ∷ es) [] = false
tests (e ∷ es) (k ∷ ks) = both (lineb e k) (tests es ks)

-- The tests turned into what the table says.

is_true : (b : Bool) → T b → b ≡ true
is_true true t = refl
is_true false t = absurd t

says : (v w : Verdict) → T (saysb v w) → w ≡ v
says changes changes t = refl
says changes (previews q h) t = absurd t
says changes (asks c) t = absurd t
says changes (refuses k) t = absurd t
says (previews p g) changes t = absurd t
says (previews p g) (previews q h) t =
    let i = eqb→eq p.0 q.0 (left (eqb p.0 q.0) (same_written g h) t) in
    let j = same_eq g h (is_true (same_written g h) (right (eqb p.0 q.0) (same_written g h) t)) in
    sym (λ x. previews (record { 0 = i x }) (j x))
says (previews p g) (asks c) t = absurd t
says (previews p g) (refuses k) t = absurd t
says (asks c) w t = absurd t
says (refuses k) w t = absurd t

pub accepted : (M : State) (es : List Record) → T (acceptedb M es) → Accepted M es
accepted M [] t = tt
accepted M (e ∷ es) t =
    let a = saysb (accepting e) (taken M e).says in
    let b = acceptedb (taken M e).next es in
    (says (accepting e) (taken M e).says (left a b t), accepted (taken M e).next es (right a b t))

same_int : (y z : ℤ) → T (sameb y z) → y ≡ z
same_int (pos a) (pos b) t = ap pos (eqb→eq a b t)
same_int (pos a) (negsuc b) t = absurd t
same_int (negsuc a) (pos b) t = absurd t
same_int (negsuc a) (negsuc b) t = ap negsuc (eqb→eq a b t)

module _ (es : List Record) (k : Certificate) (t : T (certified (machine es) firm k.now)) where
  of_kind_lem : (s : Statements) (old : List Record) → T (certified (machine old) firm k.before) → (l m : List ℕ) → MarksOf (machine old) l → MarksOf (machine es) m →
      (change_in s (counts_of l m)).net ≡ difference s k
  of_kind_lem s old u l m i j =
      let p = counted_kind (machine es) k.now t s m j in
      let q = counted_kind (machine old) k.before u s l i in
      net_is s (machine old) (machine es) l m i j ∙ (λ x. pos (p x) -ℤ pos (q x))

  holds : (a : Answer) → T (answerb es k a) → Says es a
  holds (permitted c) u = let n = number_in (machine es) c in (permitted_none (machine es) n).1 (present (machine es) firm k.now t n u)
  holds (not_permitted c) u =
      let n = number_in (machine es) c in
      let a = certified (machine es) with_all k.most in
      let b = not (memb n k.most) in
      (not_permitted_all (machine es) n).1 (missing (machine es) with_all k.most (left a b u) n (right a b u))
  holds (undecided c) u =
      let n = number_in (machine es) c in
      let a = certified (machine es) with_all k.most in
      let b = memb n k.most in
      let d = not (memb n k.now) in
      let v : T (both b d) = right a (both b d) u in
      (open_both (machine es) n).1 (present (machine es) with_all k.most (left a (both b d) u) n (left b d v), missing (machine es) firm k.now t n (right b d v))
  holds (marks n) u = record { count = λ m j. counted (machine es) k.now t m j ∙ eqb→eq (length k.now) n u }
  holds (each n s) u = record {
    count = λ m j. (
      counted_kind (machine es) k.now t truths m j ∙ eqb→eq (of_kind truths k.now) n (left (eqb (of_kind truths k.now) n) (eqb (of_kind sayings k.now) s) u),
      counted_kind (machine es) k.now t sayings m j ∙ eqb→eq (of_kind sayings k.now) s (right (eqb (of_kind truths k.now) n) (eqb (of_kind sayings k.now) s) u),
    );
  }
  holds (nets old y z) u =
      let a = certified (machine old) firm k.before in
      let b = sameb (difference truths k) y in
      let c = sameb (difference sayings k) z in
      let v : T (both b c) = right a (both b c) u in
      record {
        difference = λ l m i j. (
          of_kind_lem truths old (left a (both b c) u) l m i j ∙ same_int (difference truths k) y (left b c v),
          of_kind_lem sayings old (left a (both b c) u) l m i j ∙ same_int (difference sayings k) z (right b c v),
        );
      }

  answers_hold : (l : List Answer) → T (answersb es k l) → All (Says es) l
  answers_hold [] u = tt
  answers_hold (a ∷ l) u = (holds a (left (answerb es k a) (answersb es k l) u), answers_hold l (right (answerb es k a) (answersb es k l) u))

right_line : (e : Example) (k : Certificate) → T (lineb e k) → Right e
right_line e k t =
    let a = acceptedb start e.entries in
    let b = certified (machine e.entries) firm k.now in
    let c = answersb e.entries k e.answers in
    let u : T (both b c) = right a (both b c) t in
    record {
      accepted = accepted start e.entries (left a (both b c) t);
      answered = answers_hold e.entries k (left b c u) e.answers (right b c u);
    }

tested : (es : List Example) (ks : List Certificate) → T (tests es ks) → All Right es
tested [] ks t = tt
tested (e ∷ es) [] t = absurd t
tested (e ∷ es) (k ∷ ks) t = (right_line e k (left (lineb e k) (tests es ks) t), tested es ks (right (lineb e k) (tests es ks) t))

-- The certificates.

-- k statements from n on
abbrev span : ℕ → ℕ → List ℕ
span n zero = []
span n (suc k) = n ∷ span (suc n) k

-- where no answer needs others with all
abbrev only : List ℕ → Certificate
only ns = record { now = ns; most = ns; before = [] }

-- with all, others
abbrev up_to : List ℕ → List ℕ → Certificate
up_to ns ms = record { now = ns; most = ms; before = [] }

-- and where an example is set against other records
abbrev against : List ℕ → List ℕ → Certificate
against ns os = record { now = ns; most = ns; before = os }

certificates : List Certificate
certificates =
    -- P1 to P4
    only (289 ∷ 161 ∷ 4897 ∷ 2592 ∷ [])
    ∷ only (4897 ∷ 2592 ∷ [])
    ∷ only (0 ∷ 16 ∷ 2304 ∷ [])
    ∷ only (0 ∷ [])
    -- P5
    ∷ only (434 ∷ 2738 ∷ 435 ∷ 2739 ∷ 290 ∷ 2594 ∷ 291 ∷ 2595 ∷ span 16 64)
    -- P6, before and after
    ∷ only []
    ∷ only (2592 ∷ 4896 ∷ [])
    -- P7, P8
    ∷ only (span 2320 64)
    ∷ only (288 ∷ [])
    -- P9, before and after
    ∷ only (292 ∷ 4898 ∷ 2592 ∷ [])
    ∷ against [] (292 ∷ 4898 ∷ 2592 ∷ [])
    -- P10
    ∷ only (span 800 32)
    -- conditions in another order
    ∷ only (292 ∷ 7204 ∷ 306 ∷ 4898 ∷ 2592 ∷ [])
    -- a chain with a provisional licence: with it countersigned, withdrawn, and countersigned and withdrawn
    ∷ up_to (2592 ∷ []) (292 ∷ 7203 ∷ 4898 ∷ 2592 ∷ [])
    ∷ against (292 ∷ 7203 ∷ 4898 ∷ 2592 ∷ []) (2592 ∷ [])
    ∷ against (2592 ∷ []) (2592 ∷ [])
    ∷ only (2592 ∷ [])
    -- two paths: with the first firm and the second provisional, then withdrawn; with the second alone; with neither
    ∷ up_to [] (831 ∷ 2592 ∷ 4896 ∷ [])
    ∷ only (831 ∷ 2592 ∷ [])
    ∷ only (831 ∷ 2592 ∷ [])
    ∷ only (831 ∷ 4896 ∷ [])
    ∷ only []
    -- another path
    ∷ only (290 ∷ 2592 ∷ [])
    -- a circle of provisional licences
    ∷ only []
    -- firm either way
    ∷ only (292 ∷ 4898 ∷ 2592 ∷ [])
    -- a lab that leaves, with its withdrawal previewed, and done
    ∷ only (831 ∷ 863 ∷ 2592 ∷ 4896 ∷ [])
    ∷ against (831 ∷ 863 ∷ 2592 ∷ 4896 ∷ []) (831 ∷ 863 ∷ 2592 ∷ 4896 ∷ [])
    ∷ against (831 ∷ 4896 ∷ []) (831 ∷ 863 ∷ 2592 ∷ 4896 ∷ [])
    -- a preview of the chain's provisional licence
    ∷ record { now = 2592 ∷ []; most = 292 ∷ 7203 ∷ 4898 ∷ 2592 ∷ []; before = 2592 ∷ [] }
    ∷ []

computed : T (tests table certificates)
unfolding listed fed rowed grounded certificates
computed = tt

-- The standing statements of every example are as the table says.
pub worked : All Right table
worked = tested table certificates computed
