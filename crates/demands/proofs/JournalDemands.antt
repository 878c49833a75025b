-- Demands 2 and 3 on document 01's own journal, whatever calls have its records: gains less losses are 2, the li loses nothing, the
-- wd gains nothing, and the queries have the answers that are printed.
use Prim.Native.Nat.{ℕ, zero, suc, ◌+◌, ◌≤◌, ◌<◌}
use mathlib.Core.Path.{◌≡◌, refl, sym, ap, subst, ◌∙◌}
use mathlib.Core.List.{List, [], ◌∷◌, map}
use mathlib.Core.Logic.{◌⊎◌, inl, inr, ⊎_elim}
use native.Mathlib.Omega.{arith}
use native.Mathlib.Decide.{ℕ_discrete}
use lib.ListN.{length, get_or, set, take, length-set}
use lib.Seq.{get_or-set_same, get_or-set_other, get_or-drop}
use Rattle.sorts.specs.declared.Status.TheVariants.{Trusted, Issued, Provisional}
use Rattle.sorts.specs.Numbers.{said_mark, conclusions, all_marks}
use Rattle.sorts.specs.Flags.{flag_of}
use Rattle.rows.specs.Written.{Grant, written, same_bytes, same_written}
use Rattle.rows.specs.Numbering.{place, has, add, number}
use Rattle.rows.specs.Form.{conds_of, row_of}
use Rattle.rows.proofs.Bytes.{no_true}
use Rattle.frames.specs.Bytes.{Outcome, got, byte_at, upto, principal, pack, tag, header}
use Rattle.grants.specs.Grants.{read_property, read_packed, read_issue, read_concl, read_conds, read_with, read_grant}
use Rattle.canon.specs.Canon.{canon}
use Rattle.frames.specs.Frames.{kind_with, read_mark, frame, extent}
use Rattle.reader.specs.Contents.{Record, enter, remove, read_entry, read_licence, read_query, read_content}
use Rattle.reader.specs.Records.{read_whole, read_record, read_canonical}
use Rattle.rules.specs.Rules.{res_under, concl_under, granted, issue_mark, Values}
use Rattle.rules.specs.Standing.{In, Bits}
use Rattle.rules.proofs.Saturation.{same_marks, zeroes_none}
use Rattle.bookform.specs.declared.Book.{Book}
use Rattle.bookform.specs.declared.answer.Answer.TheVariants.{Permitted, NotPermitted}
use Rattle.machine.specs.Machine.{State, Entry, Step, asks, start, member, insert, delete, act, step, feed}
use Rattle.machine.specs.Closed.{Choice, grant_at, row_at, StandsAs, Licensed, ClosedSet, Stands}
use Rattle.machine.specs.Closed as closed
use Rattle.machine.specs.Choices.{AlwaysStands, NeverStands}
use Rattle.machine.proofs.Apart.{kind_of, kinds_apart}
use Rattle.marks.specs.Counts.{truths, sayings, ones, marks_of}
use Rattle.machine.proofs.Sets.{member_cases, member_none}
use Rattle.bookform.specs.Books.{fresh_book, fresh_marks}
use Rattle.book.specs.Chains.{Call, Chain, none, then, Fed, whole, records, runs}
use Rattle.demands.specs.Worth.{all_gains, all_losses}
use Rattle.demands.specs.Demands.{NoLoss, NoGain, OneWay, AllOneWay}
use Rattle.demands.proofs.Balance.{ones_none, ones_zero, ones_kinds, kind_bits}
use Rattle.demands.proofs.Existence.{chain_some}
use Rattle.demands.proofs.Reached.{fresh_form}
use Rattle.demands.proofs.Demand2.{demand_2}
use Rattle.demands.proofs.Demand3.{demand_3}
use Rattle.demands.proofs.Journal.{journal, smart, good, may, trusted, journal_end, journal_runs}

-- The machine when the queries are answered: 0 has issued Good(2), and may at the second.
abbrev issued : Entry
issued = record { by = Issued (record { 0 = 0 }); what = good }

abbrev first : State
first = record { entries = trusted smart ∷ issued ∷ []; N = smart ∷ good ∷ [] }

abbrev second : State
second = record { entries = trusted smart ∷ issued ∷ trusted may ∷ []; N = smart ∷ good ∷ may ∷ [] }

-- What each grant gives, which has no variable.

gives_smart : (x y z : ℕ) → (granted (row_at first 0) x y z ≡ 288) × (granted (row_at journal_end 0) x y z ≡ 288)
unfolding row_of conds_of granted concl_under
gives_smart x y z = (refl, refl)

gives_good : (x y z : ℕ) → (granted (row_at first 1) x y z ≡ 290) × (granted (row_at second 1) x y z ≡ 290)
unfolding row_of conds_of granted concl_under
gives_good x y z = (refl, refl)

gives_may : (x y z : ℕ) → (granted (row_at second 2) x y z ≡ 17) × (granted (row_at journal_end 2) x y z ≡ 17)
unfolding row_of conds_of granted concl_under res_under place same_written same_bytes written
gives_may x y z = (refl, refl)

-- Which stand.

-- an entry that is issued is not one that is trusted
not_trusted : {A : Type 0} (p : ℕ) (g h : Grant) → ◌≡◌ {A = Entry} (record { by = Issued (record { 0 = p }); what = g }) (trusted h) → A
not_trusted p g h e = absurd (kinds_apart (Issued (record { 0 = p })) Trusted g h (λ q. omega (arith, q)) e)

-- no licence of the journal is provisional, so that under every choice the firm ones count

provisional_no : (p g : ℕ) (M : State) (y : Entry) (E : List Entry) → (kind_of (Provisional (record { 0 = p })) ≡ kind_of y.by → ⊥) → StandsAs (record { entries = y ∷ E; N = M.N }) (Provisional (record { 0 = p })) g →
    StandsAs (record { entries = E; N = M.N }) (Provisional (record { 0 = p })) g
provisional_no p g M y E d s =
    ⊎_elim (λ e. absurd (kinds_apart (Provisional (record { 0 = p })) y.by (grant_at M g) y.what d e)) (λ h. (s.0, h)) (member_cases _ y E s.1)

first_firm : (C : Choice) (p g : ℕ) → Licensed first C p g → StandsAs first (Issued (record { 0 = p })) g
first_firm C p g (inl h) = h
first_firm C p g (inr h) =
    let r = provisional_no p g first issued [] (λ q. omega (arith, q)) (provisional_no p g first (trusted smart) (issued ∷ []) (λ q. omega (arith, q)) h.0) in
    absurd (member_none _ r.1)

end_firm : (C : Choice) (p g : ℕ) → Licensed journal_end C p g → StandsAs journal_end (Issued (record { 0 = p })) g
end_firm C p g (inl h) = h
end_firm C p g (inr h) =
    let r = provisional_no p g journal_end (trusted may) [] (λ q. omega (arith, q)) (provisional_no p g journal_end (trusted smart) (trusted may ∷ []) (λ q. omega (arith, q)) h.0) in
    absurd (member_none _ r.1)

-- the one licence is 0's, with Good(2)
one_licence : (p g : ℕ) → StandsAs first (Issued (record { 0 = p })) g → (p ≡ 0) × (g ≡ 1)
one_licence p g s =
    ⊎_elim (λ e. not_trusted p (grant_at first g) smart e)
    (λ h. ⊎_elim (λ e. (issuer e, number g s.0 (ap (λ (x : Entry). x.what) e))) (λ k. absurd (member_none _ k)) (member_cases _ issued [] h))
    (member_cases _ (trusted smart) (issued ∷ []) s.1)
  where
    issuer : ◌≡◌ {A = Entry} (record { by = Issued (record { 0 = p }); what = grant_at first g }) issued → p ≡ 0
    issuer e = omega (arith, ap (λ (x : Entry). flag_of x.by) e)

    number : (g : ℕ) → g < 2 → grant_at first g ≡ good → g ≡ 1
    number zero l e = let z : ◌≡◌ {A = ℕ} 0 2 = cc in absurd (omega arith)
    number (suc zero) l e = refl
    number (suc (suc g)) l e = absurd (omega arith)

one_trusted : (g : ℕ) → StandsAs first Trusted g → g ≡ 0
unfolding member same_written same_bytes written
one_trusted zero s = refl
one_trusted (suc zero) s = absurd (no_true s.1)
one_trusted (suc (suc g)) s = absurd (omega (arith, s.0))

-- At the first query Good(2) is said and not true: a closed set lacks it.
abbrev FirstMarks : ℕ → Type 0
FirstMarks n = (n ≡ 288) ⊎ (n ≡ said_mark 0 290)

not_issue : (p g : ℕ) → p ≡ 0 → g ≡ 1 → FirstMarks (issue_mark p g) → ⊥
not_issue p g e f (inl h) = omega arith
not_issue p g e f (inr h) = omega arith

first_closed : (C : Choice) → ClosedSet first C FirstMarks
first_closed C = record {
  saying = λ g x y z p v l s h. said_first g x y z p (one_licence p g (first_firm C p g s));
  trust = λ g x y z v s h. true_first g x y z (one_trusted g s);
  authority = λ g x y z p v l s i h. let q = one_licence p g (first_firm C p g s) in absurd (not_issue p g q.0 q.1 i);
}
  where
    said_first : (g x y z p : ℕ) → (p ≡ 0) × (g ≡ 1) → FirstMarks (said_mark p (granted (row_at first g) x y z))
    said_first g x y z p q =
        inr (ap (λ (i : ℕ). said_mark i (granted (row_at first g) x y z)) q.0 ∙ ap (λ (i : ℕ). said_mark 0 (granted (row_at first i) x y z)) q.1 ∙
        ap (said_mark 0) (gives_good x y z).0)

    true_first : (g x y z : ℕ) → g ≡ 0 → FirstMarks (granted (row_at first g) x y z)
    true_first g x y z e = inl (ap (λ (i : ℕ). granted (row_at first i) x y z) e ∙ (gives_smart x y z).0)

first_lacks : NeverStands first 290
first_lacks C = (FirstMarks, first_closed C, not_there)
  where
    not_there : FirstMarks 290 → ⊥
    not_there (inl e) = omega arith
    not_there (inr e) = omega arith

-- At the second 0 has the right to issue it: every closed set has it.
no_values : (M : State) (g : ℕ) → g < 64 → (row_at M g).prins ≡ 0 → (row_at M g).res ≡ 0 → Values (row_at M) g 0 0 0
no_values M g l e f = record { grant = l; first = rw e (omega arith); second = rw e (omega arith); resource = rw f (omega arith) }

second_stands : AlwaysStands second 290
unfolding row_of conds_of place member same_written same_bytes written
second_stands C S c =
    let right : S 17 = subst S (gives_may 0 0 0).0 (c.trust 2 0 0 0 (no_values second 2 (omega arith) refl refl) (omega arith, refl) (λ i l. absurd (omega arith))) in
    subst S (gives_good 0 0 0).1 (c.authority 1 0 0 0 0 (no_values second 1 (omega arith) refl refl) (omega arith) (inl (omega arith, refl)) right (λ i l. absurd (omega arith)))

-- At the end Perm(0, issue, Good(2)) and Smart(2) stand, and nothing else.
abbrev EndMarks : ℕ → Type 0
EndMarks n = (n ≡ 17) ⊎ (n ≡ 288)

no_licence : (p g : ℕ) → StandsAs journal_end (Issued (record { 0 = p })) g → ⊥
no_licence p g s =
    ⊎_elim (λ e. not_trusted p (grant_at journal_end g) smart e)
    (λ h. ⊎_elim (λ e. not_trusted p (grant_at journal_end g) may e) (λ k. member_none _ k) (member_cases _ (trusted may) [] h))
    (member_cases _ (trusted smart) (trusted may ∷ []) s.1)

end_trusted : (g x y z : ℕ) → StandsAs journal_end Trusted g → EndMarks (granted (row_at journal_end g) x y z)
unfolding member same_written same_bytes written
end_trusted zero x y z s = inr (gives_smart x y z).1
end_trusted (suc zero) x y z s = absurd (no_true s.1)
end_trusted (suc (suc zero)) x y z s = inl (gives_may x y z).1
end_trusted (suc (suc (suc g))) x y z s = absurd (omega (arith, s.0))

end_closed : (C : Choice) → ClosedSet journal_end C EndMarks
end_closed C = record {
  saying = λ g x y z p v l s h. absurd (no_licence p g (end_firm C p g s));
  trust = λ g x y z v s h. end_trusted g x y z s;
  authority = λ g x y z p v l s i h. absurd (no_licence p g (end_firm C p g s));
}

end_stands : (C : Choice) (n : ℕ) → EndMarks n → Stands journal_end C n
unfolding row_of conds_of place member same_written same_bytes written
end_stands C n (inl e) S c =
    subst S ((gives_may 0 0 0).1 ∙ sym e) (c.trust 2 0 0 0 (no_values journal_end 2 (omega arith) refl refl) (omega arith, refl) (λ i l. absurd (omega arith)))
end_stands C n (inr e) S c =
    subst S ((gives_smart 0 0 0).1 ∙ sym e) (c.trust 0 0 0 0 (no_values journal_end 0 (omega arith) refl refl) (omega arith, refl) (λ i l. absurd (omega arith)))

-- Marks that are those two, and no others, are two.

ones_set : (l : List ℕ) (i : ℕ) → i < length l → get_or l i 0 ≡ 0 → ones (set l i 1) ≡ ones l + 1
unfolding ones
ones_set [] i h z = absurd (omega arith)
ones_set (a ∷ l) zero h z = rw z (omega arith)
ones_set (a ∷ l) (suc i) h z = let e = ones_set l i (omega arith) z in omega arith

module _ (l : List ℕ) (len : length l ≡ all_marks) (blank : (n : ℕ) → get_or l n 0 ≡ 0) where
  abbrev marked : List ℕ
  marked = set (set l 17 1) 288 1

  marked_length : length marked ≡ all_marks
  marked_length = length-set (set l 17 1) 288 1 ∙ length-set l 17 1 ∙ len

  at_last : get_or marked 288 0 ≡ 1
  at_last = get_or-set_same (set l 17 1) 288 1 0 (omega (arith, length-set l 17 1, len))

  at_other : (n : ℕ) → (n ≡ 288 → ⊥) → get_or marked n 0 ≡ get_or (set l 17 1) n 0
  at_other n d = get_or-set_other (set l 17 1) 288 n 1 0 d

  marked_is : (n : ℕ) → Dec (n ≡ 17) → Dec (n ≡ 288) → (In marked n → EndMarks n) × (EndMarks n → In marked n) × (get_or marked n 0 ≤ 1)
  marked_is n p (yes e) = let q : get_or marked n 0 ≡ 1 = ap (λ (i : ℕ). get_or marked i 0) e ∙ at_last in (λ h. inr e, λ h. q, omega arith)
  marked_is n (yes f) (no e) =
      let q : get_or marked n 0 ≡ 1 = at_other n e ∙ ap (λ (i : ℕ). get_or (set l 17 1) i 0) f ∙ get_or-set_same l 17 1 0 (omega (arith, len)) in
      (λ h. inl f, λ h. q, omega arith)
  marked_is n (no f) (no e) =
      let q : get_or marked n 0 ≡ 0 = at_other n e ∙ get_or-set_other l 17 n 1 0 f ∙ blank n in
      (λ h. absurd (omega arith), λ h. absurd (neither h), omega arith)
    where
      neither : EndMarks n → ⊥
      neither (inl d) = f d
      neither (inr d) = e d

  marked_ones : ones marked ≡ ones l + 2
  marked_ones =
      let a = ones_set l 17 (omega (arith, len)) (blank 17) in
      let b = ones_set (set l 17 1) 288 (omega (arith, length-set l 17 1, len)) (get_or-set_other l 17 288 1 0 (λ d. omega arith) ∙ blank 288) in
      omega arith

  two_marks : (m : List ℕ) → length m ≡ all_marks → Bits m → ((n : ℕ) → (In m n → EndMarks n) × (EndMarks n → In m n)) → ones m ≡ ones l + 2
  two_marks m k b h =
      ap ones (same_marks m marked (k ∙ sym marked_length) b (λ n. (is n).2) (λ n x. (is n).1 ((h n).0 x)) (λ n x. (h n).1 ((is n).0 x))) ∙ marked_ones
    where
      is : (n : ℕ) → (In marked n → EndMarks n) × (EndMarks n → In marked n) × (get_or marked n 0 ≤ 1)
      is n = marked_is n (ℕ_discrete n 17) (ℕ_discrete n 288)

fresh_blank : (n : ℕ) → get_or fresh_marks n 0 ≡ 0
unfolding fresh_marks
fresh_blank n = let b = fresh_form.marks.bits n in let d = zeroes_none all_marks n in omega (arith, b, d)

fresh_ones : ones fresh_marks ≡ 0
unfolding fresh_marks
fresh_ones = ones_none all_marks

-- the two marks that stand at the end are truths
module _ (m : List ℕ) (bits : Bits m) (all : ones m ≡ 2) (is : (n : ℕ) → In m n → EndMarks n) where
  no_sayings : ones (marks_of sayings m) ≡ 0
  no_sayings = ones_zero (marks_of sayings m) (kind_bits sayings m bits) (λ i h. low i (is (conclusions + i) (sym (get_or-drop conclusions m i 0) ∙ h)))
    where
      low : (i : ℕ) → EndMarks (conclusions + i) → ⊥
      low i (inl e) = omega arith
      low i (inr e) = omega arith

  two_truths : ones (marks_of truths m) ≡ 2
  two_truths = let e = ones_kinds m in let z = no_sayings in omega arith

-- THE SUMS: gains less losses of truths are the two marks that stand at the end; those of sayings are none.
pub journal_sums : (cs : List Call) (b : Book) (m k : List ℕ) → Chain fresh_book fresh_marks fresh_marks cs b m k → records cs ≡ map whole journal →
    (all_gains truths cs ≡ all_losses truths cs + 2) × (all_gains sayings cs ≡ all_losses sayings cs)
journal_sums cs b m k K e =
    let D = demand_3 cs b m k K in
    let M : runs start (records cs) ≡ journal_end = ap (runs start) e ∙ journal_runs in
    let is : (n : ℕ) → In m n → EndMarks n = λ n h. subst (λ (x : State). Stands x closed.none n) M ((D.marks n).0 h) EndMarks (end_closed closed.none) in
    let two = two_marks fresh_marks fresh_form.marks.count fresh_blank m D.form.marks.count D.form.marks.bits
    (λ n. (is n, λ h. (D.marks n).1 (subst (λ (x : State). Stands x closed.none n) (sym M) (end_stands closed.none n h)))) in
    let z = fresh_ones in
    let all : ones m ≡ 2 = omega arith in
    let t = two_truths m D.form.marks.bits all is in
    let s = no_sayings m D.form.marks.bits all is in
    let x = D.sums truths in
    let y = D.sums sayings in
    (omega arith, omega arith)

-- THE ONE WAY: the second record, LI, loses nothing, and the sixth, WD, gains nothing.

second_is : read_canonical (108 ∷ 105 ∷ 0 ∷ 7 ∷ 0 ∷ 0 ∷ 0 ∷ 0 ∷ 0 ∷ 2 ∷ 2 ∷ []) ≡ got (enter (Issued (record { 0 = 0 })) good) 11
unfolding byte_at upto principal header read_property read_concl read_conds read_with read_grant read_entry read_licence read_content read_whole kind_with read_mark frame extent read_record canon read_canonical
second_is = refl

sixth_is : read_canonical (119 ∷ 100 ∷ 0 ∷ 7 ∷ 0 ∷ 0 ∷ 0 ∷ 0 ∷ 0 ∷ 2 ∷ 2 ∷ []) ≡ got (remove (Issued (record { 0 = 0 })) good) 11
unfolding byte_at upto principal header read_property read_concl read_conds read_with read_grant read_entry read_licence read_content read_whole kind_with read_mark frame extent read_record canon read_canonical
sixth_is = refl

pub journal_one_way : (a b c d e f g : Call) (t : Book) (m k : List ℕ) → Chain fresh_book fresh_marks fresh_marks (a ∷ b ∷ c ∷ d ∷ e ∷ f ∷ g ∷ []) t m k →
    records (a ∷ b ∷ c ∷ d ∷ e ∷ f ∷ g ∷ []) ≡ map whole journal → NoLoss b × NoGain f
unfolding records AllOneWay
journal_one_way a b c d e f g t m k K h =
    let W = (demand_3 (a ∷ b ∷ c ∷ d ∷ e ∷ f ∷ g ∷ []) t m k K).one_way in
    let li : read_canonical b.record' ≡ got (enter (Issued (record { 0 = 0 })) good) 11 = ap (λ (l : List Fed). read_canonical (get_or l 1 (whole [])).bytes) h ∙ second_is in
    let wd : read_canonical f.record' ≡ got (remove (Issued (record { 0 = 0 })) good) 11 = ap (λ (l : List Fed). read_canonical (get_or l 5 (whole [])).bytes) h ∙ sixth_is in
    (subst (λ (o : Outcome Record). OneWay o b) li W.1.0, subst (λ (o : Outcome Record). OneWay o f) wd W.1.1.1.1.1.0)

-- THE ANSWERS: Good(2) is not permitted at the third record, and permitted at the fifth.

third_asks : feed (runs start (take 2 (map whole journal))) all_marks (get_or journal 2 []) ≡ record { next = first; says = asks 290; used = 7 }
unfolding byte_at upto principal pack tag header read_property read_packed read_issue read_concl read_conds read_with read_grant read_entry read_licence read_query read_content read_whole kind_with read_mark frame extent read_record canon read_canonical written same_bytes same_written place has add number member insert delete act step feed runs
third_asks = refl

fifth_asks : feed (runs start (take 4 (map whole journal))) all_marks (get_or journal 4 []) ≡ record { next = second; says = asks 290; used = 7 }
unfolding byte_at upto principal pack tag header read_property read_packed read_issue read_concl read_conds read_with read_grant read_entry read_licence read_query read_content read_whole kind_with read_mark frame extent read_record canon read_canonical written same_bytes same_written place has add number member insert delete act step feed runs
fifth_asks = refl

-- what is fed at a call
abbrev fed_with : List ℕ → List ℕ → Fed
fed_with s v = record { bytes = s; room = length v }

pub journal_answers : {a b c d e f g : Call} {t : Book} {m k : List ℕ} → Chain fresh_book fresh_marks fresh_marks (a ∷ b ∷ c ∷ d ∷ e ∷ f ∷ g ∷ []) t m k →
    records (a ∷ b ∷ c ∷ d ∷ e ∷ f ∷ g ∷ []) ≡ map whole journal → (c.gave.answer ≡ NotPermitted) × (e.gave.answer ≡ Permitted)
unfolding records
journal_answers (then s1 v1 r1 n1 l1 w1 c1 (then s2 v2 r2 n2 l2 w2 c2 (then s3 v3 r3 n3 l3 w3 c3 (then s4 v4 r4 n4 l4 w4 c4 (then s5 v5 r5 n5 l5 w5 c5 K))))) h =
    let third : feed (runs start (fed_with s1 v1 ∷ fed_with s2 v2 ∷ [])) (length v3) s3 ≡ record { next = first; says = asks 290; used = 7 } = ap (λ (l : List Fed). feed (runs start (take 2 l)) (get_or l 2 (whole [])).room (get_or l 2 (whole [])).bytes) h ∙ third_asks in
    let fifth : feed (runs start (fed_with s1 v1 ∷ fed_with s2 v2 ∷ fed_with s3 v3 ∷ fed_with s4 v4 ∷ [])) (length v5) s5 ≡ record { next = second; says = asks 290; used = 7 } = ap (λ (l : List Fed). feed (runs start (take 4 l)) (get_or l 4 (whole [])).room (get_or l 4 (whole [])).bytes) h ∙ fifth_asks in (
      (demand_2 _ _ _ _ (then s1 v1 r1 n1 l1 w1 c1 (then s2 v2 r2 n2 l2 w2 c2 none)) s3 v3 r3 n3 l3 w3 c3 290 (ap (λ (x : Step). x.says) third)).not_permitted.1 (subst (λ (x : Step). NeverStands x.next 290) (sym third) first_lacks),
      (demand_2 _ _ _ _ (then s1 v1 r1 n1 l1 w1 c1 (then s2 v2 r2 n2 l2 w2 c2 (then s3 v3 r3 n3 l3 w3 c3 (then s4 v4 r4 n4 l4 w4 c4 none)))) s5 v5 r5 n5 l5 w5 c5 290 (ap (λ (x : Step). x.says) fifth)).permitted.1 (subst (λ (x : Step). AlwaysStands x.next 290) (sym fifth) second_stands),
    )

-- There are such calls: chain-some has them, and calls with these records are seven.
pub record Seven : Type 0 where
  pub a : Call
  pub b : Call
  pub c : Call
  pub d : Call
  pub e : Call
  pub f : Call
  pub g : Call
  pub book : Book
  pub marks : List ℕ
  pub second : List ℕ
  pub chain : Chain fresh_book fresh_marks fresh_marks (a ∷ b ∷ c ∷ d ∷ e ∷ f ∷ g ∷ []) book marks second
  pub same : records (a ∷ b ∷ c ∷ d ∷ e ∷ f ∷ g ∷ []) ≡ map whole journal

seven : (cs : List Call) (t : Book) (m k : List ℕ) → Chain fresh_book fresh_marks fresh_marks cs t m k → records cs ≡ map whole journal → Seven
unfolding records
seven [] t m k K h = absurd (omega (arith, ap length h))
seven (a ∷ []) t m k K h = absurd (omega (arith, ap length h))
seven (a ∷ b ∷ []) t m k K h = absurd (omega (arith, ap length h))
seven (a ∷ b ∷ c ∷ []) t m k K h = absurd (omega (arith, ap length h))
seven (a ∷ b ∷ c ∷ d ∷ []) t m k K h = absurd (omega (arith, ap length h))
seven (a ∷ b ∷ c ∷ d ∷ e ∷ []) t m k K h = absurd (omega (arith, ap length h))
seven (a ∷ b ∷ c ∷ d ∷ e ∷ f ∷ []) t m k K h = absurd (omega (arith, ap length h))
seven (a ∷ b ∷ c ∷ d ∷ e ∷ f ∷ g ∷ []) t m k K h = record { a = a; b = b; c = c; d = d; e = e; f = f; g = g; book = t; marks = m; second = k; chain = K; same = h }
seven (a ∷ b ∷ c ∷ d ∷ e ∷ f ∷ g ∷ x ∷ cs) t m k K h = absurd (omega (arith, ap length h))

pub journal_seven : Seven
journal_seven = let K = chain_some journal in seven K.calls K.book K.marks K.second K.chain K.same
