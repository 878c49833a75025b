-- A book that calls reached, and one more call on it.
use Prim.Native.Nat.{ℕ, ◌+◌}
use mathlib.Core.Path.{◌≡◌, refl, sym, ap, subst, ◌∙◌}
use mathlib.Core.Bool.{Bool, true, false, cond}
use mathlib.Core.List.{List}
use native.Mathlib.Omega.{arith}
use native.Mathlib.Nat.{not-suc-le-zero}
use lib.ListN.{length, get_or, replicate, length-replicate}
use lib.Dec.{eqb}
use native.Mathlib.Decide.{ℕ_discrete}
use borrow.Author.Tests.{eq-eqb, ne_eqb}
use Rattle.marks.specs.declared.Counts.{Counts}
use Rattle.sorts.specs.declared.Status.TheVariants.{Trusted, Issued, Provisional}
use Rattle.sorts.specs.Numbers.{all_marks}
use Rattle.sorts.specs.Flags.{all_flags, flag_place}
use Rattle.sorts.specs.declared.Refusal.TheVariants as refusal
use Rattle.sorts.specs.declared.Refusal.{Refusal}
use Rattle.rows.specs.Form.{rows_out}
use Rattle.rows.proofs.Shown.{blank_shown, shown_form}
use Rattle.rows.proofs.Bytes.{no_true}
use Rattle.rules.specs.Rules.{Closed}
use Rattle.rules.specs.Standing.{In, Above, standing}
use Rattle.rules.proofs.Standing.{standing_in, standing_length, standing_bits}
use Rattle.rules.proofs.Saturation.{same_marks, zeroes_bits, zeroes_none}
use Rattle.bookform.specs.Both.{both_flags}
use Rattle.bookform.proofs.flags.Both.{both_firm}
use Rattle.machine.specs.Machine.{State, Step, Verdict, changes, previews, asks, refuses, refuse, start, step, feed, member}
use Rattle.marks.specs.Gains.{gains}
use Rattle.marks.specs.Counts.{Statements, truths, sayings, ones, marks_of, change_of, counts_of, change_in}
use Rattle.bookform.specs.declared.Book.{Book}
use Rattle.bookform.specs.declared.answer.Answer.{Answer}
use Rattle.bookform.specs.declared.answer.Answer.TheVariants.{Permitted, Open, NotPermitted, Previewed, Refused}
use Rattle.bookform.specs.declared.answer.Answered.{Answered}
use Rattle.bookform.specs.Books.{MarksForm, BookForm}
use Rattle.book.specs.Shows.{Shows}
use Rattle.bookform.specs.Answers.{answer_at}
use Rattle.book.specs.Calls.{answer_of, marks_after, second_after, preview_after, Follows, Called}
use Rattle.bookform.specs.Books.{fresh_book, fresh_marks}
use Rattle.book.proofs.Forms.{table_rows}
use Rattle.demands.specs.Worth.{reported}
use Rattle.demands.proofs.Balance.{balance, none_gained, kind_bits, kind_length, kind_above}
use Rattle.demands.proofs.Views.{View, firm, both, marks_in}
use Rattle.demands.proofs.Moving.{feed_asks, Up, Down}
use Rattle.demands.proofs.Standings.{up_stands, down_stands, still_stands}

-- in form, showing the machine's state, with what stands in each view as its marks
pub record Reached (b : Book) (m k : List ℕ) (M : State) : Type 0 where
  pub form : BookForm b m k
  pub shows : Shows b M
  pub stands : m ≡ marks_in firm b
  pub second : k ≡ marks_in both b

-- a fresh book is reached

fresh_flag : (i : ℕ) → get_or fresh_book.flags i 0 ≡ 0
fresh_flag i = let b = zeroes_bits all_flags i in let n = zeroes_none all_flags i in omega (arith, b, n)

fresh_marks_lem : MarksForm fresh_marks
unfolding fresh_marks
fresh_marks_lem = record { count = length-replicate {A = ℕ} all_marks 0; bits = zeroes_bits all_marks }

pub fresh_form : BookForm fresh_book fresh_marks fresh_marks
fresh_form = record {
  marks = fresh_marks_lem;
  second = fresh_marks_lem;
  flags = length-replicate {A = ℕ} all_flags 0;
  flag_bits = zeroes_bits all_flags;
  table = shown_form blank_shown;
  canonical = λ i l. absurd (omega arith);
  apart = λ p g l i j. let z = fresh_flag (flag_place (Issued p) g) in omega (arith, z, i);
  unflagged = λ i l. fresh_flag i;
}

pub fresh_shows : Shows fresh_book start
unfolding rows_out member
fresh_shows = record {
  rows = refl;
  flags = λ by g k l. absurd (not-suc-le-zero l);
  within = λ by g e. absurd (no_true e);
}

-- nothing stands where no flag is set
fresh_closed : Closed fresh_book.table.rows fresh_book.flags (λ n. ⊥)
fresh_closed = record {
  saying = λ g x y z p v l s h. s (fresh_flag (flag_place (Issued (record { 0 = p })) g));
  trust = λ g x y z v s h. s (fresh_flag (flag_place Trusted g));
  authority = λ g x y z p v l s i h. s (fresh_flag (flag_place (Issued (record { 0 = p })) g));
}

fresh_stands : fresh_marks ≡ marks_in firm fresh_book
unfolding fresh_marks
fresh_stands =
    same_marks (replicate all_marks 0) (standing fresh_book.table.rows fresh_book.flags) (length-replicate {A = ℕ} all_marks 0 ∙ sym (standing_length fresh_book.table.rows fresh_book.flags))
    (zeroes_bits all_marks) (standing_bits fresh_book.table.rows fresh_book.flags) (λ n h. absurd (zeroes_none all_marks n h))
    (λ n h. absurd ((standing_in fresh_book.table.rows fresh_book.flags (table_rows fresh_book.table fresh_form.table) n).0 h (λ k. ⊥) fresh_closed))

-- and nothing is provisional
fresh_both : both_flags fresh_book.flags ≡ fresh_book.flags
fresh_both = both_firm fresh_book.flags (length-replicate {A = ℕ} all_flags 0) (λ p g k l. fresh_flag (flag_place (Provisional p) g))

pub fresh_reached : Reached fresh_book fresh_marks fresh_marks start
fresh_reached = record {
  form = fresh_form;
  shows = fresh_shows;
  stands = fresh_stands;
  second = fresh_stands ∙ ap (λ (f : List ℕ). standing fresh_book.table.rows f) (sym fresh_both);
}

-- what is reported: of a change, the gains and losses of each kind; of a query and of a refusal, nothing

counts_are : (j : Statements) (m n : List ℕ) →
    ((change_in j (counts_of m n)).gained ≡ gains (marks_of j m) (marks_of j n)) × ((change_in j (counts_of m n)).lost ≡ gains (marks_of j n) (marks_of j m))
unfolding counts_of change_of
counts_are truths m n = (refl, refl)
counts_are sayings m n = (refl, refl)

abbrev Uncounted : Statements → Answer → Type 0
Uncounted j a = ((reported j a).gained ≡ 0) × ((reported j a).lost ≡ 0)

permitted_no : (j : Statements) → Uncounted j Permitted
permitted_no truths = (refl, refl)
permitted_no sayings = (refl, refl)

open_no : (j : Statements) → Uncounted j Open
open_no truths = (refl, refl)
open_no sayings = (refl, refl)

denied_no : (j : Statements) → Uncounted j NotPermitted
denied_no truths = (refl, refl)
denied_no sayings = (refl, refl)

uncounted_no : (j : Statements) (m k : List ℕ) (c : ℕ) → Uncounted j (answer_at m k c)
uncounted_no j m k c = go (eqb (get_or m c 0) 1) (eqb (get_or k c 0) 1)
  where
    go : (a b : Bool) → Uncounted j (cond a Permitted (cond b Open NotPermitted))
    go true b = permitted_no j
    go false true = open_no j
    go false false = denied_no j

refused_no : (j : Statements) (i : Refusal) → Uncounted j (Refused i)
refused_no truths i = (refl, refl)
refused_no sayings i = (refl, refl)

previewed_no : (j : Statements) (c : Counts) → Uncounted j (Previewed c)
previewed_no truths c = (refl, refl)
previewed_no sayings c = (refl, refl)

-- what the machine is fed, by the length of the preview buffer

pub fed_whole : (M : State) (u : ℕ) (s : List ℕ) → u ≡ all_marks → feed M u s ≡ step M s
unfolding feed
fed_whole M u s e = ap (λ (c : Bool). cond c (step M s) (refuse M refusal.Form 0)) (eq-eqb u all_marks e)

pub fed_other : (M : State) (u : ℕ) (s : List ℕ) → (u ≡ all_marks → ⊥) → feed M u s ≡ refuse M refusal.Form 0
unfolding feed
fed_other M u s d = ap (λ (c : Bool). cond c (step M s) (refuse M refusal.Form 0)) (ne_eqb u all_marks d)

-- one call more

-- the marks that a call leaves in each buffer
abbrev after_in : View → Verdict → Book → List ℕ → List ℕ
after_in firm w b m = marks_after w b m
after_in both w b m = second_after w b m

module _ {b : Book} {m k v s : List ℕ} {r : Answered} {n l w : List ℕ} {M : State} (R : Reached b m k M) (C : Called b m k v s r n l w) where
  refused_nine : (length v ≡ all_marks → ⊥) → Follows M (refuse M refusal.Form 0) b m k v r n l w
  unfolding answer_of marks_after second_after preview_after
  refused_nine d =
      let h = C.unformed (λ f. d f.preview) in
      let book : r.book ≡ b = ap (λ (x : Answered). x.book) h.0 in
      record {
        answer = ap (λ (x : Answered). x.answer) h.0;
        used = ap (λ (x : Answered). x.used) h.0;
        marks = h.1;
        second = h.2;
        preview = h.3;
        shows = subst (λ (x : Book). Shows x M) (sym book) R.shows;
        form =
            subst (λ (x : Book). BookForm x n l) (sym book)
            (subst (λ (x : List ℕ). BookForm b x l) (sym h.1) (subst (λ (x : List ℕ). BookForm b m x) (sym h.2) R.form));
        kept = λ j e. book;
        untouched = λ p g e. book;
      }

  -- the call follows the machine that is fed the record and the length of the preview buffer
  pub fol : Follows M (feed M (length v) s) b m k v r n l w
  fol = go (ℕ_discrete (length v) all_marks)
    where
      go : Dec (length v ≡ all_marks) → Follows M (feed M (length v) s) b m k v r n l w
      go (yes e) = subst (λ (x : Step). Follows M x b m k v r n l w) (sym (fed_whole M (length v) s e)) (C.formed (record { book = R.form; preview = e }) M R.shows)
      go (no d) = subst (λ (x : Step). Follows M x b m k v r n l w) (sym (fed_other M (length v) s d)) (refused_nine d)

  -- a query leaves the standing statements as they are; so does a refusal
  asked_after : (o : View) (c : ℕ) → (feed M (length v) s).says ≡ asks c → marks_in o b ≡ marks_in o r.book
  asked_after o c e = let q = feed_asks M (length v) s c e in still_stands R.form R.shows fol.form fol.shows o q.ext q.grows q.shrinks

  kept_after : (o : View) → r.book ≡ b → marks_in o b ≡ marks_in o r.book
  kept_after o e = ap (λ (x : Book). marks_in o x) (sym e)

  stands_after : (o : View) (y : Verdict) → (feed M (length v) s).says ≡ y → (x z : List ℕ) → z ≡ after_in o y r.book x → x ≡ marks_in o b → z ≡ marks_in o r.book
  unfolding marks_after second_after
  stands_after firm changes e x z h q = h
  stands_after both changes e x z h q = h
  stands_after firm (previews p g) e x z h q = h ∙ q ∙ kept_after firm (fol.untouched p g e)
  stands_after both (previews p g) e x z h q = h ∙ q ∙ kept_after both (fol.untouched p g e)
  stands_after firm (asks c) e x z h q = h ∙ q ∙ asked_after firm c e
  stands_after both (asks c) e x z h q = h ∙ q ∙ asked_after both c e
  stands_after firm (refuses j) e x z h q = h ∙ q ∙ kept_after firm (fol.kept j e)
  stands_after both (refuses j) e x z h q = h ∙ q ∙ kept_after both (fol.kept j e)

  pub reached_after : Reached r.book n l (feed M (length v) s).next
  reached_after = record {
    form = fol.form;
    shows = fol.shows;
    stands = stands_after firm (feed M (length v) s).says refl m n fol.marks R.stands;
    second = stands_after both (feed M (length v) s).says refl k l fol.second R.second;
  }

  same_length : length m ≡ length n
  same_length = R.form.marks.count ∙ sym fol.form.marks.count

  -- the answer's counts balance the marks of each kind
  answer_balance : (j : Statements) (y : Verdict) → n ≡ marks_after y r.book m →
      (reported j (answer_of y m k n w)).gained + ones (marks_of j m) ≡ (reported j (answer_of y m k n w)).lost + ones (marks_of j n)
  unfolding marks_after answer_of
  answer_balance j changes h =
      let e = balance (marks_of j m) (marks_of j n) (kind_length j m n same_length) (kind_bits j m R.form.marks.bits) (kind_bits j n fol.form.marks.bits) in
      let c = counts_are j m n in
      omega (arith, e, c.0, c.1)
  answer_balance j (previews p g) h = omega (arith, ap (λ (x : List ℕ). ones (marks_of j x)) h, (previewed_no j (counts_of m w)).0, (previewed_no j (counts_of m w)).1)
  answer_balance j (asks c) h = omega (arith, ap (λ (x : List ℕ). ones (marks_of j x)) h, (uncounted_no j m k c).0, (uncounted_no j m k c).1)
  answer_balance j (refuses i) h = omega (arith, ap (λ (x : List ℕ). ones (marks_of j x)) h, (refused_no j i).0, (refused_no j i).1)

  pub call_balance : (j : Statements) → (reported j r.answer).gained + ones (marks_of j m) ≡ (reported j r.answer).lost + ones (marks_of j n)
  call_balance j =
      ap (λ (a : Answer). (reported j a).gained + ones (marks_of j m)) fol.answer ∙ answer_balance j (feed M (length v) s).says fol.marks ∙
      ap (λ (a : Answer). (reported j a).lost + ones (marks_of j n)) (sym fol.answer)

  -- what the answer reports lost or gained is so
  answer_lost : (j : Statements) (y : Verdict) → gains (marks_of j n) (marks_of j m) ≡ 0 → (reported j (answer_of y m k n w)).lost ≡ 0
  unfolding answer_of
  answer_lost j changes h = (counts_are j m n).1 ∙ h
  answer_lost j (previews p g) h = (previewed_no j (counts_of m w)).1
  answer_lost j (asks c) h = (uncounted_no j m k c).1
  answer_lost j (refuses i) h = (refused_no j i).1

  answer_gained : (j : Statements) (y : Verdict) → gains (marks_of j m) (marks_of j n) ≡ 0 → (reported j (answer_of y m k n w)).gained ≡ 0
  unfolding answer_of
  answer_gained j changes h = (counts_are j m n).0 ∙ h
  answer_gained j (previews p g) h = (previewed_no j (counts_of m w)).0
  answer_gained j (asks c) h = (uncounted_no j m k c).0
  answer_gained j (refuses i) h = (refused_no j i).0

  -- marks x before and y after, in a view: of what stands before nothing is missing after, or the other way round
  none_lost : Up M (feed M (length v) s).next → (o : View) (x y : List ℕ) → MarksForm x → MarksForm y → x ≡ marks_in o b → y ≡ marks_in o r.book → (j : Statements) → gains (marks_of j y) (marks_of j x) ≡ 0
  none_lost u o x y f g e h j =
      let a = up_stands R.form R.shows fol.form fol.shows o u.ext u.grows in
      let kept : Above x (In y) = λ i p. subst (λ (z : List ℕ). In z i) (sym h) (a i (subst (λ (z : List ℕ). In z i) e p)) in
      none_gained (marks_of j y) (marks_of j x) (kind_bits j y g.bits) (kind_bits j x f.bits) (kind_above j y x kept)

  none_more : Down M (feed M (length v) s).next → (o : View) (x y : List ℕ) → MarksForm x → MarksForm y → x ≡ marks_in o b → y ≡ marks_in o r.book → (j : Statements) → gains (marks_of j x) (marks_of j y) ≡ 0
  none_more d o x y f g e h j =
      let a = down_stands R.form R.shows fol.form fol.shows o d.ext d.shrinks in
      let kept : Above y (In x) = λ i p. subst (λ (z : List ℕ). In z i) (sym e) (a i (subst (λ (z : List ℕ). In z i) h p)) in
      none_gained (marks_of j x) (marks_of j y) (kind_bits j x f.bits) (kind_bits j y g.bits) (kind_above j x y kept)

  pub no_loss : Up M (feed M (length v) s).next → (j : Statements) →
      ((reported j r.answer).lost ≡ 0) × (gains (marks_of j n) (marks_of j m) ≡ 0) × (gains (marks_of j l) (marks_of j k) ≡ 0)
  no_loss u j =
      let g = none_lost u firm m n R.form.marks fol.form.marks R.stands reached_after.stands j in
      (ap (λ (a : Answer). (reported j a).lost) fol.answer ∙ answer_lost j (feed M (length v) s).says g, g, none_lost u both k l R.form.second fol.form.second R.second reached_after.second j)

  pub no_gain : Down M (feed M (length v) s).next → (j : Statements) →
      ((reported j r.answer).gained ≡ 0) × (gains (marks_of j m) (marks_of j n) ≡ 0) × (gains (marks_of j k) (marks_of j l) ≡ 0)
  no_gain d j =
      let g = none_more d firm m n R.form.marks fol.form.marks R.stands reached_after.stands j in
      (ap (λ (a : Answer). (reported j a).gained) fol.answer ∙ answer_gained j (feed M (length v) s).says g, g, none_more d both k l R.form.second fol.form.second R.second reached_after.second j)
