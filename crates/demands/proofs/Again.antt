-- "entering or issuing what stands is accepted, with gain 0 where the marks were the standing statements"
use Prim.Native.Nat.{ℕ}
use mathlib.Core.Path.{◌≡◌, sym, ap, subst, ◌∙◌}
use mathlib.Core.Bool.{Bool, true, cond}
use mathlib.Core.List.{List}
use native.Mathlib.Omega.{arith}
use borrow.Author.Tests.{le-leb}
use lib.IntN.{pos, ◌-ℤ◌}
use lib.ListN.{length}
use Rattle.sorts.specs.declared.Prin.{Prin}
use Rattle.sorts.specs.Numbers.{all_marks}
use Rattle.sorts.specs.declared.Status.{Status}
use Rattle.sorts.specs.declared.Status.TheVariants.{Issued, Provisional}
use Rattle.sorts.specs.declared.Refusal.TheVariants as refusal
use Rattle.rows.specs.Written.{Grant}
use Rattle.rows.specs.Numbering.{has, number}
use Rattle.rows.proofs.Known.{numbered_known}
use Rattle.frames.specs.Bytes.{got}
use Rattle.frames.specs.Frames.{extent}
use Rattle.reader.specs.Contents.{enter}
use Rattle.reader.specs.Records.{read_canonical}
use Rattle.reader.specs.Found.{fits}
use Rattle.machine.specs.Machine.{State, Verdict, Step, changes, change, refuse, act, acted, step, feed, entered, stands}
use Rattle.machine.proofs.Apart.{Apart, entered_firm, entered_present}
use Rattle.machine.proofs.Flags.{flags_apart}
use Rattle.marks.specs.Gains.{gains}
use Rattle.marks.specs.Counts.{Statements, truths, sayings, marks_of, change_of, counts_of}
use Rattle.bookform.specs.declared.Book.{Book}
use Rattle.bookform.specs.declared.answer.Answer.TheVariants.{Changed}
use Rattle.bookform.specs.declared.answer.Answered.{Answered}
use Rattle.book.specs.Shows.{Shows}
use Rattle.book.specs.Calls.{answer_of, Called}
use Rattle.demands.specs.Worth.{unchanged, no_counts}
use Rattle.demands.proofs.Balance.{none_gained, kind_bits}
use Rattle.demands.proofs.ClosedBook.{shown}
use Rattle.demands.proofs.Views.{firm, both, marks_in}
use Rattle.demands.proofs.Reached.{Reached, fed_whole, fol, reached_after}
use Rattle.demands.proofs.Unique.{same_book}

module _ {b : Book} {m k v s : List ℕ} {r : Answered} {n l w : List ℕ} {M : State} (R : Reached b m k M) (C : Called b m k v s r n l w) (whole : length v ≡ all_marks) where
  -- The book and both buffers stay, and nothing is counted.
  abbrev Idle : Type 0
  Idle = (r.book ≡ b) × (n ≡ m) × (l ≡ k) × (r.answer ≡ Changed no_counts)

  fed : feed M (length v) s ≡ step M s
  fed = fed_whole M (length v) s whole

  idle : (step M s).says ≡ changes → (step M s).next ≡ M → Idle
  unfolding answer_of counts_of change_of
  idle e h =
      let F = fol R C in
      let A = reached_after R C in
      let book : r.book ≡ b = same_book F.form R.form (subst (Shows r.book) (ap (λ (x : Step). x.next) fed ∙ h) F.shows) R.shows in
      let marks : n ≡ m = A.stands ∙ ap (marks_in firm) book ∙ sym R.stands in
      let second : l ≡ k = A.second ∙ ap (marks_in both) book ∙ sym R.second in
      let z : (j : Statements) → gains (marks_of j m) (marks_of j m) ≡ 0 = λ j. none_gained (marks_of j m) (marks_of j m) (kind_bits j m R.form.marks.bits) (kind_bits j m R.form.marks.bits) (λ i x. x) in
      let same : (j : Statements) → change_of (marks_of j m) (marks_of j m) ≡ unchanged = λ j i. record { gained = z j i; lost = z j i; net = pos (z j i) -ℤ pos (z j i) } in (
        book,
        marks,
        second,
        F.answer ∙ ap (λ (y : Verdict). answer_of y m k n w) (ap (λ (x : Step). x.says) fed ∙ e) ∙ ap (λ (x : List ℕ). Changed (counts_of m x)) marks ∙
            (λ i. Changed (record { truths = same truths i; sayings = same sayings i })),
      )

  room : fits M.N ≡ true
  room = let S = shown b m k M R.form R.shows in le-leb (length M.N) 64 (let c = S.counted in let d = R.form.table.count in omega (arith, c, d))

  known : (g : Grant) → has g M.N ≡ true → number g M.N ≡ M.N
  known g = numbered_known (shown b m k M R.form R.shows) g

  -- no licence is both firm and provisional
  apart : Apart M.entries
  apart = flags_apart M.N b.flags M.entries (record { long = R.form.flags; show = R.shows.flags; within = R.shows.within }) R.form.apart

  -- a grant that has a number and whose entry changes nothing
  entered_idle : (by : Status) (g : Grant) (u : ℕ) → read_canonical s ≡ got (enter by g) u → has g M.N ≡ true → entered by g M.entries ≡ M.entries → Idle
  unfolding step act
  entered_idle by g u e t same = idle (ap (λ (x : Step). x.says) all) (ap (λ (x : Step). x.next) all)
    where
      numbered : number g M.N ≡ M.N
      numbered = known g t

      all : step M s ≡ record { next = M; says = changes; used = u }
      all = ap (acted M (extent s)) e ∙ ap (λ (c : Bool). cond c (change (entered by g M.entries) (number g M.N) u) (refuse M refusal.Full u)) (ap (λ (x : List Grant). fits x) numbered ∙ room) ∙
          (λ i. change (same i) (numbered i) u)

  pub enter_again : (by : Status) (g : Grant) (u : ℕ) → read_canonical s ≡ got (enter by g) u → stands M by g ≡ true → Idle
  enter_again by g u e t = entered_idle by g u e (R.shows.within by g t).0 (entered_present M.entries apart g by t)

  -- "PL of a firm licence leaves it firm"
  pub provisional_again : (p : Prin) (g : Grant) (u : ℕ) → read_canonical s ≡ got (enter (Provisional p) g) u → stands M (Issued p) g ≡ true → Idle
  provisional_again p g u e t = entered_idle (Provisional p) g u e (R.shows.within (Issued p) g t).0 (entered_firm M.entries apart g p t)
