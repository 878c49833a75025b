-- Document 02, 6: a preview is what the withdrawal leaves, through the promise of a call; and on a book that was reached it never gains.
use Prim.Native.Nat.{ℕ}
use mathlib.Core.Path.{◌≡◌, refl, sym, ap, subst, ◌∙◌}
use mathlib.Core.Bool.{Bool, true, false, cond}
use mathlib.Core.List.{List}
use mathlib.Core.Logic.{◌⊎◌, inl, inr}
use native.Mathlib.Omega.{arith}
use lib.ListN.{length}
use Rattle.std.specs.Prelude.{Result, Ok, Err}
use native.Mathlib.Decide.{ℕ_discrete}
use Rattle.sorts.specs.Numbers.{all_marks}
use Rattle.sorts.specs.declared.Prin.{Prin}
use Rattle.sorts.specs.declared.GrantNo.{GrantNo}
use Rattle.sorts.specs.declared.Status.TheVariants.{Issued}
use Rattle.sorts.specs.declared.Refusal.TheVariants as refusal
use Rattle.sorts.specs.declared.Refusal.{Refusal}
use Rattle.rows.specs.declared.Table.{Table}
use Rattle.rows.specs.Written.{Grant}
use Rattle.rows.specs.Numbering.{place, has}
use Rattle.rows.specs.Form.{rows_out}
use Rattle.frames.specs.Bytes.{Outcome}
use Rattle.reader.specs.Contents.{Record}
use Rattle.reader.specs.Records.{read_canonical}
use Rattle.reader.specs.Found.{found_of}
use Rattle.reader.specs.Inner.OneRecord.{num_record}
use Rattle.reader.specs.declared.contents.Request.{Request}
use Rattle.reader.specs.declared.contents.Request.TheVariants.{Remove, Preview}
use Rattle.reader.proofs.Record.{reads_within}
use Rattle.exact.proofs.Content.{withdrawn, same_extent, same_canonical, Previewing, licence, fault, preview_only}
use Rattle.bookform.specs.Changes.{there_flags}
use Rattle.marks.specs.declared.Counts.{Counts}
use Rattle.bookform.specs.declared.Book.{Book}
use Rattle.bookform.specs.declared.answer.Answer.{Answer}
use Rattle.bookform.specs.declared.answer.Answer.TheVariants.{Changed, Previewed, Refused}
use Rattle.bookform.specs.declared.answer.Answered.{Answered}
use Rattle.bookform.specs.Books.{Lent}
use Rattle.book.specs.Calls.{Called}
use Rattle.requests.specs.Inner.Buffers.{firm_marks}
use Rattle.bookform.specs.Inner.Answering.{refused_with}
use Rattle.requests.specs.Inner.Revising.{changed_to, previewed_by, removed_book}
use Rattle.requests.specs.Inner.Apply.{answered, applied_to, marks_applied_to, preview_applied_to, done, applied, marks_applied, preview_applied}
use Rattle.marks.specs.Counts.{Statements, change_in}
use Rattle.machine.specs.Machine.{State}
use Rattle.book.specs.Chains.{Call}
use Rattle.demands.specs.Worth.{reported}
use Rattle.demands.specs.Demands.{NoGain, OneWay}
use Rattle.demands.specs.Previews.{preview_of, withdrawal_of, Foretold}
use Rattle.demands.proofs.Existence.{call_some}
use Rattle.demands.proofs.Reached.{Reached}
use Rattle.demands.proofs.Demand3.{one_way_lem}
use Rattle.demands.proofs.Unique.{no_choice}

-- what the reader finds of the two: the same refusal, or the same licence
data Same : Result Request Refusal → Result Request Refusal → Type 0 where
  turned_back : (j : Refusal) → Same (Err j) (Err j)
  licensed : (p : Prin) (g : GrantNo) → Same (Ok (Preview p g)) (Ok (Remove (Issued p) g))

same_refused : (j : Refusal) (b : Book) (n : ℕ) (w m : List ℕ) → Foretold (refused_with b j n) (refused_with b j n) w m
same_refused j b n w m = record {
  refusals = λ i. (λ e. e, λ e. e);
  counts = λ x. (λ e. let z : ◌≡◌ {A = ℕ} 0 1 = cc in absurd (omega arith), λ e. let z : ◌≡◌ {A = ℕ} 0 1 = cc in absurd (omega arith));
  marks = λ x e. let z : ◌≡◌ {A = ℕ} 0 1 = cc in absurd (omega arith);
  used = refl;
}

shown_removed : (b : Book) (m : List ℕ) (b' : Book) (n : ℕ) → Foretold (answered b n (Ok (previewed_by b b' m))) (answered b n (Ok (changed_to b' m))) (firm_marks b') (firm_marks b')
shown_removed b m b' n = record {
  refusals = λ j. (λ e. let z : ◌≡◌ {A = ℕ} 0 1 = cc in absurd (omega arith), λ e. let z : ◌≡◌ {A = ℕ} 0 1 = cc in absurd (omega arith));
  counts = λ x. (λ e. let d = inner_counts e in ap Changed d, λ e. let d = inner_changed e in ap Previewed d);
  marks = λ x e. refl;
  used = refl;
}
  where
    inner_counts : {x y : Counts} → Previewed x ≡ Previewed y → x ≡ y
    inner_counts e = cc

    inner_changed : {x y : Counts} → Changed x ≡ Changed y → x ≡ y
    inner_changed e = cc

module _ (b : Book) (m k v : List ℕ) (t t' : Table) (n : ℕ) where
  found_same : (f g : Result Request Refusal) → Same f g → Foretold (applied_to b m k t n f) (applied_to b m k t' n g) (preview_applied_to b v f) (marks_applied_to firm_marks b m t' g)
  found_same f g (turned_back j) = same_refused j b n v m
  found_same f g (licensed p num) = go (there_flags (Issued p) num.0 b.flags)
    where
      go : (c : Bool) → Foretold (answered b n (cond c (Ok (previewed_by b (removed_book b (Issued p) num.0) m)) (Err refusal.Absent))) (answered b n (cond c (Ok (changed_to (removed_book b (Issued p) num.0) m)) (Err refusal.Absent)))
          (cond c (firm_marks (removed_book b (Issued p) num.0)) v) (cond c (firm_marks (removed_book b (Issued p) num.0)) m)
      go true = shown_removed b m (removed_book b (Issued p) num.0) n
      go false = same_refused refusal.Absent b n v m

reads_same : (N : List Grant) (o : Outcome Record) → Previewing o → Same (found_of N o) (found_of N (withdrawn o))
unfolding found_of
reads_same N o (licence p g n) = go (has g N)
  where
    go : (c : Bool) → Same (cond c (Ok (Preview p (record { 0 = place g N }))) (Err refusal.Absent)) (cond c (Ok (Remove (Issued p) (record { 0 = place g N }))) (Err refusal.Absent))
    go true = licensed p (record { 0 = place g N })
    go false = turned_back refusal.Absent
reads_same N o (fault j) = turned_back j

-- THE PREVIEW IS WHAT THE WITHDRAWAL LEAVES, whatever book, buffers and content.
module _ (b : Book) (m k v c : List ℕ) (r q : Answered) (n l w n' l' w' : List ℕ) (C : Called b m k v (preview_of c) r n l w) (D : Called b m k v (withdrawal_of c) q n' l' w') where
  formed : Lent b m k v → Foretold r q w n'
  unfolding done applied marks_applied preview_applied
  formed f =
      let s = preview_of c in
      let t = withdrawal_of c in
      let N = rows_out b.table.rows b.table.count in
      let x = no_choice b m k v s r _ n _ l _ w _ C (call_some b m k v s f) in
      let y = no_choice b m k v t q _ n' _ l' _ w' _ D (call_some b m k v t f) in
      let S = reads_within s b.table _ f.book.table.count refl in
      let T = reads_within t b.table _ f.book.table.count refl in
      let h : Same (num_record s b.table).found (num_record t b.table).found =
      subst (λ (z : Result Request Refusal). Same z (num_record t b.table).found) (sym (S.found f.book.table))
      (subst (λ (z : Result Request Refusal). Same (found_of N (read_canonical s)) z) (sym (T.found f.book.table ∙ ap (found_of N) (sym (same_canonical c)))) (reads_same N (read_canonical s) (preview_only c))) in
      let u : (num_record s b.table).used ≡ (num_record t b.table).used = S.used f.book.table.count ∙ same_extent c ∙ sym (T.used f.book.table.count) in
      let F : Foretold (applied b m k (num_record s b.table)) (applied b m k (num_record t b.table)) (preview_applied b v (num_record s b.table)) (marks_applied firm_marks b m (num_record t b.table)) =
      subst (λ (n : ℕ). Foretold (applied b m k (num_record s b.table)) (applied_to b m k (num_record t b.table).table n (num_record t b.table).found) (preview_applied b v (num_record s b.table)) (marks_applied firm_marks b m (num_record t b.table))) u
      (found_same b m k v (num_record s b.table).table (num_record t b.table).table (num_record s b.table).used _ _ h) in
      subst (λ (z : Answered). Foretold z q w n') (sym x.0)
      (subst (λ (z : Answered). Foretold (applied b m k (num_record s b.table)) z w n') (sym y.0)
      (subst (λ (z : List ℕ). Foretold (applied b m k (num_record s b.table)) (applied b m k (num_record t b.table)) z n') (sym x.3)
      (subst (λ (z : List ℕ). Foretold (applied b m k (num_record s b.table)) (applied b m k (num_record t b.table)) (preview_applied b v (num_record s b.table)) z) (sym y.1) F)))

  pub foretold : Foretold r q w n'
  foretold = by C.decided
    where
      by : Lent b m k v ⊎ (Lent b m k v → ⊥) → Foretold r q w n'
      by (inl f) = formed f
      by (inr d) =
          let x = C.unformed d in
          let y = D.unformed d in
          subst (λ (z : Answered). Foretold z q w n') (sym x.0) (subst (λ (z : Answered). Foretold (refused_with b refusal.Form 0) z w n') (sym y.0) (same_refused refusal.Form b 0 w n'))

-- ON A BOOK THAT WAS REACHED A PREVIEW NEVER GAINS, of truths or of sayings.
withdrawal_way : (o : Outcome Record) → Previewing o → (c : Call) → OneWay (withdrawn o) c → NoGain c
withdrawal_way o (licence p g n) c h = h
withdrawal_way o (fault j) c h = h.1

no_gain_of : {b : Book} {m k : List ℕ} {M : State} → Reached b m k M → (v c : List ℕ) (q : Answered) (n l w : List ℕ) → Called b m k v (withdrawal_of c) q n l w → length v ≡ all_marks →
    (j : Statements) → (reported j q.answer).gained ≡ 0
no_gain_of {b} {m} {k} R v c q n l w D d j =
    let call : Call = record { record' = withdrawal_of c; before = b; marks = m; second = k; preview = v; gave = q; left = n; left_second = l; left_preview = w } in
    (withdrawal_way (read_canonical (preview_of c)) (preview_only c) call (subst (λ (o : Outcome Record). OneWay o call) (sym (same_canonical c)) (one_way_lem R D (yes d))) j).0

pub preview_no_gain : {b : Book} {m k : List ℕ} {M : State} → Reached b m k M → (v c : List ℕ) (r : Answered) (n l w : List ℕ) → Called b m k v (preview_of c) r n l w →
    (x : Counts) → r.answer ≡ Previewed x → (j : Statements) → (change_in j x).gained ≡ 0
preview_no_gain {b} {m} {k} {M} R v c r n l w C x e j = go (ℕ_discrete (length v) all_marks)
  where
    go : Dec (length v ≡ all_marks) → (change_in j x).gained ≡ 0
    go (yes d) =
        let D = call_some b m k v (withdrawal_of c) (record { book = R.form; preview = d }) in
        let F = foretold b m k v c r _ n l w _ _ _ C D in
        sym (ap (λ (a : Answer). (reported j a).gained) ((F.counts x).0 e)) ∙ no_gain_of R v c _ _ _ _ D d j
    go (no d) =
        let h = ap (λ (a : Answered). a.answer) (C.unformed (λ f. d f.preview)).0 in
        let z : Refused refusal.Form ≡ Previewed x = sym h ∙ e in
        let y : ◌≡◌ {A = ℕ} 0 1 = cc in
        absurd (omega arith)
