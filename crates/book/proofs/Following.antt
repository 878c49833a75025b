-- A call on a book in form follows the plain machine.
use Prim.Native.Nat.{ℕ, ◌≤◌, ◌<◌}
use mathlib.Core.Path.{◌≡◌, refl, sym, ap, subst, ◌∙◌}
use mathlib.Core.Bool.{Bool, true, false, cond}
use mathlib.Core.List.{List}
use native.Mathlib.Omega.{arith}
use Rattle.std.specs.Prelude.{Result, Ok, Err}
use lib.ListN.{length}
use Rattle.sorts.specs.declared.Prin.{Prin}
use Rattle.sorts.specs.declared.Status.{Status}
use Rattle.sorts.specs.declared.Status.TheVariants.{Trusted, Issued, Provisional}
use Rattle.sorts.specs.Numbers.{number_of, grants}
use Rattle.sorts.specs.Flags.{StatusRange}
use Rattle.sorts.specs.declared.Refusal.TheVariants as refusal
use Rattle.sorts.specs.declared.Refusal.{Refusal}
use Rattle.rows.specs.declared.Table.{Table}
use Rattle.rows.specs.Written.{Grant, Concl}
use Rattle.rows.specs.Numbering.{place, has, number, number_concl}
use Rattle.rows.specs.Form.{concl_of, rows_out, TableForm}
use Rattle.rows.proofs.Bytes.{no_true}
use Rattle.rows.proofs.Place.{Distinct, has_lt}
use Rattle.rows.proofs.Shown.{form_shown, out_length}
use Rattle.rows.proofs.Appended.{Ext, ext_refl, ext_length, number_ext, concl_more}
use Rattle.frames.specs.Bytes.{Outcome, got, refused}
use Rattle.frames.specs.Frames.{extent}
use Rattle.reader.specs.Contents.{Record, enter, remove, confirm, preview, query}
use Rattle.reader.specs.Records.{read_canonical}
use Rattle.reader.specs.Found.{fits, found_of, numbered_by}
use Rattle.reader.specs.Requests.{Reads}
use Rattle.reader.specs.declared.contents.Request.{Request}
use Rattle.reader.specs.declared.contents.Request.TheVariants.{Enter, Remove, Confirm, Preview, Query}
use Rattle.reader.specs.declared.contents.Reading.{Reading}
use Rattle.exact.specs.Writing.{AllowedRecord}
use Rattle.canon.specs.Canon.{Canonical, CanonicalConcl}
use Rattle.canon.proofs.Numbers.{AllInForm, rows_all, all_rows, number_in_form, concl_in_form}
use Rattle.exact.proofs.CanonicalRecords.{canonical_exact, canonical_extent}
use Rattle.rules.proofs.Standing.{standing_length, standing_bits}
use Rattle.bookform.specs.Both.{both_flags}
use Rattle.bookform.specs.Changes.{is_set, entered_flags, there_flags, removed_flags}
use Rattle.bookform.proofs.flags.Changing.{FlagsFit, entered_fit, removed_fit}
use Rattle.machine.specs.Machine.{State, Entry, Step, changes, previews, asks, refuses, refuse, previewed, change, act, acted, step, stands, entered, there, removed}
use Rattle.machine.proofs.Apart.{Apart, entered_apart, removed_apart}
use Rattle.machine.proofs.Flags.{Shown, entered_shown, removed_shown, there_shown, set_shown, apart_flags, flags_apart}
use Rattle.bookform.specs.declared.Book.{Book}
use Rattle.bookform.specs.Books.{BookForm}
use Rattle.book.specs.Shows.{Shows}
use Rattle.book.specs.Calls.{answer_of, marks_after, second_after, preview_after, Follows}
use Rattle.requests.specs.Inner.Buffers.{firm_marks, both_marks}
use Rattle.bookform.specs.Inner.Answering.{refused_with}
use Rattle.requests.specs.Inner.Revising.{changed_to, previewed_by, entered_book, removed_book}
use Rattle.requests.specs.Inner.Apply.{answered, applied_to, marks_applied_to, preview_applied_to, done, applied, marks_applied, preview_applied, FoundFits, Ready}
use Rattle.book.proofs.Showing.{shown_more, shown_book}
use Rattle.book.proofs.Forms.{table_rows, number_has, found_fits, firm_status}

module _ (b : Book) (m k v s : List ℕ) (f : BookForm b m k) (r : Reading) (R : Reads s b.table r) where
  abbrev N : List Grant
  N = rows_out b.table.rows b.table.count

  len : b.table.count ≡ length N
  len = sym (out_length b.table.rows b.table.count)

  small : length N ≤ grants
  small = let c = f.table.count in omega (arith, len)

  -- what has a number is in canonical form
  numbered : AllInForm N
  numbered = rows_all b.table f.canonical

  -- what the code needs holds
  pub ready : Ready b r
  ready = record { rows = table_rows b.table f.table; next = table_rows r.table (R.form f.table); fits = subst FoundFits (sym (R.found f.table)) (found_fits N s) }

  module _ (E : List Entry) (sh : Shows b (record { entries = E; N = N })) where
    abbrev M : State
    M = record { entries = E; N = N }

    -- what the flags show over the grants of N', of which N is a part
    over : (N' : List Grant) → Ext N N' → Distinct N' → Shown N' b.flags E
    over N' ext d = shown_more sh len f.unflagged N' ext d f.flags

    apart : Apart E
    apart = flags_apart N b.flags E (over N (ext_refl N) (form_shown b.table f.table).distinct) f.apart

    refused_steps : (j : Refusal) (n : ℕ) → Follows M (refuse M j n) b m k v (refused_with b j n) m k v
    unfolding answer_of marks_after second_after preview_after
    refused_steps j n = record { answer = refl; used = refl; marks = refl; second = refl; preview = refl; shows = sh; form = f; kept = λ i e. refl; untouched = λ q h e. refl }

    no_change : {j : Refusal} → changes ≡ refuses j → ⊥
    no_change e = let z : ◌≡◌ {A = ℕ} 0 1 = cc in omega arith

    no_asks : {c : ℕ} {j : Refusal} → asks c ≡ refuses j → ⊥
    no_asks e = let z : ◌≡◌ {A = ℕ} 0 1 = cc in omega arith

    no_show : {p : Prin} {g : Grant} → changes ≡ previews p g → ⊥
    no_show e = let z : ◌≡◌ {A = ℕ} 0 1 = cc in omega arith

    asks_shows : {c : ℕ} {p : Prin} {g : Grant} → asks c ≡ previews p g → ⊥
    asks_shows e = let z : ◌≡◌ {A = ℕ} 0 1 = cc in omega arith

    shows_refused : {p : Prin} {g : Grant} {j : Refusal} → previews p g ≡ refuses j → ⊥
    shows_refused e = let z : ◌≡◌ {A = ℕ} 0 1 = cc in omega arith

    -- over a table that shows N'
    module _ (t : Table) (F : TableForm t) (N' : List Grant) (is : rows_out t.rows t.count ≡ N') (ext : Ext N N') (all : AllInForm N') where
      len' : t.count ≡ length N'
      len' = sym (out_length t.rows t.count) ∙ ap length is

      small' : length N' ≤ grants
      small' = let c = F.count in omega (arith, len')

      distinct' : Distinct N'
      distinct' = subst Distinct is (form_shown t F).distinct

      fit : FlagsFit t.count b.flags
      fit = record { bits = f.flag_bits; unflagged = λ i l. f.unflagged i (let x = ext_length ext in omega (arith, len, len')) }

      before : Shown N' b.flags E
      before = over N' ext distinct'

      -- flags that changed, and what stands then
      change_steps : (G : List ℕ) (D : List Entry) → Shown N' G D → FlagsFit t.count G → Apart D → (n : ℕ) →
          Follows M (change D N' n) b m k v (answered b n (Ok (changed_to (record { table = t; flags = G }) m))) (firm_marks (record { table = t; flags = G })) (both_marks (record { table = t; flags = G })) v
      unfolding answer_of marks_after second_after preview_after
      change_steps G D S T a n = record {
        answer = refl;
        used = refl;
        marks = refl;
        second = refl;
        preview = refl;
        shows = shown_book t G D N' is S;
        form = record {
          marks = record { count = standing_length t.rows G; bits = standing_bits t.rows G };
          second = record { count = standing_length t.rows (both_flags G); bits = standing_bits t.rows (both_flags G) };
          flags = S.long;
          flag_bits = T.bits;
          table = F;
          canonical = all_rows t N' is all;
          apart = apart_flags N' G D S (λ i l. T.unflagged i (omega (arith, l, len'))) a;
          unflagged = T.unflagged;
        };
        kept = λ j e. absurd (no_change e);
        untouched = λ q h e. absurd (no_show e);
      }

      module _ (by : Status) (known : StatusRange by) (g : Grant) (there' : has g N' ≡ true) where
        in_table : place g N' < t.count
        in_table = omega (arith, len', has_lt g N' there')

        entered_steps : (n : ℕ) → Follows M (change (entered by g E) N' n) b m k v (answered b n (Ok (changed_to (entered_book b t by (place g N')) m))) (firm_marks (entered_book b t by (place g N'))) (both_marks (entered_book b t by (place g N'))) v
        entered_steps n =
            change_steps (entered_flags by (place g N') b.flags) (entered by g E) (entered_shown N' small' distinct' g there' b.flags E before by known)
            (entered_fit t.count F.count (place g N') in_table b.flags by f.flags known fit) (entered_apart E apart g by) n

        removed_steps : (n : ℕ) → Follows M (change (removed by g E) N' n) b m k v (answered b n (Ok (changed_to (record { table = t; flags = removed_flags by (place g N') b.flags }) m)))
            (firm_marks (record { table = t; flags = removed_flags by (place g N') b.flags })) (both_marks (record { table = t; flags = removed_flags by (place g N') b.flags })) v
        removed_steps n =
            change_steps (removed_flags by (place g N') b.flags) (removed by g E) (removed_shown N' small' distinct' g there' b.flags E before by known)
            (removed_fit t.count F.count (place g N') in_table b.flags by f.flags known fit) (removed_apart E apart g by) n

    distinct : Distinct N
    distinct = (form_shown b.table f.table).distinct

    -- to enter

    module _ (by : Status) (known : StatusRange by) (g : Grant) (own : Canonical g) (n : ℕ) (rows' : fits (number g N) ≡ true → rows_out r.table.rows r.table.count ≡ number g N) where
      enter_steps : (c : Bool) → fits (number g N) ≡ c → Follows M (cond c (change (entered by g E) (number g N) n) (refuse M refusal.Full n)) b m k v
          (applied_to b m k r.table n (cond c (Ok (Enter by (record { 0 = place g (number g N) }))) (Err refusal.Full)))
          (marks_applied_to firm_marks b m r.table (cond c (Ok (Enter by (record { 0 = place g (number g N) }))) (Err refusal.Full)))
          (marks_applied_to both_marks b k r.table (cond c (Ok (Enter by (record { 0 = place g (number g N) }))) (Err refusal.Full))) (preview_applied_to b v (cond c (Ok (Enter by (record { 0 = place g (number g N) }))) (Err refusal.Full)))
      enter_steps true e =
          entered_steps r.table (R.form f.table) (number g N) (rows' e) (number_ext g N) (number_in_form g N own numbered) by known g (number_has g N) n
      enter_steps false e = refused_steps refusal.Full n

    -- to remove, and to confirm

    absent : (g : Grant) → has g N ≡ false → (by : Status) → stands M by g ≡ true → ⊥
    absent g e by h = no_true (sym e ∙ (sh.within by g h).0)

    not_true_false : (c : Bool) → (c ≡ true → ⊥) → c ≡ false
    not_true_false true h = absurd (h refl)
    not_true_false false h = refl

    -- a change where there is something to change, by what the flags say and by what stands
    picked : (D : List Entry) (b' : Book) (n : ℕ) → Follows M (change D N n) b m k v (answered b n (Ok (changed_to b' m))) (firm_marks b') (both_marks b') v → (c d : Bool) → c ≡ d →
        Follows M (cond d (change D N n) (refuse M refusal.Absent n)) b m k v (answered b n (cond c (Ok (changed_to b' m)) (Err refusal.Absent))) (cond c (firm_marks b') m) (cond c (both_marks b') k) v
    picked D b' n S true true e = S
    picked D b' n S true false e = absurd (no_true (sym e))
    picked D b' n S false true e = absurd (no_true e)
    picked D b' n S false false e = refused_steps refusal.Absent n

    -- nothing to change
    left : (st : Step) (n : ℕ) (d : Bool) → d ≡ false → Follows M (cond d st (refuse M refusal.Absent n)) b m k v (refused_with b refusal.Absent n) m k v
    left st n true e = absurd (no_true (sym e))
    left st n false e = refused_steps refusal.Absent n

    module _ (g : Grant) (n : ℕ) where
      not_there : has g N ≡ false → (by : Status) → there by g E ≡ false
      not_there e Trusted = not_true_false (stands M Trusted g) (absent g e Trusted)
      not_there e (Issued p) = rw (not_true_false (stands M (Issued p) g) (absent g e (Issued p))) (not_true_false (stands M (Provisional p) g) (absent g e (Provisional p)))
      not_there e (Provisional p) = not_true_false (stands M (Provisional p) g) (absent g e (Provisional p))

      remove_steps : (by : Status) → StatusRange by → (d : Bool) → has g N ≡ d → Follows M (cond (there by g E) (change (removed by g E) N n) (refuse M refusal.Absent n)) b m k v
          (applied_to b m k r.table n (cond d (Ok (Remove by (record { 0 = place g N }))) (Err refusal.Absent)))
          (marks_applied_to firm_marks b m r.table (cond d (Ok (Remove by (record { 0 = place g N }))) (Err refusal.Absent)))
          (marks_applied_to both_marks b k r.table (cond d (Ok (Remove by (record { 0 = place g N }))) (Err refusal.Absent))) (preview_applied_to b v (cond d (Ok (Remove by (record { 0 = place g N }))) (Err refusal.Absent)))
      remove_steps by known true h =
          picked (removed by g E) (removed_book b by (place g N)) n (removed_steps b.table f.table N refl (ext_refl N) numbered by known g h n)
          (there_flags by (place g N) b.flags) (there by g E) (there_shown N small distinct g h b.flags E (over N (ext_refl N) distinct) by known)
      remove_steps by known false h = left (change (removed by g E) N n) n (there by g E) (not_there h by)

      confirm_steps : (p : Prin) → StatusRange (Issued p) → (d : Bool) → has g N ≡ d → Follows M (cond (stands M (Provisional p) g) (change (entered (Issued p) g E) N n) (refuse M refusal.Absent n)) b m k v
          (applied_to b m k r.table n (cond d (Ok (Confirm p (record { 0 = place g N }))) (Err refusal.Absent)))
          (marks_applied_to firm_marks b m r.table (cond d (Ok (Confirm p (record { 0 = place g N }))) (Err refusal.Absent)))
          (marks_applied_to both_marks b k r.table (cond d (Ok (Confirm p (record { 0 = place g N }))) (Err refusal.Absent))) (preview_applied_to b v (cond d (Ok (Confirm p (record { 0 = place g N }))) (Err refusal.Absent)))
      confirm_steps p known true h =
          picked (entered (Issued p) g E) (entered_book b b.table (Issued p) (place g N)) n (entered_steps b.table f.table N refl (ext_refl N) numbered (Issued p) known g h n)
          (is_set b.flags (Provisional p) (place g N)) (stands M (Provisional p) g) (set_shown N small distinct g h b.flags E (over N (ext_refl N) distinct) (Provisional p) known)
      confirm_steps p known false h = left (change (entered (Issued p) g E) N n) n (stands M (Provisional p) g) (not_true_false (stands M (Provisional p) g) (absent g h (Provisional p)))

      -- to preview: what stands without the licence, by what the flags say and by what stands
      seen : (p : Prin) (c d : Bool) → c ≡ d → Follows M (cond d (previewed M p g n) (refuse M refusal.Absent n)) b m k v (answered b n (cond c (Ok (previewed_by b (removed_book b (Issued p) (place g N)) m)) (Err refusal.Absent))) m k (cond c (firm_marks (removed_book b (Issued p) (place g N))) v)
      unfolding answer_of marks_after second_after preview_after
      seen p true true e = record { answer = refl; used = refl; marks = refl; second = refl; preview = refl; shows = sh; form = f; kept = λ j e. absurd (shows_refused e); untouched = λ q h e. refl }
      seen p true false e = absurd (no_true (sym e))
      seen p false true e = absurd (no_true e)
      seen p false false e = refused_steps refusal.Absent n

      preview_steps : (p : Prin) → StatusRange (Issued p) → (d : Bool) → has g N ≡ d → Follows M (cond (there (Issued p) g E) (previewed M p g n) (refuse M refusal.Absent n)) b m k v
          (applied_to b m k r.table n (cond d (Ok (Preview p (record { 0 = place g N }))) (Err refusal.Absent)))
          (marks_applied_to firm_marks b m r.table (cond d (Ok (Preview p (record { 0 = place g N }))) (Err refusal.Absent)))
          (marks_applied_to both_marks b k r.table (cond d (Ok (Preview p (record { 0 = place g N }))) (Err refusal.Absent))) (preview_applied_to b v (cond d (Ok (Preview p (record { 0 = place g N }))) (Err refusal.Absent)))
      preview_steps p known true h =
          seen p (there_flags (Issued p) (place g N) b.flags) (there (Issued p) g E) (there_shown N small distinct g h b.flags E (over N (ext_refl N) distinct) (Issued p) known)
      preview_steps p known false h = left (previewed M p g n) n (there (Issued p) g E) (not_there h (Issued p))

    -- to query

    query_steps : (c : Concl) → CanonicalConcl c → (n : ℕ) → (fits (number_concl c N) ≡ true → rows_out r.table.rows r.table.count ≡ number_concl c N) → (d : Bool) → fits (number_concl c N) ≡ d →
        Follows M (cond d (record { next = record { entries = E; N = number_concl c N }; says = asks (number_of (concl_of (number_concl c N) c)); used = n }) (refuse M refusal.Full n)) b m k v
        (applied_to b m k r.table n (cond d (Ok (Query (concl_of (number_concl c N) c))) (Err refusal.Full)))
        (marks_applied_to firm_marks b m r.table (cond d (Ok (Query (concl_of (number_concl c N) c))) (Err refusal.Full)))
        (marks_applied_to both_marks b k r.table (cond d (Ok (Query (concl_of (number_concl c N) c))) (Err refusal.Full))) (preview_applied_to b v (cond d (Ok (Query (concl_of (number_concl c N) c))) (Err refusal.Full)))
    unfolding answer_of marks_after second_after preview_after
    query_steps c own n rows' true e = record {
      answer = refl;
      used = refl;
      marks = refl;
      second = refl;
      preview = refl;
      shows = shown_book r.table b.flags E (number_concl c N) (rows' e) (over (number_concl c N) (concl_more c N) (subst Distinct (rows' e) (form_shown r.table F).distinct));
      form = record {
        marks = f.marks;
        second = f.second;
        flags = f.flags;
        flag_bits = f.flag_bits;
        table = F;
        canonical = all_rows r.table (number_concl c N) (rows' e) (concl_in_form c N own numbered);
        apart = f.apart;
        unflagged = λ i l. f.unflagged i (omega (arith, len, more));
      };
      kept = λ j e. absurd (no_asks e);
      untouched = λ q h e. absurd (asks_shows e);
    }
      where
        F : TableForm r.table
        F = R.form f.table

        more : length N ≤ r.table.count
        more = let x = ext_length (concl_more c N) in let y = sym (out_length r.table.rows r.table.count) ∙ ap length (rows' e) in omega arith
    query_steps c own n rows' false e = refused_steps refusal.Full n

    record_steps : (q : Record) (n : ℕ) → read_canonical s ≡ got q n → Follows M (act M q n) b m k v
        (applied_to b m k r.table n (found_of N (got q n))) (marks_applied_to firm_marks b m r.table (found_of N (got q n))) (marks_applied_to both_marks b k r.table (found_of N (got q n))) (preview_applied_to b v (found_of N (got q n)))
    unfolding act found_of numbered_by AllowedRecord
    record_steps (enter by g) n e =
        enter_steps by (canonical_exact s (enter by g) n e).0.0 g (canonical_exact s (enter by g) n e).1 n
        (λ c. R.rows f.table ∙ ap (numbered_by N) e ∙ ap (λ (x : Bool). cond x (number g N) N) c) (fits (number g N)) refl
    record_steps (remove by g) n e = remove_steps g n by (firm_status by (canonical_exact s (remove by g) n e).0.0) (has g N) refl
    record_steps (confirm p g) n e = confirm_steps g n p (canonical_exact s (confirm p g) n e).0.0 (has g N) refl
    record_steps (preview p g) n e = preview_steps g n p (canonical_exact s (preview p g) n e).0.0 (has g N) refl
    record_steps (query c) n e =
        query_steps c (canonical_exact s (query c) n e).1 n (λ d. R.rows f.table ∙ ap (numbered_by N) e ∙ ap (λ (x : Bool). cond x (number_concl c N) N) d) (fits (number_concl c N)) refl

    outcome_steps : (o : Outcome Record) → read_canonical s ≡ o → Follows M (acted M (extent s) o) b m k v
        (applied_to b m k r.table (extent s) (found_of N o)) (marks_applied_to firm_marks b m r.table (found_of N o)) (marks_applied_to both_marks b k r.table (found_of N o)) (preview_applied_to b v (found_of N o))
    unfolding found_of
    outcome_steps (got q n) e =
        subst (λ (u : ℕ). Follows M (act M q n) b m k v (applied_to b m k r.table u (found_of N (got q n))) (marks_applied_to firm_marks b m r.table (found_of N (got q n))) (marks_applied_to both_marks b k r.table (found_of N (got q n))) (preview_applied_to b v (found_of N (got q n))))
        (canonical_extent s q n e) (record_steps q n e)
    outcome_steps (refused j) e = refused_steps j (extent s)

    all_steps : Follows M (acted M (extent s) (read_canonical s)) b m k v (applied_to b m k r.table r.used r.found) (marks_applied_to firm_marks b m r.table r.found) (marks_applied_to both_marks b k r.table r.found) (preview_applied_to b v r.found)
    all_steps =
        subst (λ (u : ℕ). Follows M (acted M (extent s) (read_canonical s)) b m k v (applied_to b m k r.table u r.found) (marks_applied_to firm_marks b m r.table r.found) (marks_applied_to both_marks b k r.table r.found) (preview_applied_to b v r.found))
        (sym (R.used f.table.count))
        (subst (λ (x : Result Request Refusal). Follows M (acted M (extent s) (read_canonical s)) b m k v (applied_to b m k r.table (extent s) x) (marks_applied_to firm_marks b m r.table x) (marks_applied_to both_marks b k r.table x) (preview_applied_to b v x))
        (sym (R.found f.table)) (outcome_steps (read_canonical s) refl))

    follows_at : Follows M (step M s) b m k v (applied b m k r) (marks_applied firm_marks b m r) (marks_applied both_marks b k r) (preview_applied b v r)
    unfolding step done applied marks_applied preview_applied
    follows_at = all_steps

  pub follows : (M : State) → Shows b M → Follows M (step M s) b m k v (applied b m k r) (marks_applied firm_marks b m r) (marks_applied both_marks b k r) (preview_applied b v r)
  follows M sh =
      subst (λ (X : State). Follows X (step X s) b m k v (applied b m k r) (marks_applied firm_marks b m r) (marks_applied both_marks b k r) (preview_applied b v r)) same (follows_at M.entries (subst (Shows b) (sym same) sh))
    where
      same : record { entries = M.entries; N = N } ≡ M
      same = λ i. record { entries = M.entries; N = sh.rows i }
