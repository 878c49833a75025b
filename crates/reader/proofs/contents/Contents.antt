-- What is read of a content over a table is what the definitions find.
use Prim.Native.Nat.{ℕ, ◌<◌, ◌≤◌, ◌-◌}
use mathlib.Core.Path.{◌≡◌, refl, sym, ap, subst, ◌∙◌}
use mathlib.Core.Bool.{Bool, true, false, cond}
use mathlib.Core.List.{List}
use mathlib.Core.Logic.{◌↔◌}
use mathlib.Core.Option.{some}
use native.Mathlib.Omega.{arith}
use lib.ListN.{length, get_or, get_or-append}
use lib.Dec.{leb}
use Rattle.std.specs.Prelude.{Result, Ok, Err}
use Rattle.std.specs.Result.{IfOk}
use borrow.Author.Tests.{le-leb, lt-leb, leb-true, leb-false}
use Rattle.sorts.specs.declared.GrantNo.{GrantNo}
use Rattle.sorts.specs.declared.Concl as rc
use Rattle.sorts.specs.declared.Prin.{Prin}
use Rattle.sorts.specs.declared.Refusal.{Refusal}
use Rattle.sorts.specs.declared.Refusal.TheVariants as refusal
use Rattle.sorts.specs.Refusals.{refusal_number}
use Rattle.sorts.specs.Numbers.{depths, grants, speakers}
use Rattle.sorts.proofs.Marks.{grant_is}
use Rattle.rows.specs.declared.Table.{Table}
use Rattle.rows.specs.declared.Numbering.{Numbering}
use Rattle.rows.specs.Written.{Grant, Concl}
use Rattle.rows.specs.Numbering.{place, has, number, number_concl}
use Rattle.rows.specs.Form.{no_grant, concl_of, rows_out, TableForm}
use Rattle.rows.proofs.Bytes.{no_true}
use Rattle.rows.proofs.Place.{place_is, has_in}
use Rattle.rows.proofs.Appended.{number_ext}
use Rattle.rows.proofs.Shown.{form_shown, shown_form, shown_out}
use Rattle.rows.proofs.Entering.{Good, tied, over, Names}
use Rattle.rows.proofs.Known.{numbered_known, concl_back}
use Rattle.frames.specs.declared.Kind.{Kind}
use Rattle.sorts.specs.declared.Status.{Status}
use Rattle.sorts.specs.declared.Status.TheVariants.{Trusted, Issued, Provisional}
use Rattle.reader.specs.declared.contents.Request.{Request}
use Rattle.reader.specs.declared.contents.Request.TheVariants.{Enter, Remove, Confirm, Preview, Query}
use Rattle.reader.specs.declared.contents.Reading.{Reading}
use Rattle.frames.specs.Bytes.{Outcome, got, refused, and_then, upto}
use Rattle.grants.specs.Grants.{read_grant, read_concl}
use Rattle.reader.specs.Contents.{Record, enter, remove, confirm, preview, query, read_entry, read_licence, read_query, read_content, nothing_declared, canon_record}
use Rattle.reader.specs.Found.{number_found, fits, asking, found_of, numbered_by, numbers, TurnedBack}
use Rattle.grants.specs.Inner.OnePass.{Numbered, on_outcome}
use Rattle.canon.specs.Canon.{canon, canon_concl}
use Rattle.canonread.specs.Inner.Again.{num_form, num_concl_form}
use Rattle.canonread.proofs.Fuse.{fuse_form, fuse_concl_form}
use Rattle.reader.specs.Inner.Numbered.{starting, no_r, given, entry_of, num_entry, asked, known, revision_of, num_revision, query_of, num_query, issuer, num_content}
use Rattle.grants.proofs.Fuse.{FuseG, FuseC}

-- what is promised of a record that was read as o, over a table that shows N
pub record RightReading (N : List Grant) (o : Outcome Record) (r : Reading) : Type 0 where
  pub found : r.found ≡ found_of N o
  pub rows : rows_out r.table.rows r.table.count ≡ numbered_by N o
  pub form : TableForm r.table

-- of a content that was read as o: its fault; or what it asks, and where it ended
pub data Right (N : List Grant) : Outcome Record → Result Reading Refusal → Type 0 where
  fault : (k : Refusal) → Right N (refused k) (Err k)
  whole : (q : Record) (n : ℕ) (r : Reading) → RightReading N (got q n) r → r.used ≡ n → Right N (got q n) (Ok r)

-- a record that numbers nothing keeps the table
abbrev pub Keeps : Table → Reading → Type 0
Keeps t r = numbers r.found ≡ false → r.table ≡ t

-- a record read is brought to its canonical form
abbrev pub in_form : Outcome Record → Outcome Record
in_form o = and_then o (λ r n. got (canon_record r) n)

-- and so is its grant, first
grant_first : (r : Grant → Record) → ((g : Grant) → canon_record (r g) ≡ r (canon g)) → (o : Outcome Grant) →
    in_form (and_then o (λ g n. got (r g) n)) ≡ and_then (and_then o (λ g n. got (canon g) n)) (λ g n. got (r g) n)
grant_first r e (got g n) = ap (λ (x : Record). got x n) (e g)
grant_first r e (refused k) = refl

-- or its conclusion
concl_first : (o : Outcome Concl) → in_form (and_then o (λ c n. got (query c) n)) ≡ and_then (and_then o (λ c n. got (canon_concl c) n)) (λ c n. got (query c) n)
concl_first (got c n) = refl
concl_first (refused k) = refl

-- the record r on a grant asks q of its number, and gives no numbers
record Revises (r : Grant → Record) (q : GrantNo → Request) : Type 0 where
  form : (g : Grant) → canon_record (r g) ≡ r (canon g)
  found : (N : List Grant) (g : Grant) (n : ℕ) → found_of N (got (r g) n) ≡ asking q N g
  rows : (N : List Grant) (g : Grant) (n : ℕ) → numbered_by N (got (r g) n) ≡ N

removes : (by : Status) → Revises (remove by) (Remove by)
unfolding found_of numbered_by
removes by = record { form = λ g. refl; found = λ N g n. refl; rows = λ N g n. refl }

confirms : (p : Prin) → Revises (confirm p) (Confirm p)
unfolding found_of numbered_by
confirms p = record { form = λ g. refl; found = λ N g n. refl; rows = λ N g n. refl }

previews : (p : Prin) → Revises (preview p) (Preview p)
unfolding found_of numbered_by
previews p = record { form = λ g. refl; found = λ N g n. refl; rows = λ N g n. refl }

module _ (t : Table) (f : TableForm t) where
  abbrev pub N : List Grant
  N = rows_out t.rows t.count

  start_good : Good (starting t) N
  start_good = tied refl (form_shown t f)

  -- to enter

  module _ (by : Status) where
    entry_right : (o : Outcome Grant) (R : Numbered GrantNo) → FuseG N o R → Right N (and_then o (λ g n. got (enter by g) n)) (entry_of by t R)
    unfolding Names found_of numbered_by given
    entry_right (refused k) R e = rw e (fault k)
    entry_right (got g n) R u = rw u.out (go u.good)
      where
        go : Good R.numbering (number g N) → Right N (got (enter by g) n)
            (Ok (cond R.numbering.full (no_r t n refusal.Full) (record { table = R.numbering.table; found = Ok (Enter by u.no); used = n })))
        go (tied q S) =
            let c = S.counted in
            let s = S.small in
            let m = u.names q in
            let fit : fits (number g N) ≡ true = le-leb (length (number g N)) grants (omega arith) in
            let no : u.no ≡ record { 0 = place g (number g N) } =
            grant_is u.no (record { 0 = place g (number g N) }) (sym (place_is g (number g N) S.distinct u.no.0 m.0 m.1)) in
            rw q (whole _ _ _ (record {
              found = ap (λ (i : GrantNo). Ok (Enter by i)) no ∙ sym (ap (λ (b : Bool). cond b (Ok (Enter by (record { 0 = place g (number g N) }))) (Err refusal.Full)) fit);
              rows = shown_out S ∙ sym (ap (λ (b : Bool). cond b (number g N) N) fit);
              form = shown_form S;
            }) refl)
        go (over q l c) =
            let fit : fits (number g N) ≡ false = lt-leb (length (number g N)) grants l in
            rw q (whole _ _ _ (record {
              found = sym (ap (λ (b : Bool). cond b (Ok (Enter by (record { 0 = place g (number g N) }))) (Err refusal.Full)) fit);
              rows = sym (ap (λ (b : Bool). cond b (number g N) N) fit);
              form = f;
            }) refl)

  -- to revise

  module _ (r : Grant → Record) (q : GrantNo → Request) (v : Revises r q) where
    -- a grant without a number
    unknown : (g : Grant) (n : ℕ) → has g N ≡ false → Right N (got (r g) n) (Ok (no_r t n refusal.Absent))
    unknown g n e =
        whole _ _ _ (record {
          found = sym (v.found N g n ∙ ap (λ (b : Bool). cond b (Ok (q (record { 0 = place g N }))) (Err refusal.Absent)) e);
          rows = sym (v.rows N g n);
          form = f;
        }) refl

    revision_right : (o : Outcome Grant) (R : Numbered GrantNo) → FuseG N o R → Right N (and_then o (λ g n. got (r g) n)) (revision_of q t R)
    unfolding Names known
    revision_right (refused k) R e = rw e (fault k)
    revision_right (got g n) R u = rw u.out (go u.good (has g N) refl)
      where
        len : t.count ≡ length N
        len = (form_shown t f).counted

        small : t.count ≤ grants
        small = f.count

        -- with a number, g numbers nothing new
        same : has g N ≡ true → number g N ≡ N
        same e = numbered_known (form_shown t f) g e

        -- where g has a number it is this one
        there : has g N ≡ true → R.numbering.full ≡ false → (u.no.0 < length N) × (get_or N u.no.0 no_grant ≡ g)
        there e j = subst (λ (M : List Grant). (u.no.0 < length M) × (get_or M u.no.0 no_grant ≡ g)) (same e) (u.names j)

        within : has g N ≡ true → R.numbering.full ≡ false → Right N (got (r g) n) (Ok (record { table = t; found = Ok (q u.no); used = n }))
        within e j =
            let m = there e j in
            let no : u.no ≡ record { 0 = place g N } = grant_is u.no (record { 0 = place g N }) (sym (place_is g N (form_shown t f).distinct u.no.0 m.0 m.1)) in
            whole _ _ _ (record {
              found = ap (λ (i : GrantNo). Ok (q i)) no ∙ sym (v.found N g n ∙ ap (λ (b : Bool). cond b (Ok (q (record { 0 = place g N }))) (Err refusal.Absent)) e);
              rows = sym (v.rows N g n);
              form = f;
            }) refl

        -- a number below the count is one that g had
        had : (b : Bool) → has g N ≡ b → R.numbering.full ≡ false → u.no.0 < t.count → has g N ≡ true
        had b e j l =
            let x = number_ext g N in
            let m = u.names j in
            has_in g N u.no.0 (omega (arith, len)) (sym (ap (λ (M : List Grant). get_or M u.no.0 no_grant) x.is ∙ get_or-append N x.more no_grant u.no.0 (omega (arith, len))) ∙ m.1)

        below : (b : Bool) → has g N ≡ b → R.numbering.full ≡ false → (d : Bool) → leb t.count u.no.0 ≡ d →
            Right N (got (r g) n) (Ok (record { table = t; found = asked q (cond d (Err refusal.Absent) (Ok u.no)); used = n }))
        below true e j true h = let l = leb-true t.count u.no.0 h in let m = (there e j).0 in absurd (omega (arith, len))
        below true e j false h = within e j
        below false e j true h = unknown g n e
        below false e j false h = let l = leb-false t.count u.no.0 h in absurd (no_true (sym e ∙ had false e j l))

        go : Good R.numbering (number g N) → (b : Bool) → has g N ≡ b →
            Right N (got (r g) n) (Ok (record { table = t; found = asked q (known t.count R.numbering.full u.no); used = n }))
        go (tied j S) b e = rw j (below b e j (leb t.count u.no.0) refl)
        go (over j l c) true e = let h = ap length (same e) in absurd (omega (arith, len, small))
        go (over j l c) false e = rw j (unknown g n e)

  -- to query

  query_right : (o : Outcome Concl) (R : Numbered rc.Concl) → FuseC N o R → Right N (and_then o (λ c n. got (query c) n)) (query_of t R)
  unfolding found_of numbered_by given
  query_right (refused k) R e = rw e (fault k)
  query_right (got c n) R u = rw u.out (go u.good)
    where
      go : Good R.numbering (number_concl c N) → Right N (got (query c) n)
          (Ok (cond R.numbering.full (no_r t n refusal.Full) (record { table = R.numbering.table; found = Ok (Query u.row); used = n })))
      go (tied q S) =
          let k = S.counted in
          let s = S.small in
          let m = u.names q in
          let fit : fits (number_concl c N) ≡ true = le-leb (length (number_concl c N)) grants (omega arith) in
          let row : u.row ≡ concl_of (number_concl c N) c =
          sym (concl_back (number_concl c N) (omega arith) S.distinct u.row m.0) ∙ ap (concl_of (number_concl c N)) m.1 in
          rw q (whole _ _ _ (record {
            found = ap (λ x. Ok (Query x)) row ∙ sym (ap (λ (b : Bool). cond b (Ok (Query (concl_of (number_concl c N) c))) (Err refusal.Full)) fit);
            rows = shown_out S ∙ sym (ap (λ (b : Bool). cond b (number_concl c N) N) fit);
            form = shown_form S;
          }) refl)
      go (over q l k) =
          let fit : fits (number_concl c N) ≡ false = lt-leb (length (number_concl c N)) grants l in
          rw q (whole _ _ _ (record {
            found = sym (ap (λ (b : Bool). cond b (Ok (Query (concl_of (number_concl c N) c))) (Err refusal.Full)) fit);
            rows = sym (ap (λ (b : Bool). cond b (number_concl c N) N) fit);
            form = f;
          }) refl)

  -- whole records

  module _ (s : List ℕ) where
    grant_fused : (at : ℕ) → FuseG N (and_then (read_grant depths s at) (λ g n. got (canon g) n)) (num_form s at (starting t))
    grant_fused at = fuse_form s at (starting t) N start_good

    entry_content : (by : Status) (at : ℕ) → Right N (in_form (read_entry (enter by) s at)) (num_entry by s at t)
    unfolding read_entry num_entry
    entry_content by at =
        rw (grant_first (enter by) (λ g. refl) (read_grant depths s at))
        (entry_right by (and_then (read_grant depths s at) (λ g n. got (canon g) n)) (num_form s at (starting t)) (grant_fused at))

    revision_content : (r : Grant → Record) (q : GrantNo → Request) → Revises r q → (at : ℕ) → Right N (in_form (read_entry r s at)) (num_revision q s at t)
    unfolding read_entry num_revision
    revision_content r q v at =
        rw (grant_first r v.form (read_grant depths s at))
        (revision_right r q v (and_then (read_grant depths s at) (λ g n. got (canon g) n)) (num_form s at (starting t)) (grant_fused at))

    licence_content : (r : Prin → Grant → Record) (F : Prin → ℕ → Result Reading Refusal) → ((p : Prin) (at : ℕ) → Right N (in_form (read_entry (r p) s at)) (F p at)) →
        Right N (in_form (read_licence r s 0)) (on_outcome (issuer s 0) Err F)
    unfolding read_licence issuer
    licence_content r F h = go (upto (speakers - 1) s 0)
      where
        go : (o : Outcome ℕ) → Right N (in_form (and_then o (λ p n. read_entry (r (record { 0 = p })) s n))) (on_outcome (and_then o (λ p n. got (record { 0 = p }) n)) Err F)
        go (refused k) = fault k
        go (got p n) = h (record { 0 = p }) n

    pub content_right : (k : Kind) → Right N (in_form (read_content k s)) (num_content k s t)
    unfolding read_content read_query num_content num_query
    content_right Kind.Tg = entry_content Trusted 0
    content_right Kind.St = revision_content (remove Trusted) (Remove Trusted) (removes Trusted) 0
    content_right Kind.Li = licence_content _ _ (λ p. entry_content (Issued p))
    content_right Kind.Wd = licence_content _ _ (λ p. revision_content (remove (Issued p)) (Remove (Issued p)) (removes (Issued p)))
    content_right Kind.Pl = licence_content _ _ (λ p. entry_content (Provisional p))
    content_right Kind.Cf = licence_content _ _ (λ p. revision_content (confirm p) (Confirm p) (confirms p))
    content_right Kind.Pv = licence_content _ _ (λ p. revision_content (preview p) (Preview p) (previews p))
    content_right Kind.Qu =
        rw (concl_first (read_concl (read_grant depths s) nothing_declared s 0))
        (query_right (and_then (read_concl (read_grant depths s) nothing_declared s 0) (λ c n. got (canon_concl c) n)) (num_concl_form nothing_declared s 0 (starting t))
        (fuse_concl_form s 0 (starting t) N start_good nothing_declared))

-- A record that numbers nothing keeps the table, in form or not.

given_keeps : (t : Table) (u : Numbering) (q : Request) (n : ℕ) → numbers (Ok q) ≡ true → Keeps t (given t u q n)
unfolding given
given_keeps t u q n e = go u.full
  where
    go : (b : Bool) → Keeps t (cond b (no_r t n refusal.Full) (record { table = u.table; found = Ok q; used = n }))
    go true h = refl
    go false h = absurd (no_true (sym h ∙ e))

entry_keeps : (by : Status) (s : List ℕ) (at : ℕ) (t : Table) → IfOk (num_entry by s at t) (Keeps t)
unfolding num_entry
entry_keeps by s at t = go (num_form s at (starting t)).out
  where
    go : (o : Outcome GrantNo) → IfOk (on_outcome o Err (λ g n. Ok (given t (num_form s at (starting t)).numbering (Enter by g) n))) (Keeps t)
    go (got g n) = given_keeps t _ (Enter by g) n refl
    go (refused k) = tt

revision_keeps : (q : GrantNo → Request) (s : List ℕ) (at : ℕ) (t : Table) → IfOk (num_revision q s at t) (Keeps t)
unfolding num_revision
revision_keeps q s at t = go (num_form s at (starting t)).out
  where
    go : (o : Outcome GrantNo) →
        IfOk (on_outcome o Err (λ g n. Ok (record { table = t; found = asked q (known t.count (num_form s at (starting t)).numbering.full g); used = n }))) (Keeps t)
    go (got g n) = λ h. refl
    go (refused k) = tt

query_keeps : (s : List ℕ) (t : Table) → IfOk (num_query s 0 t) (Keeps t)
unfolding num_query
query_keeps s t = go (num_concl_form nothing_declared s 0 (starting t)).out
  where
    go : (o : Outcome rc.Concl) → IfOk (on_outcome o Err (λ c n. Ok (given t (num_concl_form nothing_declared s 0 (starting t)).numbering (Query c) n))) (Keeps t)
    go (got c n) = given_keeps t _ (Query c) n refl
    go (refused k) = tt

licence_keeps : (s : List ℕ) (t : Table) (F : Prin → ℕ → Result Reading Refusal) → ((p : Prin) (at : ℕ) → IfOk (F p at) (Keeps t)) → IfOk (on_outcome (issuer s 0) Err F) (Keeps t)
licence_keeps s t F h = go (issuer s 0)
  where
    go : (o : Outcome Prin) → IfOk (on_outcome o Err F) (Keeps t)
    go (got p n) = h p n
    go (refused k) = tt

pub content_keeps : (k : Kind) (c : List ℕ) (t : Table) → IfOk (num_content k c t) (Keeps t)
unfolding num_content
content_keeps Kind.Tg c t = entry_keeps Trusted c 0 t
content_keeps Kind.St c t = revision_keeps (Remove Trusted) c 0 t
content_keeps Kind.Li c t = licence_keeps c t _ (λ p n. entry_keeps (Issued p) c n t)
content_keeps Kind.Wd c t = licence_keeps c t _ (λ p n. revision_keeps (Remove (Issued p)) c n t)
content_keeps Kind.Pl c t = licence_keeps c t _ (λ p n. entry_keeps (Provisional p) c n t)
content_keeps Kind.Cf c t = licence_keeps c t _ (λ p n. revision_keeps (Confirm p) c n t)
content_keeps Kind.Pv c t = licence_keeps c t _ (λ p n. revision_keeps (Preview p) c n t)
content_keeps Kind.Qu c t = query_keeps c t

-- The number of what is found.

module _ (k : ℕ) where
  asked_or : (t : Bool) (q : Request) (i : Refusal) → (number_found (cond t (Ok q) (Err i)) ≡ some k) ↔ ((t ≡ false) × (k ≡ refusal_number i))
  asked_or true q i = (λ h. cc, λ h. absurd (no_true (sym h.0)))
  asked_or false q i = (λ h. let z : refusal_number i ≡ k = cc in (refl, sym z), λ h. ap some (sym h.1))

  pub found_number : (N : List Grant) (o : Outcome Record) → (number_found (found_of N o) ≡ some k) ↔ TurnedBack N o k
  unfolding found_of
  found_number N (refused j) = (λ h. let d : refusal_number j ≡ k = cc in d, λ h. ap some h)
  found_number N (got (enter by g) n) = asked_or (fits (number g N)) _ refusal.Full
  found_number N (got (remove by g) n) = asked_or (has g N) _ refusal.Absent
  found_number N (got (confirm p g) n) = asked_or (has g N) _ refusal.Absent
  found_number N (got (preview p g) n) = asked_or (has g N) _ refusal.Absent
  found_number N (got (query c) n) = asked_or (fits (number_concl c N)) _ refusal.Full
