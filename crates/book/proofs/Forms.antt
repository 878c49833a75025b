-- What a book in form and a record that was read give the evaluation and the calls.
use Prim.Native.Nat.{ℕ, ◌≤◌, ◌<◌}
use mathlib.Core.Path.{◌≡◌, refl, sym, subst}
use mathlib.Core.Bool.{Bool, true, false, cond}
use mathlib.Core.List.{List, [], ◌∷◌, ◌++◌}
use mathlib.Core.Logic.{inl, inr}
use native.Mathlib.Omega.{arith}
use native.Mathlib.Decide.{dec_lt}
use Rattle.std.specs.Prelude.{Ok, Err}
use lib.ListN.{length, get_or, replicate, length-replicate, get_or-replicate, get_or-eq_default}
use lib.Seq.{get_or-append_seam}
use borrow.Author.Tests.{leb-true}
use Rattle.sorts.specs.declared.Cond.{Cond}
use Rattle.sorts.specs.declared.Refusal.{Refusal}
use Rattle.sorts.specs.declared.Refusal.TheVariants as refusal
use Rattle.sorts.specs.declared.Status.{Status}
use Rattle.sorts.specs.Flags.{StatusRange, FirmRange}
use Rattle.sorts.specs.declared.Status.TheVariants.{Trusted, Issued, Provisional}
use Rattle.sorts.specs.Blank.{blank_cond, blank_row, no_row}
use Rattle.sorts.specs.Numbers.{ClosedConcl, conditions, grants, principals, packs}
use Rattle.sorts.proofs.Marks.{number_lt}
use Rattle.rows.specs.declared.Table.{Table}
use Rattle.rows.specs.Written.{Grant, grant, Concl, property, perm, issue, issue_any, run, export}
use Rattle.rows.specs.Numbering.{place, has, add, number, number_conds, number_concl}
use Rattle.sorts.specs.RowForm.{PrinForm, PackForm, RowForm}
use Rattle.rows.specs.Form.{concl_of, no_grant, TableForm}
use Rattle.rows.specs.Allowed.{AllowedConcl}
use Rattle.rows.proofs.Place.{has_in, has_lt}
use Rattle.rows.proofs.Shown.{length_more}
use Rattle.frames.specs.Bytes.{Outcome, got, refused}
use Rattle.reader.specs.Contents.{Record, enter, remove, confirm, preview, query}
use Rattle.reader.specs.Records.{read_canonical}
use Rattle.reader.specs.Found.{fits, found_of}
use Rattle.reader.specs.declared.contents.Request.{Request}
use Rattle.reader.specs.declared.contents.Request.TheVariants.{Enter, Remove, Confirm, Preview, Query}
use Rattle.exact.specs.Writing.{AllowedRecord}
use Rattle.exact.proofs.CanonicalRecords.{canonical_exact}
use Rattle.rules.specs.Rules.{RowsForm}
use Rattle.requests.specs.Inner.Apply.{FoundFits}

-- every row of a table in form is in form, the blank ones too

blank_row_lem : (g : ℕ) → RowForm g blank_row
blank_row_lem g = record {
  prins = omega arith;
  res = omega arith;
  count = omega arith;
  places = length-replicate {A = Cond} conditions blank_cond;
  used = λ j l. absurd (omega arith);
  unused = λ j l. blank_at j (dec_lt j conditions);
  head = (omega arith, inl (omega arith));
}
  where
    blank_at : (j : ℕ) → Dec (j < conditions) → get_or (replicate conditions blank_cond) j blank_cond ≡ blank_cond
    blank_at j (yes h) = get_or-replicate conditions j blank_cond blank_cond h
    blank_at j (no h) = get_or-eq_default (replicate conditions blank_cond) blank_cond {n = j} (let l = length-replicate {A = Cond} conditions blank_cond in omega arith)

pub table_rows : (t : Table) → TableForm t → RowsForm t.rows
table_rows t f g l = go (dec_lt g t.count)
  where
    go : Dec (g < t.count) → RowForm g (get_or t.rows g no_row)
    go (yes h) = f.used g h
    go (no h) = subst (RowForm g) (sym (f.unused g (omega arith) l)) (blank_row_lem g)

-- a conclusion that is asked for has marks

-- a grant that was numbered has a number
add_has : (g : Grant) (N : List Grant) → has g (add g N) ≡ true
unfolding add
add_has g N = go (has g N) refl
  where
    go : (b : Bool) → has g N ≡ b → has g (cond (has g N) N (N ++ (g ∷ []))) ≡ true
    go true e = rw e e
    go false e = rw e (has_in g (N ++ (g ∷ [])) (length N) (omega (arith, length_more N g)) (get_or-append_seam N g [] no_grant))

pub number_has : (g : Grant) (N : List Grant) → has g (number g N) ≡ true
unfolding number
number_has (grant prins res cs c) N = add_has (grant prins res cs c) (number_concl c (number_conds cs N))

fits_small : (N : List Grant) → fits N ≡ true → length N ≤ grants
fits_small N e = leb-true (length N) grants e

-- what is removed is said as firm
pub firm_status : (by : Status) → FirmRange by → StatusRange by
firm_status Trusted f = f
firm_status (Issued p) f = f
firm_status (Provisional p) f = absurd f

-- the conclusion of a query is closed

prin_closed : (p : ℕ) → PrinForm 0 (record { 0 = p }) → p < principals
prin_closed p (inl h) = h
prin_closed p (inr (inl h)) = let l = h.1 in absurd (omega arith)
prin_closed p (inr (inr h)) = let l = h.1 in absurd (omega arith)

pack_closed : (n : ℕ) → PackForm 0 (record { 0 = n }) → n < packs
pack_closed n (inl h) = h
pack_closed n (inr h) = let e = h.1 in absurd (omega arith)

pub concl_closed : (c : Concl) (N : List Grant) → AllowedConcl 0 0 c → fits (number_concl c N) ≡ true → ClosedConcl (concl_of (number_concl c N) c)
unfolding AllowedConcl number
concl_closed (property k p) N a e = (a.0, prin_closed p a.1)
concl_closed (perm p (issue g)) N a e =
    let l = has_lt g (number g N) (number_has g N) in
    let s = fits_small (number g N) e in
    (prin_closed p a.0, omega arith)
concl_closed (perm p issue_any) N a e = let q = a.1 in absurd (omega arith)
concl_closed (perm p (run n)) N a e = (prin_closed p a.0, pack_closed n a.1)
concl_closed (perm p (export n)) N a e = (prin_closed p a.0, pack_closed n a.1)

module _ (N : List Grant) where
  -- a request, or its refusal
  either_fits : (q : Request) (k : Refusal) → FoundFits (Ok q) → (b : Bool) → FoundFits (cond b (Ok q) (Err k))
  either_fits q k h true = h
  either_fits q k h false = tt

  query_fits : (c : Concl) → AllowedConcl 0 0 c → (b : Bool) → fits (number_concl c N) ≡ b →
      FoundFits (cond b (Ok (Query (concl_of (number_concl c N) c))) (Err refusal.Full))
  query_fits c a true e = let l = number_lt (concl_of (number_concl c N) c) (concl_closed c N a e) in omega arith
  query_fits c a false e = tt

  record_fits : (q : Record) (n : ℕ) → AllowedRecord q → FoundFits (found_of N (got q n))
  unfolding found_of AllowedRecord
  record_fits (enter by g) n a = either_fits (Enter by (record { 0 = place g (number g N) })) refusal.Full tt (fits (number g N))
  record_fits (remove by g) n a = either_fits (Remove by (record { 0 = place g N })) refusal.Absent tt (has g N)
  record_fits (confirm p g) n a = either_fits (Confirm p (record { 0 = place g N })) refusal.Absent tt (has g N)
  record_fits (preview p g) n a = either_fits (Preview p (record { 0 = place g N })) refusal.Absent tt (has g N)
  record_fits (query c) n a = query_fits c a.0 (fits (number_concl c N)) refl

  pub found_fits : (s : List ℕ) → FoundFits (found_of N (read_canonical s))
  unfolding found_of
  found_fits s = go (read_canonical s) refl
    where
      go : (o : Outcome Record) → read_canonical s ≡ o → FoundFits (found_of N o)
      go (got q n) e = record_fits q n (canonical_exact s q n e).0
      go (refused k) e = tt
