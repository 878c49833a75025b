-- Reading a content over a table, as the code does it.
use Rattle.std.specs.Prelude.{ℕ, ◌-◌, ◌≡◌, List, Bool, false, Result, Ok, Err, cond, leb}
use Rattle.sorts.specs.declared.Concl.{Concl}
use Rattle.sorts.specs.declared.GrantNo.{GrantNo}
use Rattle.sorts.specs.declared.Prin.{Prin}
use Rattle.sorts.specs.declared.Refusal.{Refusal}
use Rattle.sorts.specs.declared.Refusal.TheVariants as refusal
use Rattle.sorts.specs.Numbers.{speakers}
use Rattle.rows.specs.declared.Table.{Table}
use Rattle.rows.specs.declared.Numbering.{Numbering}
use Rattle.frames.specs.declared.Kind.{Kind}
use Rattle.frames.specs.declared.Kind.TheVariants.{Tg, St, Li, Wd, Qu, Pl, Cf, Pv}
use Rattle.sorts.specs.declared.Status.{Status}
use Rattle.sorts.specs.declared.Status.TheVariants.{Trusted, Issued, Provisional}
use Rattle.reader.specs.declared.contents.Request.{Request}
use Rattle.reader.specs.declared.contents.Request.TheVariants.{Enter, Remove, Confirm, Preview, Query}
use Rattle.reader.specs.declared.contents.Reading.{Reading}
use Rattle.frames.specs.Bytes.{Outcome, got, and_then, upto}
use Rattle.reader.specs.Contents.{nothing_declared}
use Rattle.grants.specs.Inner.OnePass.{Numbered, on_outcome}
use Rattle.canonread.specs.Inner.Again.{num_form, num_concl_form}

-- what a closure answers is the value of q
abbrev pub Makes : (GrantNo → Request → Type 0) → (GrantNo → Request) → Type 0
Makes answers q = (g : GrantNo) (r : Request) → answers g r → r ≡ q g

-- the table before the first grant of a record is numbered
abbrev pub starting : Table → Numbering
starting t = record { table = t; full = false }

-- a refusal that uses n bytes
abbrev pub no_r : Table → ℕ → Refusal → Reading
no_r t n k = record { table = t; found = Err k; used = n }

-- a request with its grants numbered; nothing is numbered where the numbers do not reach
unfoldable pub given : Table → Numbering → Request → ℕ → Reading
given t u q n = cond u.full (no_r t n refusal.Full) (record { table = u.table; found = Ok q; used = n })

abbrev pub entry_of : Status → Table → Numbered GrantNo → Result Reading Refusal
entry_of by t r = on_outcome r.out Err (λ g n. Ok (given t r.numbering (Enter by g) n))

unfoldable pub num_entry : Status → List ℕ → ℕ → Table → Result Reading Refusal
num_entry by s at t = entry_of by t (num_form s at (starting t))

-- the number of a grant to revise, where so many were given before: one of them
unfoldable pub known : ℕ → Bool → GrantNo → Result GrantNo Refusal
known count full g = cond full (Err refusal.Absent) (cond (leb count g.0) (Err refusal.Absent) (Ok g))

-- what is asked of a number that was found
abbrev pub asked : (GrantNo → Request) → Result GrantNo Refusal → Result Request Refusal
asked q (Ok g) = Ok (q g)
asked q (Err k) = Err k

abbrev pub revision_of : (GrantNo → Request) → Table → Numbered GrantNo → Result Reading Refusal
revision_of q t r = on_outcome r.out Err (λ g n. Ok (record { table = t; found = asked q (known t.count r.numbering.full g); used = n }))

unfoldable pub num_revision : (GrantNo → Request) → List ℕ → ℕ → Table → Result Reading Refusal
num_revision q s at t = revision_of q t (num_form s at (starting t))

abbrev pub query_of : Table → Numbered Concl → Result Reading Refusal
query_of t r = on_outcome r.out Err (λ c n. Ok (given t r.numbering (Query c) n))

unfoldable pub num_query : List ℕ → ℕ → Table → Result Reading Refusal
num_query s at t = query_of t (num_concl_form nothing_declared s at (starting t))

-- the issuer byte, with which a content on a licence begins
unfoldable pub issuer : List ℕ → ℕ → Outcome Prin
issuer s at = and_then (upto (speakers - 1) s at) (λ p n. got (record { 0 = p }) n)

unfoldable pub num_content : Kind → List ℕ → Table → Result Reading Refusal
num_content Tg c t = num_entry Trusted c 0 t
num_content St c t = num_revision (Remove Trusted) c 0 t
num_content Li c t = on_outcome (issuer c 0) Err (λ p n. num_entry (Issued p) c n t)
num_content Wd c t = on_outcome (issuer c 0) Err (λ p n. num_revision (Remove (Issued p)) c n t)
num_content Qu c t = num_query c 0 t
num_content Pl c t = on_outcome (issuer c 0) Err (λ p n. num_entry (Provisional p) c n t)
num_content Cf c t = on_outcome (issuer c 0) Err (λ p n. num_revision (Confirm p) c n t)
num_content Pv c t = on_outcome (issuer c 0) Err (λ p n. num_revision (Preview p) c n t)
