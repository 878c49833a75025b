-- Document 01, "Records", with those of document 02, 5 and 6: what a record asks, and how its content is read.
use Rattle.std.specs.Prelude.{ℕ, ◌-◌, List}
use Rattle.sorts.specs.declared.Prin.{Prin}
use Rattle.sorts.specs.declared.Status.{Status}
use Rattle.sorts.specs.declared.Status.TheVariants.{Trusted, Issued, Provisional}
use Rattle.sorts.specs.Numbers.{depths, speakers}
use Rattle.rows.specs.Written.{Grant, Concl}
use Rattle.frames.specs.declared.ranges.Scope.{Scope}
use Rattle.frames.specs.declared.Kind.{Kind}
use Rattle.frames.specs.declared.Kind.TheVariants.{Tg, St, Li, Wd, Qu, Pl, Cf, Pv}
use Rattle.frames.specs.Bytes.{Outcome, got, and_then, upto}
use Rattle.grants.specs.Grants.{read_grant, read_concl}
use Rattle.canon.specs.Canon.{canon, canon_concl}

-- "TG enters a trusted grant, ST strikes it: a grant follows. LI issues a licence, WD withdraws it: an issuer byte 00 to 0F,
-- then a grant. QU queries: one closed conclusion follows". Document 02, 5: "Record PL enters a provisional licence in the form of LI;
-- CF, in the form of WD, makes a provisional one firm. WD removes either kind." So a record enters a grant with a status, removes one,
-- confirms a principal's provisional licence, previews the withdrawal of one (document 02, 6: "Record PV has the form .. of WD"), or
-- asks; to remove a principal's licence is to remove it whether firm or provisional.
pub data Record : Type 0 where
  enter : Status → Grant → Record
  remove : Status → Grant → Record
  confirm : Prin → Grant → Record
  preview : Prin → Grant → Record
  query : Concl → Record

-- A grant, at depth 1.
unfoldable pub read_entry : (Grant → Record) → List ℕ → ℕ → Outcome Record
read_entry r s at = and_then (read_grant depths s at) (λ g n. got (r g) n)

-- An issuer byte and a grant.
unfoldable pub read_licence : (Prin → Grant → Record) → List ℕ → ℕ → Outcome Record
read_licence r s at = and_then (upto (speakers - 1) s at) (λ p n. read_entry (r (record { 0 = p })) s n)

-- In a query "every variable is undeclared".
abbrev pub nothing_declared : Scope
nothing_declared = record { prins = 0; res = 0 }

-- A closed conclusion, in which "an inner grant is at depth 1".
unfoldable pub read_query : List ℕ → ℕ → Outcome Record
read_query s at = and_then (read_concl (read_grant depths s) nothing_declared s at) (λ c n. got (query c) n)

-- The content c of a record, from its first byte on.
unfoldable pub read_content : Kind → List ℕ → Outcome Record
read_content Tg c = read_entry (enter Trusted) c 0
read_content St c = read_entry (remove Trusted) c 0
read_content Li c = read_licence (λ p. enter (Issued p)) c 0
read_content Wd c = read_licence (λ p. remove (Issued p)) c 0
read_content Qu c = read_query c 0
read_content Pl c = read_licence (λ p. enter (Provisional p)) c 0
read_content Cf c = read_licence confirm c 0
read_content Pv c = read_licence preview c 0

-- Document 02, 3: "two grants are the same when their bytes agree after inner grants are brought to this form, conditions are put in
-- ascending order of bytes and repeats are dropped." A record with its grants in that form; all else of it stays.
abbrev pub canon_record : Record → Record
canon_record (enter by g) = enter by (canon g)
canon_record (remove by g) = remove by (canon g)
canon_record (confirm p g) = confirm p (canon g)
canon_record (preview p g) = preview p (canon g)
canon_record (query c) = query (canon_concl c)
