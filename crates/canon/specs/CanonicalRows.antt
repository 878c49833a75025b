-- Document 02, 3: "written out, the rows of a book in form are in it": each grant that has a number is in canonical form.
use Rattle.std.specs.Prelude.{ℕ, ◌<◌, get_or}
use Rattle.rows.specs.declared.Table.{Table}
use Rattle.rows.specs.Form.{rows_out, no_grant}
use Rattle.canon.specs.Canon.{Canonical}

abbrev pub CanonicalRows : Table → Type 0
CanonicalRows t = (i : ℕ) → i < t.count → Canonical (get_or (rows_out t.rows t.count) i no_grant)
