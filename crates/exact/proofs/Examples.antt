-- Document 01's examples of refusals 1 to 5 with their lengths, those of 10, others beside them, and records that are accepted.
use Prim.Native.Nat.{ℕ}
use mathlib.Core.Path.{◌≡◌, refl}
use mathlib.Core.List.{List, [], ◌∷◌, ◌++◌}
use mathlib.Core.Logic.{inl}
use native.Mathlib.Omega.{arith}
use Rattle.sorts.specs.declared.Status.TheVariants.{Trusted, Issued, Provisional}
use Rattle.sorts.specs.declared.Refusal.TheVariants as refusal
use Rattle.rows.specs.Written.{grant, none, property, perm, issue, written}
use Rattle.rows.specs.Form.{depth}
use Rattle.rows.specs.Allowed.{Allowed}
use Rattle.frames.specs.Bytes.{Outcome, got, refused, byte_at, upto, principal, pack, tag, header}
use Rattle.grants.specs.Grants.{read_property, read_packed, read_issue, read_concl, read_conds, read_with, read_grant}
use Rattle.frames.specs.Frames.{kind_with, read_mark, frame}
use Rattle.reader.specs.Contents.{Record, enter, confirm, query, read_entry, read_licence, read_query, read_content}
use Rattle.reader.specs.Records.{read_whole, read_record}
use Rattle.exact.specs.Writing.{in_frame, written_record, AllowedRecord}
use Rattle.exact.proofs.Exact.{record_read}

-- the reader with all its parts open, so that it computes
opened : List ℕ → Outcome Record
unfolding byte_at upto principal pack tag header read_property read_packed read_issue read_concl read_conds read_with read_grant read_entry read_licence read_query read_content read_whole kind_with read_mark frame read_record
opened s = read_record s

-- a grant with no conditions that gives principal 0 the issue of the grant that follows
abbrev holding : List ℕ
holding = 0 ∷ 0 ∷ 0 ∷ 1 ∷ 0 ∷ 0 ∷ []

-- a byte is missing: `74`
pub refusal_1 : read_record (116 ∷ []) ≡ refused refusal.Missing
unfolding opened
refusal_1 = refl

-- no byte at all is refusal 1 too
pub empty_1 : read_record [] ≡ refused refusal.Missing
unfolding opened
empty_1 = refl

-- the two mark bytes are no record's letters: `41 41`
pub refusal_2 : read_record (65 ∷ 65 ∷ []) ≡ refused refusal.Mark
unfolding opened
refusal_2 = refl

-- a byte is outside its range: `74 67 00 01 03`
pub refusal_3 : read_record (116 ∷ 103 ∷ 0 ∷ 1 ∷ 3 ∷ []) ≡ refused refusal.Range
unfolding opened
refusal_3 = refl

-- a variable that its grant does not declare: `74 67 00 06 00 00 00 00 05 80`
pub refusal_4 : read_record (116 ∷ 103 ∷ 0 ∷ 6 ∷ 0 ∷ 0 ∷ 0 ∷ 0 ∷ 5 ∷ 128 ∷ []) ≡ refused refusal.Variable
unfolding opened
refusal_4 = refl

-- an inner grant would stand at depth 5, of which no byte is there: `74 67 00 18`, then `00 00 00 01 00 00` four times
pub refusal_5 : read_record (116 ∷ 103 ∷ 0 ∷ 24 ∷ (holding ++ (holding ++ (holding ++ holding)))) ≡ refused refusal.Depth
unfolding opened
refusal_5 = refl

-- upper-case letters are no record's: `54 47 00 06 00 00 00 00 00 02`
pub upper_case : read_record (84 ∷ 71 ∷ 0 ∷ 6 ∷ 0 ∷ 0 ∷ 0 ∷ 0 ∷ 0 ∷ 2 ∷ []) ≡ refused refusal.Mark
unfolding opened
upper_case = refl

-- a length byte is missing: `74 67 00`
pub no_length : read_record (116 ∷ 103 ∷ 0 ∷ []) ≡ refused refusal.Missing
unfolding opened
no_length = refl

-- the stated length is beyond the input: `74 67 00 07 00 00 00 00 00 02`
pub length_beyond : read_record (116 ∷ 103 ∷ 0 ∷ 7 ∷ 0 ∷ 0 ∷ 0 ∷ 0 ∷ 0 ∷ 2 ∷ []) ≡ refused refusal.Missing
unfolding opened
length_beyond = refl

-- the content needs more bytes than its length, of which one follows: `74 67 00 05 00 00 00 00 00 02`
pub refusal_10 : read_record (116 ∷ 103 ∷ 0 ∷ 5 ∷ 0 ∷ 0 ∷ 0 ∷ 0 ∷ 0 ∷ 2 ∷ []) ≡ refused refusal.Content
unfolding opened
refusal_10 = refl

-- or fewer: `74 67 00 07 00 00 00 00 00 02 00`
pub left_over : read_record (116 ∷ 103 ∷ 0 ∷ 7 ∷ 0 ∷ 0 ∷ 0 ∷ 0 ∷ 0 ∷ 2 ∷ 0 ∷ []) ≡ refused refusal.Content
unfolding opened
left_over = refl

-- a content of no bytes: `74 67 00 00`
pub no_content : read_record (116 ∷ 103 ∷ 0 ∷ 0 ∷ []) ≡ refused refusal.Content
unfolding opened
no_content = refl

-- an issuer is 00 to 0F: `6C 69 00 01 10`
pub issuer_16 : read_record (108 ∷ 105 ∷ 0 ∷ 1 ∷ 16 ∷ []) ≡ refused refusal.Range
unfolding opened
issuer_16 = refl

-- and no variable: `6C 69 00 01 80`
pub issuer_variable : read_record (108 ∷ 105 ∷ 0 ∷ 1 ∷ 128 ∷ []) ≡ refused refusal.Range
unfolding opened
issuer_variable = refl

-- a query declares no principal variable: `71 75 00 03 00 02 80`
pub query_variable : read_record (113 ∷ 117 ∷ 0 ∷ 3 ∷ 0 ∷ 2 ∷ 128 ∷ []) ≡ refused refusal.Variable
unfolding opened
query_variable = refl

-- nor the grant variable: `71 75 00 03 01 00 01`
pub query_any_grant : read_record (113 ∷ 117 ∷ 0 ∷ 3 ∷ 1 ∷ 0 ∷ 1 ∷ []) ≡ refused refusal.Variable
unfolding opened
query_any_grant = refl

-- the first fault decides: an undeclared variable, then a byte that the length leaves out: `74 67 00 05 00 00 00 01 80`
pub first_fault_4 : read_record (116 ∷ 103 ∷ 0 ∷ 5 ∷ 0 ∷ 0 ∷ 0 ∷ 1 ∷ 128 ∷ []) ≡ refused refusal.Variable
unfolding opened
first_fault_4 = refl

-- a byte outside its range, then an undeclared variable: `74 67 00 06 00 00 00 00 10 80`
pub first_fault_3 : read_record (116 ∷ 103 ∷ 0 ∷ 6 ∷ 0 ∷ 0 ∷ 0 ∷ 0 ∷ 16 ∷ 128 ∷ []) ≡ refused refusal.Range
unfolding opened
first_fault_3 = refl

-- a byte that the length leaves out where an inner grant would open: `74 67 00 06 00 00 00 01 00 00`
pub first_fault_10 : read_record (116 ∷ 103 ∷ 0 ∷ 6 ∷ 0 ∷ 0 ∷ 0 ∷ 1 ∷ 0 ∷ 0 ∷ []) ≡ refused refusal.Content
unfolding opened
first_fault_10 = refl

-- an inner grant is closed, so its outer grant's variable is not its own: `74 67 00 0C 01 00 00 01 80 00 00 00 00 00 05 80`
pub outer_variable : read_record (116 ∷ 103 ∷ 0 ∷ 12 ∷ 1 ∷ 0 ∷ 0 ∷ 1 ∷ 128 ∷ 0 ∷ 0 ∷ 0 ∷ 0 ∷ 0 ∷ 5 ∷ 128 ∷ []) ≡ refused refusal.Variable
unfolding opened
outer_variable = refl

-- a record is read up to its end, here 10, whatever bytes follow: `74 67 00 06 00 00 00 00 00 02`
pub accepted : (y : List ℕ) → read_record (116 ∷ 103 ∷ 0 ∷ 6 ∷ 0 ∷ 0 ∷ 0 ∷ 0 ∷ 0 ∷ 2 ∷ y) ≡ got (enter Trusted (grant 0 0 none (property 0 2))) 10
unfolding written_record in_frame AllowedRecord Allowed depth written
accepted y =
    record_read (enter Trusted (grant 0 0 none (property 0 2))) y
    (tt, (omega arith, omega arith, omega arith, tt, (omega arith, inl (omega arith))), omega arith)

-- a grant may use the variable that it declares: `74 67 00 06 01 00 00 00 05 80`
pub own_variable : read_record (116 ∷ 103 ∷ 0 ∷ 6 ∷ 1 ∷ 0 ∷ 0 ∷ 0 ∷ 5 ∷ 128 ∷ []) ≡ got (enter Trusted (grant 1 0 none (property 5 128))) 10
unfolding opened
own_variable = refl

-- and so may an inner grant: `74 67 00 0C 00 00 00 01 00 00`, then `01 00 00 00 05 80`
pub inner_variable : read_record (116 ∷ 103 ∷ 0 ∷ 12 ∷ 0 ∷ 0 ∷ 0 ∷ 1 ∷ 0 ∷ 0 ∷ 1 ∷ 0 ∷ 0 ∷ 0 ∷ 5 ∷ 128 ∷ []) ≡ got (enter Trusted (grant 0 0 none (perm 0 (issue (grant 1 0 none (property 5 128)))))) 16
unfolding opened
inner_variable = refl

-- depth 4 is the last allowed: `74 67 00 18`, then `00 00 00 01 00 00` three times, then `00 00 00 00 00 02`
pub deepest : read_record (116 ∷ 103 ∷ 0 ∷ 24 ∷ (holding ++ (holding ++ (holding ++ (0 ∷ 0 ∷ 0 ∷ 0 ∷ 0 ∷ 2 ∷ []))))) ≡
    got (enter Trusted (grant 0 0 none (perm 0 (issue (grant 0 0 none (perm 0 (issue (grant 0 0 none (perm 0 (issue (grant 0 0 none (property 0 2)))))))))))) 28
unfolding opened
deepest = refl

-- a licence has its issuer before the grant: `6C 69 00 07 00 00 00 00 00 02 02`
pub licence : read_record (108 ∷ 105 ∷ 0 ∷ 7 ∷ 0 ∷ 0 ∷ 0 ∷ 0 ∷ 0 ∷ 2 ∷ 2 ∷ []) ≡ got (enter (Issued (record { 0 = 0 })) (grant 0 0 none (property 2 2))) 11
unfolding opened
licence = refl

-- and so has a provisional one: `70 6C 00 07 00 00 00 00 00 02 02`
pub provisional : read_record (112 ∷ 108 ∷ 0 ∷ 7 ∷ 0 ∷ 0 ∷ 0 ∷ 0 ∷ 0 ∷ 2 ∷ 2 ∷ []) ≡ got (enter (Provisional (record { 0 = 0 })) (grant 0 0 none (property 2 2))) 11
unfolding opened
provisional = refl

-- which is made firm by `63 66 00 07 00 00 00 00 00 02 02`
pub confirmed : read_record (99 ∷ 102 ∷ 0 ∷ 7 ∷ 0 ∷ 0 ∷ 0 ∷ 0 ∷ 0 ∷ 2 ∷ 2 ∷ []) ≡ got (confirm (record { 0 = 0 }) (grant 0 0 none (property 2 2))) 11
unfolding opened
confirmed = refl

-- its issuer is 00 to 0F too: `63 66 00 01 10`
pub confirmer_16 : read_record (99 ∷ 102 ∷ 0 ∷ 1 ∷ 16 ∷ []) ≡ refused refusal.Range
unfolding opened
confirmer_16 = refl

-- a query has a conclusion: `71 75 00 03 00 02 02`
pub query_read : read_record (113 ∷ 117 ∷ 0 ∷ 3 ∷ 0 ∷ 2 ∷ 2 ∷ []) ≡ got (query (property 2 2)) 7
unfolding opened
query_read = refl
