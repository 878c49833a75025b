-- The bytes of a record, and which records can be read: what the theorems about the reader speak of.
use Rattle.std.specs.Prelude.{ℕ, ◌/◌, ◌%◌, ◌≤◌, ◌<◌, ◌≡◌, List, [], ◌∷◌, ◌++◌, length, get_or}
use Rattle.sorts.specs.declared.Status.{Status}
use Rattle.sorts.specs.declared.Status.TheVariants.{Trusted, Issued, Provisional}
use Rattle.sorts.specs.Numbers.{depths}
use Rattle.sorts.specs.Flags.{StatusRange, FirmRange}
use Rattle.rows.specs.Written.{written, written_concl}
use Rattle.rows.specs.Form.{depth, depth_concl}
use Rattle.rows.specs.Allowed.{Allowed, AllowedConcl}
use Rattle.frames.specs.declared.Kind.{Kind}
use Rattle.frames.specs.declared.Kind.TheVariants.{Tg, St, Li, Wd, Qu, Pl, Cf, Pv}
use Rattle.frames.specs.Frames.{letters_of}
use Rattle.reader.specs.Contents.{Record, enter, remove, confirm, preview, query, read_content}

-- "TG enters a trusted grant, ST strikes it"; "LI issues a licence, WD withdraws it"; "QU queries". Document 02, 5: "Record PL enters a
-- provisional licence in the form of LI; CF, in the form of WD, makes a provisional one firm. WD removes either kind."
abbrev pub kind_of : Record → Kind
kind_of (enter Trusted g) = Tg
kind_of (remove Trusted g) = St
kind_of (enter (Issued p) g) = Li
kind_of (remove (Issued p) g) = Wd
kind_of (enter (Provisional p) g) = Pl
kind_of (remove (Provisional p) g) = Wd
kind_of (confirm p g) = Cf
kind_of (preview p g) = Pv
kind_of (query c) = Qu

-- The content: of a licence "an issuer byte 00 to 0F, then a grant"; of a trusted grant the grant.
abbrev pub written_status : Status → List ℕ
written_status Trusted = []
written_status (Issued p) = p.0 ∷ []
written_status (Provisional p) = p.0 ∷ []

abbrev pub content_of : Record → List ℕ
content_of (enter by g) = written_status by ++ written g
content_of (remove by g) = written_status by ++ written g
content_of (confirm p g) = written_status (Provisional p) ++ written g
content_of (preview p g) = written_status (Issued p) ++ written g
content_of (query c) = written_concl c

-- A content in its frame. "Each opens with two letters in ASCII"; document 02, 7: "after the mark, two bytes, high byte first, with the
-- number of bytes that follow".
unfoldable pub in_frame : Kind → List ℕ → List ℕ
in_frame k c = letters_of k ++ (length c / 256 ∷ length c % 256 ∷ c)

-- The bytes of a record.
unfoldable pub written_record : Record → List ℕ
written_record r = in_frame (kind_of r) (content_of r)

-- A list of bytes.
abbrev pub Bytes : List ℕ → Type 0
Bytes s = (i : ℕ) → get_or s i 0 < 256

-- The records that can be read: issuers, and allowed grants and conclusions that are not too deep; a query declares nothing. A
-- licence to remove is said with its issuer, and whether it is firm or provisional is not.
unfoldable pub AllowedRecord : Record → Type 0
AllowedRecord (enter by g) = StatusRange by × Allowed g × (depth g ≤ depths)
AllowedRecord (remove by g) = FirmRange by × Allowed g × (depth g ≤ depths)
AllowedRecord (confirm p g) = StatusRange (Provisional p) × Allowed g × (depth g ≤ depths)
AllowedRecord (preview p g) = StatusRange (Issued p) × Allowed g × (depth g ≤ depths)
AllowedRecord (query c) = AllowedConcl 0 0 c × (depth_concl c ≤ depths)

-- Document 02, 7: a content "needs fewer .. bytes than its stated length": it begins with the content of an allowed record of that kind,
-- and at least one byte follows.
pub record NeedsFewer (k : Kind) (c : List ℕ) : Type 0 where
  pub what : Record
  pub kind : kind_of what ≡ k
  pub allowed : AllowedRecord what
  pub over : ℕ
  pub more : List ℕ
  pub bytes : c ≡ content_of what ++ (over ∷ more)

-- It needs more: bytes beyond the stated length would change what is read.
pub record NeedsMore (k : Kind) (c : List ℕ) : Type 0 where
  pub beyond : List ℕ
  pub changes : read_content k (c ++ beyond) ≡ read_content k c → ⊥
