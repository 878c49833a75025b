-- The reader of contents is exact: what it read are the bytes it read, and reading what was written gives it back.
use Prim.Native.Nat.{ℕ, ◌+◌, ◌≤◌, ◌<◌, ◌-◌}
use mathlib.Core.Path.{◌≡◌, refl, sym, ap, ◌∙◌}
use mathlib.Core.List.{List, [], ◌∷◌, ◌++◌, append-nil}
use native.Mathlib.Omega.{arith}
use lib.ListN.{length}
use borrow.Author.Tests.{eq-eqb}
use Rattle.sorts.specs.declared.Prin.{Prin}
use Rattle.sorts.specs.declared.Status.TheVariants.{Trusted, Issued, Provisional}
use Rattle.sorts.specs.Numbers.{speakers, depths}
use Rattle.rows.specs.Written.{Grant, written}
use Rattle.rows.specs.Form.{depth}
use Rattle.rows.specs.Allowed.{Allowed}
use Rattle.frames.specs.declared.Kind.{Kind}
use Rattle.frames.specs.declared.Kind.TheVariants.{Tg, St, Li, Wd, Qu, Pl, Cf, Pv}
use Rattle.frames.specs.Bytes.{got}
use Rattle.grants.specs.Grants.{read_grant}
use Rattle.exact.specs.Writing.{kind_of, content_of, AllowedRecord}
use Rattle.reader.specs.Contents.{Record, enter, remove, confirm, preview, query, read_entry, read_licence, nothing_declared, read_query, read_content}
use Rattle.reader.specs.Records.{read_whole}
use Rattle.grants.proofs.Spelled.{Spelled, nothing, join, part, between}
use Rattle.grants.proofs.Gives.{Gives, done, after}
use Rattle.grants.proofs.Found.{upto_found, concl_found, grant_found}
use Rattle.grants.proofs.Reread.{upto_reads, concl_reads, grant_reads}

-- A content found from the first byte on, of a kind.
pub record ContentFound (k : Kind) (c : List ℕ) (r : Record) (n : ℕ) : Type 0 where
  pub kind : kind_of r ≡ k
  pub allowed : AllowedRecord r
  pub spelled : Spelled c 0 (content_of r) n

module _ (c : List ℕ) where
  -- a grant after the bytes w
  entry_found : (k : Kind) (r : Grant → Record) (w : List ℕ) (at : ℕ) → Spelled c 0 w at → ((g : Grant) → kind_of (r g) ≡ k) →
      ((g : Grant) → Allowed g → depth g ≤ depths → AllowedRecord (r g)) → ((g : Grant) → w ++ written g ≡ content_of (r g)) → Gives (ContentFound k c) (read_entry r c at)
  unfolding read_entry
  entry_found k r w at x is ok e =
      after _ _ _ _ (grant_found depths c at) (λ g n f.
      done _ _ _ (record { kind = is g; allowed = ok g f.allowed f.deep; spelled = rw e at (join x f.spelled) }))

  -- an issuer and a grant
  licence_found : (k : Kind) (r : Prin → Grant → Record) → ((p : Prin) (g : Grant) → kind_of (r p g) ≡ k) →
      ((p : Prin) (g : Grant) → p.0 < speakers → Allowed g → depth g ≤ depths → AllowedRecord (r p g)) →
      ((p : Prin) (g : Grant) → (p.0 ∷ []) ++ written g ≡ content_of (r p g)) → Gives (ContentFound k c) (read_licence r c 0)
  unfolding read_licence
  licence_found k r is ok e =
      after _ _ _ _ (upto_found (speakers - 1) c 0) (λ p n f.
      entry_found k (r (record { 0 = p })) (p ∷ []) n f.stands (is (record { 0 = p })) (λ g. ok (record { 0 = p }) g (let h = f.is in omega arith)) (e (record { 0 = p })))

  -- a content that is read is that of an allowed record, and its bytes
  pub content_found : (k : Kind) → Gives (ContentFound k c) (read_content k c)
  unfolding read_content read_query AllowedRecord
  content_found Tg = entry_found Tg (enter Trusted) [] 0 (nothing 0) (λ g. refl) (λ g i d. (tt, i, d)) (λ g. refl)
  content_found St = entry_found St (remove Trusted) [] 0 (nothing 0) (λ g. refl) (λ g i d. (tt, i, d)) (λ g. refl)
  content_found Li = licence_found Li (λ p. enter (Issued p)) (λ p g. refl) (λ p g l i d. (l, i, d)) (λ p g. refl)
  content_found Wd = licence_found Wd (λ p. remove (Issued p)) (λ p g. refl) (λ p g l i d. (l, i, d)) (λ p g. refl)
  content_found Pl = licence_found Pl (λ p. enter (Provisional p)) (λ p g. refl) (λ p g l i d. (l, i, d)) (λ p g. refl)
  content_found Cf = licence_found Cf confirm (λ p g. refl) (λ p g l i d. (l, i, d)) (λ p g. refl)
  content_found Pv = licence_found Pv preview (λ p g. refl) (λ p g l i d. (l, i, d)) (λ p g. refl)
  content_found Qu =
      after _ _ _ _ (concl_found depths c (read_grant depths c) (grant_found depths c) nothing_declared 0) (λ d n f.
      done _ _ _ (record { kind = refl; allowed = (f.allowed, f.deep); spelled = f.spelled }))

  -- a grant that is spelled is read as a record's
  entry_reads : (r : Grant → Record) (g : Grant) (at n : ℕ) → Allowed g → depth g ≤ depths → Spelled c at (written g) n → read_entry r c at ≡ got (r g) n
  unfolding read_entry
  entry_reads r g at n a d x = rw (grant_reads depths c g at n a d x)

  -- and so with an issuer before it
  licence_reads : (r : Prin → Grant → Record) (p : Prin) (g : Grant) (at n : ℕ) → p.0 < speakers → Allowed g → depth g ≤ depths → Spelled c at (p.0 ∷ written g) n →
      read_licence r c at ≡ got (r p g) n
  unfolding read_licence
  licence_reads r p g at n l a d x =
      let y = part (p.0 ∷ []) (written g) x in
      rw (upto_reads y.first (speakers - 1) (omega arith)) (entry_reads (r p) g y.place n a d y.second)

  -- the content of an allowed record is read
  pub content_reads : (r : Record) (n : ℕ) → AllowedRecord r → Spelled c 0 (content_of r) n → read_content (kind_of r) c ≡ got r n
  unfolding read_content read_query AllowedRecord
  content_reads (enter Trusted g) n a x = entry_reads (enter Trusted) g 0 n a.1 a.2 x
  content_reads (remove Trusted g) n a x = entry_reads (remove Trusted) g 0 n a.1 a.2 x
  content_reads (enter (Issued p) g) n a x = licence_reads (λ q. enter (Issued q)) p g 0 n a.0 a.1 a.2 x
  content_reads (remove (Issued p) g) n a x = licence_reads (λ q. remove (Issued q)) p g 0 n a.0 a.1 a.2 x
  content_reads (enter (Provisional p) g) n a x = licence_reads (λ q. enter (Provisional q)) p g 0 n a.0 a.1 a.2 x
  content_reads (remove (Provisional p) g) n a x = absurd a.0
  content_reads (confirm p g) n a x = licence_reads confirm p g 0 n a.0 a.1 a.2 x
  content_reads (preview p g) n a x = licence_reads preview p g 0 n a.0 a.1 a.2 x
  content_reads (query e) n a x = rw (concl_reads depths c (read_grant depths c) (grant_reads depths c) nothing_declared e 0 n a.0 a.1 x)

-- a content that was written, with bytes after it, is read as its own bytes
pub content_written : (r : Record) (y : List ℕ) → AllowedRecord r → read_content (kind_of r) (content_of r ++ y) ≡ got r (length (content_of r))
content_written r y a =
    let x = between [] (content_of r) y in
    let q : 0 + length (content_of r) ≡ length (content_of r) = omega arith in
    content_reads (content_of r ++ y) r (length (content_of r)) a (rw q at x)

-- and whole without them
pub whole_written : (r : Record) → AllowedRecord r → read_whole (kind_of r) (content_of r) ≡ got r (length (content_of r))
unfolding read_whole
whole_written r a =
    let e : read_content (kind_of r) (content_of r) ≡ got r (length (content_of r)) = ap (read_content (kind_of r)) (sym (append-nil (content_of r))) ∙ content_written r [] a in
    rw (e, eq-eqb (length (content_of r)) (length (content_of r)) refl)
