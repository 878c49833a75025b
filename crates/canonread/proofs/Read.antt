-- Of a grant that the reader reads, code writes the form from the bytes, and the reader reads the form back: it cannot refuse it.
use Prim.Native.Nat.{ℕ, ◌+◌, ◌≤◌}
use mathlib.Core.Path.{◌≡◌, sym, ◌∙◌, ap}
use mathlib.Core.List.{List, [], ◌++◌}
use native.Mathlib.Omega.{arith}
use lib.ListN.{length, take, drop, take-append-drop}
use Rattle.rows.specs.Written.{Grant, Concl, written, written_concl}
use Rattle.rows.specs.Form.{depth}
use Rattle.frames.specs.declared.ranges.Scope.{Scope}
use Rattle.frames.specs.Bytes.{got}
use Rattle.grants.specs.Grants.{read_grant, read_concl}
use Rattle.grants.proofs.Exact.{read_exact, concl_exact, written_read, concl_read}
use Rattle.grants.proofs.Allowed.{read_allowed, concl_allowed}
use Rattle.sorts.specs.Numbers.{depths}
use Rattle.canon.specs.Most.{most_grant, most_concl}
use Rattle.canon.specs.Canon.{canon, canon_concl}
use Rattle.canonwrite.specs.Model.{Wrote}
use Rattle.std.specs.Prelude.{Option, Some}
use Rattle.canonwrite.specs.declared.Place.{Place}
use Rattle.canonwrite.specs.Answers.{Answers}
use Rattle.canonwrite.specs.Buffer.{Spot, put_concl, put_grant}
use Rattle.canonwrite.proofs.Into.{Done, put_grant_lem, put_concl_lem}
use Rattle.canon.proofs.Size as size

-- what writing answers where there is room
abbrev Told : ℕ → ℕ → Option Place
Told at to = Some (record { at = at; to = to })

stands : (s : List ℕ) (at : ℕ) (w : List ℕ) → take (length w) (drop at s) ≡ w → drop at s ≡ w ++ drop (length w) (drop at s)
stands s at w e = sym (take-append-drop (length w) (drop at s)) ∙ ap (λ (l : List ℕ). l ++ drop (length w) (drop at s)) e

ends : (b : List ℕ) (m n : ℕ) → m ≡ n → ◌≡◌ {A = Wrote} (record { bytes = b; next = m }) (record { bytes = b; next = n })
ends b m n e = λ i. record { bytes = b; next = e i }

module _ (left : ℕ) (s : List ℕ) (at : ℕ) where
  -- the reader over what was written
  pub form_reads : (g : Grant) (n : ℕ) → read_grant left s at ≡ got g n → (x y : List ℕ) → read_grant left (x ++ (written (canon g) ++ y)) (length x) ≡ got (canon g) (length x + length (written (canon g)))
  form_reads g n e x y =
      let a = read_allowed left s at g n e in
      let d : depth (canon g) ≤ left = rw size.canon_depth a.1 in
      written_read left x y (canon g) (size.canon_allowed g a.0) d

  pub form_reads_concl : (v : Scope) (c : Concl) (n : ℕ) → read_concl (read_grant left s) v s at ≡ got c n → (x y : List ℕ)
      → read_concl (read_grant left (x ++ (written_concl (canon_concl c) ++ y))) v (x ++ (written_concl (canon_concl c) ++ y)) (length x) ≡ got (canon_concl c) (length x + length (written_concl (canon_concl c)))
  form_reads_concl v c n e x y =
      let a = concl_allowed left s v at c n e in
      concl_read left x y v (canon_concl c) (size.concl_allowed c v.prins v.res a.0) (rw size.concl_depth a.1)

-- Into a buffer as long as the longest grant, from its first byte on.
module _ (s : List ℕ) (at : ℕ) (out : List ℕ) (g : Grant) (n : ℕ) (e : read_grant depths s at ≡ got g n) (room : most_grant ≤ length out) where
  pub form_put : Done out 0 (written (canon g)) n (put_grant depths s at out 0)
  form_put =
      let x = read_exact depths s at g n e in
      let a = read_allowed depths s at g n e in
      let m = size.grant_most g depths a.0 a.1 in
      rw x.0 (put_grant_lem g depths s at (drop (length (written g)) (drop at s)) out 0 a.1 (stands s at (written g) x.2) (omega arith) a.0)

  -- the buffer opens with the form, and the reader over the buffer reads the form, up to where it was written
  pub form_there : take (put_grant depths s at out 0).to (put_grant depths s at out 0).out ≡ written (canon g)
  form_there = form_put.wr.text

  pub form_read_back : read_grant depths (put_grant depths s at out 0).out 0 ≡ got (canon g) (put_grant depths s at out 0).to
  form_read_back =
      let to = (put_grant depths s at out 0).to in
      let o = (put_grant depths s at out 0).out in
      ap (λ (l : List ℕ). read_grant depths l 0) (sym (take-append-drop to o) ∙ ap (λ (l : List ℕ). l ++ drop to o) form_there)
      ∙ form_reads depths s at g n e [] (drop to o) ∙ ap (λ (k : ℕ). got (canon g) k) (sym form_put.wr.ends)

-- The code's answer over bytes that open with a grant that the reader reads: its form stands at the buffer's start, and the reader
-- reads the form back.
pub record Stands (w : List ℕ) (n at to : ℕ) (after : List ℕ) : Type 0 where
  pub used : at ≡ n
  pub ends : to ≡ length w
  pub text : take to after ≡ w

stands_at : (before w : List ℕ) (n : ℕ) (m : Spot) (at to : ℕ) (after : List ℕ) → Done before 0 w n m → record { out = after; at = at; to = to } ≡ m → Stands w n at to after
stands_at before w n m at to after d e = record { used = ap (λ (r : Spot). r.at) e ∙ d.at; ends = omega (arith, ap (λ (r : Spot). r.to) e, d.wr.ends); text = ap (λ (r : Spot). take r.to r.out) e ∙ d.wr.text }

module _ (s before after : List ℕ) (at to : ℕ) where
  -- and over bytes that open with a conclusion
  pub concl_stands : (v : Scope) (c : Concl) (n : ℕ) → read_concl (read_grant depths s) v s 0 ≡ got c n → Answers most_concl (put_concl (put_grant depths s) s 0 before 0) before after (Told at to) → Stands (written_concl (canon_concl c)) n at to after
  concl_stands v c n e a =
      let x = concl_exact depths s 0 v c n e in
      let k = concl_allowed depths s v 0 c n e in
      let m = size.concl_most c v.prins v.res depths k.0 k.1 in
      let d = put_concl_lem c depths s 0 (drop (length (written_concl c)) (drop 0 s)) before 0 k.1 (stands s 0 (written_concl c) x.2) (omega (arith, a.0)) v.prins v.res k.0 in
      let z : 0 + length (written_concl c) ≡ n = omega (arith, x.0) in
      stands_at before (written_concl (canon_concl c)) n (put_concl (put_grant depths s) s 0 before 0) at to after (rw z at d) a.1

  pub concl_again_lem : (v : Scope) (c : Concl) (n : ℕ) → read_concl (read_grant depths s) v s 0 ≡ got c n → Answers most_concl (put_concl (put_grant depths s) s 0 before 0) before after (Told at to) → read_concl (read_grant depths after) v after 0 ≡ got (canon_concl c) to
  concl_again_lem v c n e a =
      let x = concl_stands v c n e a in
      let z : 0 + length (written_concl (canon_concl c)) ≡ to = omega (arith, x.ends) in
      ap (λ (l : List ℕ). read_concl (read_grant depths l) v l 0) (sym (take-append-drop to after) ∙ ap (λ (l : List ℕ). l ++ drop to after) x.text)
      ∙ form_reads_concl depths s 0 v c n e [] (drop to after) ∙ ap (λ (k : ℕ). got (canon_concl c) k) z

-- What is read at a place is read at the start of the bytes from that place on.
module _ (left : ℕ) (s : List ℕ) (at : ℕ) where
  pub grant_from : (g : Grant) (n : ℕ) → read_grant left s at ≡ got g n → read_grant left (drop at s) 0 ≡ got g (length (written g))
  grant_from g n e =
      let x = read_exact left s at g n e in
      let a = read_allowed left s at g n e in
      let z : 0 + length (written g) ≡ length (written g) = omega arith in
      ap (λ (l : List ℕ). read_grant left l 0) (stands s at (written g) x.2) ∙ written_read left [] (drop (length (written g)) (drop at s)) g a.0 a.1 ∙ ap (λ (k : ℕ). got g k) z

  pub concl_from : (v : Scope) (c : Concl) (n : ℕ) → read_concl (read_grant left s) v s at ≡ got c n → read_concl (read_grant left (drop at s)) v (drop at s) 0 ≡ got c (length (written_concl c))
  concl_from v c n e =
      let x = concl_exact left s at v c n e in
      let a = concl_allowed left s v at c n e in
      let z : 0 + length (written_concl c) ≡ length (written_concl c) = omega arith in
      ap (λ (l : List ℕ). read_concl (read_grant left l) v l 0) (stands s at (written_concl c) x.2) ∙ concl_read left [] (drop (length (written_concl c)) (drop at s)) v c a.0 a.1 ∙ ap (λ (k : ℕ). got c k) z
