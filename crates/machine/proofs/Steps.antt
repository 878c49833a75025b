-- A step of the machine: the bytes that it uses, what a refusal leaves, and that it rests on the record's frame alone.
use Prim.Native.Nat.{ℕ, ◌≤◌}
use mathlib.Core.Path.{◌≡◌, refl, ap, subst, ◌∙◌}
use mathlib.Core.Bool.{Bool, true, false, cond}
use mathlib.Core.List.{List}
use native.Mathlib.Omega.{arith}
use Rattle.sorts.specs.declared.Prin.{Prin}
use Rattle.sorts.specs.declared.Status.TheVariants.{Issued, Provisional}
use Rattle.sorts.specs.declared.Refusal.{Refusal}
use Rattle.sorts.specs.Refusals.{refusal_number}
use Rattle.sorts.specs.declared.Refusal.TheVariants as refusal
use Rattle.rows.specs.Written.{Grant}
use Rattle.rows.specs.Numbering.{number, number_concl}
use Rattle.frames.specs.Bytes.{Outcome, got, refused, and_then}
use Rattle.frames.specs.Frames.{Frame, frame, frame_length, extent}
use Rattle.reader.specs.Contents.{Record, enter, remove, confirm, preview, query, canon_record}
use Rattle.reader.specs.Records.{framed, read_record, read_canonical}
use Rattle.reader.specs.Found.{fits}
use Rattle.exact.proofs.Exact.{record_extent}
use Rattle.exact.proofs.CanonicalRecords.{canonical_got}
use Rattle.machine.specs.Machine.{State, Step, changes, previews, asks, refuses, refuse, act, acted, step, stands, there}

-- What a record that was read does: its bytes are used, and if it is refused, with 6 or 7, the state is as it was.
pub record Acts (M : State) (n : ℕ) (x : Step) : Type 0 where
  pub used : x.used ≡ n
  pub kept : (k : Refusal) → x.says ≡ refuses k → (x.next ≡ M) × (6 ≤ refusal_number k) × (refusal_number k ≤ 7)

pub act_acts : (M : State) (r : Record) (n : ℕ) → Acts M n (act M r n)
unfolding act
act_acts M r n = go r
  where
    two : (t : Bool) (x : Step) (j : Refusal) → x.used ≡ n → ((k : Refusal) → x.says ≡ refuses k → ⊥) → 6 ≤ refusal_number j → refusal_number j ≤ 7 → Acts M n (cond t x (refuse M j n))
    two true x j u v h i = record { used = u; kept = λ k e. absurd (v k e) }
    two false x j u v h i = record { used = refl; kept = λ k e. let w : j ≡ k = cc in (refl, subst (λ (r : Refusal). 6 ≤ refusal_number r) w h, subst (λ (r : Refusal). refusal_number r ≤ 7) w i) }

    no_change : (k : Refusal) → changes ≡ refuses k → ⊥
    no_change k e = let z : ◌≡◌ {A = ℕ} 0 1 = cc in omega arith

    no_preview : {p : Prin} {g : Grant} (k : Refusal) → previews p g ≡ refuses k → ⊥
    no_preview k e = let z : ◌≡◌ {A = ℕ} 0 1 = cc in omega arith

    no_query : {c : ℕ} (k : Refusal) → asks c ≡ refuses k → ⊥
    no_query k e = let z : ◌≡◌ {A = ℕ} 0 1 = cc in omega arith

    go : (r : Record) → Acts M n (act M r n)
    go (enter by g) = two (fits (number g M.N)) _ refusal.Full refl no_change (omega arith) (omega arith)
    go (remove by g) = two (there by g M.entries) _ refusal.Absent refl no_change (omega arith) (omega arith)
    go (confirm p g) = two (stands M (Provisional p) g) _ refusal.Absent refl no_change (omega arith) (omega arith)
    go (preview p g) = two (there (Issued p) g M.entries) _ refusal.Absent refl no_preview (omega arith) (omega arith)
    go (query c) = two (fits (number_concl c M.N)) _ refusal.Full refl no_query (omega arith) (omega arith)

-- a record uses the bytes that its frame has, whether it is accepted or refused
pub step_used : (M : State) (s : List ℕ) → (step M s).used ≡ extent s
unfolding step
step_used M s = go (read_canonical s) refl
  where
    go : (o : Outcome Record) → read_canonical s ≡ o → (acted M (extent s) o).used ≡ extent s
    go (got r n) e = let w = canonical_got s r n e in (act_acts M r n).used ∙ record_extent s w.0 n w.1
    go (refused k) e = refl

-- a refused record leaves the state as it was
pub step_kept : (M : State) (s : List ℕ) (k : Refusal) → (step M s).says ≡ refuses k → (step M s).next ≡ M
unfolding step
step_kept M s k e = go (read_canonical s) e
  where
    go : (o : Outcome Record) → (acted M (extent s) o).says ≡ refuses k → (acted M (extent s) o).next ≡ M
    go (got r n) e = ((act_acts M r n).kept k e).0
    go (refused j) e = refl

-- what is said of a record depends on its frame alone
pub step_frame : (M : State) (s t : List ℕ) → frame t ≡ frame s → step M t ≡ step M s
unfolding step read_canonical read_record extent
step_frame M s t e = ap (λ (f : Frame). acted M (frame_length f) (and_then (framed f) (λ r n. got (canon_record r) n))) e
