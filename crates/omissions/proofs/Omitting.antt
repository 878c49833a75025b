-- Refused records left out of a journal: the others are answered as before.
use Prim.Native.Nat.{ℕ, ◌<◌}
use mathlib.Core.Path.{◌≡◌, refl, sym, ap, subst, ◌∙◌}
use mathlib.Core.List.{List, [], ◌∷◌, ◌++◌, append-nil}
use mathlib.Core.Option.{some}
use native.Mathlib.Omega.{arith}
use lib.ListN.{length, take}
use lib.Seq.{take_at, drop_at}
use borrow.Author.Tests.{ne_eqb}
use Rattle.frames.specs.declared.Kind.{Kind}
use Rattle.frames.specs.Frames.{Frame, holds, ends, frame, extent}
use Rattle.exact.proofs.Framing.{frame_opens, opens_frame, extent_holds, extent_ends}
use Rattle.machine.specs.Machine.{State, Step, step}
use Rattle.machine.proofs.Steps.{step_used, step_frame}
use Rattle.bookform.specs.declared.Book.{Book}
use Rattle.bookform.specs.declared.answer.Answer.{Answer}
use Rattle.bookform.specs.declared.answer.Answer.TheVariants.{Permitted, Open, NotPermitted, Changed, Previewed, Refused}
use Rattle.bookform.specs.declared.answer.Answered.{Answered}
use Rattle.bookform.specs.Books.{Lent}
use Rattle.book.specs.Shows.{Shows}
use Rattle.book.specs.Calls.{Follows, Called}
use Rattle.book.specs.Chains.{Call}
use Rattle.demands.specs.Worth.{worth}
use Rattle.demands.proofs.Demand1.{demand_1}
use Rattle.journal.specs.Places.{rest_after}
use Rattle.lines.specs.Words.{permitted, open_word, not_permitted}
use Rattle.journal.specs.Lines.{nets, said}
use Rattle.journal.specs.Journals.{Calls, ended, then}
use Rattle.listings.proofs.Ending.{left_long}
use Rattle.omissions.specs.Omissions.{own_bytes, journal_of, Omitted, none, keep, omit, told, AsBefore}
use Rattle.sorts.specs.Refusals.{refusal_number}

-- a line says the same of records that start with the same letters
said_same : (s t : List ℕ) (a : Answer) → take 2 s ≡ take 2 t → said s a ≡ said t a
unfolding said
said_same s t Permitted e = ap (λ (l : List ℕ). l ++ permitted) e
said_same s t Open e = ap (λ (l : List ℕ). l ++ open_word) e
said_same s t NotPermitted e = ap (λ (l : List ℕ). l ++ not_permitted) e
said_same s t (Changed c) e = ap (λ (l : List ℕ). l ++ nets c) e
said_same s t (Previewed c) e = ap (λ (l : List ℕ). l ++ nets c) e
said_same s t (Refused j) e = refl

-- A call whose record is followed by t in place of what followed it.
record Again (b : Book) (m k v s : List ℕ) (r : Answered) (n l w t : List ℕ) : Type 0 where
  call : Called b m k v (own_bytes r.used s ++ t) r n l w
  rest : rest_after r.used (own_bytes r.used s ++ t) ≡ t
  some : 0 < length (own_bytes r.used s ++ t)
  bytes : own_bytes r.used (own_bytes r.used s ++ t) ≡ own_bytes r.used s
  letters : take 2 s ≡ take 2 (own_bytes r.used s ++ t)

-- a record that ends the reading, and nothing after it
own_none : (used : ℕ) (s : List ℕ) → used ≡ 0 → (own_bytes used s ≡ s) × (rest_after used s ≡ [])
unfolding own_bytes rest_after
own_none used s e = (rw e, rw e)

-- one with bytes of its own
own_some : (used : ℕ) (own y : List ℕ) → used ≡ length own → 0 < length own → (own_bytes used (own ++ y) ≡ own) × (rest_after used (own ++ y) ≡ y)
unfolding own_bytes rest_after
own_some used own y e h = (rw (ne_eqb used 0 (λ z. omega arith)) (take_at own y used (sym e)), rw (ne_eqb used 0 (λ z. omega arith)) (drop_at own y used (sym e)))

-- a call on bytes with the same frame
called_frame : {b : Book} {m k v s : List ℕ} {r : Answered} {n l w : List ℕ} (t : List ℕ) → frame t ≡ frame s → Called b m k v s r n l w → Called b m k v t r n l w
called_frame {b} {m} {k} {v} {s} {r} {n} {l} {w} t e C = record {
  decided = C.decided;
  unformed = C.unformed;
  formed = λ f M sh. subst (λ (x : Step). Follows M x b m k v r n l w) (sym (step_frame M s t e)) (C.formed f M sh);
}

module _ {b : Book} {m k v s : List ℕ} {r : Answered} {n l w : List ℕ} (M : State) (B : Lent b m k v) (S : Shows b M) (C : Called b m k v s r n l w) (h : 0 < length s) where
  used : r.used ≡ extent s
  used = (C.formed B M S).used ∙ step_used M s

  again : (t : List ℕ) → (rest_after r.used s ≡ [] → t ≡ []) → Again b m k v s r n l w t
  again t nil = go (frame s) refl
    where
      closes : r.used ≡ 0 → Again b m k v s r n l w t
      closes u =
          let o = own_none r.used s u in
          let e : own_bytes r.used s ++ t ≡ s = (λ i. o.0 i ++ nil o.1 i) ∙ append-nil s in
          record {
            call = subst (λ (x : List ℕ). Called b m k v x r n l w) (sym e) C;
            rest = ap (rest_after r.used) e ∙ o.1 ∙ sym (nil o.1);
            some = subst (λ (x : List ℕ). 0 < length x) (sym e) h;
            bytes = ap (own_bytes r.used) e;
            letters = ap (take 2) (sym e);
          }

      apart : (kd : Kind) (c : List ℕ) → frame s ≡ holds kd c → Again b m k v s r n l w t
      apart kd c f =
          let o = frame_opens s kd c f in
          let own = o.a ∷ o.b ∷ o.high ∷ o.low ∷ c in
          let u : r.used ≡ length own = used ∙ extent_holds s kd c f ∙ (omega arith) in
          let p : own_bytes r.used s ≡ own = ap (own_bytes r.used) o.bytes ∙ (own_some r.used own o.after u (omega arith)).0 in
          let e : own_bytes r.used s ++ t ≡ own ++ t = ap (λ (x : List ℕ). x ++ t) p in
          let q = own_some r.used own t u (omega arith) in
          record {
            call = subst (λ (x : List ℕ). Called b m k v x r n l w) (sym e) (called_frame (own ++ t) (opens_frame o.a o.b o.high o.low kd c t o.mark o.size ∙ sym f) C);
            rest = ap (rest_after r.used) e ∙ q.1;
            some = subst (λ (x : List ℕ). 0 < length x) (sym e) (omega arith);
            bytes = ap (own_bytes r.used) e ∙ q.0 ∙ sym p;
            letters = ap (take 2) o.bytes ∙ sym (ap (take 2) e);
          }

      go : (f : Frame) → frame s ≡ f → Again b m k v s r n l w t
      go (ends j) f = closes (used ∙ extent_ends s j f)
      go (holds kd c) f = apart kd c f

-- nothing to read, no calls; and nothing is kept of none
no_calls : {b b' : Book} {m m' k k' v v' s : List ℕ} {cs : List Call} → Calls b m k v s cs b' m' k' v' → s ≡ [] → cs ≡ []
no_calls ended e = refl
no_calls (then s r n l w h C x) e = absurd (omega (arith, ap (length {A = ℕ}) e))

none_kept : {cs ds : List Call} → Omitted cs ds → cs ≡ [] → journal_of ds ≡ []
unfolding journal_of
none_kept none e = refl
none_kept (keep c O) e = let z : ◌≡◌ {A = ℕ} 0 1 = cc in absurd (omega arith)
none_kept (omit c j q O) e = let z : ◌≡◌ {A = ℕ} 0 1 = cc in absurd (omega arith)

-- THE OTHERS ARE ANSWERED AS BEFORE: of the calls of a journal, from what is lent in form, with a book that shows a state of the machine,
-- refused ones are left out, whichever.
pub omitted : {b b' : Book} {m m' k k' v v' s : List ℕ} {cs ds : List Call} (M : State) → Lent b m k v → Shows b M → Calls b m k v s cs b' m' k' v' → Omitted cs ds → AsBefore b m k v ds b' m' k' v'
unfolding journal_of told
omitted M B S ended none = record { calls = []; made = ended; same = tt; lines = refl }
omitted {b} {b'} {m} {m'} {k} {k'} {v} {v'} M B S (then {cs = cs} s r n l w h C x) (keep {ds = ds} c O) =
    let F = C.formed B M S in
    let U = omitted (step M s).next (record { book = F.form; preview = left_long M B S C }) F.shows x O in
    let t = journal_of ds in
    let A = again M B S C h t (λ e. none_kept O (no_calls x e)) in
    let y : Calls r.book n l w (rest_after r.used (own_bytes r.used s ++ t)) U.calls b' m' k' v' =
    subst (λ (z : List ℕ). Calls r.book n l w z U.calls b' m' k' v') (sym A.rest) U.made in
    record {
      calls = _;
      made = then (own_bytes r.used s ++ t) r n l w A.some A.call y;
      same = (
        record { bytes = sym A.bytes; before = refl; marks = refl; second = refl; preview = refl; gave = refl; left = refl; left_second = refl; left_preview = refl },
        U.same,
      );
      lines = λ i. said_same s (own_bytes r.used s ++ t) r.answer A.letters i ∷ U.lines i;
    }
omitted {b} {b'} {m} {m'} {k} {k'} {v} {v'} M B S (then s r n l w h C x) (omit {ds = ds} c j q O) =
    let F = C.formed B M S in
    let U = omitted (step M s).next (record { book = F.form; preview = left_long M B S C }) F.shows x O in
    let K = ((demand_1 b m k v s r n l w C).formed B M S).kept (refusal_number j) (ap (λ (a : Answer). (worth a).number) q) in
    subst (λ (z : List ℕ). AsBefore b m k z ds b' m' k' v') K.3
    (subst (λ (z : List ℕ). AsBefore b m z w ds b' m' k' v') K.2
    (subst (λ (z : List ℕ). AsBefore b z l w ds b' m' k' v') K.1
    (subst (λ (z : Book). AsBefore z n l w ds b' m' k' v') K.0 U)))
