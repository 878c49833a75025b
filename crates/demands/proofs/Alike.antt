-- Document 02, 3, through lists of calls: records whose grants are the same, however they are written, are answered alike and leave
-- the same book and marks.
use Prim.Native.Nat.{ℕ}
use mathlib.Core.Path.{◌≡◌, refl, sym, ap, ap₂, subst, ◌∙◌}
use mathlib.Core.Bool.{Bool, true, false, cond}
use mathlib.Core.List.{List, [], ◌∷◌}
use mathlib.Core.Logic.{◌⊎◌, inl, inr}
use native.Mathlib.Omega.{arith}
use lib.Dec.{eqb}
use lib.ListN.{length}
use Rattle.sorts.specs.declared.Prin.{Prin}
use Rattle.sorts.specs.Numbers.{all_marks}
use Rattle.sorts.specs.declared.Status.{Status}
use Rattle.sorts.specs.declared.Status.TheVariants.{Issued, Provisional}
use Rattle.sorts.specs.declared.Refusal.TheVariants as refusal
use Rattle.sorts.specs.declared.Refusal.{Refusal}
use Rattle.rows.specs.Written.{Grant, perm, issue}
use Rattle.rows.specs.Numbering.{place, number, number_concl}
use Rattle.frames.specs.Bytes.{Outcome, got, refused}
use Rattle.canon.specs.Canon.{canon, same}
use Rattle.canon.proofs.Sets.{same_canon}
use Rattle.frames.specs.Frames.{extent}
use Rattle.reader.specs.Contents.{Record, enter, remove, confirm, preview, query, canon_record}
use Rattle.reader.specs.Records.{read_record, read_canonical}
use Rattle.reader.specs.Found.{fits}
use Rattle.exact.proofs.CanonicalRecords.{canonical_of}
use Rattle.bookform.specs.declared.Book.{Book}
use Rattle.bookform.specs.declared.answer.Answer.{Answer}
use Rattle.bookform.specs.declared.answer.Answered.{Answered}
use Rattle.machine.specs.Machine.{State, Verdict, Step, changes, previews, asks, refuses, refuse, act, acted, step, feed, stands, there}
use Rattle.bookform.specs.Books.{Lent}
use Rattle.book.specs.Shows.{Shows}
use Rattle.book.specs.Calls.{answer_of, marks_after, second_after, preview_after, Called}
use Rattle.book.specs.Chains.{Call, Chain, none, then, Fed, records, runs}
use Rattle.demands.specs.Alike.{asked, Alike, AllAlike, answered}
use Rattle.demands.proofs.Shown.{shows_some}
use Rattle.demands.proofs.Unique.{same_book}

-- the premise is met: by grants that are the same, entered, removed, confirmed, or asked about
module _ (s t : List ℕ) (g h : Grant) (m n : ℕ) (e : same g h ≡ true) where
  alike_at : (r : Grant → Record) → canon_record (r g) ≡ canon_record (r h) → read_record s ≡ got (r g) m → read_record t ≡ got (r h) n → Alike s t
  alike_at r q a b = ap asked (canonical_of s (r g) m a) ∙ ap (λ (x : Record). got x 0) q ∙ sym (ap asked (canonical_of t (r h) n b))

  pub alike_enter : (by : Status) → read_record s ≡ got (enter by g) m → read_record t ≡ got (enter by h) n → Alike s t
  alike_enter by = alike_at (enter by) (ap (enter by) (same_canon g h e))

  pub alike_remove : (by : Status) → read_record s ≡ got (remove by g) m → read_record t ≡ got (remove by h) n → Alike s t
  alike_remove by = alike_at (remove by) (ap (remove by) (same_canon g h e))

  pub alike_confirm : (p : Prin) → read_record s ≡ got (confirm p g) m → read_record t ≡ got (confirm p h) n → Alike s t
  alike_confirm p = alike_at (confirm p) (ap (confirm p) (same_canon g h e))

  pub alike_preview : (p : Prin) → read_record s ≡ got (preview p g) m → read_record t ≡ got (preview p h) n → Alike s t
  alike_preview p = alike_at (preview p) (ap (preview p) (same_canon g h e))

  pub alike_query : (p : ℕ) → read_record s ≡ got (query (perm p (issue g))) m → read_record t ≡ got (query (perm p (issue h))) n → Alike s t
  unfolding canon
  alike_query p = alike_at (λ x. query (perm p (issue x))) (ap (λ x. query (perm p (issue x))) (same_canon g h e))

-- the same grants have one number: so a right to issue the one is the right to issue the other
pub same_number : (g h : Grant) (N : List Grant) → same g h ≡ true → place (canon g) N ≡ place (canon h) N
same_number g h N e = ap (λ (x : Grant). place x N) (same_canon g h e)

-- The plain machine does not see a record's length but in the bytes used.

record SameStep (x y : Step) : Type 0 where
  next : x.next ≡ y.next
  says : x.says ≡ y.says

picked : (b : Bool) (x y x' y' : Step) → SameStep x x' → SameStep y y' → SameStep (cond b x y) (cond b x' y')
picked true x y x' y' h k = h
picked false x y x' y' h k = k

itself : {M : State} {v : Verdict} {m n : ℕ} → SameStep (record { next = M; says = v; used = m }) (record { next = M; says = v; used = n })
itself = record { next = refl; says = refl }

act_same : (M : State) (r : Record) (m n : ℕ) → SameStep (act M r m) (act M r n)
unfolding act
act_same M (enter by g) m n = picked (fits (number g M.N)) _ _ _ _ itself itself
act_same M (remove by g) m n = picked (there by g M.entries) _ _ _ _ itself itself
act_same M (confirm p g) m n = picked (stands M (Provisional p) g) _ _ _ _ itself itself
act_same M (preview p g) m n = picked (there (Issued p) g M.entries) _ _ _ _ itself itself
act_same M (query c) m n = picked (fits (number_concl c M.N)) _ _ _ _ itself itself

acted_same : (M : State) (u v : ℕ) (o p : Outcome Record) → asked o ≡ asked p → SameStep (acted M u o) (acted M v p)
acted_same M u v (got r m) (got q n) e = let d : r ≡ q = cc in subst (λ (x : Record). SameStep (act M r m) (act M x n)) d (act_same M r m n)
acted_same M u v (got r m) (refused k) e = let z : ◌≡◌ {A = ℕ} 0 1 = cc in absurd (omega arith)
acted_same M u v (refused j) (got r n) e = let z : ◌≡◌ {A = ℕ} 0 1 = cc in absurd (omega arith)
acted_same M u v (refused j) (refused k) e = let d : j ≡ k = cc in subst (λ (i : Refusal). SameStep (refuse M j u) (refuse M i v)) d itself

step_same : (M : State) (s t : List ℕ) → Alike s t → SameStep (step M s) (step M t)
unfolding step
step_same M s t e = acted_same M (extent s) (extent t) (read_canonical s) (read_canonical t) e

feed_same : (M : State) (u v : ℕ) (s t : List ℕ) → u ≡ v → Alike s t → SameStep (feed M u s) (feed M v t)
unfolding feed
feed_same M u v s t d e = subst (λ (x : ℕ). SameStep (cond (eqb u all_marks) (step M s) (refuse M refusal.Form 0)) (cond (eqb x all_marks) (step M t) (refuse M refusal.Form 0))) d (picked (eqb u all_marks) _ _ _ _ (step_same M s t e) itself)

-- the machine, fed lists of records that are alike
pub runs_alike : (M : State) (ss ts : List Fed) → AllAlike ss ts → runs M ss ≡ runs M ts
unfolding runs
runs_alike M [] [] h = refl
runs_alike M [] (t ∷ ts) h = absurd h
runs_alike M (s ∷ ss) [] h = absurd h
runs_alike M (s ∷ ss) (t ∷ ts) h =
    ap (λ (K : State). runs K ss) (feed_same M s.room t.room s.bytes t.bytes h.0 h.1).next ∙ runs_alike (feed M t.room t.bytes).next ss ts h.2

-- what is previewed does not depend on the bytes that are lent
previewed_alike : (y : Verdict) (M : State) (b : Book) (m k n v v' : List ℕ) → answer_of y m k n (preview_after y M b v) ≡ answer_of y m k n (preview_after y M b v')
unfolding answer_of preview_after
previewed_alike changes M b m k n v v' = refl
previewed_alike (previews p g) M b m k n v v' = refl
previewed_alike (asks c) M b m k n v v' = refl
previewed_alike (refuses j) M b m k n v v' = refl

-- Two calls on one book, in form or not, with preview buffers of one length: the answers, books and marks are the same.
pub record SameCall (r r' : Answered) (n n' l l' : List ℕ) : Type 0 where
  pub book : r.book ≡ r'.book
  pub answer : r.answer ≡ r'.answer
  pub marks : n ≡ n'
  pub second : l ≡ l'

module _ (b : Book) (m k v v' s t : List ℕ) (len : length v ≡ length v') (e : Alike s t) (r r' : Answered) (n n' l l' w w' : List ℕ) (C : Called b m k v s r n l w) (D : Called b m k v' t r' n' l' w') where
  other : Lent b m k v → Lent b m k v'
  other f = record { book = f.book; preview = sym len ∙ f.preview }

  formed : (M : State) → Lent b m k v → Shows b M → SameCall r r' n n' l l'
  formed M f sh =
      let F = C.formed f M sh in
      let G = D.formed (other f) M sh in
      let S = step_same M s t e in
      let book : r.book ≡ r'.book = same_book F.form G.form F.shows (subst (Shows r'.book) (sym S.next) G.shows) in
      let marks : n ≡ n' = F.marks ∙ ap₂ (λ (y : Verdict) (x : Book). marks_after y x m) S.says book ∙ sym G.marks in
      let second : l ≡ l' = F.second ∙ ap₂ (λ (y : Verdict) (x : Book). second_after y x k) S.says book ∙ sym G.second in
      let y = (step M s).says in
      record {
        book = book;
        answer =
            F.answer ∙ ap (answer_of y m k n) F.preview ∙ previewed_alike y M b m k n v v' ∙
            ap₂ (λ (z : Verdict) (x : List ℕ). answer_of z m k x (preview_after z M b v')) S.says marks ∙ ap (answer_of (step M t).says m k n') (sym G.preview) ∙ sym G.answer;
        marks = marks;
        second = second;
      }

  pub alike_call : SameCall r r' n n' l l'
  alike_call = by C.decided
    where
      by : Lent b m k v ⊎ (Lent b m k v → ⊥) → SameCall r r' n n' l l'
      by (inl f) = let x = shows_some b m k f.book in formed x.0 f x.1
      by (inr d) =
          let x = C.unformed d in
          let y = D.unformed (λ f. d (record { book = f.book; preview = len ∙ f.preview })) in
          let z : r ≡ r' = x.0 ∙ sym y.0 in
          record {
            book = ap (λ (a : Answered). a.book) z;
            answer = ap (λ (a : Answered). a.answer) z;
            marks = x.1 ∙ sym y.1;
            second = x.2 ∙ sym y.2;
          }

-- Two lists of calls from one book: the same answers, and they end in the same book and marks.
pub alike_calls : {b b' b'' : Book} {m m' m'' k k' k'' : List ℕ} {cs ds : List Call} → Chain b m k cs b' m' k' → Chain b m k ds b'' m'' k'' → AllAlike (records cs) (records ds) →
    (b' ≡ b'') × (m' ≡ m'') × (k' ≡ k'') × (answered cs ≡ answered ds)
unfolding records answered
alike_calls none none h = (refl, refl, refl, refl)
alike_calls none (then t v' r' n' l' w' D L) h = absurd h
alike_calls (then s v r n l w C K) none h = absurd h
alike_calls {b} {b'} {b''} {m} {m'} {m''} {k} {k'} {k''} (then {cs = cs} s v r n l w C K) (then {cs = ds} t v' r' n' l' w' D L) h =
    let S = alike_call b m k v v' s t h.0 h.1 r r' n n' l l' w w' C D in
    let L' : Chain r.book n l ds b'' m'' k'' =
    subst (λ (x : Book). Chain x n l ds b'' m'' k'') (sym S.book)
    (subst (λ (x : List ℕ). Chain r'.book x l ds b'' m'' k'') (sym S.marks) (subst (λ (x : List ℕ). Chain r'.book n' x ds b'' m'' k'') (sym S.second) L)) in
    let z = alike_calls K L' h.2 in
    (z.0, z.1, z.2, ap₂ (λ (a : Answer) (l : List Answer). a ∷ l) S.answer z.3)
