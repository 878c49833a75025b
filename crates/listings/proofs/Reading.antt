-- A journal is read record by record.
use Prim.Native.Nat.{ℕ, ◌+◌, ◌≤◌, ◌<◌}
use mathlib.Core.Path.{◌≡◌, refl, sym, ap, ◌∙◌, subst}
use mathlib.Core.List.{List, [], ◌∷◌, ◌++◌, append_assoc, append-nil}
use native.Mathlib.Omega.{arith}
use lib.ListN.{length, drop, get_or, length-drop, length-append, drop_of_length-le}
use lib.Seq.{get_or-append_seam}
use Rattle.sorts.specs.Numbers.{all_marks}
use Rattle.journal.specs.Places.{longest_journal}
use Rattle.bookform.specs.declared.Book.{Book}
use Rattle.machine.specs.Machine.{State, start}
use Rattle.bookform.specs.Books.{fresh_book, fresh_marks}
use Rattle.book.specs.Chains.{Call}
use Rattle.demands.proofs.Existence.{blank_preview}
use Rattle.demands.proofs.Reached.{Reached, fresh_reached, reached_after}
use Rattle.journal.specs.declared.Stepped.{Stepped}
use Rattle.lines.specs.declared.Line.{Line}
use Rattle.journal.specs.Journals.{Calls, ended, then, Steps}
use Rattle.listings.specs.Listings.{Follows, Finished, Listed, over, read, record_lines}
use Rattle.lines.specs.Pieces.{Carries}
use Rattle.journal.specs.Lines.{line_of, end_of, refused_line}
use Rattle.journal.proofs.places.Places.{next_within, next_further, next_rest}
use Rattle.listings.proofs.Ending.{left_long}
use Rattle.listings.proofs.Listings.{calls_from, lines_count, line_at}

-- What was read of a journal up to a place, where n lines were written: the calls so far, to which any calls of what is left may be
-- added.
pub record Read (s : List ℕ) (b : Book) (m k v : List ℕ) (at n : ℕ) : Type 0 where
  pub calls : List Call
  pub count : length calls ≡ n
  pub within : at ≤ length s
  pub few : n ≤ at
  pub state : State
  pub reached : Reached b m k state
  pub room : length v ≡ all_marks
  pub more : (cs : List Call) (b' : Book) (m' k' v' : List ℕ) → Calls b m k v (drop at s) cs b' m' k' v' →
      Calls fresh_book fresh_marks fresh_marks fresh_marks s (calls ++ cs) b' m' k' v'

pub read_none : (s : List ℕ) (b : Book) (m k v : List ℕ) → b ≡ fresh_book → m ≡ fresh_marks → k ≡ fresh_marks → v ≡ fresh_marks → Read s b m k v 0 0
read_none s b m k v e f g h =
    subst (λ (x : Book). Read s x m k v 0 0) (sym e)
    (subst (λ (x : List ℕ). Read s fresh_book x k v 0 0) (sym f)
    (subst (λ (x : List ℕ). Read s fresh_book fresh_marks x v 0 0) (sym g)
    (subst (λ (x : List ℕ). Read s fresh_book fresh_marks fresh_marks x 0 0) (sym h)
    (record {
      calls = [];
      count = refl;
      within = omega arith;
      few = omega arith;
      state = start;
      reached = fresh_reached;
      room = blank_preview;
      more = λ cs b' m' k' v' x. x;
    }))))

module _ (s : List ℕ) {b : Book} {m k v : List ℕ} (at n : ℕ) (R : Read s b m k v at n) where
  module _ (r : Stepped) (m' k' v' : List ℕ) (l : at < length s) (S : Steps b m k v s at (n + 1) r m' k' v') where
    abbrev this : Call
    this = record { record' = drop at s; before = b; marks = m; second = k; preview = v; gave = r.answered; left = m'; left_second = k'; left_preview = v' }

    -- any calls of what is left after this one
    step_more : (cs : List Call) (b'' : Book) (m'' k'' v'' : List ℕ) → Calls r.answered.book m' k' v' (drop r.next s) cs b'' m'' k'' v'' →
        Calls fresh_book fresh_marks fresh_marks fresh_marks s (R.calls ++ (this ∷ cs)) b'' m'' k'' v''
    step_more cs b'' m'' k'' v'' x =
        R.more (this ∷ cs) b'' m'' k'' v''
        (then (drop at s) r.answered m' k' v' (omega (arith, length-drop at s)) S.call
        (subst (λ (z : List ℕ). Calls r.answered.book m' k' v' z cs b'' m'' k'' v'') (ap (λ (i : ℕ). drop i s) S.next ∙ next_rest s at r.answered.used) x))

    -- one step more
    pub read_step : Read s r.answered.book m' k' v' r.next (n + 1)
    read_step =
        record {
          calls = R.calls ++ (this ∷ []);
          count = omega (arith, length-append R.calls (this ∷ []), R.count);
          within = omega (arith, S.next, next_within s at r.answered.used);
          few = omega (arith, R.few, S.next, next_further s at r.answered.used l);
          state = _;
          reached = reached_after R.reached S.call;
          room = left_long R.state (record { book = R.reached.form; preview = R.room }) R.reached.shows S.call;
          more = λ cs b'' m'' k'' v'' x.
              subst (λ (z : List Call). Calls fresh_book fresh_marks fresh_marks fresh_marks s z b'' m'' k'' v'') (sym (append_assoc R.calls (this ∷ []) cs))
              (step_more cs b'' m'' k'' v'' x);
        }

    -- its line is the one after those before
    pub step_follows : length s ≤ longest_journal → Follows s n r.line
    step_follows h =
        let K = calls_from read_step.reached read_step.room (drop r.next s) in
        let cs = R.calls ++ (this ∷ K.calls) in
        record {
          lines = _;
          listed = read cs K.book K.marks K.second K.preview h (step_more K.calls K.book K.marks K.second K.preview K.made);
          within = omega (arith, R.count, length-append (record_lines 1 cs) (end_of (length cs) K.marks ∷ []), lines_count 1 cs, length-append R.calls (this ∷ K.calls));
          holds =
              subst (Carries r.line)
              (sym (ap (λ (i : ℕ). get_or (record_lines 1 cs ++ (end_of (length cs) K.marks ∷ [])) i []) (sym R.count) ∙
              line_at 1 R.calls this K.calls (end_of (length cs) K.marks ∷ []) ∙
              ap (λ (i : ℕ). line_of i (drop at s) r.answered.answer) (omega (arith, R.count)))) S.line;
        }

  module _ (l : length s ≤ at) (h : length s ≤ longest_journal) where
    -- at the end of the journal the lines are the listing
    listing : Listed s (record_lines 1 R.calls ++ (end_of (length R.calls) m ∷ []))
    listing =
        read R.calls b m k v h
        (subst (λ (z : List Call). Calls fresh_book fresh_marks fresh_marks fresh_marks s z b m k v) (append-nil R.calls)
        (R.more [] b m k v (subst (λ (z : List ℕ). Calls b m k v z [] b m k v) (sym (drop_of_length-le s {i = at} l)) ended)))

    listing_count : length (record_lines 1 R.calls ++ (end_of (length R.calls) m ∷ [])) ≡ n + 1
    listing_count = omega (arith, length-append (record_lines 1 R.calls) (end_of (length R.calls) m ∷ []), lines_count 1 R.calls, R.count)

    -- and the last line is the one after those before
    pub end_follows : (t : Line) → Carries t (end_of n m) → Follows s n t
    end_follows t e =
        record {
          lines = _;
          listed = listing;
          within = omega (arith, listing_count);
          holds =
              subst (Carries t)
              (sym (ap (λ (i : ℕ). get_or (record_lines 1 R.calls ++ (end_of (length R.calls) m ∷ [])) i []) (sym (lines_count 1 R.calls ∙ R.count)) ∙
              get_or-append_seam (record_lines 1 R.calls) (end_of (length R.calls) m) [] [] ∙ ap (λ (i : ℕ). end_of i m) R.count)) e;
        }

    pub read_ran : (i : ℕ) → i ≡ n + 1 → Finished s i
    read_ran i e = record { lines = _; listed = listing; count = listing_count ∙ sym e }

-- a journal that is too long is refused whole
pub over_follows : (s : List ℕ) (k : ℕ) (t : Line) → longest_journal < length s → k ≡ 0 → Carries t (refused_line 8) → Follows s k t
over_follows s k t l e h =
    record { lines = _; listed = over (omega arith); within = omega (arith, e); holds = subst (λ (i : ℕ). Carries t (get_or (refused_line 8 ∷ []) i [])) (sym e) h }

pub over_ran : (s : List ℕ) (k : ℕ) → longest_journal < length s → k ≡ 1 → Finished s k
over_ran s k l e = record { lines = refused_line 8 ∷ []; listed = over (omega arith); count = sym e }
