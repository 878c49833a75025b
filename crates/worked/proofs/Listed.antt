-- The rows and flags of a state as lists, as far as its grants are numbered, with the firm licences alone or with the provisional ones
-- taken as firm: the same sets are closed under them.
use Prim.Native.Nat.{ℕ, zero, suc, ◌+◌, ◌*◌, ◌≤◌, ◌<◌}
use mathlib.Core.Path.{◌≡◌, refl, sym, ap, ◌∙◌}
use mathlib.Core.List.{List, [], ◌∷◌, ◌++◌, map}
use mathlib.Core.Bool.{Bool, true, false, ◌||◌}
use mathlib.Core.Logic.{inl, inr, ◌↔◌}
use native.Mathlib.Omega.{arith}
use native.Mathlib.Decide.{dec_lt}
use native.Mathlib.Nat.{not-suc-le-zero, le_of_suc-le-suc}
use lib.ListN.{length, get_or, length-append, get_or-append, get_or-eq_default}
use lib.Seq.{get_or-append-add}
use Rattle.sorts.specs.declared.Row.{Row}
use Rattle.sorts.specs.declared.Status.{Status}
use Rattle.sorts.specs.declared.Status.TheVariants.{Trusted, Issued, Provisional}
use Rattle.sorts.specs.Blank.{no_row}
use Rattle.sorts.specs.Numbers.{speakers, grants}
use Rattle.sorts.specs.Flags.{StatusRange, row_flags, flag_of, flag}
use Rattle.sorts.proofs.Flags.{flag_high, status_of, status_of_lem}
use Rattle.rows.specs.Written.{Grant}
use Rattle.rows.specs.Form.{no_grant, row_of}
use Rattle.rules.specs.Rules as rules
use Rattle.rules.specs.Rules.{Set, Closed, Values, granted, first_values, second_values, resource_values}
use Rattle.rules.specs.Standing.{Rule, Kept, ClosedRules, each, on, needs_of, spoken, spoken_at, trusted, fired, at, at_xy, at_x, of_row, ground}
use Rattle.rules.proofs.Lists.{each_all, all_each, on_all, all_join}
use Rattle.rules.proofs.Ground.{ground_at, closed_ground, closed_fewer}
use Rattle.bookform.specs.Changes.{bit}
use Rattle.machine.specs.Machine.{Entry, State, member, entry}
use Rattle.machine.specs.Closed.{grant_at, row_at, StandsAs, all, Licensed, ClosedSet}
use Rattle.demands.proofs.Views.{View, firm, both, choice_of}
use Rattle.demands.proofs.ClosedBook.{bit_set}

-- f at each number below n
abbrev pub firsts : (ℕ → ℕ) → ℕ → List ℕ
firsts f zero = []
firsts f (suc n) = f 0 ∷ firsts (λ i. f (suc i)) n

firsts_length : (f : ℕ → ℕ) (n : ℕ) → length (firsts f n) ≡ n
firsts_length f zero = refl
firsts_length f (suc n) = ap suc (firsts_length (λ i. f (suc i)) n)

firsts_at : (f : ℕ → ℕ) (n i : ℕ) → i < n → get_or (firsts f n) i 0 ≡ f i
firsts_at f zero i l = absurd (not-suc-le-zero l)
firsts_at f (suc n) zero l = refl
firsts_at f (suc n) (suc i) l = firsts_at (λ j. f (suc j)) n i (le_of_suc-le-suc l)

-- whether a grant counts as trusted, or as issued
abbrev pub counts : Status → View → List Entry → Grant → Bool
counts Trusted v E g = member (entry Trusted g) E
counts (Issued p) firm E g = member (entry (Issued p) g) E
counts (Issued p) both E g = member (entry (Issued p) g) E || member (entry (Provisional p) g) E
counts (Provisional p) v E g = false

-- the flags of each numbered grant
abbrev pub flagged : View → List Entry → Grant → ℕ → ℕ
flagged v E g j = bit (counts (status_of j) v E g)

abbrev pub flags_in : View → List Entry → List Grant → List ℕ
flags_in v E [] = []
flags_in v E (g ∷ N) = firsts (flagged v E g) row_flags ++ flags_in v E N

flags_length : (v : View) (E : List Entry) (N : List Grant) → length (flags_in v E N) ≡ row_flags * length N
flags_length v E [] = refl
flags_length v E (g ∷ N) =
    length-append (firsts (flagged v E g) row_flags) (flags_in v E N)
    ∙ omega (arith, firsts_length (flagged v E g) row_flags, flags_length v E N)

flags_at : (v : View) (E : List Entry) (N : List Grant) (g j : ℕ) → j < row_flags → g < length N → get_or (flags_in v E N) (row_flags * g + j) 0 ≡ flagged v E (get_or N g no_grant) j
flags_at v E [] g j l k = absurd (not-suc-le-zero k)
flags_at v E (h ∷ N) zero j l k =
    let e : row_flags * 0 + j ≡ j = omega arith in
    ap (λ (i : ℕ). get_or (flags_in v E (h ∷ N)) i 0) e
    ∙ get_or-append (firsts (flagged v E h) row_flags) (flags_in v E N) 0 j (omega (arith, firsts_length (flagged v E h) row_flags))
    ∙ firsts_at (flagged v E h) row_flags j l
flags_at v E (h ∷ N) (suc g) j l k =
    let e : row_flags * suc g + j ≡ length (firsts (flagged v E h) row_flags) + (row_flags * g + j) = omega (arith, firsts_length (flagged v E h) row_flags) in
    ap (λ (i : ℕ). get_or (flags_in v E (h ∷ N)) i 0) e
    ∙ get_or-append-add (firsts (flagged v E h) row_flags) (flags_in v E N) (row_flags * g + j) 0
    ∙ flags_at v E N g j l (le_of_suc-le-suc k)

rows_at : (N' N : List Grant) (g : ℕ) → g < length N → get_or (map (row_of N') N) g no_row ≡ row_of N' (get_or N g no_grant)
rows_at N' [] g l = absurd (not-suc-le-zero l)
rows_at N' (h ∷ N) zero l = refl
rows_at N' (h ∷ N) (suc g) l = rows_at N' N g (le_of_suc-le-suc l)

abbrev issued : ℕ → Status
issued p = Issued (record { 0 = p })

abbrev pub rows_of : State → List Row
rows_of M = map (row_of M.N) M.N

abbrev pub flags_of : State → View → List ℕ
flags_of M v = flags_in v M.entries M.N

-- the rules of the first n grants
abbrev pub first_rules : ℕ → List Row → List ℕ → List Rule
first_rules n rows flags = each n (λ g. of_row flags g (rules.row_at rows g))

-- those of the numbered grants
abbrev pub rules_of : State → View → List Rule
rules_of M v = first_rules (length M.N) (rows_of M) (flags_of M v)

module _ (M : State) where
  -- a licence counts where it is firm, or provisional and taken as firm

  abbrev Counts : View → Status → ℕ → Type 0
  Counts v by g = (g < length M.N) × (counts by v M.entries (grant_at M g) ≡ true)

  licensed_counts : (v : View) (p g : ℕ) → Licensed M (choice_of v) p g → Counts v (issued p) g
  licensed_counts firm p g (inl h) = h
  licensed_counts firm p g (inr h) = absurd h.1
  licensed_counts both p g (inl h) = (h.0, rw h.1)
  licensed_counts both p g (inr h) = (h.0.0, or_right (member (entry (issued p) (grant_at M g)) M.entries) h.0.1)
    where
      or_right : (a : Bool) {b : Bool} → b ≡ true → (a || b) ≡ true
      or_right true e = refl
      or_right false e = e

  counts_licensed : (v : View) (p g : ℕ) → Counts v (issued p) g → Licensed M (choice_of v) p g
  counts_licensed firm p g h = inl h
  counts_licensed both p g h = go (member (entry (issued p) (grant_at M g)) M.entries) refl h.1
    where
      go : (a : Bool) → member (entry (issued p) (grant_at M g)) M.entries ≡ a →
          (a || member (entry (Provisional (record { 0 = p })) (grant_at M g)) M.entries) ≡ true → Licensed M all p g
      go true e k = inl (h.0, e)
      go false e k = inr ((h.0, k), tt)

  row_is : (g : ℕ) → g < length M.N → rules.row_at (rows_of M) g ≡ row_at M g
  row_is = rows_at M.N M.N

  module _ (v : View) where
    flag_is : (by : Status) (g : ℕ) → StatusRange by → g < length M.N → flag (flags_of M v) by g ≡ bit (counts by v M.entries (grant_at M g))
    flag_is by g f l =
        flags_at v M.entries M.N g (flag_of by) (flag_high by f) l
        ∙ ap (λ (s : Status). bit (counts s v M.entries (grant_at M g))) (status_of_lem by f)

    counts_flag : (by : Status) (g : ℕ) → StatusRange by → Counts v by g → Set (flags_of M v) by g
    counts_flag by g f h e = let q = sym e ∙ flag_is by g f h.0 ∙ ap bit h.1 in omega arith

    flag_counts : (by : Status) (g : ℕ) → StatusRange by → Set (flags_of M v) by g → Counts v by g
    flag_counts by g f d = go (dec_lt g (length M.N))
      where
        go : Dec (g < length M.N) → Counts v by g
        go (yes l) = (l, bit_set (counts by v M.entries (grant_at M g)) (λ e. d (flag_is by g f l ∙ e)))
        go (no l) = absurd (d (get_or-eq_default (flags_of M v) 0 (omega (arith, flags_length v M.entries M.N, l))))

    -- the same sets are closed
    closed_same : (S : ℕ → Type 0) → Closed (rows_of M) (flags_of M v) S ↔ ClosedSet M (choice_of v) S
    closed_same S = (
      closed_fewer (rules.row_at (rows_of M)) (row_at M) (λ p g. Set (flags_of M v) (issued p) g) (Licensed M (choice_of v)) (λ g. Set (flags_of M v) Trusted g) (λ g. StandsAs M Trusted g) S
          (λ g p l k h. let q = licensed_counts v p g h in (counts_flag (issued p) g k q, row_is g q.0)) (λ g l h. (counts_flag Trusted g tt h, row_is g h.0)),
      closed_fewer (row_at M) (rules.row_at (rows_of M)) (Licensed M (choice_of v)) (λ p g. Set (flags_of M v) (issued p) g) (λ g. StandsAs M Trusted g) (λ g. Set (flags_of M v) Trusted g) S
          (λ g p l k h. let q = flag_counts (issued p) g k h in (counts_licensed v p g q, sym (row_is g q.0))) (λ g l h. let q = flag_counts Trusted g tt h in (q, sym (row_is g q.0))),
    )

    -- and they are those closed under the rules of the numbered grants: no other grant has a flag

    abbrev row : ℕ → Row
    row = rules.row_at (rows_of M)

    module _ (S : ℕ → Type 0) where
      numbered : ClosedRules (rules_of M v) S → (g x y z : ℕ) → g < length M.N → Values row g x y z → ClosedRules (at (flags_of M v) g (row g) x y z) S
      unfolding of_row at_x at_xy
      numbered c g x y z l w =
          all_each (Kept S) (resource_values (row g).res) (λ z'. at (flags_of M v) g (row g) x y z')
          (all_each (Kept S) (second_values (row g).prins) (λ y'. at_xy (flags_of M v) g (row g) x y')
          (all_each (Kept S) (first_values (row g).prins) (λ x'. at_x (flags_of M v) g (row g) x')
          (all_each (Kept S) (length M.N) (λ g'. of_row (flags_of M v) g' (row g')) c g l) x w.first) y w.second) z w.resource

      unnumbered : (g x y z : ℕ) → (g < length M.N → ⊥) → ClosedRules (at (flags_of M v) g (row g) x y z) S
      unfolding at fired
      unnumbered g x y z l =
          let ns = needs_of (row g) x y z in
          let k = granted (row g) x y z in
          all_join (Kept S) (each speakers (spoken_at (flags_of M v) g ns k)) (on (flag (flags_of M v) Trusted g) (trusted ns k))
          (each_all (Kept S) speakers (spoken_at (flags_of M v) g ns k) (λ p h. on_all (Kept S) (flag (flags_of M v) (issued p) g) (spoken ns g p k) (λ s. absurd (l (flag_counts (issued p) g h s).0))))
          (on_all (Kept S) (flag (flags_of M v) Trusted g) (trusted ns k) (λ s. absurd (l (flag_counts Trusted g tt s).0)))

      closed_rules : length M.N ≤ grants → ClosedRules (ground (rows_of M) (flags_of M v)) S ↔ ClosedRules (rules_of M v) S
      unfolding ground
      closed_rules small = (
        λ c. each_all (Kept S) (length M.N) (λ g. of_row (flags_of M v) g (row g)) (λ g l. all_each (Kept S) grants (λ g. of_row (flags_of M v) g (row g)) c g (omega (arith, l, small))),
        λ c. ground_at (rows_of M) (flags_of M v) S (λ g x y z w. go c g x y z w (dec_lt g (length M.N))),
      )
        where
          go : ClosedRules (rules_of M v) S → (g x y z : ℕ) → Values row g x y z → Dec (g < length M.N) → ClosedRules (at (flags_of M v) g (row g) x y z) S
          go c g x y z w (yes l) = numbered c g x y z l w
          go c g x y z w (no l) = unnumbered g x y z l

      -- so a set is closed where it is closed under these rules
      pub closed_listed : length M.N ≤ grants → ClosedSet M (choice_of v) S ↔ ClosedRules (rules_of M v) S
      closed_listed small = (
        λ c. (closed_rules small).0 ((closed_ground (rows_of M) (flags_of M v) S).0 ((closed_same S).1 c)),
        λ c. (closed_same S).0 ((closed_ground (rows_of M) (flags_of M v) S).1 ((closed_rules small).1 c)),
      )
