-- What one question asks below is what the three rules ask; and the two searches, of what was said and of what is true.
use mathlib.Core.Path.{◌≡◌, refl, sym, ap, subst, ◌∙◌}
use mathlib.Core.Bool.{Bool, true, false, ◌&&◌}
use mathlib.Core.List.{[], ◌∷◌, ◌++◌}
use mathlib.Core.Logic.{◌⊎◌, inl, inr, ⊎_elim}
use Prim.Native.Nat.{ℕ, suc, ◌+◌, ◌*◌, ◌<◌}
use native.Mathlib.Omega.{arith}
use lib.Dec.{T, eqb, eqb→eq, eqb_refl}
use lib.ListN.{length, get_or}
use Rattle.sorts.specs.declared.Row.{Row}
use Rattle.sorts.specs.declared.Status.{Status}
use Rattle.sorts.specs.declared.Status.TheVariants.{Trusted, Issued, Provisional}
use Rattle.sorts.specs.Numbers.{speakers, conclusions}
use Rattle.sorts.specs.Blank.{blank_cond}
use Rattle.rows.specs.Written.{Grant}
use Rattle.rows.specs.Numbering.{place, has}
use Rattle.rows.specs.Form.{row_of}
use Rattle.rows.proofs.Place.{place_at, place_is, has_lt}
use Rattle.rules.specs.Rules.{granted, issue_mark, first_values, second_values, resource_values}
use Rattle.rules.specs.Inner.Ranges.{RowRange, CondRange}
use Rattle.rules.proofs.Ranges.{row_range}
use Rattle.rules.proofs.Lists.{each_all, all_each, some_join}
use Rattle.rules.proofs.Bounds.{first_lt, second_lt, prin_lt, number_lt, granted_lt}
use Rattle.machine.specs.Machine.{State, stands}
use Rattle.machine.specs.Closed.{grant_at, row_at, StandsAs, Choice, Licensed}
use Rattle.query.specs.Figures.{Chosen, Licence, Said, same_said, some, said_under, condition_under, conditions, issued_by, allowed, licences_in, trusted_in}
use Rattle.query.specs.Query.{InSaid, InTruth, sayings, Formed}
use Rattle.query.specs.Corrected.{as_choice}
use Rattle.query.proofs.Search.{Search, walk}
use Rattle.query.proofs.Conditions.{every, every_out, every_in, some_where, some_of, some_left, some_right, Given}
use Rattle.query.proofs.Conditions.{found_out, found_in, issued_out, issued_in, allowed_out, allowed_in, trusted_some, some_trusted, Counts, licence_some, some_licence}

both_out : (a b : Bool) → T (a && b) → T a × T b
both_out true true h = (tt, tt)
both_out true false h = absurd h
both_out false true h = absurd h
both_out false false h = absurd h

both_in : (a b : Bool) → T a → T b → T (a && b)
both_in true true h k = tt
both_in true false h k = absurd k
both_in false true h k = absurd h
both_in false false h k = absurd h

pub said_is : (d d' : Said) → d.speaker ≡ d'.speaker → d.what ≡ d'.what → d ≡ d'
said_is d d' p e = λ i. record { speaker = p i; what = e i }

said_same : (d d' : Said) → T (same_said d d') → d ≡ d'
said_same d d' h =
    let w = both_out (eqb d.speaker d'.speaker) (eqb d.what d'.what) h in
    said_is d d' (eqb→eq d.speaker d'.speaker w.0) (eqb→eq d.what d'.what w.1)

said_refl : (d : Said) → T (same_said d d)
said_refl d = both_in (eqb d.speaker d.speaker) (eqb d.what d.what) (eqb_refl d.speaker) (eqb_refl d.what)

module _ (M : State) (C : Chosen) where
  -- what "p said e" follows from, and what e follows from, where a says what is answered yes
  abbrev pub said_step : (Said → Bool) → Said → Bool
  said_step a d = some (every a) (conditions M.N (issued_by d.speaker (licences_in M C)) d.what)

  abbrev pub query_step : (Said → Bool) → (ℕ → Bool) → ℕ → Bool
  query_step ok a e = some (every ok) (conditions M.N (trusted_in M ++ allowed M a (licences_in M C)) e)

  -- what is answered of "p said e" with nothing under way, and of e with nothing under question
  unfoldable pub heard : Said → Bool
  heard d = walk same_said said_step (suc sayings) d []

  unfoldable pub found : ℕ → Bool
  found e = walk eqb (query_step heard) (suc conclusions) e []

abbrev issued : ℕ → Status
issued p = Issued (record { 0 = p })

-- a licence is of a grant that has a number
pub licensed_lt : (M : State) (C : Choice) (p g : ℕ) → Licensed M C p g → g < length M.N
licensed_lt M C p g (inl h) = h.0
licensed_lt M C p g (inr h) = h.0.0

module _ (M : State) (F : Formed M) where
  -- a grant that has a number, by its number
  at_number : (g : Grant) → has g M.N ≡ true → grant_at M (place g M.N) ≡ g
  at_number g h = place_at g M.N (has_lt g M.N h)

  number_at : (g : ℕ) → g < length M.N → place (grant_at M g) M.N ≡ g
  number_at g l = place_is (grant_at M g) M.N F.distinct g l refl

  stands_at : (by : Status) (g : Grant) → stands M by g ≡ true → StandsAs M by (place g M.N)
  stands_at by g h =
      let n = (F.within by g h).0 in
      (has_lt g M.N n, subst (λ (x : Grant). stands M by x ≡ true) (sym (at_number g n)) h)

  -- a row's conditions and conclusion are in range

  pub ranged : (g : ℕ) → g < length M.N → RowRange (row_at M g)
  ranged g l = let n = F.few in row_range g (row_at M g) (omega arith) (F.rows g l)

  module _ (r : Row) (f : RowRange r) (x y z : ℕ) (hx : x < first_values r.prins) (hy : y < second_values r.prins) (hz : z < resource_values r.res) where
    pub granted_in : granted r x y z < conclusions
    granted_in = granted_lt r x y z f (omega (arith, first_lt r.prins)) (omega (arith, second_lt r.prins)) hz

    pub said_under_lem : (i : ℕ) → i < r.count → InSaid (said_under (get_or r.conds i blank_cond) x y z)
    said_under_lem i l =
        let few = f.few in
        let c : CondRange r.res (get_or r.conds i blank_cond) = f.conds i (omega arith) in
        let lx : x < speakers = omega (arith, first_lt r.prins) in
        let ly : y < speakers = omega (arith, second_lt r.prins) in
        (prin_lt (get_or r.conds i blank_cond).who x y c.who lx ly, number_lt r.res (get_or r.conds i blank_cond).what x y z c.what lx ly hz)

    -- every condition, by its place
    pub every_at : (a : Said → Bool) → T (every a (condition_under r x y z)) → (i : ℕ) → i < r.count → T (a (said_under (get_or r.conds i blank_cond) x y z))
    unfolding condition_under
    every_at a h i l = (all_each (λ d. T (a d)) r.count (λ i. said_under (get_or r.conds i blank_cond) x y z ∷ []) (every_out a (condition_under r x y z) h) i l).0

    pub at_every : (a : Said → Bool) → ((i : ℕ) → i < r.count → T (a (said_under (get_or r.conds i blank_cond) x y z))) → T (every a (condition_under r x y z))
    unfolding condition_under
    at_every a h = every_in a (condition_under r x y z) (each_all (λ d. T (a d)) r.count (λ i. said_under (get_or r.conds i blank_cond) x y z ∷ []) (λ i l. (h i l, tt)))

  given_mono : (a b : Said → Bool) → ((d : Said) → InSaid d → T (a d) → T (b d)) → (g e : ℕ) → g < length M.N → Given (every a) (row_at M g) e → Given (every b) (row_at M g) e
  given_mono a b f g e l w =
      let row = row_at M g in
      let range = ranged g l in
      record {
        x = w.x;
        y = w.y;
        z = w.z;
        first = w.first;
        second = w.second;
        resource = w.resource;
        gives = w.gives;
        holds = at_every row range w.x w.y w.z w.first w.second w.resource b (λ i k.
            f (said_under (get_or row.conds i blank_cond) w.x w.y w.z) (said_under_lem row range w.x w.y w.z w.first w.second w.resource i k)
            (every_at row range w.x w.y w.z w.first w.second w.resource a w.holds i k));
      }

module _ (M : State) (C : Chosen) (F : Formed M) where
  -- a licence of the figures' L, by its number
  licensed_at : (l : Licence) → Counts C M.N l M.entries → Licensed M (as_choice C) l.issuer (place l.what M.N)
  licensed_at l (inl h) = inl (stands_at M F (issued l.issuer) l.what h)
  licensed_at l (inr h) = inr (stands_at M F (Provisional (record { 0 = l.issuer })) l.what h.0, h.1)

  licence_within : (l : Licence) → Counts C M.N l M.entries → (has l.what M.N ≡ true) × (l.issuer < speakers)
  licence_within l (inl h) = F.within (issued l.issuer) l.what h
  licence_within l (inr h) = F.within (Provisional (record { 0 = l.issuer })) l.what h.0

  licensed_counts : (p g : ℕ) → Licensed M (as_choice C) p g → Counts C M.N (record { issuer = p; what = grant_at M g }) M.entries
  licensed_counts p g (inl h) = inl h.1
  licensed_counts p g (inr h) = inr (h.0.1, ap (C p) (number_at M F g h.0.0) ∙ h.1)

  -- The condition of "p said e": a licence of p.
  pub said_out : (a : Said → Bool) (d : Said) → T (said_step M C a d) → (g : ℕ) × Licensed M (as_choice C) d.speaker g × Given (every a) (row_at M g) d.what
  said_out a d h =
      let P : Grant → Type 0 = λ g. Given (every a) (row_of M.N g) d.what in
      let w = some_where (λ l. (l.issuer ≡ d.speaker) × P l.what) (licences_in M C)
      (issued_out P d.speaker (licences_in M C) (found_out (every a) M.N (issued_by d.speaker (licences_in M C)) d.what h)) in
      let l = w.0 in
      let k = some_licence C M.N l M.entries w.2 in (
        place l.what M.N,
        subst (λ (p : ℕ). Licensed M (as_choice C) p (place l.what M.N)) w.1.0 (licensed_at l k),
        subst P (sym (at_number M F l.what (licence_within l k).0)) w.1.1,
      )

  pub said_in : (a : Said → Bool) (d : Said) (g : ℕ) → Licensed M (as_choice C) d.speaker g → Given (every a) (row_at M g) d.what → T (said_step M C a d)
  said_in a d g l w =
      let P : Grant → Type 0 = λ g. Given (every a) (row_of M.N g) d.what in
      found_in (every a) M.N (issued_by d.speaker (licences_in M C)) d.what
      (issued_in P d.speaker (licences_in M C)
      (some_of (λ m. (m.issuer ≡ d.speaker) × P m.what) (licences_in M C) (record { issuer = d.speaker; what = grant_at M g }) (refl, w)
      (licence_some C M.N (record { issuer = d.speaker; what = grant_at M g }) M.entries (licensed_counts d.speaker g l))))

  -- The condition of e: a trusted grant, or a licence of p whose right to issue it was answered yes.
  pub query_out : (ok : Said → Bool) (a : ℕ → Bool) (e : ℕ) → T (query_step M C ok a e) →
      ((g : ℕ) × StandsAs M Trusted g × Given (every ok) (row_at M g) e) ⊎
      ((g p : ℕ) × (p < speakers) × Licensed M (as_choice C) p g × T (a (issue_mark p g)) × Given (every ok) (row_at M g) e)
  query_out ok a e h =
      let P : Grant → Type 0 = λ g. Given (every ok) (row_of M.N g) e in
      ⊎_elim
      (λ u.
      let w = some_where P (trusted_in M) u in
      let k = some_trusted w.0 M.entries w.2 in
      let i = sym (at_number M F w.0 (F.within Trusted w.0 k).0) in
      inl (place w.0 M.N, stands_at M F Trusted w.0 k, subst P i w.1))
      (λ u.
      let w = some_where (λ l. T (a (issue_mark l.issuer (place l.what M.N))) × P l.what) (licences_in M C) (allowed_out P M a (licences_in M C) u) in
      let l = w.0 in
      let k = some_licence C M.N l M.entries w.2 in
      let n = licence_within l k in
      inr (place l.what M.N, l.issuer, n.1, licensed_at l k, w.1.0, subst P (sym (at_number M F l.what n.0)) w.1.1))
      (some_join P (trusted_in M) (allowed M a (licences_in M C)) (found_out (every ok) M.N (trusted_in M ++ allowed M a (licences_in M C)) e h))

  pub trust_in : (ok : Said → Bool) (a : ℕ → Bool) (e g : ℕ) → StandsAs M Trusted g → Given (every ok) (row_at M g) e → T (query_step M C ok a e)
  trust_in ok a e g t w =
      let P : Grant → Type 0 = λ g. Given (every ok) (row_of M.N g) e in
      found_in (every ok) M.N (trusted_in M ++ allowed M a (licences_in M C)) e
      (some_left P (trusted_in M) (allowed M a (licences_in M C)) (some_of P (trusted_in M) (grant_at M g) w (trusted_some (grant_at M g) M.entries t.1)))

  pub authority_in : (ok : Said → Bool) (a : ℕ → Bool) (e g p : ℕ) → Licensed M (as_choice C) p g → T (a (issue_mark p g)) → Given (every ok) (row_at M g) e → T (query_step M C ok a e)
  authority_in ok a e g p l t w =
      let P : Grant → Type 0 = λ g. Given (every ok) (row_of M.N g) e in
      found_in (every ok) M.N (trusted_in M ++ allowed M a (licences_in M C)) e
      (some_right P (trusted_in M) (allowed M a (licences_in M C)) (allowed_in P M a (licences_in M C)
      (some_of (λ m. T (a (issue_mark m.issuer (place m.what M.N))) × P m.what) (licences_in M C) (record { issuer = p; what = grant_at M g })
      (subst (λ (k : ℕ). T (a (issue_mark p k))) (sym (number_at M F g (licensed_lt M (as_choice C) p g l))) t, w)
      (licence_some C M.N (record { issuer = p; what = grant_at M g }) M.entries (licensed_counts p g l)))))

  -- The two searches.

  said_mono : (a b : Said → Bool) → ((d : Said) → InSaid d → T (a d) → T (b d)) → (d : Said) → InSaid d → T (said_step M C a d) → T (said_step M C b d)
  said_mono a b f d r h = let o = said_out a d h in said_in b d o.0 o.1 (given_mono M F a b f o.0 d.what (licensed_lt M (as_choice C) d.speaker o.0 o.1) o.2)

  pub query_mono : (ok ok' : Said → Bool) → ((d : Said) → InSaid d → T (ok d) → T (ok' d)) → (a b : ℕ → Bool) → ((e : ℕ) → InTruth e → T (a e) → T (b e)) →
      (e : ℕ) → InTruth e → T (query_step M C ok a e) → T (query_step M C ok' b e)
  query_mono ok ok' k a b f e r h =
      ⊎_elim
      (λ o. trust_in ok' b e o.0 o.1 (given_mono M F ok ok' k o.0 e o.1.0 o.2))
      (λ o.
      let n = F.few in
      let l = licensed_lt M (as_choice C) o.1 o.0 o.3 in
      let p = o.2 in
      authority_in ok' b e o.0 o.1 o.3 (f (issue_mark o.1 o.0) (omega arith) o.4) (given_mono M F ok ok' k o.0 e l o.5))
      (query_out ok a e h)

  -- the number of "p said e" among the sayings
  abbrev pub saying_number : Said → ℕ
  saying_number d = conclusions * d.speaker + d.what

  pub said_search : Search same_said InSaid saying_number sayings (said_step M C)
  said_search = record {
    same = said_same;
    differ = λ d d' f e. f (subst (λ (u : Said). T (same_said d u)) e (said_refl d));
    num_lt = λ d r. omega arith;
    num_is = λ d d' r r' e. said_is d d' (omega arith) (omega arith);
    mono = said_mono;
  }

  pub query_search : (ok : Said → Bool) → Search eqb InTruth (λ e. e) conclusions (query_step M C ok)
  query_search ok = record {
    same = eqb→eq;
    differ = λ e e' f q. f (subst (λ (u : ℕ). T (eqb e u)) q (eqb_refl e));
    num_lt = λ e r. r;
    num_is = λ e e' r r' q. q;
    mono = query_mono ok ok (λ d r h. h);
  }
