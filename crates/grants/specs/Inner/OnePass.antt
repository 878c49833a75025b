-- Reading and numbering in one pass over a table, as the code does it.
use Rattle.std.specs.Prelude.{◌≡◌, ℕ, zero, suc, ◌+◌, ◌-◌, List, Result, cond, set, replicate, eqb}
use Rattle.sorts.specs.Numbers.{conditions, properties, item_var}
use Rattle.sorts.specs.declared.Prin.{Prin}
use Rattle.sorts.specs.declared.GrantNo.{GrantNo}
use Rattle.sorts.specs.declared.Res.TheVariants.{Issue, Run, Export}
use Rattle.sorts.specs.declared.Concl.{Concl}
use Rattle.sorts.specs.declared.Concl.TheVariants.{Property, Perm}
use Rattle.sorts.specs.declared.Cond.{Cond}
use Rattle.sorts.specs.declared.Refusal.{Refusal}
use Rattle.sorts.specs.declared.Refusal.TheVariants.{Depth}
use Rattle.sorts.specs.Blank.{blank_cond}
use Rattle.rows.specs.declared.Numbering.{Numbering}
use Rattle.rows.specs.Inner.Lookup.{Entered, entered}
use Rattle.frames.specs.declared.ranges.Scope.{Scope}
use Rattle.frames.specs.declared.ranges.Cursor.{Cursor}
use Rattle.frames.specs.Bytes.{Outcome, got, refused, and_then, as_read, upto, principal, pack, tag, header}

-- What a reader leaves: the numbering, and what it found.
pub record Numbered (A : Type 0) : Type 0 where
  pub numbering : Numbering
  pub out : Outcome A

abbrev pub over : {A : Type 0} → Numbering → Outcome A → Numbered A
over t o = record { numbering = t; out = o }

-- Where the reader reads on from c, the code answers r and leaves the numbering t.
pub record Matches {A : Type 0} (c : Cursor) (reader : List ℕ → ℕ → Numbered A) (r : Result (A × Cursor) Refusal) (t : Numbering) : Type 0 where
  pub value : r ≡ as_read c (λ s at. (reader s at).out)
  pub numbering : t ≡ (reader c.bytes.now c.at).numbering

-- by cases on an outcome
abbrev pub on_outcome : {A R : Type 0} → Outcome A → (Refusal → R) → (A → ℕ → R) → R
on_outcome (got a n) no' f = f a n
on_outcome (refused k) no' f = no' k

-- Read, and go on from there over the numbering that is left; "the first fault deciding".
unfoldable pub onward : {A B : Type 0} → Numbered A → (A → ℕ → Numbering → Numbered B) → Numbered B
onward r f = on_outcome r.out (λ k. over r.numbering (refused k)) (λ a n. f a n r.numbering)

unfoldable pub num_property : Scope → List ℕ → ℕ → Outcome Concl
num_property v s at =
    and_then (upto (properties - 1) s at) (λ k n1.
    and_then (principal v s n1) (λ p n2. got (Property k (record { 0 = p })) n2))

unfoldable pub num_packed : Scope → ℕ → Prin → List ℕ → ℕ → Outcome Concl
num_packed v kind p s at =
    and_then (pack v s at) (λ n n1.
    got (Perm p (cond (eqb kind 2) (Run (record { 0 = n })) (Export (record { 0 = n })))) n1)

-- `inner` reads and numbers an inner grant
unfoldable pub num_issue : (ℕ → Numbering → Numbered GrantNo) → Scope → Prin → List ℕ → ℕ → Numbering → Numbered Concl
num_issue inner v p s at t =
    onward (over t (tag v s at)) (λ b n1 u.
    cond (eqb b 1) (over u (got (Perm p (Issue (record { 0 = item_var }))) n1))
    (onward (inner n1 u) (λ g n2 w. over w (got (Perm p (Issue g)) n2))))

unfoldable pub num_concl : (ℕ → Numbering → Numbered GrantNo) → Scope → List ℕ → ℕ → Numbering → Numbered Concl
num_concl inner v s at t =
    onward (over t (upto 3 s at)) (λ kind n1 u.
    cond (eqb kind 0) (over u (num_property v s n1))
    (onward (over u (principal v s n1)) (λ p n2 w.
    cond (eqb kind 1) (num_issue inner v (record { 0 = p }) s n2 w)
    (over w (num_packed v kind (record { 0 = p }) s n2)))))

-- k more conditions, the first at place i
unfoldable pub num_conds : (ℕ → Numbering → Numbered GrantNo) → Scope → List ℕ → ℕ → ℕ → ℕ → List Cond → Numbering → Numbered (List Cond)
num_conds inner v s zero at i cs t = over t (got cs at)
num_conds inner v s (suc k) at i cs t =
    onward (over t (principal v s at)) (λ p n1 u.
    onward (num_concl inner v s n1 u) (λ c n2 w.
    num_conds inner v s k n2 (i + 1) (set cs i (record { who = record { 0 = p }; what = c })) w))

abbrev pub rowed : Entered → ℕ → Numbered GrantNo
rowed e n = over e.numbering (got e.no n)

abbrev pub blank_conds : List Cond
blank_conds = replicate conditions blank_cond

-- the three bytes, the conditions and the conclusion; and the row is entered
unfoldable pub num_with : (ℕ → Numbering → Numbered GrantNo) → List ℕ → ℕ → Numbering → Numbered GrantNo
num_with inner s at t =
    onward (over t (header s at)) (λ h n1 u.
    onward (num_conds inner h.scope s h.count n1 0 blank_conds u) (λ cs n2 w.
    onward (num_concl inner h.scope s n2 w) (λ c n3 x.
    rowed (entered x (record { prins = h.scope.prins; res = h.scope.res; count = h.count; conds = cs; head = c })) n3)))

unfoldable pub num_grant : ℕ → List ℕ → ℕ → Numbering → Numbered GrantNo
num_grant zero s at t = over t (refused Depth)
num_grant (suc below) s at t = num_with (num_grant below s) s at t
