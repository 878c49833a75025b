-- Document 01, "How a grant is written": the reader of a grant and of a conclusion, from left to right, the first fault
-- deciding. The readers are functions of the bytes s and a place in them.
use Rattle.std.specs.Prelude.{ℕ, zero, suc, ◌-◌, cond, List, eqb}
use Rattle.sorts.specs.Numbers.{properties}
use Rattle.rows.specs.Written.{Grant, Conds, Concl, grant, none, also, property, perm, issue, issue_any, run, export}
use Rattle.sorts.specs.declared.Refusal.TheVariants.{Depth}
use Rattle.frames.specs.declared.ranges.Scope.{Scope}
use Rattle.frames.specs.Bytes.{Outcome, got, refused, and_then, upto, principal, pack, tag, header}

-- "00: property byte 00 to 0F, then a principal."
unfoldable pub read_property : Scope → List ℕ → ℕ → Outcome Concl
read_property v s at =
    and_then (upto (properties - 1) s at) (λ k n1.
    and_then (principal v s n1) (λ p n2. got (property k p) n2))

-- "02 (run) and 03 (export): a principal, then a pack 00 to 1F, or 80 for the pack variable." After the principal p.
unfoldable pub read_packed : Scope → ℕ → ℕ → List ℕ → ℕ → Outcome Concl
read_packed v kind p s at =
    and_then (pack v s at) (λ n n1. got (perm p (cond (eqb kind 2) (run n) (export n))) n1)

-- "01 (issue): a principal, then 00 and a whole grant, or 01 for the grant variable." After the principal p; `inner` reads
-- an inner grant. "An inner grant is closed; its variables are its own."
unfoldable pub read_issue : (ℕ → Outcome Grant) → Scope → ℕ → List ℕ → ℕ → Outcome Concl
read_issue inner v p s at =
    and_then (tag v s at) (λ b n1.
    cond (eqb b 1) (got (perm p issue_any) n1)
    (and_then (inner n1) (λ g n2. got (perm p (issue g)) n2)))

-- "A conclusion opens with a kind byte."
unfoldable pub read_concl : (ℕ → Outcome Grant) → Scope → List ℕ → ℕ → Outcome Concl
read_concl inner v s at =
    and_then (upto 3 s at) (λ kind n1.
    cond (eqb kind 0) (read_property v s n1)
    (and_then (principal v s n1) (λ p n2.
    cond (eqb kind 1) (read_issue inner v p s n2) (read_packed v kind p s n2))))

-- "each condition: a principal (who must have said it) and a conclusion"; so many of them.
unfoldable pub read_conds : (ℕ → Outcome Grant) → Scope → List ℕ → ℕ → ℕ → Outcome Conds
read_conds inner v s zero at = got none at
read_conds inner v s (suc k) at =
    and_then (principal v s at) (λ p n1.
    and_then (read_concl inner v s n1) (λ c n2.
    and_then (read_conds inner v s k n2) (λ cs n3. got (also p c cs) n3)))

-- The three bytes that open a grant, its conditions, and "the conclusion granted".
unfoldable pub read_with : (ℕ → Outcome Grant) → List ℕ → ℕ → Outcome Grant
read_with inner s at =
    and_then (header s at) (λ h n1.
    and_then (read_conds inner h.scope s h.count n1) (λ cs n2.
    and_then (read_concl inner h.scope s n2) (λ c n3.
    got (grant h.scope.prins h.scope.res cs c) n3)))

-- "The outermost grant is at depth 1, one inside it at 2, and depth 4 is the last allowed." `left` grants may stand one
-- inside the other from here on, this one counted: 4 at depth 1. 5: "an inner grant would stand at depth 5".
unfoldable pub read_grant : ℕ → List ℕ → ℕ → Outcome Grant
read_grant zero s at = refused Depth
read_grant (suc below) s at = read_with (read_grant below s) s at
