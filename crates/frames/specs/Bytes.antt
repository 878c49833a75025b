-- Document 01, "How a grant is written" and the refusals 1, 3 and 4 of "Where a record is turned back": reading one byte.
-- A record is the list s of its bytes and of those after it; a place is counted from 0.
use Rattle.std.specs.Prelude.{ℕ, ◌+◌, Bool, cond, List, Result, Ok, Err, length, get_or, ltb, leb, eqb}
use Rattle.sorts.specs.Numbers.{conditions, packs, principals, first_var, second_var, item_var}
use Rattle.sorts.specs.declared.Refusal.{Refusal}
use Rattle.sorts.specs.declared.Refusal.TheVariants.{Missing, Range, Variable}
use Rattle.frames.specs.declared.ranges.Scope.{Scope}
use Rattle.frames.specs.declared.ranges.Header.{Header}
use Rattle.frames.specs.declared.ranges.Cursor.{Cursor}

-- What reading finds: a value and the place after it, or the first fault from left to right.
pub data Outcome (A : Type 0) : Type 0 where
  got : A → ℕ → Outcome A
  refused : Refusal → Outcome A

-- Read, and go on from there; "the first fault deciding".
abbrev pub and_then : {A B : Type 0} → Outcome A → (A → ℕ → Outcome B) → Outcome B
and_then (got a n) f = f a n
and_then (refused k) f = refused k

-- The same as the code's answer.
abbrev pub as_result : {A : Type 0} → Outcome A → Result (A × ℕ) Refusal
as_result (got a n) = Ok (a, n)
as_result (refused k) = Err k

-- The same with the place in a cursor, which stays on the bytes of c.
abbrev pub with_cursor : {A : Type 0} → Cursor → Outcome A → Result (A × Cursor) Refusal
with_cursor c (got a n) = Ok (a, record { bytes = c.bytes; at = n })
with_cursor c (refused k) = Err k

-- What the code answers where a reader of bytes at a place reads on from c.
abbrev pub as_read : {A : Type 0} → Cursor → (List ℕ → ℕ → Outcome A) → Result (A × Cursor) Refusal
as_read c reader = with_cursor c (reader c.bytes.now c.at)

-- 1: "a byte is missing".
unfoldable pub byte_at : List ℕ → ℕ → Outcome ℕ
byte_at s at = cond (ltb at (length s)) (got (get_or s at 0) (at + 1)) (refused Missing)

-- 3: "a byte is outside its list or range". A byte from 00 to `most`.
unfoldable pub upto : ℕ → List ℕ → ℕ → Outcome ℕ
upto most s at = and_then (byte_at s at) (λ b n. cond (leb b most) (got b n) (refused Range))

-- A scope is what a grant declares: `prins` principal variables, and the resource variable `res`, 0 none, 1 over grants, 2
-- over packs. 4: "a variable not declared by its own grant", said at a listed variable byte.
abbrev pub declared : Bool → ℕ → ℕ → Outcome ℕ
declared is b n = cond is (got b n) (refused Variable)

-- "A principal is 00 to 0F, or 80 or 81 for the first or second variable."
unfoldable pub principal : Scope → List ℕ → ℕ → Outcome ℕ
principal v s at =
    and_then (byte_at s at) (λ b n.
    cond (ltb b principals) (got b n)
    (cond (eqb b first_var) (declared (ltb 0 v.prins) b n)
    (cond (eqb b second_var) (declared (ltb 1 v.prins) b n) (refused Range))))

-- "a pack 00 to 1F, or 80 for the pack variable"
unfoldable pub pack : Scope → List ℕ → ℕ → Outcome ℕ
pack v s at =
    and_then (byte_at s at) (λ b n.
    cond (ltb b packs) (got b n)
    (cond (eqb b item_var) (declared (eqb v.res 2) b n) (refused Range)))

-- "00 and a whole grant, or 01 for the grant variable"; "a listed variable byte that is undeclared is 4, also at 01 after an issue"
unfoldable pub tag : Scope → List ℕ → ℕ → Outcome ℕ
tag v s at =
    and_then (byte_at s at) (λ b n.
    cond (eqb b 0) (got b n)
    (cond (eqb b 1) (declared (eqb v.res 1) b n) (refused Range)))

-- "one byte, how many principal variables, 0 to 2; one byte, the resource variable: 00 none, 01 over grants, 02 over packs;
-- one byte, how many conditions, 0 to 4"
unfoldable pub header : List ℕ → ℕ → Outcome Header
header s at =
    and_then (upto 2 s at) (λ prins n1.
    and_then (upto 2 s n1) (λ res n2.
    and_then (upto conditions s n2) (λ count n3.
    got (record { scope = record { prins = prins; res = res }; count = count }) n3)))
