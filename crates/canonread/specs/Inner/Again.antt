-- A grant, or a conclusion, read as it is written for its first fault and its end, and read again from the bytes of its form for
-- its numbers.
use Rattle.std.specs.Prelude.{ℕ, List, Bool, ◌&&◌, cond, eqb, get_or, drop, replicate}
use Rattle.sorts.specs.Numbers.{depths}
use Rattle.sorts.specs.declared.GrantNo.{GrantNo}
use Rattle.sorts.specs.declared.Concl.{Concl}
use Rattle.rows.specs.declared.Numbering.{Numbering}
use Rattle.frames.specs.declared.ranges.Scope.{Scope}
use Rattle.frames.specs.Bytes.{Outcome, got}
use Rattle.grants.specs.Inner.OnePass.{Numbered, over, onward, num_grant, num_concl}
use Rattle.canon.specs.Most.{most_grant, most_concl}
use Rattle.canonwrite.specs.Buffer.{put_concl, put_grant}

-- the buffers into which the forms are written, from blank
unfoldable pub form_bytes : List ℕ → List ℕ
form_bytes s = (put_grant depths s 0 (replicate most_grant 0) 0).out

unfoldable pub concl_bytes : List ℕ → List ℕ
concl_bytes s = (put_concl (put_grant depths s) s 0 (replicate most_concl 0) 0).out

-- What is found as it is written, and then read in its form: the place after it is the one as it was written.
abbrev pub again : {A : Type 0} → Outcome A → (Numbering → Numbered A) → Numbering → Numbered A
again written form t = onward (over t written) (λ a n u. onward (form u) (λ b m w. over w (got b n)))

-- The grant at a place: its faults and its end are as it is written, its numbers follow its form.
unfoldable pub num_form : List ℕ → ℕ → Numbering → Numbered GrantNo
num_form s at t = again (num_grant depths s at t).out (num_grant depths (form_bytes (drop at s)) 0) t

-- whether the conclusion that bytes open with holds a grant: it is of issue, 01, and "00 and a whole grant"
unfoldable pub holds_grant : List ℕ → Bool
holds_grant l = eqb (get_or l 0 0) 1 && eqb (get_or l 2 0) 0

abbrev pub read_concl_whole : Scope → List ℕ → ℕ → Numbering → Numbered Concl
read_concl_whole v s = num_concl (num_grant depths s) v s

-- The conclusion at a place, of a grant that declares v. One that holds no grant is its own form.
unfoldable pub num_concl_form : Scope → List ℕ → ℕ → Numbering → Numbered Concl
num_concl_form v s at t =
    cond (holds_grant (drop at s)) (again (read_concl_whole v s at t).out (read_concl_whole v (concl_bytes (drop at s)) 0) t) (read_concl_whole v s at t)
