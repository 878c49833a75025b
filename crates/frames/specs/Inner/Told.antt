-- What the code tells of a frame.
use Rattle.std.specs.Prelude.{ℕ, ◌≤◌, ◌≡◌, List, length, get_or, Result, Ok, Err}
use Rattle.std.specs.Borrow.{Bor}
use Rattle.sorts.specs.declared.Refusal.{Refusal}
use Rattle.frames.specs.declared.Kind.{Kind}
use Rattle.frames.specs.Bytes.{got, refused}
use Rattle.frames.specs.Frames.{Frame, holds, ends, kinds, kind_with}

-- the kind that two letters say
abbrev pub Names : List ℕ → Result Kind Refusal → Type 0
Names letters (Ok k) = kind_with kinds (get_or letters 0 0) (get_or letters 1 0) 2 ≡ got k 2
Names letters (Err j) = kind_with kinds (get_or letters 0 0) (get_or letters 1 0) 2 ≡ refused j

-- the most that two bytes can state
abbrev pub longest : ℕ
longest = 65535

-- a frame as the code tells it: the kind and the content, or the refusal
abbrev pub Framed : Frame → Result (Kind × Bor (List ℕ)) Refusal → Type 0
Framed f (Ok (k, c)) = (f ≡ holds k c.now) × (length c.now ≤ longest)
Framed f (Err j) = f ≡ ends j
