-- What the program makes of its input.
use Rattle.std.specs.Prelude.{ℕ, ◌+◌, ◌≡◌, ◌≤◌, ◌<◌, List, length, take, Option, Result, Ok, Err}
use Rattle.std.specs.Io.KnownBytes.{Consumes, IsAtEnd}
use Rattle.std.specs.IoError.{error_kind}
use Rattle.std.specs.declared.io.Error.{Error}
use Rattle.std.specs.declared.io.ErrorKind.TheVariants as ErrorKind
use Rattle.streams.specs.declared.input.Failure.{Failure}

-- The first n of xs are n, and an input that held old gave them, and nothing else, and holds new.
pub record Gave (old new : Option (List ℕ)) (xs : List ℕ) (n : ℕ) : Type 0 where
  pub within : n ≤ length xs
  pub consumed : Consumes old new (take n xs)

-- After a read that failed with e: it is made again, and one fewer may be from then on, exactly where a signal interrupted it and any may be.
abbrev pub Again : ℕ → ℕ → Error → Result ℕ Failure → Type 0
Again n tries e (Ok left) = (error_kind e ≡ ErrorKind.Interrupted) × (left + 1 ≡ tries)
Again n tries e (Err f) = ((error_kind e ≡ ErrorKind.Interrupted) × (0 < tries) → ⊥) × (f.n ≡ n) × (f.error ≡ e)

-- What was read into xs. Where no read failed and there was room for more, the input is at its end.
abbrev pub HasRead : Option (List ℕ) → Option (List ℕ) → List ℕ → Result ℕ Failure → Type 0
HasRead old new xs (Ok n) = Gave old new xs n × (n < length xs → IsAtEnd new)
HasRead old new xs (Err e) = Gave old new xs e.n
