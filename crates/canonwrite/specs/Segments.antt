-- Segments that stand one after the other in a list.
use Rattle.std.specs.Prelude.{ℕ, ◌+◌, Option, Some, None, List, [], ◌∷◌, ◌++◌, take, drop}
use Rattle.canon.specs.Canon.{pick, order}

-- from place a up to place e
abbrev pub part : ℕ → ℕ → List ℕ → List ℕ
part a e l = drop a (take e l)

-- what stands from b up to e put before what stands from a up to b
abbrev pub turn : List ℕ → ℕ → ℕ → ℕ → List ℕ
turn l a b e = take a l ++ (part b e l ++ (part a b l ++ drop e l))

-- Where x stands among segments of such lengths, the first with number k at place b: none where it is there, or it comes before the
-- first that is above it, with that one's number, at that one's place.
unfoldable pub seat : List ℕ → List ℕ → ℕ → ℕ → List ℕ → Option (ℕ × ℕ)
seat x out k b [] = Some (k, b)
seat x out k b (n ∷ ns) = pick (order x (part b (b + n) out)) (Some (k, b)) None (seat x out (k + 1) (b + n) ns)
