-- What an output took, one piece after another.
use Rattle.std.proofs.Common.{ℕ, ◌+◌, ◌<◌, ◌≡◌, zero, suc, List, [], ◌∷◌, ◌++◌, length, get_or, take, drop, Option, arith, refl, sym, ap, ◌∙◌, subst, append-nil, append_assoc, add-one, take-append-drop}
use Rattle.std.specs.Io.KnownBytes.{Appends}
use Rattle.lines.specs.Pieces.{joined}
use Rattle.streams.specs.Pieces.{Began}

joined_suc : (ps : List (List ℕ)) (i : ℕ) → i < length ps → joined (take (suc i) ps) ≡ joined (take i ps) ++ get_or ps i []
unfolding joined
joined_suc [] i h = absurd (omega arith)
joined_suc (p ∷ ps) zero h = append-nil p
joined_suc (p ∷ ps) (suc i) h = ap (λ xs. p ++ xs) (joined_suc ps i (omega arith)) ∙ sym (append_assoc p (joined (take i ps)) (get_or ps i []))

-- Those before the next, joined, and the next.
pub joined_more : (ps : List (List ℕ)) (i k : ℕ) → k ≡ i + 1 → i < length ps → joined (take k ps) ≡ joined (take i ps) ++ get_or ps i []
joined_more ps i k e h = ap (λ n. joined (take n ps)) (e ∙ add-one i) ∙ joined_suc ps i h

pub none_joined : (ps : List (List ℕ)) (i : ℕ) → i ≡ 0 → joined (take i ps) ≡ []
unfolding joined
none_joined ps i e = rw e refl

-- Those before one, it, and those after it.
pub parts_at : (n : ℕ) (ps : List (List ℕ)) → n < length ps → (take n ps ++ (get_or ps n [] ∷ [])) ++ drop (suc n) ps ≡ ps
parts_at n [] h = absurd (omega arith)
parts_at zero (p ∷ ps) h = refl
parts_at (suc n) (p ∷ ps) h = ap (λ qs. p ∷ qs) (parts_at n ps (omega arith))

pub joined_one : (p : List ℕ) → joined (p ∷ []) ≡ p
unfolding joined
joined_one p = append-nil p

-- The bytes of one piece.
pub appends_one : (a b : Option (List ℕ)) (p : List ℕ) → Appends a b p → Appends a b (joined (p ∷ []))
unfolding joined
appends_one a b p x = subst (Appends a b) (sym (append-nil p)) x

-- A beginning of one piece.
pub began_one : (a b : Option (List ℕ)) (n : ℕ) (p : List ℕ) → Appends a b (take n p) → Began a b (joined (p ∷ []))
unfolding joined
began_one a b n p x = record { taken = take n p; left = drop n p; whole = take-append-drop n p ∙ sym (append-nil p); appended = x }
