-- Pieces taken one after another, whatever it is to take them.
use Rattle.std.proofs.Common.{ℕ, ◌+◌, ◌<◌, ◌≡◌, zero, suc, List, [], ◌∷◌, ◌++◌, length, get_or, take, drop, Result, Ok, Err, IsErr, MatchResult, true≢false, arith, refl, sym, ap, subst, add-one, append_assoc, ◌∙◌}
use Rattle.streams.specs.Pieces.{Handed}
use Rattle.lines.specs.Words.{space, newline}
use Rattle.lines.specs.Numerals.{each}

module _ {A : Type 0} (took broke : A → A → List (List ℕ) → Type 0) (more : (a b c : A) (ps qs : List (List ℕ)) → took a b ps → took b c qs → took a c (ps ++ qs))
    (later : (a b c : A) (ps qs : List (List ℕ)) → took a b ps → broke b c qs → broke a c (ps ++ qs)) where
  -- the last ones, after those that were taken: together they are all
  pub at_last : {T E : Type 0} (a b c : A) (ps qs all : List (List ℕ)) (r : Result T E) → ps ++ qs ≡ all → took a b ps → Handed took broke b c qs r → Handed took broke a c all r
  at_last a b c ps qs all (Ok t) e x y = subst (took a c) e (more a b c ps qs x y)
  at_last a b c ps qs all (Err t) e x y = subst (broke a c) e (later a b c ps qs x y)

-- What holds where a result is an error.
pub on_err : {T E : Type 0} (r : Result T E) (P : T → Type 0) (Q : Type 0) → IsErr r → Q → MatchResult r P (λ _. Q)
on_err (Ok x) P Q f q = absurd (true≢false (sym f))
on_err (Err e) P Q f q = q

module _ {A : Type 0} (took broke : A → A → List (List ℕ) → Type 0) (later : (a b c : A) (ps qs : List (List ℕ)) → took a b ps → broke b c qs → broke a c (ps ++ qs))
    (earlier : (a b : A) (ps qs : List (List ℕ)) → broke a b ps → broke a b (ps ++ qs)) where
  -- some that were not all taken, after those that were and before the rest
  pub broken : {T E : Type 0} (a b c : A) (ps qs rest all : List (List ℕ)) (r : Result T E) → IsErr r → (ps ++ qs) ++ rest ≡ all → took a b ps → broke b c qs → Handed took broke a c all r
  broken a b c ps qs rest all r f e x y = on_err r _ _ f (subst (broke a c) e (earlier a c (ps ++ qs) rest (later a b c ps qs x y)))

-- Digits that are each a piece: the next one after those before it.
each_suc : (xs : List ℕ) (i : ℕ) → i < length xs → each (take i xs) ++ ((get_or xs i 0 ∷ []) ∷ []) ≡ each (take (suc i) xs)
unfolding each
each_suc [] i h = absurd (omega arith)
each_suc (x ∷ xs) zero h = refl
each_suc (x ∷ xs) (suc i) h = ap (λ ps. (x ∷ []) ∷ ps) (each_suc xs i (omega arith))

pub each_more : (xs : List ℕ) (i : ℕ) (b : ℕ) → i < length xs → b ≡ get_or xs i 0 → each (take i xs) ++ ((b ∷ []) ∷ []) ≡ each (take (i + 1) xs)
each_more xs i b h e = rw e (each_suc xs i h ∙ ap (λ n. each (take n xs)) (sym (add-one i)))

-- Those before a place, and those from it on.
pub each_parts : (k : ℕ) (xs : List ℕ) → each (take k xs) ++ each (drop k xs) ≡ each xs
unfolding each
each_parts zero xs = refl
each_parts (suc k) [] = refl
each_parts (suc k) (x ∷ xs) = ap (λ ps. (x ∷ []) ∷ ps) (each_parts k xs)

-- Those before a digit, the digit, and those after it.
pub each_whole : (xs : List ℕ) (i : ℕ) (b : ℕ) → i < length xs → b ≡ get_or xs i 0 → (each (take i xs) ++ ((b ∷ []) ∷ [])) ++ each (drop (i + 1) xs) ≡ each xs
each_whole xs i b h e = ap (λ ps. ps ++ each (drop (i + 1) xs)) (each_more xs i b h e) ∙ each_parts (i + 1) xs

pub each_none : (xs : List ℕ) → [] ≡ each (take 0 xs)
unfolding each
each_none xs = refl

-- The sign and the digits of a net.
pub each_cons : (b : ℕ) (bs : List ℕ) → (b ∷ []) ∷ each bs ≡ each (b ∷ bs)
unfolding each
each_cons b bs = refl

-- The pieces of a change, one after another.
pub change_is : {a p b t c u : List ℕ} → p ≡ a → t ≡ b → u ≡ c →
    (((p ∷ []) ++ (space ∷ each t)) ++ (space ∷ each u)) ++ (newline ∷ []) ≡ a ∷ space ∷ (each b ++ (space ∷ (each c ++ (newline ∷ []))))
change_is {a} {p} {b} {t} {c} {u} d e f = rw (d, e, f) (ap (λ ps. a ∷ space ∷ ps) (append_assoc (each b) (space ∷ each c) (newline ∷ [])))

-- The same where the first net is the last of them that was handed over.
pub change_left : {a p b t c u : List ℕ} → p ≡ a → t ≡ b → u ≡ c →
    ((p ∷ []) ++ (space ∷ each t)) ++ (space ∷ (each u ++ (newline ∷ []))) ≡ a ∷ space ∷ (each b ++ (space ∷ (each c ++ (newline ∷ []))))
change_left d e f = rw (d, e, f) refl
