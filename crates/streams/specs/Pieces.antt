-- What pieces are to what takes them, and to an output of bytes: it takes them joined, in their order.
use Rattle.std.specs.Prelude.{ℕ, ◌≡◌, List, [], ◌∷◌, ◌++◌, Option, Result, MatchResult}
use Rattle.std.specs.Io.KnownBytes.{Appends}
use Rattle.std.proofs.Common.{sym, ap, ◌∙◌, subst, append_assoc, refl}
use Rattle.std.proofs.KnownBytes.{Appends-nil, Appends-trans}
use Rattle.lines.specs.Pieces.{joined}

-- What was handed these pieces was a and is b: it took them all, or it failed and took a beginning of them.
abbrev pub Handed : {A T E : Type 0} → (A → A → List (List ℕ) → Type 0) → (A → A → List (List ℕ) → Type 0) → A → A → List (List ℕ) → Result T E → Type 0
Handed took broke a b ps r = MatchResult r (λ _. took a b ps) (λ _. broke a b ps)

-- An output that held old took a beginning of xs, and nothing else, and holds new.
pub record Began (old new : Option (List ℕ)) (xs : List ℕ) : Type 0 where
  pub taken : List ℕ
  pub left : List ℕ
  pub whole : taken ++ left ≡ xs
  pub appended : Appends old new taken

-- An output that held old took the bytes xs, or it failed and took a beginning of them, and holds new.
abbrev pub Wrote : {T E : Type 0} → Option (List ℕ) → Option (List ℕ) → List ℕ → Result T E → Type 0
Wrote old new xs r = MatchResult r (λ _. Appends old new xs) (λ _. Began old new xs)

joined_both : (ps qs : List (List ℕ)) → joined (ps ++ qs) ≡ joined ps ++ joined qs
unfolding joined
joined_both [] qs = refl
joined_both (p ∷ ps) qs = ap (λ xs. p ++ xs) (joined_both ps qs) ∙ sym (append_assoc p (joined ps) (joined qs))

pub none_taken : (a : Option (List ℕ)) → Appends a a (joined [])
unfolding joined
none_taken a = Appends-nil a

pub more_taken : (a b c : Option (List ℕ)) (ps qs : List (List ℕ)) → Appends a b (joined ps) → Appends b c (joined qs) → Appends a c (joined (ps ++ qs))
more_taken a b c ps qs x y = subst (Appends a c) (sym (joined_both ps qs)) (Appends-trans a b c (joined ps) (joined qs) x y)

-- A beginning of what comes after other pieces is, with them, a beginning of all.
pub began_later : (a b c : Option (List ℕ)) (ps qs : List (List ℕ)) → Appends a b (joined ps) → Began b c (joined qs) → Began a c (joined (ps ++ qs))
began_later a b c ps qs x y =
    record {
      taken = joined ps ++ y.taken;
      left = y.left;
      whole = append_assoc (joined ps) y.taken y.left ∙ ap (λ xs. joined ps ++ xs) y.whole ∙ sym (joined_both ps qs);
      appended = Appends-trans a b c (joined ps) y.taken x y.appended;
    }

-- A beginning of some pieces is one of them and those after them.
pub began_earlier : (a b : Option (List ℕ)) (ps qs : List (List ℕ)) → Began a b (joined ps) → Began a b (joined (ps ++ qs))
began_earlier a b ps qs x =
    record {
      taken = x.taken;
      left = x.left ++ joined qs;
      whole = sym (append_assoc x.taken x.left (joined qs)) ∙ ap (λ xs. xs ++ joined qs) x.whole ∙ sym (joined_both ps qs);
      appended = x.appended;
    }
