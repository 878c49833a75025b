-- Segments one after the other in a buffer: a new one written behind them is left out, or turned to the front of those that are
-- not below it.
use Prim.Native.Nat.{ℕ, zero, suc, Ordering}
use mathlib.Core.List.{List, [], ◌∷◌, ◌++◌, append_assoc}
use mathlib.Core.Path.{◌≡◌, refl, sym, ◌∙◌, ap}
use mathlib.Core.Bool.{Bool, true, false, cond}
use lib.ListN.{take, drop}
use Rattle.canon.specs.Canon.{pick, order}
use Rattle.canonwrite.specs.Model.{put_segment, joined}

-- how many of the first segments are below x, and whether the next one is x
unfoldable pub below : List ℕ → List (List ℕ) → ℕ
below x [] = zero
below x (y ∷ ys) = pick (order x y) zero zero (suc (below x ys))

unfoldable pub there : List ℕ → List (List ℕ) → Bool
there x [] = false
there x (y ∷ ys) = pick (order x y) false true (there x ys)

abbrev placed : List ℕ → List (List ℕ) → Bool → ℕ → List (List ℕ)
placed x ps t k = cond t ps (take k ps ++ (x ∷ drop k ps))

pub put_placed : (x : List ℕ) (ps : List (List ℕ)) → put_segment x ps ≡ placed x ps (there x ps) (below x ps)
unfolding put_segment below there
put_placed x [] = refl
put_placed x (y ∷ ys) = go (order x y) (put_placed x ys)
  where
    on : (t : Bool) (k : ℕ) → y ∷ placed x ys t k ≡ placed x (y ∷ ys) t (suc k)
    on true k = refl
    on false k = refl

    go : (o : Ordering) → put_segment x ys ≡ placed x ys (there x ys) (below x ys)
        → pick o (x ∷ (y ∷ ys)) (y ∷ ys) (y ∷ put_segment x ys) ≡ placed x (y ∷ ys) (pick o false true (there x ys)) (pick o zero zero (suc (below x ys)))
    go Ordering.lt ih = refl
    go Ordering.eq ih = refl
    go Ordering.gt ih = ap (λ (l : List (List ℕ)). y ∷ l) ih ∙ on (there x ys) (below x ys)

pub joined_append : (ps qs : List (List ℕ)) → joined (ps ++ qs) ≡ joined ps ++ joined qs
joined_append [] qs = refl
joined_append (x ∷ ps) qs = ap (λ (l : List ℕ). x ++ l) (joined_append ps qs) ∙ sym (append_assoc x (joined ps) (joined qs))

-- what stood behind the segments below x, and then x, change places
pub put_turned : (x : List ℕ) (ps : List (List ℕ)) → there x ps ≡ false → joined (put_segment x ps) ≡ joined (take (below x ps) ps) ++ (x ++ joined (drop (below x ps) ps))
put_turned x ps e = ap joined (put_placed x ps ∙ ap (λ (t : Bool). placed x ps t (below x ps)) e) ∙ joined_append (take (below x ps) ps) (x ∷ drop (below x ps) ps)

pub put_left_out : (x : List ℕ) (ps : List (List ℕ)) → there x ps ≡ true → put_segment x ps ≡ ps
put_left_out x ps e = put_placed x ps ∙ ap (λ (t : Bool). placed x ps t (below x ps)) e
