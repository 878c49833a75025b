-- How code writes the form of the grant at a place of bytes that are known to spell one: from left to right, with no tree. The
-- conditions met so far are held as segments, the bytes of each, that ascend. In code they stand one after the other in the
-- buffer, with the place of each; a new one is written behind them and turned into its place, or left out.
use Rattle.std.specs.Prelude.{ℕ, zero, suc, ◌+◌, cond, ◌&&◌, List, [], ◌∷◌, ◌++◌, length, get_or, eqb}
use Rattle.canon.specs.Canon.{pick, order}

-- the bytes of a form, and the place after the bytes read
pub record Wrote : Type 0 where
  pub bytes : List ℕ
  pub next : ℕ

pub record Sorted : Type 0 where
  pub segments : List (List ℕ)
  pub next : ℕ

unfoldable pub put_segment : List ℕ → List (List ℕ) → List (List ℕ)
put_segment x [] = x ∷ []
put_segment x (y ∷ ys) = pick (order x y) (x ∷ (y ∷ ys)) (y ∷ ys) (y ∷ put_segment x ys)

abbrev pub joined : List (List ℕ) → List ℕ
joined [] = []
joined (x ∷ xs) = x ++ joined xs

abbrev pub three : List ℕ → ℕ → List ℕ
three s at = get_or s at 0 ∷ get_or s (at + 1) 0 ∷ get_or s (at + 2) 0 ∷ []

-- A conclusion has three bytes, and a grant behind them where they are of issue, 01, and "00 and a whole grant". `inner` is the
-- form of the grant at a place.
unfoldable pub form_concl : (ℕ → Wrote) → List ℕ → ℕ → Wrote
form_concl inner s at =
    cond (eqb (get_or s at 0) 1 && eqb (get_or s (at + 2) 0) 0)
    (record { bytes = three s at ++ (inner (at + 3)).bytes; next = (inner (at + 3)).next })
    (record { bytes = three s at; next = at + 3 })

-- So many conditions, put among the segments.
unfoldable pub form_conds : (ℕ → Wrote) → List ℕ → ℕ → ℕ → List (List ℕ) → Sorted
form_conds inner s zero at ps = record { segments = ps; next = at }
form_conds inner s (suc k) at ps = form_conds inner s k (form_concl inner s (at + 1)).next (put_segment (get_or s at 0 ∷ (form_concl inner s (at + 1)).bytes) ps)

unfoldable pub form_with : (ℕ → Wrote) → List ℕ → ℕ → Wrote
form_with inner s at =
    let cs = form_conds inner s (get_or s (at + 2) 0) (at + 3) [] in
    let c = form_concl inner s cs.next in
    record { bytes = get_or s at 0 ∷ get_or s (at + 1) 0 ∷ length cs.segments ∷ (joined cs.segments ++ c.bytes); next = c.next }

-- `left` grants may stand one inside the other, this one counted
unfoldable pub form_grant : ℕ → List ℕ → ℕ → Wrote
form_grant zero s at = record { bytes = []; next = at }
form_grant (suc below) s at = form_with (form_grant below s) s at
