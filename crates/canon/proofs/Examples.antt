-- Two editors write one grant in two ways: conditions the other way round and one of them twice, also in the grant inside.
use mathlib.Core.Path.{◌≡◌, refl}
use mathlib.Core.Bool.{true, false}
use mathlib.Core.List.{[], ◌∷◌}
use Rattle.rows.specs.Written.{Grant, grant, none, also, property, perm, issue, run, written, same_bytes}
use Rattle.rows.specs.Written as w
use Rattle.canon.specs.Canon.{order, cond_bytes, order_cond, insert, canon, same}

-- inside: a condition of principal 3 and one of principal 2
unfoldable pub inside1 : Grant
inside1 = grant 0 0 (also 3 (property 1 4) (also 2 (property 5 6) none)) (perm 7 (run 8))

unfoldable pub inside2 : Grant
inside2 = grant 0 0 (also 2 (property 5 6) (also 3 (property 1 4) (also 2 (property 5 6) none))) (perm 7 (run 8))

unfoldable pub editor1 : Grant
editor1 = grant 1 0 (also 128 (perm 1 (issue inside1)) (also 0 (property 2 128) none)) (perm 128 (run 3))

unfoldable pub editor2 : Grant
editor2 = grant 1 0 (also 0 (property 2 128) (also 128 (perm 1 (issue inside2)) (also 128 (perm 1 (issue inside1)) none))) (perm 128 (run 3))

other : Grant
other = grant 1 0 (also 0 (property 2 128) none) (perm 128 (run 3))

apart_written : w.same_written editor1 editor2 ≡ false
unfolding w.same_written same_bytes written editor1 editor2 inside1 inside2
apart_written = refl

same_grant : same editor1 editor2 ≡ true
unfolding same same_bytes written canon insert order_cond cond_bytes order editor1 editor2 inside1 inside2
same_grant = refl

other_grant : same editor1 other ≡ false
unfolding same same_bytes written canon insert order_cond cond_bytes order editor1 other inside1
other_grant = refl

the_form : written (canon editor2) ≡ 1 ∷ 0 ∷ 2 ∷ 0 ∷ 0 ∷ 2 ∷ 128 ∷ 128 ∷ 1 ∷ 1 ∷ 0 ∷ 0 ∷ 0 ∷ 2 ∷ 2 ∷ 0 ∷ 5 ∷ 6 ∷ 3 ∷ 0 ∷ 1 ∷ 4 ∷ 2 ∷ 7 ∷ 8 ∷ 2 ∷ 128 ∷ 3 ∷ []
unfolding written canon insert order_cond cond_bytes order editor2 inside1 inside2
the_form = refl
