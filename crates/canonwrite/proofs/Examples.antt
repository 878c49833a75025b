-- The form of a grant that two editors write in two ways, as code writes it.
use mathlib.Core.Path.{◌≡◌, refl}
use mathlib.Core.List.{List, [], ◌∷◌, ◌++◌}
use Prim.Native.Nat.{ℕ, ◌+◌}
use lib.ListN.{length, take, replicate}
use Rattle.rows.specs.Written.{written}
use Rattle.canon.specs.Canon.{order, cond_bytes, order_cond, insert, canon}
use Rattle.canon.proofs.Examples.{inside1, inside2, editor1, editor2}
use Rattle.canonwrite.specs.Segments.{seat}
use Rattle.canonwrite.specs.Buffer.{put_concl, put_in, put_conds, put_with, put_grant}
use Rattle.canonwrite.specs.Model.{put_segment, form_concl, form_conds, form_with, form_grant}

-- from the bytes at place 1
from_bytes : (form_grant 4 (9 ∷ (written editor2 ++ (9 ∷ []))) 1).bytes ≡ written (canon editor1)
unfolding form_grant form_with form_conds form_concl put_segment written canon insert order_cond cond_bytes order editor1 editor2 inside1 inside2
from_bytes = refl

-- into a buffer, from place 2 on
blank_buffer : List ℕ
blank_buffer = 7 ∷ (7 ∷ replicate 80 0)

into_buffer : take (2 + 28) (put_grant 4 (9 ∷ (written editor2 ++ (9 ∷ []))) 1 blank_buffer 2).out ≡ 7 ∷ (7 ∷ written (canon editor1))
unfolding blank_buffer put_grant put_with put_conds put_in put_concl seat written canon insert order_cond cond_bytes order editor1 editor2 inside1 inside2
into_buffer = refl

into_buffer_to : (put_grant 4 (9 ∷ (written editor2 ++ (9 ∷ []))) 1 blank_buffer 2).to ≡ 2 + length (written (canon editor1))
unfolding blank_buffer put_grant put_with put_conds put_in put_concl seat written canon insert order_cond cond_bytes order editor1 editor2 inside1 inside2
into_buffer_to = refl
