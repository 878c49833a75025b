-- Into a buffer code writes the bytes of the grant's form.
use Prim.Native.Nat.{ℕ, zero, suc, ◌+◌, ◌-◌, ◌≤◌, ◌<◌, min, Ordering}
use mathlib.Core.List.{List, [], ◌∷◌, ◌++◌, map, append_assoc, append-nil}
use mathlib.Core.Path.{◌≡◌, refl, sym, ◌∙◌, ap, ap₂, subst}
use mathlib.Core.Bool.{Bool, true, false, cond, true≢false}
use native.Mathlib.Omega.{arith}
use native.Mathlib.Numerals.{add-one}
use lib.ListN.{length, get_or, set, take, drop, length-append, length-set, length-drop, length-map, take-append-drop}
use lib.Seq.{take-suc-set, take_at, drop_at, take-take, take-set-lt, set_at, length-take-le}
use Rattle.rows.specs.Written.{Grant, Conds, Concl, Right, grant, none, also, property, perm, issue, issue_any, run, export, how_many, kind_of, written, written_conds, written_concl, written_right}
use Rattle.sorts.specs.Numbers.{conditions}
use Rattle.rows.specs.Allowed.{Allowed, AllowedConds, AllowedConcl, AllowedRight}
use Rattle.rows.specs.Form.{depth, depth_conds, depth_concl, depth_right}
use Rattle.canon.specs.Canon.{pick, order, cond_bytes, insert, canon, canon_conds, canon_concl, canon_right}
use Rattle.canonwrite.specs.Model.{put_segment, joined}
use Rattle.std.specs.Prelude.{Option, Some, None}
use Rattle.canonwrite.specs.Segments.{part, turn, seat}
use Rattle.canonwrite.specs.Buffer.{Spot, Kept, seated, put_concl, put_in, put_conds, put_with, put_grant}
use Rattle.canon.proofs.Size.{larger_max, concl_length}
use Rattle.canonwrite.proofs.Buffer.{below, there, put_turned, put_left_out, joined_append}
use Rattle.canonwrite.proofs.Model.{put_all, put_all_form, segments_of, segments_put, segments_joined, segments_count, byte_at, three_at, past}

-- out' is out with w written from place to on, up to place to'
pub record Wr (out : List ℕ) (to : ℕ) (w : List ℕ) (out' : List ℕ) (to' : ℕ) : Type 0 where
  pub long : length out' ≡ length out
  pub ends : to' ≡ to + length w
  pub text : take to' out' ≡ take to out ++ w

wr_set : (out : List ℕ) (to b m : ℕ) → to < length out → m ≡ to + 1 → Wr out to (b ∷ []) (set out to b) m
wr_set out to b m h e = record { long = length-set out to b; ends = e; text = rw (e, add-one) (take-suc-set out to b h) }

wr_then : (out : List ℕ) (to : ℕ) (w o1 : List ℕ) (m : ℕ) (u o2 : List ℕ) (n : ℕ) → Wr out to w o1 m → Wr o1 m u o2 n → Wr out to (w ++ u) o2 n
wr_then out to w o1 m u o2 n a b = record {
  long = b.long ∙ a.long;
  ends = let x = a.ends in let y = b.ends in simp length-append (omega arith);
  text = b.text ∙ ap (λ (l : List ℕ). l ++ u) a.text ∙ append_assoc (take to out) w u;
}

wr_three : (out : List ℕ) (to a b c : ℕ) → to + 3 ≤ length out → Wr out to (a ∷ b ∷ c ∷ []) (set (set (set out to a) (to + 1) b) (to + 2) c) (to + 3)
wr_three out to a b c h =
    let o1 = set out to a in
    let o2 = set o1 (to + 1) b in
    let l1 = length-set out to a in
    let l2 = length-set o1 (to + 1) b in
    let w1 = wr_set out to a (to + 1) (omega arith) refl in
    let w2 = wr_set o1 (to + 1) b (to + 2) (omega arith) (omega arith) in
    let w3 = wr_set o2 (to + 2) c (to + 3) (omega arith) (omega arith) in
    wr_then out to (a ∷ b ∷ []) o2 (to + 2) (c ∷ []) (set o2 (to + 2) c) (to + 3) (wr_then out to (a ∷ []) o1 (to + 1) (b ∷ []) o2 (to + 2) w1 w2) w3

-- The segments stand one after the other from place b on.
abbrev SegmentsAt : List ℕ → ℕ → List (List ℕ) → Type 0
SegmentsAt out b [] = Unit {0}
SegmentsAt out b (y ∷ ys) = (part b (b + length y) out ≡ y) × SegmentsAt out (b + length y) ys

one_part : (out : List ℕ) (e : ℕ) (Q y R : List ℕ) → take e out ≡ Q ++ (y ++ R) → length (Q ++ y) ≤ e → part (length Q) (length Q + length y) out ≡ y
one_part out e Q y R t l =
    let n = length-append Q y in
    ap (drop (length Q)) (ap (λ (k : ℕ). take k out) (sym n) ∙ sym (take-take (length (Q ++ y)) e out l) ∙ ap (take (length (Q ++ y))) (t ∙ sym (append_assoc Q y R)) ∙ take_at (Q ++ y) R (length (Q ++ y)) refl) ∙ drop_at Q y (length Q) refl

segments_at : (out : List ℕ) (e : ℕ) (ps : List (List ℕ)) (Q R : List ℕ) → take e out ≡ Q ++ (joined ps ++ R) → length Q + length (joined ps) ≤ e → SegmentsAt out (length Q) ps
segments_at out e [] Q R t l = tt
segments_at out e (y ∷ ys) Q R t l =
    let a = length-append y (joined ys) in
    let b = length-append Q y in (
      one_part out e Q y (joined ys ++ R) (t ∙ ap (λ (l : List ℕ). Q ++ l) (append_assoc y (joined ys) R)) (omega arith),
      rw (length-append Q y) at (segments_at out e ys (Q ++ y) R (t ∙ ap (λ (l : List ℕ). Q ++ l) (append_assoc y (joined ys) R) ∙ sym (append_assoc Q y (joined ys ++ R))) (omega arith)),
    )

-- the seat before segment k, at place p
abbrev before : ℕ → ℕ → Option (ℕ × ℕ)
before k p = Some (k, p)

-- where a segment stands among them
seek : (x out : List ℕ) (ps : List (List ℕ)) (k b : ℕ) → SegmentsAt out b ps → seat x out k b (map length ps) ≡ cond (there x ps) None (before (k + below x ps) (b + length (joined (take (below x ps) ps))))
unfolding seat below there
seek x out [] k b h = ap₂ before (omega arith) (omega arith)
seek x out (y ∷ ys) k b h = ap (λ (l : List ℕ). pick (order x l) (before k b) None (seat x out (k + 1) (b + length y) (map length ys))) h.0 ∙ go (order x y) (seek x out ys (k + 1) (b + length y) h.1)
  where
    place : b + length y + length (joined (take (below x ys) ys)) ≡ b + length (y ++ joined (take (below x ys) ys))
    place = omega (arith, length-append y (joined (take (below x ys) ys)))

    on : (t : Bool) → cond t None (before (k + 1 + below x ys) (b + length y + length (joined (take (below x ys) ys)))) ≡ cond t None (before (k + suc (below x ys)) (b + length (y ++ joined (take (below x ys) ys))))
    on true = refl
    on false = ap₂ before (omega arith) place

    go : (o : Ordering) → seat x out (k + 1) (b + length y) (map length ys) ≡ cond (there x ys) None (before (k + 1 + below x ys) (b + length y + length (joined (take (below x ys) ys))))
        → pick o (before k b) None (seat x out (k + 1) (b + length y) (map length ys))
        ≡ cond (pick o false true (there x ys)) None (before (k + pick o zero zero (suc (below x ys))) (b + length (joined (take (pick o zero zero (suc (below x ys))) (y ∷ ys)))))
    go Ordering.lt ih = ap₂ before (omega arith) (omega arith)
    go Ordering.eq ih = refl
    go Ordering.gt ih = ih ∙ on (there x ys)

-- the lengths after a segment was put in
put_lens : (x : List ℕ) (ps : List (List ℕ)) → there x ps ≡ false → map length (put_segment x ps) ≡ take (below x ps) (map length ps) ++ (length x ∷ drop (below x ps) (map length ps))
unfolding put_segment below there
put_lens x [] t = refl
put_lens x (y ∷ ys) t = go (order x y) t (put_lens x ys)
  where
    go : (o : Ordering) → pick o false true (there x ys) ≡ false → (there x ys ≡ false → map length (put_segment x ys) ≡ take (below x ys) (map length ys) ++ (length x ∷ drop (below x ys) (map length ys)))
        → map length (pick o (x ∷ (y ∷ ys)) (y ∷ ys) (y ∷ put_segment x ys)) ≡ take (pick o zero zero (suc (below x ys))) (map length (y ∷ ys)) ++ (length x ∷ drop (pick o zero zero (suc (below x ys))) (map length (y ∷ ys)))
    go Ordering.lt t ih = refl
    go Ordering.eq t ih = absurd (true≢false t)
    go Ordering.gt t ih = ap (λ (l : List ℕ). length y ∷ l) (ih t)

-- A turn.
module _ (out : List ℕ) (e : ℕ) (A B x : List ℕ) (t : take e out ≡ (A ++ B) ++ x) (l : e ≡ length ((A ++ B) ++ x)) (fits : e ≤ length out) where
  first : (n : ℕ) (C D : List ℕ) → (A ++ B) ++ x ≡ C ++ D → n ≡ length C → take n out ≡ C
  first n C D c k =
      let z = ap length c in
      let y = length-append C D in
      sym (take-take n e out (omega arith)) ∙ ap (take n) (t ∙ c) ∙ take_at C D n (sym k)

  turned : turn out (length A) (length (A ++ B)) e ≡ (A ++ (x ++ B)) ++ drop e out
  turned =
      ap₂ ◌++◌ (first (length A) A (B ++ x) (append_assoc A B x) refl)
      (ap₂ ◌++◌ (ap (drop (length (A ++ B))) t ∙ drop_at (A ++ B) x (length (A ++ B)) refl)
      (ap (λ (m : List ℕ). m ++ drop e out) (ap (drop (length A)) (first (length (A ++ B)) (A ++ B) x refl refl) ∙ drop_at A B (length A) refl)))
      ∙ sym (append_assoc A (x ++ B) (drop e out) ∙ ap (λ (m : List ℕ). A ++ m) (append_assoc x B (drop e out)))

  even : length (A ++ (x ++ B)) ≡ e
  even = simp length-append (let z = simp length-append at l in omega arith)

  turn_text : take e (turn out (length A) (length (A ++ B)) e) ≡ A ++ (x ++ B)
  turn_text = ap (take e) turned ∙ take_at (A ++ (x ++ B)) (drop e out) e even

  turn_long : length (turn out (length A) (length (A ++ B)) e) ≡ length out
  turn_long = ap length turned ∙ length-append (A ++ (x ++ B)) (drop e out) ∙ (let z = length-drop e out in let y = even in omega arith)

-- What is kept: bytes P, and then the segments.
record Holds (P : List ℕ) (ps : List (List ℕ)) (k : Kept) : Type 0 where
  text : take k.to k.out ≡ P ++ joined ps
  ends : k.to ≡ length P + length (joined ps)
  lens : k.lens ≡ map length ps

record Put (P : List ℕ) (ps : List (List ℕ)) (one : Spot) (k : Kept) : Type 0 where
  holds : Holds P ps k
  long : length k.out ≡ length one.out
  at : k.at ≡ one.at
  room : k.to ≤ one.to

-- a segment written behind the others is put in
module _ (P : List ℕ) (ps : List (List ℕ)) (x out : List ℕ) (to : ℕ) (one : Spot) (t : take to out ≡ P ++ joined ps) (ends : to ≡ length P + length (joined ps)) (wr : Wr out to x one.out one.to) (fits : one.to ≤ length one.out) where
  whole : take one.to one.out ≡ (P ++ joined ps) ++ x
  whole = wr.text ∙ ap (λ (l : List ℕ). l ++ x) t

  to_is : length (P ++ joined ps) ≡ to
  to_is = length-append P (joined ps) ∙ sym ends

  x_is : part to one.to one.out ≡ x
  x_is = ap (drop to) whole ∙ drop_at (P ++ joined ps) x to to_is

  stand : SegmentsAt one.out (length P) ps
  stand = segments_at one.out one.to ps P x (whole ∙ append_assoc P (joined ps) x) (omega (arith, wr.ends))

  abbrev J1 : List ℕ
  J1 = joined (take (below x ps) ps)

  abbrev J2 : List ℕ
  J2 = joined (drop (below x ps) ps)

  left_out : Kept
  left_out = record { out = one.out; at = one.at; to = to; lens = map length ps }

  turned_in : Kept
  turned_in = record { out = turn one.out (length P + length (joined (take (below x ps) ps))) to one.to; at = one.at; to = one.to; lens = take (below x ps) (map length ps) ++ (length x ∷ drop (below x ps) (map length ps)) }

  seat_is : (t : Bool) → seated to (map length ps) one (cond t None (before (0 + below x ps) (length P + length (joined (take (below x ps) ps))))) ≡ cond t left_out turned_in
  unfolding left_out turned_in
  seat_is true = refl
  seat_is false =
      let z : 0 + below x ps ≡ below x ps = omega arith in
      let long : one.to - to ≡ length x = omega (arith, wr.ends) in
      rw (z, long)

  put_is : put_in (length P) to (map length ps) one ≡ cond (there x ps) left_out turned_in
  unfolding put_in
  put_is = rw (x_is, seek x one.out ps 0 (length P) stand) (seat_is (there x ps))

  put_out : there x ps ≡ true → Put P (put_segment x ps) one left_out
  unfolding left_out
  put_out u = rw (put_left_out x ps u) (record {
    holds = record { text = sym (take-take to one.to one.out (omega (arith, wr.ends))) ∙ ap (take to) whole ∙ take_at (P ++ joined ps) x to to_is; ends = ends; lens = refl };
    long = refl;
    at = refl;
    room = omega (arith, wr.ends);
  })

  joined_split : joined ps ≡ J1 ++ J2
  joined_split = ap joined (sym (take-append-drop (below x ps) ps)) ∙ joined_append (take (below x ps) ps) (drop (below x ps) ps)

  split : (P ++ J1) ++ J2 ≡ P ++ joined ps
  split = append_assoc P J1 J2 ∙ ap (λ (l : List ℕ). P ++ l) (sym joined_split)

  a_len : length P + length J1 ≡ length (P ++ J1)
  a_len = sym (length-append P J1)

  ab_len : to ≡ length ((P ++ J1) ++ J2)
  ab_len = sym (ap length split ∙ to_is)

  whole_split : take one.to one.out ≡ ((P ++ J1) ++ J2) ++ x
  whole_split = whole ∙ ap (λ (l : List ℕ). l ++ x) (sym split)

  e_len : one.to ≡ length (((P ++ J1) ++ J2) ++ x)
  e_len = omega (arith, wr.ends, ab_len, length-append ((P ++ J1) ++ J2) x)

  put_turn : there x ps ≡ false → Put P (put_segment x ps) one turned_in
  unfolding turned_in
  put_turn u = record {
    holds = record {
      text = ap₂ (λ (a b : ℕ). take one.to (turn one.out a b one.to)) a_len ab_len ∙ turn_text one.out one.to (P ++ J1) J2 x whole_split e_len fits ∙ append_assoc P J1 (x ++ J2) ∙ ap (λ (l : List ℕ). P ++ l) (sym (put_turned x ps u));
      ends = omega (arith, wr.ends, ap length (put_turned x ps u), length-append J1 (x ++ J2), length-append x J2, ap length joined_split, length-append J1 J2);
      lens = sym (put_lens x ps u);
    };
    long = ap₂ (λ (a b : ℕ). length (turn one.out a b one.to)) a_len ab_len ∙ turn_long one.out one.to (P ++ J1) J2 x whole_split e_len fits;
    at = refl;
    room = omega arith;
  }

  put_in_lem : Put P (put_segment x ps) one (put_in (length P) to (map length ps) one)
  put_in_lem = rw put_is (go (there x ps) refl)
    where
      go : (b : Bool) → there x ps ≡ b → Put P (put_segment x ps) one (cond b left_out turned_in)
      go true u = put_out u
      go false u = put_turn u

-- A spot: w is written, and the bytes are read up to place n.
pub record Done (out : List ℕ) (to : ℕ) (w : List ℕ) (n : ℕ) (r : Spot) : Type 0 where
  pub wr : Wr out to w r.out r.to
  pub at : r.at ≡ n

record After (P : List ℕ) (cs acc : Conds) (was k : Kept) : Type 0 where
  holds : Holds P (segments_of (put_all cs acc)) k
  long : length k.out ≡ length was.out
  at : k.at ≡ was.at + length (written_conds cs)
  room : k.to ≤ was.to + length (written_conds cs)

conds_none : (inner : ℕ → List ℕ → ℕ → Spot) (s : List ℕ) (b : ℕ) (was : Kept) → put_conds inner s b 0 was ≡ was
unfolding put_conds
conds_none inner s b was = refl

conds_step_lem : (inner : ℕ → List ℕ → ℕ → Spot) (s : List ℕ) (b k : ℕ) (was : Kept)
    → put_conds inner s b (suc k) was ≡ put_conds inner s b k (put_in b was.to was.lens (put_concl inner s (was.at + 1) (set was.out was.to (get_or s was.at 0)) (was.to + 1)))
unfolding put_conds
conds_step_lem inner s b k was = refl

-- one condition more
one_in : (P : List ℕ) (b : ℕ) (acc : Conds) (was : Kept) (p : ℕ) (c : Concl) (n : ℕ) (one : Spot) → b ≡ length P → Holds P (segments_of acc) was → was.to + suc (length (written_concl c)) ≤ length was.out
    → Done (set was.out was.to p) (was.to + 1) (written_concl c) n one → Put P (segments_of (insert p c acc)) one (put_in b was.to was.lens one) × Wr was.out was.to (cond_bytes p c) one.out one.to
unfolding cond_bytes
one_in P b acc was p c n one hb h l d =
    let o1 = set was.out was.to p in
    let w = wr_then was.out was.to (p ∷ []) o1 (was.to + 1) (written_concl c) one.out one.to (wr_set was.out was.to p (was.to + 1) (omega arith) refl) d.wr in
    (rw (hb, h.lens, segments_put p c acc) (put_in_lem P (segments_of acc) (cond_bytes p c) was.out was.to one h.text h.ends w (omega (arith, w.ends, w.long))), w)

-- the count is written once it is known
count_in : (out : List ℕ) (to v r n m : ℕ) (J kout : List ℕ) (kto : ℕ) → take kto kout ≡ ((take to out ++ (v ∷ r ∷ [])) ++ (n ∷ [])) ++ J → kto ≡ to + 3 + length J → length kout ≡ length out → to ≤ length out
    → Wr out to (v ∷ r ∷ m ∷ J) (set kout (to + 2) m) kto
count_in out to v r n m J kout kto t e l h =
    let Q = take to out ++ (v ∷ r ∷ []) in
    let q : length Q ≡ to + 2 = length-append (take to out) (v ∷ r ∷ []) ∙ ap (λ (k : ℕ). k + 2) (length-take-le to out h) in
    record {
      long = length-set kout (to + 2) m ∙ l;
      ends = omega arith;
      text = take-set-lt kto kout (to + 2) m (omega arith) ∙ ap (λ (z : List ℕ). set z (to + 2) m) (t ∙ append_assoc Q (n ∷ []) J) ∙ set_at Q n J m (to + 2) q ∙ append_assoc (take to out) (v ∷ r ∷ []) (m ∷ J);
    }

-- what opens the grant, the conditions and the conclusion
opening : List ℕ → ℕ → ℕ → ℕ → ℕ → List ℕ
opening out to v r n = (take to out ++ (v ∷ r ∷ [])) ++ (n ∷ [])

opening_length : (out : List ℕ) (to v r n : ℕ) → to ≤ length out → to + 3 ≡ length (opening out to v r n)
unfolding opening
opening_length out to v r n h = simp length-append (let z = length-take-le to out h in omega arith)

opening_holds : (out : List ℕ) (to v r n : ℕ) (o3 : List ℕ) (at : ℕ) → to ≤ length out → Wr out to (v ∷ r ∷ n ∷ []) o3 (to + 3) → Holds (opening out to v r n) [] (record { out = o3; at = at; to = to + 3; lens = [] })
opening_holds out to v r n o3 at h w = record { text = w.text ∙ sym (open_is) ∙ sym (append-nil (opening out to v r n)); ends = omega (arith, opening_length out to v r n h); lens = refl }
  where
    open_is : opening out to v r n ≡ take to out ++ (v ∷ r ∷ n ∷ [])
    open_is = unfold opening in append_assoc (take to out) (v ∷ r ∷ []) (n ∷ [])

grant_in : (out : List ℕ) (to v r n : ℕ) (cs : Conds) (c : Concl) (K : Kept) (N : ℕ) (res : Spot) → to ≤ length out → Holds (opening out to v r n) (segments_of (put_all cs none)) K → length K.out ≡ length out
    → Done (set K.out (to + 2) (length K.lens)) K.to (written_concl (canon_concl c)) N res → Wr out to (written (canon (grant v r cs c))) res.out res.to
unfolding opening written canon
grant_in out to v r n cs c K N res h k l d =
    let J = joined (segments_of (put_all cs none)) in
    let w = count_in out to v r n (length K.lens) J K.out K.to k.text (omega (arith, k.ends, opening_length out to v r n h)) l h in
    let j : J ≡ written_conds (canon_conds cs) = ap (λ (z : Conds). joined (segments_of z)) (put_all_form cs) ∙ segments_joined (canon_conds cs) in
    let m : length K.lens ≡ how_many (canon_conds cs) = ap length k.lens ∙ length-map (segments_of (put_all cs none)) length ∙ segments_count (put_all cs none) ∙ ap how_many (put_all_form cs) in
    subst (λ (z : List ℕ). Wr out to z res.out res.to) (ap₂ (λ (a : ℕ) (b : List ℕ). v ∷ r ∷ a ∷ (b ++ written_concl (canon_concl c))) m j)
    (wr_then out to (v ∷ r ∷ length K.lens ∷ J) (set K.out (to + 2) (length K.lens)) K.to (written_concl (canon_concl c)) res.out res.to w d.wr)

mutual
  unfolding put_grant put_with put_concl put_all written canon depth cond_bytes Allowed

  pub put_grant_lem : (g : Grant) (left : ℕ) (s : List ℕ) (at : ℕ) (x out : List ℕ) (to : ℕ) → depth g ≤ left → drop at s ≡ written g ++ x → to + length (written g) ≤ length out → Allowed g
      → Done out to (written (canon g)) (at + length (written g)) (put_grant left s at out to)
  put_grant_lem (grant v r cs c) zero s at x out to d e l ok = absurd (omega arith)
  put_grant_lem (grant v r cs c) (suc below) s at x out to d e l ok =
      let f = three_at s at v r (how_many cs) ((written_conds cs ++ written_concl c) ++ x) e in
      let k = f.3 ∙ append_assoc (written_conds cs) (written_concl c) x in
      let m = larger_max (depth_conds cs) (depth_concl c) in
      let n = length-append (written_conds cs) (written_concl c) in
      let o3 = set (set (set out to v) (to + 1) r) (to + 2) (how_many cs) in
      let w3 = wr_three out to v r (how_many cs) (omega arith) in
      let P = opening out to v r (how_many cs) in
      let was : Kept = record { out = o3; at = at + 3; to = to + 3; lens = [] } in
      let K = put_conds (put_grant below s) s (to + 3) (how_many cs) was in
      let fits : to ≤ length out = omega arith in
      let a : After P cs none was K = put_conds_lem cs below s (written_concl c ++ x) P (to + 3) none was (opening_length out to v r (how_many cs) fits) (omega arith) k (omega (arith, w3.long)) (opening_holds out to v r (how_many cs) o3 (at + 3) fits w3) v r ok.3 in
      let o4 = set K.out (to + 2) (length K.lens) in
      let b = put_concl_lem c below s K.at x o4 K.to (omega arith) (ap (λ (y : ℕ). drop y s) a.at ∙ past s (at + 3) (written_conds cs) (written_concl c ++ x) k)
      (omega (arith, a.room, a.long, w3.long, length-set K.out (to + 2) (length K.lens), n)) v r ok.4 in
      let few : min (how_many cs) conditions ≡ how_many cs = omega (arith, ok.2) in
      rw (f.0, f.1, f.2, few) (record { wr = grant_in out to v r (how_many cs) cs c K (K.at + length (written_concl c)) (put_concl (put_grant below s) s K.at o4 K.to) fits a.holds (a.long ∙ w3.long) b; at = omega (arith, b.at, a.at, n) })

  put_conds_lem : (cs : Conds) (left : ℕ) (s x P : List ℕ) (b : ℕ) (acc : Conds) (was : Kept) → b ≡ length P → depth_conds cs ≤ left → drop was.at s ≡ written_conds cs ++ x → was.to + length (written_conds cs) ≤ length was.out
      → Holds P (segments_of acc) was → (v r : ℕ) → AllowedConds v r cs → After P cs acc was (put_conds (put_grant left s) s b (how_many cs) was)
  put_conds_lem none left s x P b acc was hb d e l h v r ok = rw (conds_none (put_grant left s) s b was) (record { holds = h; long = refl; at = omega arith; room = omega arith })
  put_conds_lem (also p c cs) left s x P b acc was hb d e l h v r ok =
      let f = byte_at s was.at p ((written_concl c ++ written_conds cs) ++ x) e in
      let k = f.1 ∙ append_assoc (written_concl c) (written_conds cs) x in
      let m = larger_max (depth_concl c) (depth_conds cs) in
      let n = length-append (written_concl c) (written_conds cs) in
      let o1 = set was.out was.to p in
      let one = put_concl (put_grant left s) s (was.at + 1) o1 (was.to + 1) in
      let a = put_concl_lem c left s (was.at + 1) (written_conds cs ++ x) o1 (was.to + 1) (omega arith) k (omega (arith, length-set was.out was.to p)) v r ok.1 in
      let i = one_in P b acc was p (canon_concl c) (was.at + 1 + length (written_concl c)) one hb h (omega (arith, concl_length c)) a in
      let new = put_in b was.to was.lens one in
      let at : new.at ≡ was.at + 1 + length (written_concl c) = i.0.at ∙ a.at in
      let step : put_conds (put_grant left s) s b (suc (how_many cs)) was ≡ put_conds (put_grant left s) s b (how_many cs) new
      = conds_step_lem (put_grant left s) s b (how_many cs) was ∙ ap (λ (y : ℕ). put_conds (put_grant left s) s b (how_many cs) (put_in b was.to was.lens (put_concl (put_grant left s) s (was.at + 1) (set was.out was.to y) (was.to + 1)))) f.0 in
      let ih = put_conds_lem cs left s x P b (insert p (canon_concl c) acc) new hb (omega arith) (ap (λ (y : ℕ). drop y s) at ∙ past s (was.at + 1) (written_concl c) (written_conds cs ++ x) k)
      (omega (arith, i.0.room, i.0.long, i.1.ends, i.1.long, concl_length c)) i.0.holds v r ok.2 in
      rw step (record { holds = ih.holds; long = ih.long ∙ i.0.long ∙ i.1.long; at = omega (arith, ih.at, at, n); room = omega (arith, ih.room, i.0.room, i.1.ends, concl_length c, n) })

  pub put_concl_lem : (c : Concl) (left : ℕ) (s : List ℕ) (at : ℕ) (x out : List ℕ) (to : ℕ) → depth_concl c ≤ left → drop at s ≡ written_concl c ++ x → to + length (written_concl c) ≤ length out → (v r : ℕ) → AllowedConcl v r c
      → Done out to (written_concl (canon_concl c)) (at + length (written_concl c)) (put_concl (put_grant left s) s at out to)
  put_concl_lem (property k p) left s at x out to d e l v r ok = let f = three_at s at 0 k p x e in rw (f.0, f.1, f.2) (record { wr = wr_three out to 0 k p l; at = refl })
  put_concl_lem (perm p y) left s at x out to d e l v r ok = put_right y p left s at x out to d e l r ok.1

  put_right : (r : Right) (p left : ℕ) (s : List ℕ) (at : ℕ) (x out : List ℕ) (to : ℕ) → depth_right r ≤ left → drop at s ≡ kind_of r ∷ p ∷ (written_right r ++ x) → to + suc (suc (length (written_right r))) ≤ length out → (res : ℕ) → AllowedRight res r
      → Done out to (kind_of (canon_right r) ∷ p ∷ written_right (canon_right r)) (at + suc (suc (length (written_right r)))) (put_concl (put_grant left s) s at out to)
  put_right (issue g) p left s at x out to d e l res ok =
      let f = three_at s at 1 p 0 (written g ++ x) e in
      let o3 = set (set (set out to 1) (to + 1) p) (to + 2) 0 in
      let w3 = wr_three out to 1 p 0 (omega arith) in
      let n = put_grant_lem g left s (at + 3) x o3 (to + 3) d f.3 (omega (arith, w3.long)) ok in
      rw (f.0, f.1, f.2) (record { wr = wr_then out to (1 ∷ p ∷ 0 ∷ []) o3 (to + 3) (written (canon g)) (put_grant left s (at + 3) o3 (to + 3)).out (put_grant left s (at + 3) o3 (to + 3)).to w3 n.wr; at = n.at ∙ omega arith })
  put_right issue_any p left s at x out to d e l res ok = let f = three_at s at 1 p 1 x e in rw (f.0, f.1, f.2) (record { wr = wr_three out to 1 p 1 l; at = refl })
  put_right (run n) p left s at x out to d e l res ok = let f = three_at s at 2 p n x e in rw (f.0, f.1, f.2) (record { wr = wr_three out to 2 p n l; at = refl })
  put_right (export n) p left s at x out to d e l res ok = let f = three_at s at 3 p n x e in rw (f.0, f.1, f.2) (record { wr = wr_three out to 3 p n l; at = refl })
