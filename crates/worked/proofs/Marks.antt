-- The marks of a state: for every list of records there are some, and no others; and the net between two.
use Prim.Native.Nat.{ℕ, zero, suc, ◌+◌}
use mathlib.Core.Path.{◌≡◌, refl, sym, ap, subst, ◌∙◌}
use mathlib.Core.List.{List, map}
use native.Mathlib.Nat.{add-zero, add-suc}
use native.Mathlib.Omega.{arith}
use lib.ListN.{length}
use lib.IntN.{ℤ, pos, negsuc, pred_ℤ, neg_ℤ, ◌+ℤ◌, ◌-ℤ◌, pred-suc, suc_ℤ-+ℤ, +ℤ-pred_ℤ}
use Rattle.reader.specs.Contents.{Record}
use Rattle.exact.specs.Writing.{written_record}
use Rattle.rules.specs.Standing.{Bits}
use Rattle.rules.proofs.Saturation.{same_marks}
use Rattle.machine.specs.Machine.{State, start}
use Rattle.marks.specs.Gains.{gains}
use Rattle.marks.specs.Counts.{Statements, truths, sayings, ones, marks_of, change_of, counts_of, change_in}
use Rattle.book.specs.Chains.{Fed, runs}
use Rattle.demands.proofs.Balance.{balance, kind_length, kind_bits}
use Rattle.demands.proofs.Existence.{chain_some}
use Rattle.demands.proofs.Demand3.{demand_3}
use Rattle.worked.specs.Worked.{machine, MarksOf}

-- The calls with these records from a fresh book leave such marks.
pub marks_some : (es : List Record) → (m : List ℕ) × MarksOf (machine es) m
marks_some es =
    let K = chain_some (map written_record es) in
    let D = demand_3 K.calls K.book K.marks K.second K.chain in
    (K.marks, subst (λ (fs : List Fed). MarksOf (runs start fs) K.marks) K.same (record { size = D.form.marks.count; bits = D.form.marks.bits; stand = D.marks }))

-- A state has one list of marks.
pub marks_one : (M : State) (l m : List ℕ) → MarksOf M l → MarksOf M m → l ≡ m
marks_one M l m j k =
    same_marks l m (j.size ∙ sym k.size) j.bits k.bits (λ n h. (k.stand n).1 ((j.stand n).0 h)) (λ n h. (j.stand n).1 ((k.stand n).0 h))

-- differences of counts

less_suc : (a b : ℕ) → pos (suc a) -ℤ pos (suc b) ≡ pos a -ℤ pos b
less_suc a b = ap (λ (z : ℤ). pos (suc a) +ℤ z) (below b) ∙ +ℤ-pred_ℤ (pos (suc a)) (neg_ℤ (pos b)) ∙ ap pred_ℤ (suc_ℤ-+ℤ (pos a) (neg_ℤ (pos b))) ∙ pred-suc (pos a -ℤ pos b)
  where
    below : (n : ℕ) → negsuc n ≡ pred_ℤ (neg_ℤ (pos n))
    below zero = refl
    below (suc n) = refl

less_more : (a b k : ℕ) → pos (a + k) -ℤ pos (b + k) ≡ pos a -ℤ pos b
less_more a b zero = λ i. pos (add-zero a i) -ℤ pos (add-zero b i)
less_more a b (suc k) = (λ i. pos (add-suc a k i) -ℤ pos (add-suc b k i)) ∙ less_suc (a + k) (b + k) ∙ less_more a b k

same_less : (a b c d : ℕ) → a + d ≡ c + b → pos a -ℤ pos b ≡ pos c -ℤ pos d
same_less a b c d e =
    let f : b + d ≡ d + b = omega arith in
    sym (less_more a b d) ∙ (λ i. pos (e i) -ℤ pos (f i)) ∙ less_more c d b

kind_net : (k : Statements) (l m : List ℕ) → length l ≡ length m → Bits l → Bits m →
    pos (gains (marks_of k l) (marks_of k m)) -ℤ pos (gains (marks_of k m) (marks_of k l)) ≡ pos (ones (marks_of k m)) -ℤ pos (ones (marks_of k l))
kind_net k l m e a b =
    same_less (gains (marks_of k l) (marks_of k m)) (gains (marks_of k m) (marks_of k l)) (ones (marks_of k m)) (ones (marks_of k l))
    (balance (marks_of k l) (marks_of k m) (kind_length k l m e) (kind_bits k l a) (kind_bits k m b))

-- The net of each kind is the marks standing now less those that stood.
pub net_is : (k : Statements) (L M : State) (l m : List ℕ) → MarksOf L l → MarksOf M m →
    (change_in k (counts_of l m)).net ≡ pos (ones (marks_of k m)) -ℤ pos (ones (marks_of k l))
unfolding counts_of change_of
net_is truths L M l m i j = kind_net truths l m (i.size ∙ sym j.size) i.bits j.bits
net_is sayings L M l m i j = kind_net sayings l m (i.size ∙ sym j.size) i.bits j.bits
