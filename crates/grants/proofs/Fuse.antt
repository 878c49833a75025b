-- Reading and numbering in one pass is reading the grant, then numbering it.
use Prim.Native.Nat.{ℕ, zero, suc, ◌+◌, ◌<◌, ◌≤◌, ◌-◌}
use mathlib.Core.List.{List}
use mathlib.Core.Bool.{Bool, true, false, cond}
use mathlib.Core.Path.{◌≡◌, refl, sym, ap, subst, ◌∙◌}
use mathlib.Core.Logic.{inl, inr}
use native.Mathlib.Omega.{arith}
use lib.ListN.{length, get_or, set, length-set}
use lib.Seq.{get_or-set_same, get_or-set_other}
use lib.Dec.{eqb, ltb}
use borrow.Author.Tests.{eqb-true, eqb-false, ltb-true}
use Rattle.std.specs.Prelude.{Option, Some, None}
use Rattle.sorts.specs.Numbers.{conditions, depths, grants, properties, item_var}
use Rattle.sorts.specs.declared.GrantNo.{GrantNo}
use Rattle.sorts.specs.declared.Res.TheVariants.{Issue, Run, Export}
use Rattle.sorts.specs.declared.Concl as rc
use Rattle.sorts.specs.declared.Concl.TheVariants.{Property, Perm}
use Rattle.sorts.specs.declared.Cond.{Cond}
use Rattle.sorts.specs.declared.Row.{Row}
use Rattle.sorts.specs.Blank.{blank_cond}
use Rattle.rows.specs.declared.Table.{Table}
use Rattle.rows.specs.declared.Numbering.{Numbering}
use Rattle.rows.specs.Inner.Lookup.{Entered, with_row, entered_at, entered, find_row}
use Rattle.rows.specs.Written.{Grant, Conds, Concl, grant, also, perm, issue, run, export}
use Rattle.rows.specs.Numbering.{add, number, number_conds, number_concl}
use Rattle.rows.specs.Form.{write_concl, write_conds, write_row, depth}
use Rattle.sorts.specs.RowForm.{RowForm}
use Rattle.rows.specs.Allowed.{Allowed}
use Rattle.rows.proofs.Bytes.{no_true}
use Rattle.rows.proofs.Rows.{ConclBelow, concl_up, concl_ext, conds_ext, write_issue}
use Rattle.rows.proofs.Appended.{Ext, ext_length, add_ext, conds_more, concl_more}
use Rattle.rows.proofs.Entering.{Good, tied, over, Names, Put, put}
use Rattle.frames.specs.declared.ranges.Scope.{Scope}
use Rattle.frames.specs.declared.ranges.Header.{Header}
use Rattle.frames.specs.Bytes.{Outcome, got, refused, and_then, upto, principal, pack, tag, header}
use Rattle.grants.specs.Grants.{read_property, read_packed, read_issue, read_concl, read_conds, read_with, read_grant}
use Rattle.grants.specs.Inner.OnePass.{Numbered, over as left, onward, rowed, num_property, num_packed, num_issue, num_concl, num_conds, num_with, num_grant, blank_conds}
use Rattle.grants.proofs.Found.{header_found, grant_found}
use Rattle.grants.proofs.Steps.{at_got, at_refused}
use Rattle.rows.proofs.RowForms.{row_form}

pub good_small : {t : Numbering} {N : List Grant} → Good t N → t.full ≡ false → length N ≤ grants
good_small (tied f R) e = let c = R.counted in let s = R.small in omega arith
good_small (over f l c) e = absurd (no_true (sym e ∙ f))

-- where there is room at the end there was room before
back : {t t' : Numbering} {N N' : List Grant} → Good t N → Good t' N' → Ext N N' → t'.full ≡ false → t.full ≡ false
back (tied f R) G x e = f
back {t} {t'} {N} {N'} (over f l c) G x e = let a = ext_length x in let b = good_small G e in absurd (omega arith)

-- a grant read and numbered
pub record FusedG (N : List Grant) (g : Grant) (n : ℕ) (R : Numbered GrantNo) : Type 0 where
  pub no : GrantNo
  pub out : R.out ≡ got no n
  pub good : Good R.numbering (number g N)
  pub names : Names R.numbering (number g N) no.0 g

abbrev pub FuseG : List Grant → Outcome Grant → Numbered GrantNo → Type 0
FuseG N (got g n) R = FusedG N g n R
FuseG N (refused k) R = R.out ≡ refused k

-- a conclusion read, its grants numbered
pub record FusedC (N : List Grant) (c : Concl) (n : ℕ) (R : Numbered rc.Concl) : Type 0 where
  pub row : rc.Concl
  pub out : R.out ≡ got row n
  pub good : Good R.numbering (number_concl c N)
  pub names : R.numbering.full ≡ false → ConclBelow (length (number_concl c N)) row × (write_concl (number_concl c N) row ≡ c)

abbrev pub FuseC : List Grant → Outcome Concl → Numbered rc.Concl → Type 0
FuseC N (got c n) R = FusedC N c n R
FuseC N (refused k) R = R.out ≡ refused k

module _ (N : List Grant) (t : Numbering) where
  byte_c : (o : Outcome ℕ) (F : ℕ → ℕ → Outcome Concl) (G : ℕ → ℕ → Numbering → Numbered rc.Concl) → ((b n : ℕ) → FuseC N (F b n) (G b n t)) → FuseC N (and_then o F) (onward (left t o) G)
  unfolding onward
  byte_c (got b n) F G h = h b n
  byte_c (refused k) F G h = refl

  pick_c : (b : Bool) (x y : Outcome Concl) (X Y : Numbered rc.Concl) → FuseC N x X → FuseC N y Y → FuseC N (cond b x y) (cond b X Y)
  pick_c true x y X Y h k = h
  pick_c false x y X Y h k = k

  -- a conclusion that holds no grant
  plain_c : (o : Outcome ℕ) (F : ℕ → ℕ → Outcome Concl) (G : ℕ → ℕ → Outcome rc.Concl) → ((b n : ℕ) → FuseC N (F b n) (left t (G b n))) → FuseC N (and_then o F) (left t (and_then o G))
  plain_c (got b n) F G h = h b n
  plain_c (refused k) F G h = refl

fuse_property : (v : Scope) (s : List ℕ) (at : ℕ) (t : Numbering) (N : List Grant) → Good t N → FuseC N (read_property v s at) (left t (num_property v s at))
unfolding read_property num_property number
fuse_property v s at t N G =
    plain_c N t (upto (properties - 1) s at) _ _ (λ k n1. plain_c N t (principal v s n1) _ _ (λ p n2.
    record { row = Property k (record { 0 = p }); out = refl; good = G; names = λ e. (tt, refl) }))

fuse_packed : (v : Scope) (kind p : ℕ) (s : List ℕ) (at : ℕ) (t : Numbering) (N : List Grant) → Good t N →
    FuseC N (read_packed v kind p s at) (left t (num_packed v kind (record { 0 = p }) s at))
unfolding read_packed num_packed number
fuse_packed v kind p s at t N G = plain_c N t (pack v s at) _ _ (λ n n1. go n n1 (eqb kind 2))
  where
    go : (n n1 : ℕ) (b : Bool) → FuseC N (got (perm p (cond b (run n) (export n))) n1)
        (left t (got (Perm (record { 0 = p }) (cond b (Run (record { 0 = n })) (Export (record { 0 = n })))) n1))
    go n n1 true = record { row = Perm (record { 0 = p }) (Run (record { 0 = n })); out = refl; good = G; names = λ e. (tt, refl) }
    go n n1 false = record { row = Perm (record { 0 = p }) (Export (record { 0 = n })); out = refl; good = G; names = λ e. (tt, refl) }

inner_c : (N : List Grant) (p : ℕ) (o : Outcome Grant) (R : Numbered GrantNo) → FuseG N o R →
    FuseC N (and_then o (λ g n. got (perm p (issue g)) n)) (onward R (λ g n u. left u (got (Perm (record { 0 = p }) (Issue g)) n)))
unfolding number Names onward
inner_c N p (got g n) R f =
    rw f.out (record {
      row = Perm (record { 0 = p }) (Issue f.no);
      out = refl;
      good = f.good;
      names = λ e.
          let m = f.names e in
          let l = m.0 in
          let s = good_small f.good e in
          (inl l, ap (perm p) (write_issue (number g N) f.no.0 (omega arith) ∙ ap issue m.1));
    })
inner_c N p (refused k) R f = rw f refl

abbrev Inner : (ℕ → Outcome Grant) → (ℕ → Numbering → Numbered GrantNo) → Type 0
Inner inner num = (at : ℕ) (t : Numbering) (N : List Grant) → Good t N → FuseG N (inner at) (num at t)

module _ (inner : ℕ → Outcome Grant) (num : ℕ → Numbering → Numbered GrantNo) (ok : Inner inner num) (v : Scope) (s : List ℕ) where
  fuse_issue : (p at : ℕ) (t : Numbering) (N : List Grant) → Good t N → FuseC N (read_issue inner v p s at) (num_issue num v (record { 0 = p }) s at t)
  unfolding read_issue num_issue number
  fuse_issue p at t N G =
      byte_c N t (tag v s at) _ _ (λ b n1.
      pick_c N t (eqb b 1) _ _ _ _
      (record { row = Perm (record { 0 = p }) (Issue (record { 0 = item_var })); out = refl; good = G; names = λ e. (inr refl, refl) })
      (inner_c N p (inner n1) (num n1 t) (ok n1 t N G)))

  pub fuse_concl : (at : ℕ) (t : Numbering) (N : List Grant) → Good t N → FuseC N (read_concl inner v s at) (num_concl num v s at t)
  unfolding read_concl num_concl
  fuse_concl at t N G =
      byte_c N t (upto 3 s at) _ _ (λ kind n1.
      pick_c N t (eqb kind 0) _ _ _ _
      (fuse_property v s n1 t N G)
      (byte_c N t (principal v s n1) _ _ (λ p n2.
      pick_c N t (eqb kind 1) _ _ _ _
      (fuse_issue p n2 t N G)
      (fuse_packed v kind p s n2 t N G))))

-- the conditions read so far, i of them, and room for k more
record Acc (t : Numbering) (N : List Grant) (cs : List Cond) (i k : ℕ) : Type 0 where
  four : length cs ≡ conditions
  room : i + k ≤ conditions
  below : t.full ≡ false → (j : ℕ) → j < i → ConclBelow (length N) (get_or cs j blank_cond).what
  blank : (j : ℕ) → i ≤ j → get_or cs j blank_cond ≡ blank_cond

record FusedE (N : List Grant) (cs : List Cond) (i k : ℕ) (cn : Conds) (n : ℕ) (R : Numbered (List Cond)) : Type 0 where
  row : List Cond
  out : R.out ≡ got row n
  good : Good R.numbering (number_conds cn N)
  four : length row ≡ conditions
  kept : (j : ℕ) → j < i → get_or row j blank_cond ≡ get_or cs j blank_cond
  blank : (j : ℕ) → i + k ≤ j → get_or row j blank_cond ≡ blank_cond
  names : R.numbering.full ≡ false → ((j : ℕ) → j < i + k → ConclBelow (length (number_conds cn N)) (get_or row j blank_cond).what) × (write_conds (number_conds cn N) row i k ≡ cn)

abbrev FuseE : List Grant → List Cond → ℕ → ℕ → Outcome Conds → Numbered (List Cond) → Type 0
FuseE N cs i k (got cn n) R = FusedE N cs i k cn n R
FuseE N cs i k (refused e) R = R.out ≡ refused e

byte_e : (N : List Grant) (cs : List Cond) (i k : ℕ) (t : Numbering) (o : Outcome ℕ) (F : ℕ → ℕ → Outcome Conds) (G : ℕ → ℕ → Numbering → Numbered (List Cond)) → ((b n : ℕ) → FuseE N cs i k (F b n) (G b n t)) → FuseE N cs i k (and_then o F) (onward (left t o) G)
unfolding onward
byte_e N cs i k t (got b n) F G h = h b n
byte_e N cs i k t (refused e) F G h = refl

abbrev said : ℕ → rc.Concl → Cond
said p row = record { who = record { 0 = p }; what = row }

-- one condition in front of the rest
wrap_e : (N : List Grant) (cs : List Cond) (i k p : ℕ) (c : Concl) (row : rc.Concl) (t : Numbering) → length cs ≡ conditions → i < conditions → Good t (number_concl c N) →
    (t.full ≡ false → ConclBelow (length (number_concl c N)) row × (write_concl (number_concl c N) row ≡ c)) →
    (o : Outcome Conds) (R : Numbered (List Cond)) → FuseE (number_concl c N) (set cs i (said p row)) (i + 1) k o R →
    FuseE N cs i (suc k) (and_then o (λ cs' n3. got (also p c cs') n3)) R
unfolding number write_conds
wrap_e N cs i k p c row t len lt G nm (refused e) R f = f
wrap_e N cs i k p c row t len lt G nm (got cn n) R f = record {
  row = f.row;
  out = f.out;
  good = f.good;
  four = f.four;
  kept = λ j h. f.kept j (omega arith) ∙ get_or-set_other cs i j (said p row) blank_cond (λ (q : j ≡ i). omega arith);
  blank = λ j h. f.blank j (omega arith);
  names = λ e. (λ j h. (f.names e).0 j (omega arith), tree e);
}
  where
    N1 : List Grant
    N1 = number_concl c N

    ext : Ext N1 (number_conds cn N1)
    ext = conds_more cn N1

    here : get_or f.row i blank_cond ≡ said p row
    here = f.kept i (omega arith) ∙ get_or-set_same cs i (said p row) blank_cond (omega arith)

    tree : R.numbering.full ≡ false → also (get_or f.row i blank_cond).who.0 (write_concl (number_conds cn N1) (get_or f.row i blank_cond).what) (write_conds (number_conds cn N1) f.row (i + 1) k) ≡ also p c cn
    tree e =
        let e1 = back G f.good ext e in
        let m = nm e1 in
        let a : write_concl (number_conds cn N1) row ≡ c = ap (λ (l : List Grant). write_concl l row) ext.is ∙ concl_ext N1 ext.more (good_small G e1) row m.0 ∙ m.1 in
        λ z. also (here z).who.0 ((ap (λ (y : Cond). write_concl (number_conds cn N1) y.what) here ∙ a) z) ((f.names e).1 z)

module _ (inner : ℕ → Outcome Grant) (num : ℕ → Numbering → Numbered GrantNo) (ok : Inner inner num) (v : Scope) (s : List ℕ) where
  acc_more : (t t' : Numbering) (N : List Grant) (cs : List Cond) (i k p : ℕ) (c : Concl) (row : rc.Concl) → Good t N → Good t' (number_concl c N) → Acc t N cs i (suc k) →
      (t'.full ≡ false → ConclBelow (length (number_concl c N)) row × (write_concl (number_concl c N) row ≡ c)) →
      Acc t' (number_concl c N) (set cs i (said p row)) (i + 1) k
  acc_more t t' N cs i k p c row G G' a nm = record {
    four = length-set cs i (said p row) ∙ a.four;
    room = let r = a.room in omega arith;
    below = λ e j h. at e j h (eqb j i) refl;
    blank = λ j h. get_or-set_other cs i j (said p row) blank_cond (λ (q : j ≡ i). omega arith) ∙ a.blank j (omega arith);
  }
    where
      at : t'.full ≡ false → (j : ℕ) → j < i + 1 → (b : Bool) → eqb j i ≡ b → ConclBelow (length (number_concl c N)) (get_or (set cs i (said p row)) j blank_cond).what
      at e j h true q =
          let r = a.room in let l = a.four in
          let d : j ≡ i = eqb-true j i q in
          let g : get_or (set cs i (said p row)) j blank_cond ≡ said p row = ap (λ (y : ℕ). get_or (set cs i (said p row)) y blank_cond) d ∙ get_or-set_same cs i (said p row) blank_cond (omega arith) in
          subst (λ (y : Cond). ConclBelow (length (number_concl c N)) y.what) (sym g) (nm e).0
      at e j h false q =
          let ne = eqb-false j i q in
          let g : get_or (set cs i (said p row)) j blank_cond ≡ get_or cs j blank_cond = get_or-set_other cs i j (said p row) blank_cond ne in
          subst (λ (y : Cond). ConclBelow (length (number_concl c N)) y.what) (sym g)
          (concl_up (length N) (length (number_concl c N)) (get_or cs j blank_cond).what (ext_length (concl_more c N)) (a.below (back G G' (concl_more c N) e) j (omega arith)))

  fuse_conds : (k at i : ℕ) (cs : List Cond) (t : Numbering) (N : List Grant) → Good t N → Acc t N cs i k → FuseE N cs i k (read_conds inner v s k at) (num_conds num v s k at i cs t)
  unfolding read_conds num_conds number write_conds
  fuse_conds zero at i cs t N G a = record {
    row = cs;
    out = refl;
    good = G;
    four = a.four;
    kept = λ j h. refl;
    blank = λ j h. a.blank j (omega arith);
    names = λ e. (λ j h. a.below e j (omega arith), refl);
  }
  fuse_conds (suc k) at i cs t N G a =
      byte_e N cs i (suc k) t (principal v s at) _ _ (λ p n1.
      go p (read_concl inner v s n1) (num_concl num v s n1 t) (fuse_concl inner num ok v s n1 t N G)
      (λ n2 cs' t' N' G' a'. fuse_conds k n2 (i + 1) cs' t' N' G' a'))
    where
      go : (p : ℕ) (o : Outcome Concl) (R : Numbered rc.Concl) → FuseC N o R →
          ((n2 : ℕ) (cs' : List Cond) (t' : Numbering) (N' : List Grant) → Good t' N' → Acc t' N' cs' (i + 1) k → FuseE N' cs' (i + 1) k (read_conds inner v s k n2) (num_conds num v s k n2 (i + 1) cs' t')) →
          FuseE N cs i (suc k) (and_then o (λ c n2. and_then (read_conds inner v s k n2) (λ cs' n3. got (also p c cs') n3)))
          (onward R (λ c n2 u. num_conds num v s k n2 (i + 1) (set cs i (said p c)) u))
      go p (refused e) R f ih = rw (at_refused R _ f) refl
      go p (got c n2) R f ih =
          rw (at_got R _ f.out)
          (wrap_e N cs i k p c f.row R.numbering a.four (let r = a.room in omega arith) f.good f.names (read_conds inner v s k n2) _
          (ih n2 (set cs i (said p f.row)) R.numbering (number_concl c N) f.good (acc_more t R.numbering N cs i k p c f.row G f.good a f.names)))

-- a table without room stays so
over_stays : (u : Numbering) (N : List Grant) (g : Grant) (x : Row) → u.full ≡ true → grants < length N → u.table.count ≤ grants → Put N g (entered u x)
unfolding entered Names
over_stays u N g x f l c = go (find_row t x)
  where
    t : Table
    t = u.table

    far : grants < length (add g N)
    far = let e = ext_length (add_ext g N) in omega arith

    lost : (v : Numbering) (n : GrantNo) → v.full ≡ true → v.table.count ≤ grants → Put N g (record { numbering = v; no = n })
    lost v n q h = record { good = over q far h; names = λ e. absurd (no_true (sym e ∙ q)) }

    new : (b : Bool) → ltb t.count grants ≡ b → Put N g (cond b (record { numbering = record { table = with_row t x; full = u.full }; no = record { 0 = t.count } })
        (record { numbering = record { table = t; full = true }; no = record { 0 = 0 } }))
    new true q = let h = ltb-true t.count grants q in lost _ _ f (omega arith)
    new false q = lost _ _ refl c

    go : (o : Option ℕ) → Put N g (entered_at u x o)
    go (Some i) = lost u _ f c
    go None = new (ltb t.count grants) refl

made : (N : List Grant) (prins res : ℕ) (cn : Conds) (c : Concl) (n : ℕ) (e : Entered) → Put (number_concl c (number_conds cn N)) (grant prins res cn c) e → FusedG N (grant prins res cn c) n (rowed e n)
unfolding number
made N prins res cn c n e p = record { no = e.no; out = refl; good = p.good; names = p.names }

blanks : (j : ℕ) → 0 ≤ j → get_or blank_conds j blank_cond ≡ blank_cond
blanks zero h = refl
blanks (suc zero) h = refl
blanks (suc (suc zero)) h = refl
blanks (suc (suc (suc zero))) h = refl
blanks (suc (suc (suc (suc j)))) h = refl

module _ (inner : ℕ → Outcome Grant) (num : ℕ → Numbering → Numbered GrantNo) (ok : Inner inner num) (s : List ℕ)
    (allowed : (at : ℕ) (g : Grant) (n : ℕ) → read_with inner s at ≡ got g n → Allowed g × (depth g ≤ depths)) where
  -- the row is entered
  entered_row : (N : List Grant) (v : Scope) (count n n4 : ℕ) → (cn : Conds) (a : Numbered (List Cond)) (fa : FusedE N blank_conds 0 count cn n4 a) (c : Concl) (b : Numbered rc.Concl) (f : FusedC (number_conds cn N) c n b) →
      Allowed (grant v.prins v.res cn c) × (depth (grant v.prins v.res cn c) ≤ depths) → count ≤ conditions →
      Put (number_concl c (number_conds cn N)) (grant v.prins v.res cn c) (entered b.numbering (record { prins = v.prins; res = v.res; count = count; conds = fa.row; head = f.row }))
  unfolding write_row
  entered_row N v count n n4 cn a fa c b f al most = go f.good
    where
      N1 : List Grant
      N1 = number_conds cn N

      N2 : List Grant
      N2 = number_concl c N1

      g : Grant
      g = grant v.prins v.res cn c

      x : Row
      x = record { prins = v.prins; res = v.res; count = count; conds = fa.row; head = f.row }

      ext : Ext N1 N2
      ext = concl_more c N1

      go : Good b.numbering N2 → Put N2 g (entered b.numbering x)
      go (over q l h) = over_stays b.numbering N2 g x q l h
      go (tied q R) =
          let qa = back fa.good f.good ext q in
          let ma = fa.names qa in
          let mb = f.names q in
          let tc : write_conds N2 fa.row 0 count ≡ cn =
          ap (λ (l : List Grant). write_conds l fa.row 0 count) ext.is ∙ conds_ext N1 ext.more (good_small fa.good qa) fa.row 0 count (λ j h. ma.0 j h) ∙ ma.1 in
          let same : write_row N2 x ≡ g = λ z. grant v.prins v.res (tc z) (mb.1 z) in
          let F : RowForm (length N2) x =
          row_form N2 (good_small f.good q) x fa.four
          (λ j h. concl_up (length N1) (length N2) (get_or fa.row j blank_cond).what (ext_length ext) (ma.0 j (omega arith)))
          (λ j h. fa.blank j (omega arith)) mb.0 most (subst Allowed (sym same) al.0) in
          subst (λ (w : Grant). Put N2 w (entered b.numbering x)) same
          (put b.numbering N2 x q R F (subst (λ (w : Grant). depth w ≤ depths) (sym same) al.1))

  fuse_granted : (N : List Grant) (at n1 : ℕ) (h : Header) → header s at ≡ got h n1 → (o : Outcome Conds) (a : Numbered (List Cond)) → read_conds inner h.scope s h.count n1 ≡ o → FuseE N blank_conds 0 h.count o a →
      FuseG N (and_then o (λ cs n2. and_then (read_concl inner h.scope s n2) (λ c n3. got (grant h.scope.prins h.scope.res cs c) n3)))
      (onward a (λ cs n2 w. onward (num_concl num h.scope s n2 w) (λ c n3 x. rowed (entered x (record { prins = h.scope.prins; res = h.scope.res; count = h.count; conds = cs; head = c })) n3)))
  unfolding onward read_with
  fuse_granted N at n1 h eh (refused k) a eo f = rw f refl
  fuse_granted N at n1 h eh (got cn n2) a eo f =
      rw f.out (concl_then (read_concl inner h.scope s n2) (num_concl num h.scope s n2 a.numbering) refl (fuse_concl inner num ok h.scope s n2 a.numbering (number_conds cn N) f.good))
    where
      whole : (c : Concl) (n3 : ℕ) → read_concl inner h.scope s n2 ≡ got c n3 → read_with inner s at ≡ got (grant h.scope.prins h.scope.res cn c) n3
      whole c n3 ec = rw (eh, eo, ec)

      concl_then : (o : Outcome Concl) (b : Numbered rc.Concl) → read_concl inner h.scope s n2 ≡ o → FuseC (number_conds cn N) o b →
          FuseG N (and_then o (λ c n3. got (grant h.scope.prins h.scope.res cn c) n3))
          (onward b (λ c n3 x. rowed (entered x (record { prins = h.scope.prins; res = h.scope.res; count = h.count; conds = f.row; head = c })) n3))
      concl_then (refused k) b ec g = rw g refl
      concl_then (got c n3) b ec g =
          rw g.out (made N h.scope.prins h.scope.res cn c n3 _
          (entered_row N h.scope h.count n3 n2 cn a f c b g (allowed at _ n3 (whole c n3 ec)) (header_found s at h n1 eh).count))

  fuse_with : Inner (read_with inner s) (num_with num s)
  unfolding read_with num_with onward
  fuse_with at t N G = go (header s at) refl
    where
      go : (o : Outcome Header) → header s at ≡ o →
          FuseG N (and_then o (λ h n1. and_then (read_conds inner h.scope s h.count n1) (λ cs n2. and_then (read_concl inner h.scope s n2) (λ c n3. got (grant h.scope.prins h.scope.res cs c) n3))))
          (onward (left t o) (λ h n1 u. onward (num_conds num h.scope s h.count n1 0 blank_conds u) (λ cs n2 w. onward (num_concl num h.scope s n2 w) (λ c n3 x.
          rowed (entered x (record { prins = h.scope.prins; res = h.scope.res; count = h.count; conds = cs; head = c })) n3))))
      go (refused k) e = refl
      go (got h n1) e =
          fuse_granted N at n1 h e (read_conds inner h.scope s h.count n1) (num_conds num h.scope s h.count n1 0 blank_conds t) refl
          (fuse_conds inner num ok h.scope s h.count n1 0 blank_conds t N G
          (record { four = refl; room = let m = (header_found s at h n1 e).count in omega arith; below = λ e j h. absurd (omega arith); blank = blanks }))

-- What the one pass answers is what reading the grant and numbering it answers.
pub fuse_grant : (d : ℕ) → d ≤ depths → (s : List ℕ) → Inner (read_grant d s) (num_grant d s)
unfolding read_grant num_grant
fuse_grant zero l s at t N G = refl
fuse_grant (suc d) l s at t N G =
    fuse_with (read_grant d s) (num_grant d s) (fuse_grant d (omega arith) s) s
    (λ at' g n e. let a = grant_found (suc d) s at' g n e in let h = a.deep in (a.allowed, omega arith)) at t N G
