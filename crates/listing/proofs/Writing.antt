-- An output takes a listing line by line.
use Rattle.std.proofs.Common.{ℕ, suc, ◌+◌, ◌<◌, ◌≡◌, List, [], ◌∷◌, ◌++◌, length, get_or, take, drop, Option, Result, Ok, Err, IsErr, MatchResult, true≢false, arith, refl, sym, ◌∙◌, subst, take_all}
use Rattle.std.specs.Io.KnownBytes.{Keeps, Appends}
use Rattle.std.proofs.KnownBytes.{Appends-nil, Appends-trans, Appends-kept}
use Rattle.lines.specs.declared.Line.{Line}
use Rattle.lines.specs.Pieces.{line_pieces, joined}
use Rattle.listings.specs.Listings.{Listed, Follows, Finished}
use Rattle.listings.proofs.Listings.{listed_only, follows_listed}
use Rattle.streams.specs.Pieces.{Began, Wrote, began_later, began_earlier}
use Rattle.streams.proofs.output.Taken.{joined_more, none_joined, joined_one, parts_at}
use Rattle.listing.specs.Writing.{TookListing, TookPart}

-- An output that held a took the first n lines of the listing of s, and holds b.
abbrev pub Took : List ℕ → Option (List ℕ) → Option (List ℕ) → ℕ → Type 0
Took s a b n = (ls : List (List ℕ)) → Listed s ls → Appends a b (joined (take n ls))

pub took_none : (s : List ℕ) (a : Option (List ℕ)) (n : ℕ) → n ≡ 0 → Took s a a n
took_none s a n e ls L = subst (Appends a a) (sym (none_joined ls n e)) (Appends-nil a)

pub took_more : (s : List ℕ) (a b c : Option (List ℕ)) (n m : ℕ) (t : Line) → Follows s n t → m ≡ n + 1 → Took s a b n → Appends b c (joined (line_pieces t)) → Took s a c m
took_more s a b c n m t F e g h ls L =
    let within : n < length ls = subst (λ (xs : List (List ℕ)). n < length xs) (listed_only s F.lines ls F.listed L) F.within in
    let line : joined (line_pieces t) ≡ get_or ls n [] = (follows_listed s ls n t L F).text in
    subst (Appends a c) (sym (joined_more ls n m e within)) (Appends-trans a b c (joined (take n ls)) (get_or ls n []) (g ls L) (subst (Appends b c) line h))

-- A beginning of the next line, after those that were taken.
pub took_part : (s : List ℕ) (a b c : Option (List ℕ)) (n : ℕ) (t : Line) → Follows s n t → Took s a b n → Began b c (joined (line_pieces t)) → TookPart s a c
took_part s a b c n t F g h =
    let ls = F.lines in
    let line : joined (line_pieces t) ≡ joined (get_or ls n [] ∷ []) = F.holds.text ∙ sym (joined_one (get_or ls n [])) in
    let till : Began a c (joined (take n ls ++ (get_or ls n [] ∷ []))) = began_later a b c (take n ls) (get_or ls n [] ∷ []) (g ls F.listed) (subst (Began b c) line h) in
    record {
      lines = ls;
      listed = F.listed;
      began = subst (λ (xs : List (List ℕ)). Began a c (joined xs)) (parts_at n ls F.within) (began_earlier a c (take n ls ++ (get_or ls n [] ∷ [])) (drop (suc n) ls) till);
    }

-- An output that took no more is handed nothing more.
pub part_kept : (s : List ℕ) (a b c : Option (List ℕ)) → TookPart s a b → Keeps b c → TookPart s a c
part_kept s a b c p k =
    record {
      lines = p.lines;
      listed = p.listed;
      began = record { taken = p.began.taken; left = p.began.left; whole = p.began.whole; appended = Appends-kept a b c p.began.taken p.began.appended k };
    }

-- What an output took of the first n lines, where r says whether it took them.
abbrev pub SoFar : {T E : Type 0} → List ℕ → Option (List ℕ) → Option (List ℕ) → ℕ → Result T E → Type 0
SoFar s a b n r = MatchResult r (λ _. Took s a b n) (λ _. TookPart s a b)

-- One line more.
pub so_far_more : {T E : Type 0} (s : List ℕ) (a b c : Option (List ℕ)) (n : ℕ) (t : Line) (q r : Result T E) → Follows s n t → SoFar s a b n q
    → MatchResult q (λ _. Wrote b c (joined (line_pieces t)) r) (λ _. IsErr r × Keeps b c) → SoFar s a c (n + 1) r
so_far_more s a b c n t (Ok x) (Ok y) F g h = took_more s a b c n (n + 1) t F refl g h
so_far_more s a b c n t (Ok x) (Err e) F g h = took_part s a b c n t F g h
so_far_more s a b c n t (Err e) (Ok y) F g h = absurd (true≢false (sym h.0))
so_far_more s a b c n t (Err e) (Err f) F g h = part_kept s a b c g h.1

-- The first line.
pub so_far_first : {T E : Type 0} (s : List ℕ) (a b : Option (List ℕ)) (t : Line) (r : Result T E) → Follows s 0 t → Wrote a b (joined (line_pieces t)) r → SoFar s a b 1 r
so_far_first s a b t (Ok x) F h = took_more s a a b 0 1 t F refl (took_none s a 0 refl) h
so_far_first s a b t (Err e) F h = took_part s a a b 0 t F (took_none s a 0 refl) h

-- All lines are the listing.
pub took_all : {T E : Type 0} (s : List ℕ) (a b : Option (List ℕ)) (n : ℕ) (r : Result T E) → Finished s n → SoFar s a b n r → MatchResult r (λ _. TookListing s a b) (λ _. TookPart s a b)
took_all s a b n (Err e) F g = g
took_all s a b n (Ok x) F g =
    record {
      lines = F.lines;
      listed = F.listed;
      appended = subst (λ (ls : List (List ℕ)). Appends a b (joined ls)) (take_all n F.lines (omega (arith, F.count))) (g F.lines F.listed);
    }
