-- The calls of a journal are a chain of calls, and there is one only.
use Prim.Native.Nat.{ℕ}
use mathlib.Core.Path.{◌≡◌, refl, sym, subst}
use mathlib.Core.List.{List, ◌∷◌}
use native.Mathlib.Omega.{arith}
use Rattle.bookform.specs.declared.Book.{Book}
use Rattle.bookform.specs.declared.answer.Answered.{Answered}
use Rattle.book.specs.Chains as chains
use Rattle.book.specs.Chains.{Call, Chain}
use Rattle.demands.proofs.Unique.{no_choice}
use Rattle.journal.specs.Places.{rest_after}
use Rattle.journal.specs.Journals.{Calls, ended, then}

-- the calls of a journal are a list of calls, each on the book and marks that the last one left
pub calls_chain : {b b' : Book} {m m' k k' v v' s : List ℕ} {cs : List Call} → Calls b m k v s cs b' m' k' v' → Chain b m k cs b' m' k'
calls_chain ended = chains.none
calls_chain (then s r n l w h C x) = chains.then s _ r n l w C (calls_chain x)

-- two calls of the same bytes, from the same book and buffers, are the same
pub calls_only : {b b₁ b₂ : Book} {m m₁ m₂ k k₁ k₂ v v₁ v₂ s : List ℕ} {cs ds : List Call} → Calls b m k v s cs b₁ m₁ k₁ v₁ → Calls b m k v s ds b₂ m₂ k₂ v₂ →
    (cs ≡ ds) × (b₁ ≡ b₂) × (m₁ ≡ m₂) × (k₁ ≡ k₂) × (v₁ ≡ v₂)
calls_only ended ended = (refl, refl, refl, refl, refl)
calls_only ended (then s r n l w h C x) = absurd (omega arith)
calls_only (then s r n l w h C x) ended = absurd (omega arith)
calls_only {b} {b₁} {b₂} {m} {m₁} {m₂} {k} {k₁} {k₂} {v} {v₁} {v₂} (then {cs = cs} s r n l w h C x) (then {cs = ds} t r' n' l' w' h' C' y) =
    let e = no_choice b m k v s r r' n n' l l' w w' C C' in
    let z : Calls r.book n l w (rest_after r.used s) ds b₂ m₂ k₂ v₂ =
    subst (λ (a : Answered). Calls a.book n l w (rest_after a.used s) ds b₂ m₂ k₂ v₂) (sym e.0)
    (subst (λ (i : List ℕ). Calls r'.book i l w (rest_after r'.used s) ds b₂ m₂ k₂ v₂) (sym e.1)
    (subst (λ (i : List ℕ). Calls r'.book n' i w (rest_after r'.used s) ds b₂ m₂ k₂ v₂) (sym e.2)
    (subst (λ (i : List ℕ). Calls r'.book n' l' i (rest_after r'.used s) ds b₂ m₂ k₂ v₂) (sym e.3) y))) in
    let u = calls_only x z in (
      λ i. record { record' = s; before = b; marks = m; second = k; preview = v; gave = e.0 i; left = e.1 i; left_second = e.2 i; left_preview = e.3 i } ∷ u.0 i,
      u.1,
      u.2,
      u.3,
      u.4,
    )
