-- Two tests that agree below n pack the same places; and packing goes on from one place to the next.
use mathlib.Core.Path.{◌≡◌, ap, sym, subst, ◌∙◌}
use mathlib.Core.Bool.{Bool, true, false, not, cond}
use Prim.Native.Nat.{ℕ, ◌+◌, ◌<◌}
use native.Mathlib.Omega.{arith}
use native.Mathlib.Numerals.{add-one}
use lib.Dec.{T}
use Rattle.maxplus.specs.Finite.{count_if}
use Rattle.maxplus.specs.Packing.{rank, place, filled}
use Rattle.maxplus.proofs.FiniteLaws.{sum_ext}
use Rattle.maxplus.proofs.PackingLaws.{rank_next, rank_one, placed, place_rank}

pub passes : {b : Bool} → b ≡ true → T b
passes e = subst T (sym e) tt

pub fails : {b : Bool} → b ≡ false → T (not b)
fails e = subst (λ b. T (not b)) (sym e) tt

-- ---- tests that agree. A place is the only one of its rank that passes, so equal ranks make equal places.
module _ (s t : ℕ → Bool) (n : ℕ) (agree : (j : ℕ) → j < n → s j ≡ t j) where
  pub rank_same : rank s n ≡ rank t n
  unfolding rank
  rank_same = sum_ext n _ _ (λ j h. ap (λ b. count_if b 1) (agree j h))

pub place_same : (s t : ℕ → Bool) (n : ℕ) → ((j : ℕ) → j < n → s j ≡ t j) → (k : ℕ) → k < rank s n → place s n k ≡ place t n k
place_same s t n agree k h =
    let p = placed s n k h in
    let q = placed t n k (subst (λ r. k < r) (rank_same s t n agree) h) in
    let e = rank_same s t (place s n k) (λ j l. agree j (let b = p.below in omega arith)) in
    rank_one t _ _ (subst T (agree _ p.below) p.passes) q.passes (sym e ∙ p.ranked ∙ sym q.ranked)

pub filled_same : {A : Type 0} (s t : ℕ → Bool) (n : ℕ) → ((j : ℕ) → j < n → s j ≡ t j) → (g f : ℕ → A) → (j : ℕ) → j < n →
    filled s g f j ≡ filled t g f j
unfolding filled
filled_same s t n agree g f j h =
    ap (λ b. cond b (f (rank s j)) (g j)) (agree j h) ∙
    ap (λ r. cond (t j) (f r) (g j)) (rank_same s t j (λ i l. agree i (omega arith)))

-- ---- one place more
module _ (t : ℕ → Bool) where
  pub rank_yes : (j : ℕ) → t j ≡ true → rank t (j + 1) ≡ rank t j + 1
  rank_yes j e = rw (add-one j) (let r = (rank_next t j).1 (passes e) in omega arith)

  pub rank_no : (j : ℕ) → t j ≡ false → rank t (j + 1) ≡ rank t j
  rank_no j e = rw add-one ((rank_next t j).2 (fails e))

  pub place_before : (j k : ℕ) → k < rank t j → place t (j + 1) k ≡ place t j k
  place_before j k h =
      let p = placed t (j + 1) k (rw add-one (let a = (rank_next t j).0 in omega arith)) in
      let q = placed t j k h in
      rank_one t _ _ p.passes q.passes (p.ranked ∙ sym q.ranked)

  pub place_here : (j : ℕ) → t j ≡ true → place t (j + 1) (rank t j) ≡ j
  place_here j e = place_rank t (j + 1) j (omega arith) (passes e)
