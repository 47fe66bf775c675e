-- Laws of packing: below n, rank and place go back and forth, and both go up. So a largest or a sum over all places is one over those that
-- pass, where nothing stands at the others.
use mathlib.Core.Path.{◌≡◌, refl, ap, ◌∙◌}
use mathlib.Core.Logic.{◌⊎◌, inl, inr}
use mathlib.Core.Bool.{Bool, true, false, cond, not, ◌&&◌}
use Prim.Native.Nat.{ℕ, zero, suc, ◌+◌, ◌≤◌, ◌<◌}
use native.Mathlib.Omega.{arith}
use native.Mathlib.Decide.{ℕ_discrete, dec_lt}
use lib.Dec.{T, eqb}
use Rattle.maxplus.specs.Entry.{E, absent, ◌≼◌}
use Rattle.maxplus.specs.Finite.{sum, count_if}
use Rattle.maxplus.specs.Tables.{sup}
use Rattle.maxplus.proofs.EntryLaws.{◌▸◌, ≼_anti, ≼_absent, ≼_of, ≼_back}
use Rattle.maxplus.proofs.FiniteLaws.{test, cond_yes, cond_no, equal, unequal}
use Rattle.maxplus.proofs.SupLaws.{sup_ub, sup_lub}
use Rattle.maxplus.specs.Packing.{rank, place, filled}

module _ (t : ℕ → Bool) where
  pub rank_next : (j : ℕ) → (rank t j ≤ rank t (suc j)) × (T (t j) → rank t (suc j) ≡ suc (rank t j)) ×
      (T (not (t j)) → rank t (suc j) ≡ rank t j)
  unfolding rank sum
  rank_next j = go (t j)
    where
      go : (b : Bool) → (rank t j ≤ rank t j + count_if b 1) × (T b → rank t j + count_if b 1 ≡ suc (rank t j)) ×
          (T (not b) → rank t j + count_if b 1 ≡ rank t j)
      go true = (omega arith, λ h. omega arith, λ h. absurd h)
      go false = (omega arith, λ h. absurd h, λ h. omega arith)

  rank_grows : (j l : ℕ) → j ≤ l → rank t j ≤ rank t l
  rank_grows j zero h = let e : j ≡ 0 = omega arith in rw e (omega arith)
  rank_grows j (suc l) h = go (rank_grows j l) (ℕ_discrete j (suc l))
    where
      go : (j ≤ l → rank t j ≤ rank t l) → Dec (j ≡ suc l) → rank t j ≤ rank t (suc l)
      go ih (yes e) = rw e (omega arith)
      go ih (no e) = let a = ih (omega arith) in let b = (rank_next l).0 in omega arith

  pub rank_few : (n : ℕ) → rank t n ≤ n
  unfolding rank sum
  rank_few zero = omega arith
  rank_few (suc n) = let a = rank_few n in let b = one (t n) in omega arith
    where
      one : (b : Bool) → count_if b 1 ≤ 1
      one true = omega arith
      one false = omega arith

  -- where all pass, nothing moves
  pub rank_all : (n : ℕ) → ((j : ℕ) → j < n → T (t j)) → rank t n ≡ n
  rank_all zero h = unfold rank sum in refl
  rank_all (suc n) h = let a = rank_all n (λ j hj. h j (omega arith)) in let b = (rank_next n).1 (h n (omega arith)) in omega arith

  -- a place that passes has a lower rank than any behind it
  pub rank_more : (j l : ℕ) → j < l → T (t j) → rank t j < rank t l
  rank_more j l h p = let a = (rank_next j).1 p in let b = rank_grows (suc j) l h in omega arith

  pub rank_one : (j l : ℕ) → T (t j) → T (t l) → rank t j ≡ rank t l → j ≡ l
  rank_one j l p q e = go (dec_lt j l) (dec_lt l j)
    where
      go : Dec (j < l) → Dec (l < j) → j ≡ l
      go (yes h) d = let a = rank_more j l h p in let x : ⊥ = omega arith in absurd x
      go (no h) (yes k) = let a = rank_more l j k q in let x : ⊥ = omega arith in absurd x
      go (no h) (no k) = omega arith

  -- the k-th of the places below n that pass
  pub record Placed (n k j : ℕ) : Type 0 where
    pub below : j < n
    pub passes : T (t j)
    pub ranked : rank t j ≡ k

  pub placed : (n k : ℕ) → k < rank t n → Placed n k (place t n k)
  unfolding place
  placed zero k h = let e : rank t 0 ≡ 0 = (unfold rank sum in refl) in let x : ⊥ = omega arith in absurd x
  placed (suc n) k h = go (placed n k) (test (t n)) (ℕ_discrete (rank t n) k)
    where
      later : Placed n k (place t n k) → Placed (suc n) k (place t n k)
      later p = record { below = let b = p.below in omega arith; passes = p.passes; ranked = p.ranked }

      go : (k < rank t n → Placed n k (place t n k)) → T (t n) ⊎ T (not (t n)) → Dec (rank t n ≡ k) →
          Placed (suc n) k (cond (t n && eqb (rank t n) k) n (place t n k))
      go ih (inl p) (yes e) = rw (equal (rank t n) k e) (here (t n) p)
        where
          here : (b : Bool) → T b → Placed (suc n) k (cond (b && true) n (place t n k))
          here true q = record { below = omega arith; passes = p; ranked = e }
          here false q = absurd q
      go ih (inl p) (no e) = rw (unequal (rank t n) k e) (past (t n) (later (ih (let a = (rank_next n).1 p in omega arith))))
        where
          past : (b : Bool) → Placed (suc n) k (place t n k) → Placed (suc n) k (cond (b && false) n (place t n k))
          past true q = q
          past false q = q
      go ih (inr p) d = past (t n) p (later (ih (let a = (rank_next n).2 p in omega arith)))
        where
          past : (b : Bool) → T (not b) → Placed (suc n) k (place t n k) → Placed (suc n) k (cond (b && eqb (rank t n) k) n (place t n k))
          past true r q = absurd r
          past false r q = q

  module _ (n : ℕ) where
    pub place_rank : (j : ℕ) → j < n → T (t j) → place t n (rank t j) ≡ j
    place_rank j h p = let q = placed n (rank t j) (rank_more j n h p) in rank_one _ j q.passes p q.ranked

    -- a largest to which only the places that pass add something
    pub sup_places : (f : ℕ → E) → ((j : ℕ) → j < n → T (not (t j)) → f j ≡ absent) → sup n f ≡ sup (rank t n) (λ k. f (place t n k))
    sup_places f h = ≼_anti (sup_lub n f (λ j hj. part j hj (test (t j))))
        (sup_lub (rank t n) _ (λ k hk. sup_ub n f (place t n k) (placed n k hk).below))
      where
        part : (j : ℕ) → j < n → T (t j) ⊎ T (not (t j)) → f j ≼ sup (rank t n) (λ k. f (place t n k))
        part j hj (inl p) = ≼_back (ap f (place_rank j hj p)) ▸ sup_ub (rank t n) (λ k. f (place t n k)) (rank t j) (rank_more j n hj p)
        part j hj (inr p) = ≼_of (h j hj p) ▸ ≼_absent _

    pub filled_place : {A : Type 0} (g f : ℕ → A) (k : ℕ) → k < rank t n → filled t g f (place t n k) ≡ f k
    unfolding filled
    filled_place g f k h = let p = placed n k h in cond_yes (t (place t n k)) _ _ p.passes ∙ ap f p.ranked

  pub filled_rank : {A : Type 0} (g f : ℕ → A) (j : ℕ) → T (t j) → filled t g f j ≡ f (rank t j)
  unfolding filled
  filled_rank g f j p = cond_yes (t j) _ _ p

  pub filled_other : {A : Type 0} (g f : ℕ → A) (j : ℕ) → T (not (t j)) → filled t g f j ≡ g j
  unfolding filled
  filled_other g f j p = cond_no (t j) _ _ p
