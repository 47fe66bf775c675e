-- Step 1: what keeps the order. It is what the star leaves unchanged, and a circle that gains keeps every timing out.
use mathlib.Core.Path.{◌≡◌}
use mathlib.Core.Logic.{◌↔◌}
use Prim.Native.Nat.{ℕ, zero, suc, ◌<◌}
use lib.IntN.{ℤ}
use Rattle.maxplus.specs.Entry.{num, ◌≼◌, ◌⊗◌, unit}
use Rattle.maxplus.specs.Tables.{Vec, Mat, mv, mm, power, star, NoGain}
use Rattle.maxplus.proofs.EntryLaws.{≼_refl, ◌▸◌, ≼_anti, ≼_back, ⊗_left, ⊗_right, ⊗_assoc, ⊗_unit, cancel, ≼_dec}
use Rattle.maxplus.proofs.FiniteLaws.{all_dec}
use Rattle.maxplus.proofs.SupLaws.{sup_ub, sup_lub, sup_⊗, sup_⊗r}
use Rattle.maxplus.proofs.TableLaws.{idm_in}
use Rattle.maxplus.proofs.StarLaws.{star_diag, step_star}
use Rattle.cue.specs.Vectors.{Keeps}

module _ (n : ℕ) (B : Mat) where
  pub keeps_rule : (x : Vec) → Keeps n B x → (i j : ℕ) → i < n → j < n → B i j ⊗ x j ≼ x i
  unfolding Keeps
  keeps_rule x k = k

  pub keeps_power : (x : Vec) → Keeps n B x → (k i j : ℕ) → i < n → j < n → power n B k i j ⊗ x j ≼ x i
  unfolding Keeps power mm
  keeps_power x h zero i j hi hj = idm_in i j _ _ (λ e. rw e (≼_refl _))
  keeps_power x h (suc k) i j hi hj =
      rw sup_⊗r (sup_lub n _ (λ l hl. rw ⊗_assoc (⊗_right _ (keeps_power x h k l j hl hj) ▸ h i l hi hl)))

  -- a circle that gains: no timing keeps the order
  pub none_keeps : (X : ℕ → ℤ) (k i : ℕ) → i < n → ¬ (power n B k i i ≼ unit) → Keeps n B (λ j. num (X j)) → ⊥
  none_keeps X k i hi h q = h (cancel (power n B k i i) (X i) (keeps_power (λ j. num (X j)) q k i i hi hi))

  pub keeps_star : (x : Vec) → Keeps n B x → (i j : ℕ) → i < n → j < n → star n B i j ⊗ x j ≼ x i
  unfolding star
  keeps_star x h i j hi hj = rw sup_⊗r (sup_lub n _ (λ k hk. keeps_power x h k i j hi hj))

  -- M* x is x
  abbrev pub Unchanged : Vec → Type 0
  Unchanged x = (i : ℕ) → i < n → mv n (star n B) x i ≡ x i

  pub keeps_unchanged : (x : Vec) → Keeps n B x → Unchanged x
  unfolding mv
  keeps_unchanged x h i hi = ≼_anti (sup_lub n _ (λ j hj. keeps_star x h i j hi hj))
      (≼_back (⊗_unit (x i)) ▸ ⊗_left _ (star_diag n B i hi) ▸ sup_ub n (λ j. star n B i j ⊗ x j) i hi)

  pub star_keeps : NoGain n B → (x : Vec) → Keeps n B (mv n (star n B) x)
  unfolding Keeps mv
  star_keeps np x i j hi hj = rw sup_⊗ (sup_lub n _ (λ k hk. rw (← ⊗_assoc) (⊗_left _ (step_star n B np i j k hi hj hk) ▸
      sup_ub n (λ k. star n B i k ⊗ x k) k hk)))

  pub unchanged_keeps : NoGain n B → (x : Vec) → Unchanged x → Keeps n B x
  unfolding Keeps
  unchanged_keeps np x h i j hi hj = rw (← h i hi, ← h j hj) (star_keeps np x i j hi hj)

  pub keeps_iff_unchanged : NoGain n B → (x : Vec) → Keeps n B x ↔ Unchanged x
  keeps_iff_unchanged np x = (keeps_unchanged x, unchanged_keeps np x)

  pub keeps_all : (x : Vec) → ((i : ℕ) → i < n → (j : ℕ) → j < n → B i j ⊗ x j ≼ x i) → Keeps n B x
  unfolding Keeps
  keeps_all x f i j hi hj = f i hi j hj

  unfoldable pub keeps? : (x : Vec) → Dec (Keeps n B x)
  keeps? x = go (all_dec (λ i. (j : ℕ) → j < n → B i j ⊗ x j ≼ x i) (λ i. all_dec (λ j. B i j ⊗ x j ≼ x i) (λ j. ≼_dec _ _) n) n)
    where
      go : Dec ((i : ℕ) → i < n → (j : ℕ) → j < n → B i j ⊗ x j ≼ x i) → Dec (Keeps n B x)
      go (yes f) = yes (keeps_all x f)
      go (no f) = no (λ k. f (λ i hi j hj. keeps_rule x k i j hi hj))
