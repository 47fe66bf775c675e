-- Laws of the products of tables and vectors.
use mathlib.Core.Path.{◌≡◌, refl, sym, ap}
use mathlib.Core.Logic.{◌⊎◌, inl, inr}
use mathlib.Core.Bool.{Bool, true, false, cond}
use Prim.Native.Nat.{ℕ, ◌<◌}
use lib.Dec.{T, eqb, eqb_refl, eqb→eq}
use lib.IntN.{ℤ}
use Rattle.maxplus.specs.Entry.{E, absent, num, ◌≼◌, ◌⊗◌, ◌⊕◌, unit}
use Rattle.maxplus.specs.Tables.{Vec, Mat, mv, mm, idm}
use Rattle.maxplus.proofs.EntryLaws.{◌▸◌, ≼_absent, ⊕_l, ⊕_r, ⊕_lub, ⊗_right, ⊗_assoc, ⊗_nothing, ⊗_unit, distrib, ⊗_left_comm}
use Rattle.maxplus.proofs.SupLaws.{sup_ub, sup_lub, sup_mono, sup_ext, sup_⊗, sup_comm, sup_⊗r}

-- (A B) x is A (B x), for A with m columns and B with n
pub mv_mm : (m n : ℕ) (A B : Mat) (x : Vec) (i : ℕ) → mv n (mm m A B) x i ≡ mv m A (mv n B x) i
unfolding mv mm
mv_mm m n A B x i = simp (sup_⊗r, sup_⊗, ⊗_assoc) (sup_comm n m (λ k j. A i j ⊗ (B j k ⊗ x k)))

pub idm_same : (i : ℕ) → idm i i ≡ unit
unfolding idm
idm_same i = go (eqb i i) (eqb_refl i)
  where
    go : (b : Bool) → T b → cond b unit absent ≡ unit
    go true t = refl
    go false t = absurd t

pub idm_other : (i j : ℕ) → ¬ (j ≡ i) → idm i j ≡ absent
unfolding idm
idm_other i j h = go (eqb i j) (eqb→eq i j)
  where
    go : (b : Bool) → (T b → i ≡ j) → cond b unit absent ≡ absent
    go true e = absurd (h (sym (e tt)))
    go false e = refl

pub idm_in : (i j : ℕ) (a c : E) → (i ≡ j → a ≼ c) → idm i j ⊗ a ≼ c
unfolding idm
idm_in i j a c h = go (eqb i j) (eqb→eq i j)
  where
    go : (b : Bool) → (T b → i ≡ j) → cond b unit absent ⊗ a ≼ c
    go true e = rw ⊗_unit (h (e tt))
    go false e = rw ⊗_nothing (≼_absent c)

pub idm_eq : (i j : ℕ) {z : ℤ} → num z ≼ idm i j → i ≡ j
unfolding idm
idm_eq i j {z} h = go (eqb i j) (eqb→eq i j) h
  where
    go : (b : Bool) → (T b → i ≡ j) → num z ≼ cond b unit absent → i ≡ j
    go true e q = e tt
    go false e q = absurd q.un

pub idm_or : (i j : ℕ) → (idm i j ≡ unit) ⊎ (idm i j ≡ absent)
unfolding idm
idm_or i j = go (eqb i j)
  where
    go : (b : Bool) → (cond b unit absent ≡ unit) ⊎ (cond b unit absent ≡ absent)
    go true = inl refl
    go false = inr refl

module _ (n : ℕ) where
  pub mv_mono : (M : Mat) (x y : Vec) (i : ℕ) → ((j : ℕ) → j < n → x j ≼ y j) → mv n M x i ≼ mv n M y i
  unfolding mv
  mv_mono M x y i h = sup_mono n (λ j k. ⊗_right _ (h j k))

  pub mv_shift : (M : Mat) (a : E) (x : Vec) (i : ℕ) → mv n M (λ j. a ⊗ x j) i ≡ a ⊗ mv n M x i
  unfolding mv
  mv_shift M a x i = simp (sup_⊗) (sup_ext n (λ j h. ⊗_left_comm _ _ _))

  pub mv_ext : (M : Mat) (x y : Vec) (i : ℕ) → ((j : ℕ) → j < n → x j ≡ y j) → mv n M x i ≡ mv n M y i
  unfolding mv
  mv_ext M x y i h = sup_ext n (λ j k. ap (λ e. M i j ⊗ e) (h j k))

  pub mv_⊕ : (M : Mat) (x y : Vec) (i : ℕ) → mv n M (λ j. x j ⊕ y j) i ≼ mv n M x i ⊕ mv n M y i
  unfolding mv
  mv_⊕ M x y i = sup_lub n _ (λ j h. rw distrib (⊕_lub
      (sup_ub n (λ j. M i j ⊗ x j) j h ▸ ⊕_l _ _)
      (sup_ub n (λ j. M i j ⊗ y j) j h ▸ ⊕_r _ _)))

  -- a part of a product that is there
  pub mv_at : (M : Mat) (x : Vec) (i j : ℕ) → j < n → M i j ⊗ x j ≼ mv n M x i
  unfolding mv
  mv_at M x i j h = sup_ub n (λ j. M i j ⊗ x j) j h
