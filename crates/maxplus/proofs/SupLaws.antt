-- Laws of the largest: an upper bound, the least one, and attained. Nothing else is used of it.
use mathlib.Core.Path.{◌≡◌, refl, ap, ◌∙◌}
use mathlib.Core.Logic.{◌⊎◌, inl, inr}
use mathlib.Core.List.{List, [], ◌∷◌, ◌++◌}
use Prim.Native.Nat.{ℕ, zero, suc, ◌<◌}
use native.Mathlib.Omega.{arith}
use native.Mathlib.Decide.{ℕ_discrete}
use lib.IntN.{ℤ}
use Rattle.maxplus.specs.Entry.{E, num, ◌≼◌, ◌⊗◌, ◌⊕◌}
use Rattle.maxplus.specs.Finite.{In, each}
use Rattle.maxplus.specs.Tables.{sup, sup_l}
use Rattle.maxplus.proofs.FiniteLaws.{in_app, in_left, in_right}
use Rattle.maxplus.proofs.EntryLaws.{◌▸◌, ≼_anti, ≼_absent, ≼_of, ≼_back, ⊕_l, ⊕_r, ⊕_or, ⊕_lub, ⊗_comm, ⊗_absent, distrib}

pub sup_ub : (n : ℕ) (f : ℕ → E) (j : ℕ) → j < n → f j ≼ sup n f
unfolding sup
sup_ub zero f j h = let e : ⊥ = omega arith in absurd e
sup_ub (suc n) f j h = go (sup_ub n f j) (ℕ_discrete j n)
  where
    go : (j < n → f j ≼ sup n f) → Dec (j ≡ n) → f j ≼ f n ⊕ sup n f
    go r (yes e) = rw e (⊕_l _ _)
    go r (no e) = r (omega arith) ▸ ⊕_r _ _

pub sup_lub : (n : ℕ) (f : ℕ → E) {c : E} → ((j : ℕ) → j < n → f j ≼ c) → sup n f ≼ c
unfolding sup
sup_lub zero f {c} h = ≼_absent c
sup_lub (suc n) f {c} h = ⊕_lub (h n (omega arith)) (sup_lub n f (λ j k. h j (omega arith)))

-- what is present below a max is below one of its parts
pub sup_at : (n : ℕ) (f : ℕ → E) {z : ℤ} → num z ≼ sup n f → (j : ℕ) × (j < n) × (num z ≼ f j)
unfolding sup
sup_at zero f {z} h = absurd h.un
sup_at (suc n) f {z} h = go (sup_at n f) (⊕_or (f n) (sup n f))
  where
    go : (num z ≼ sup n f → (j : ℕ) × (j < n) × (num z ≼ f j)) → (f n ⊕ sup n f ≡ f n) ⊎ (f n ⊕ sup n f ≡ sup n f) →
        (j : ℕ) × (j < suc n) × (num z ≼ f j)
    go r (inl e) = (n, omega arith, rw e at h)
    go r (inr e) = let t = r (rw e at h) in (t.0, omega arith, t.2)

pub sup_mono : (n : ℕ) {f g : ℕ → E} → ((j : ℕ) → j < n → f j ≼ g j) → sup n f ≼ sup n g
sup_mono n {f} {g} h = sup_lub n f (λ j k. h j k ▸ sup_ub n g j k)

pub sup_ext : (n : ℕ) {f g : ℕ → E} → ((j : ℕ) → j < n → f j ≡ g j) → sup n f ≡ sup n g
sup_ext n {f} {g} h = ≼_anti (sup_mono n (λ j k. ≼_of (h j k))) (sup_mono n (λ j k. ≼_back (h j k)))

pub sup_⊗ : (n : ℕ) (a : E) (f : ℕ → E) → a ⊗ sup n f ≡ sup n (λ j. a ⊗ f j)
unfolding sup
sup_⊗ zero a f = ⊗_absent a
sup_⊗ (suc n) a f = distrib a (f n) (sup n f) ∙ ap (λ x. a ⊗ f n ⊕ x) (sup_⊗ n a f)

pub sup_comm : (n m : ℕ) (f : ℕ → ℕ → E) → sup n (λ i. sup m (λ j. f i j)) ≡ sup m (λ j. sup n (λ i. f i j))
sup_comm n m f = ≼_anti (half n m f) (half m n (λ i j. f j i))
  where
    half : (n m : ℕ) (f : ℕ → ℕ → E) → sup n (λ i. sup m (λ j. f i j)) ≼ sup m (λ j. sup n (λ i. f i j))
    half n m f = sup_lub n _ (λ i hi. sup_lub m _ (λ j hj. sup_ub n (λ i. f i j) i hi ▸ sup_ub m (λ j. sup n (λ i. f i j)) j hj))

pub sup_⊗r : (n : ℕ) (a : E) (f : ℕ → E) → sup n f ⊗ a ≡ sup n (λ j. f j ⊗ a)
sup_⊗r n a f = ⊗_comm _ a ∙ sup_⊗ n a f ∙ sup_ext n (λ j h. ⊗_comm a (f j))

-- ---- over a list
module _ {A : Type 0} where
  pub sup_l_ub : (l : List A) (f : A → E) (a : A) → In a l → f a ≼ sup_l l f
  unfolding sup_l
  sup_l_ub [] f a x' = elim x' [ ]
  sup_l_ub (b ∷ l) f a (inl e) = rw e (⊕_l _ _)
  sup_l_ub (b ∷ l) f a (inr h) = sup_l_ub l f a h ▸ ⊕_r _ _

  pub sup_l_lub : (l : List A) (f : A → E) {c : E} → ((a : A) → In a l → f a ≼ c) → sup_l l f ≼ c
  unfolding sup_l
  sup_l_lub [] f {c} h = ≼_absent c
  sup_l_lub (b ∷ l) f {c} h = ⊕_lub (h b (inl refl)) (sup_l_lub l f (λ a k. h a (inr k)))

  pub sup_l_at : (l : List A) (f : A → E) {z : ℤ} → num z ≼ sup_l l f → (a : A) × In a l × (num z ≼ f a)
  unfolding sup_l
  sup_l_at [] f {z} h = absurd h.un
  sup_l_at (b ∷ l) f {z} h = go (sup_l_at l f) (⊕_or (f b) (sup_l l f))
    where
      go : (num z ≼ sup_l l f → (a : A) × In a l × (num z ≼ f a)) → (f b ⊕ sup_l l f ≡ f b) ⊎ (f b ⊕ sup_l l f ≡ sup_l l f) →
          (a : A) × In a (b ∷ l) × (num z ≼ f a)
      go r (inl e) = (b, inl refl, rw e at h)
      go r (inr e) = let t = r (rw e at h) in (t.0, inr t.1, t.2)

  pub sup_l_⊗ : (a : E) (l : List A) (f : A → E) → a ⊗ sup_l l f ≡ sup_l l (λ b. a ⊗ f b)
  unfolding sup_l
  sup_l_⊗ a [] f = ⊗_absent a
  sup_l_⊗ a (b ∷ l) f = distrib a (f b) (sup_l l f) ∙ ap (λ x. a ⊗ f b ⊕ x) (sup_l_⊗ a l f)

  pub sup_l_same : (l : List A) {f g : A → E} → ((a : A) → In a l → f a ≡ g a) → sup_l l f ≡ sup_l l g
  sup_l_same l {f} {g} h = ≼_anti (sup_l_lub l f (λ a k. ≼_of (h a k) ▸ sup_l_ub l g a k)) (sup_l_lub l g (λ a k. ≼_back (h a k) ▸ sup_l_ub l f a k))

  -- one more at the end
  pub sup_l_end : (l : List A) (a : A) (f : A → E) → sup_l (l ++ a ∷ []) f ≡ f a ⊕ sup_l l f
  sup_l_end l a f = ≼_anti
      (sup_l_lub (l ++ a ∷ []) f (λ b h. elim (in_app l (a ∷ []) b h) [
        | inl i ↦ sup_l_ub l f b i ▸ ⊕_r _ _
        | inr i ↦ elim i [ inl e ↦ rw e (⊕_l _ _) | inr j ↦ absurd j ]
      ]))
      (⊕_lub (sup_l_ub (l ++ a ∷ []) f a (in_right l (a ∷ []) a (inl refl)))
      (sup_l_lub l f (λ b h. sup_l_ub (l ++ a ∷ []) f b (in_left l (a ∷ []) b h))))

  -- the largest over a list of k places is the largest over its places
  pub sup_l_each : (k : ℕ) (g : ℕ → A) (f : A → E) → sup_l (each k (λ i. g i ∷ [])) f ≡ sup k (λ i. f (g i))
  unfolding sup sup_l each
  sup_l_each zero g f = refl
  sup_l_each (suc k) g f = sup_l_end (each k (λ i. g i ∷ [])) (g k) f ∙ ap (λ x. f (g k) ⊕ x) (sup_l_each k g f)
