-- Laws of lists by their places: members in order, where a member is put in, and every member by the same function.
use mathlib.Core.Path.{◌≡◌, refl, ap}
use mathlib.Core.Logic.{inl, inr}
use mathlib.Core.List.{List, [], ◌∷◌}
use Prim.Native.Nat.{ℕ, zero, suc, ◌≤◌, ◌<◌}
use native.Mathlib.Omega.{arith}
use lib.ListN.{length, get_or, take, drop}
use Rattle.maxplus.specs.Finite.{In, map_l}
use Rattle.maxplus.specs.Sorted.{Cmp, less, same, more, Strict, Sorted, put}
use Rattle.maxplus.proofs.FiniteLaws.{in_at}
use Rattle.buffer.specs.Buffer.{between}

-- ---- members
module _ {A : Type 0} where
  pub in_take : (k : ℕ) (l : List A) (a : A) → In a (take k l) → In a l
  in_take zero l a h = absurd h
  in_take (suc k) [] a h = absurd h
  in_take (suc k) (b ∷ l) a (inl e) = inl e
  in_take (suc k) (b ∷ l) a (inr h) = inr (in_take k l a h)

  pub in_drop : (k : ℕ) (l : List A) (a : A) → In a (drop k l) → In a l
  in_drop zero l a h = h
  in_drop (suc k) [] a h = absurd h
  in_drop (suc k) (b ∷ l) a h = inr (in_drop k l a h)

-- ---- lists in order by their places
module _ {A : Type 0} (lt : A → A → Type 0) (S : Strict lt) where
  pub sorted_take : (k : ℕ) (l : List A) → Sorted lt S l → Sorted lt S (take k l)
  sorted_take zero l s = tt
  sorted_take (suc k) [] s = tt
  sorted_take (suc k) (a ∷ l) s = (λ b h. s.0 b (in_take k l b h), sorted_take k l s.1)

module _ {A : Type 0} (lt : A → A → Type 0) (S : Strict lt) (d : A) where
  pub sorted_at : (l : List A) (i j : ℕ) → Sorted lt S l → i < j → j < length l → lt (get_or l i d) (get_or l j d)
  sorted_at [] i j s h k = let e : ⊥ = omega arith in absurd e
  sorted_at (a ∷ l) i zero s h k = let e : ⊥ = omega arith in absurd e
  sorted_at (a ∷ l) zero (suc j) s h k = s.0 (get_or l j d) (in_at d l j (omega arith))
  sorted_at (a ∷ l) (suc i) (suc j) s h k = sorted_at l i j s.1 (omega arith) (omega arith)

  -- the place of a new member, and of one that is there
  pub put_new : (a : A) (l : List A) (k : ℕ) → k ≤ length l → ((i : ℕ) → i < k → lt (get_or l i d) a) → (k < length l → lt a (get_or l k d)) →
      put lt S a l ≡ between l k a
  unfolding put
  put_new a [] zero h f g = refl
  put_new a [] (suc k) h f g = let e : ⊥ = omega arith in absurd e
  put_new a (b ∷ l) zero h f g = go (S.cmp a b)
    where
      go : (c : Cmp lt a b) → elim c [ less h ↦ a ∷ b ∷ l | same h ↦ b ∷ l | more h ↦ b ∷ put lt S a l ] ≡ a ∷ b ∷ l
      go (less h) = refl
      go (same e) = absurd (S.irrefl b (rw e at (g (omega arith))))
      go (more h) = absurd (S.irrefl a (S.trans a b a (g (omega arith)) h))
  put_new a (b ∷ l) (suc k) h f g = go (put_new a l k (omega arith) (λ i q. f (suc i) (omega arith)) (λ q. g (omega arith))) (S.cmp a b)
    where
      go : put lt S a l ≡ between l k a → (c : Cmp lt a b) →
          elim c [ less h ↦ a ∷ b ∷ l | same h ↦ b ∷ l | more h ↦ b ∷ put lt S a l ] ≡ b ∷ between l k a
      go ih (less h) = absurd (S.irrefl a (S.trans a b a h (f 0 (omega arith))))
      go ih (same e) = absurd (S.irrefl b (rw e at (f 0 (omega arith))))
      go ih (more h) = ap (λ m. b ∷ m) ih

  pub put_there : (a : A) (l : List A) (k : ℕ) → k < length l → ((i : ℕ) → i < k → lt (get_or l i d) a) → a ≡ get_or l k d → put lt S a l ≡ l
  unfolding put
  put_there a [] k h f e = let x : ⊥ = omega arith in absurd x
  put_there a (b ∷ l) zero h f e = go (S.cmp a b)
    where
      go : (c : Cmp lt a b) → elim c [ less h ↦ a ∷ b ∷ l | same h ↦ b ∷ l | more h ↦ b ∷ put lt S a l ] ≡ b ∷ l
      go (less h) = absurd (S.irrefl b (rw e at h))
      go (same q) = refl
      go (more h) = absurd (S.irrefl b (rw e at h))
  put_there a (b ∷ l) (suc k) h f e = go (put_there a l k (omega arith) (λ i q. f (suc i) (omega arith)) e) (S.cmp a b)
    where
      go : put lt S a l ≡ l → (c : Cmp lt a b) → elim c [ less h ↦ a ∷ b ∷ l | same h ↦ b ∷ l | more h ↦ b ∷ put lt S a l ] ≡ b ∷ l
      go ih (less h) = absurd (S.irrefl a (S.trans a b a h (f 0 (omega arith))))
      go ih (same q) = refl
      go ih (more h) = ap (λ m. b ∷ m) ih

-- ---- every member by the same function
module _ {A C : Type 0} (f : A → C) where
  pub map_take : (k : ℕ) (l : List A) → map_l f (take k l) ≡ take k (map_l f l)
  unfolding map_l
  map_take zero l = refl
  map_take (suc k) [] = refl
  map_take (suc k) (a ∷ l) = ap (λ r. f a ∷ r) (map_take k l)

  pub map_drop : (k : ℕ) (l : List A) → map_l f (drop k l) ≡ drop k (map_l f l)
  unfolding map_l
  map_drop zero l = refl
  map_drop (suc k) [] = refl
  map_drop (suc k) (a ∷ l) = map_drop k l
