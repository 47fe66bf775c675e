-- Lists put together from finitely many parts, and mapped: part by part equal; by places, the length, what stands at one, another value
-- at one.
use mathlib.Core.Path.{◌≡◌, refl, ap, ap₂, sym, ◌∙◌}
use mathlib.Core.List.{List, [], ◌∷◌, ◌++◌}
use Prim.Native.Nat.{ℕ, zero, suc, ◌<◌}
use native.Mathlib.Omega.{arith}
use native.Mathlib.Decide.{ℕ_discrete, dec_lt}
use lib.ListN.{length, get_or, set, length-append, get_or-append}
use lib.Seq.{get_or-append_seam, set-append_left, set-append_seam}
use Rattle.maxplus.specs.Finite.{each, map_l}

module _ {A : Type 0} where
  -- a list of n places, with another value at place k
  pub length_each : (n : ℕ) (f : ℕ → A) → length (each n (λ j. f j ∷ [])) ≡ n
  unfolding each
  length_each zero f = refl
  length_each (suc n) f = let h = length_each n f in simp length-append (omega arith)

  pub each_same : (n : ℕ) (g h : ℕ → List A) → ((k : ℕ) → k < n → g k ≡ h k) → each n g ≡ each n h
  unfolding each
  each_same zero g h e = refl
  each_same (suc n) g h e = ap₂ ◌++◌ (each_same n g h (λ k q. e k (omega arith))) (e n (omega arith))

  pub each_set : (n k : ℕ) (f g : ℕ → A) (a : A) → k < n → a ≡ g k → ((j : ℕ) → j < n → ¬ (j ≡ k) → f j ≡ g j) →
      set (each n (λ j. f j ∷ [])) k a ≡ each n (λ j. g j ∷ [])
  unfolding each
  each_set zero k f g a q e h = let x : ⊥ = omega arith in absurd x
  each_set (suc n) k f g a q e h = go (λ p. each_set n k f g a p e (λ j p x. h j (omega arith) x)) (ℕ_discrete k n)
    where
      go : (k < n → set (each n (λ j. f j ∷ [])) k a ≡ each n (λ j. g j ∷ [])) → Dec (k ≡ n) →
          set (each n (λ j. f j ∷ []) ++ (f n ∷ [])) k a ≡ each n (λ j. g j ∷ []) ++ (g n ∷ [])
      go ih (yes r) = ap (λ i. set (each n (λ j. f j ∷ []) ++ (f n ∷ [])) i a) (r ∙ sym (length_each n f))
          ∙ set-append_seam (each n (λ j. f j ∷ [])) (f n) [] a
          ∙ ap₂ (λ l b. l ++ (b ∷ []))
          (each_same n _ _ (λ j p. ap (λ a. a ∷ []) (h j (omega arith) (λ x. let y : ⊥ = omega arith in y)))) (e ∙ ap g r)
      go ih (no r) = set-append_left (each n (λ j. f j ∷ [])) (f n ∷ []) k a (let p = length_each n f in omega arith)
          ∙ ap₂ (λ l b. l ++ (b ∷ [])) (ih (omega arith))
          (h n (omega arith) (λ x. r (sym x)))

  pub each_at : (n k : ℕ) (f : ℕ → A) (d : A) → k < n → get_or (each n (λ j. f j ∷ [])) k d ≡ f k
  unfolding each
  each_at zero k f d h = let e : ⊥ = omega arith in absurd e
  each_at (suc n) k f d h = go (λ q. each_at n k f d q) (dec_lt k n)
    where
      go : (k < n → get_or (each n (λ j. f j ∷ [])) k d ≡ f k) → Dec (k < n) → get_or (each n (λ j. f j ∷ []) ++ (f n ∷ [])) k d ≡ f k
      go ih (yes q) = get_or-append (each n (λ j. f j ∷ [])) (f n ∷ []) d k (let p = length_each n f in omega arith) ∙ ih q
      go ih (no q) = let e : k ≡ n = omega arith in
          ap (λ i. get_or (each n (λ j. f j ∷ []) ++ (f n ∷ [])) i d) (e ∙ sym (length_each n f))
          ∙ get_or-append_seam (each n (λ j. f j ∷ [])) (f n) [] d ∙ ap f (sym e)

module _ {A C : Type 0} (h : A → C) where
  pub map_append : (a b : List A) → map_l h (a ++ b) ≡ map_l h a ++ map_l h b
  unfolding map_l
  map_append [] b = refl
  map_append (x ∷ a) b = ap (λ (l : List C). h x ∷ l) (map_append a b)

  pub map_each : (n : ℕ) (g : ℕ → List A) → map_l h (each n g) ≡ each n (λ j. map_l h (g j))
  unfolding each map_l
  map_each zero g = refl
  map_each (suc n) g = map_append (each n g) (g n) ∙ ap (λ (l : List C). l ++ map_l h (g n)) (map_each n g)

  pub map_length : (l : List A) → length (map_l h l) ≡ length l
  unfolding map_l
  map_length [] = refl
  map_length (x ∷ l) = ap suc (map_length l)

  pub map_at : (l : List A) (k : ℕ) (a : A) (c : C) → k < length l → get_or (map_l h l) k c ≡ h (get_or l k a)
  unfolding map_l
  map_at [] k a c q = let e : ⊥ = omega arith in absurd e
  map_at (b ∷ l) zero a c q = refl
  map_at (b ∷ l) (suc k) a c q = map_at l k a c (omega arith)

pub map_twice : {A C : Type 0} (g : A → A) (h k : A → C) → ((a : A) → h (g a) ≡ k a) → (l : List A) → map_l h (map_l g l) ≡ map_l k l
unfolding map_l
map_twice g h k e [] = refl
map_twice g h k e (x ∷ l) = ap₂ ◌∷◌ (e x) (map_twice g h k e l)
