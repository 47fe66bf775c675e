-- Gathering the first b members of a list that pass a test, in order, one candidate after the other.
use mathlib.Core.Path.{◌≡◌, refl, ap}
use mathlib.Core.Logic.{inl, inr}
use mathlib.Core.List.{List, [], ◌∷◌, ◌++◌}
use Prim.Native.Nat.{ℕ, zero, suc}
use lib.ListN.{take}
use Rattle.maxplus.specs.Finite.{In}
use Rattle.maxplus.specs.Sorted.{Cmp, less, same, more, Strict, put, sift}
use Rattle.maxplus.proofs.FiniteLaws.{in_left, in_right, in_app}
use Rattle.maxplus.proofs.SortedLaws.{sorted_eq, put_in, in_put, put_sorted, sift_sorted, sift_in, in_sift}

module _ {A : Type 0} (lt : A → A → Type 0) (S : Strict lt) where
  pub sift_last : {P : A → Type 0} (d : (a : A) → Dec (P a)) (l : List A) (a : A) → P a → sift lt S d (l ++ a ∷ []) ≡ put lt S a (sift lt S d l)
  sift_last d l a p = sorted_eq lt S _ _ (sift_sorted lt S d _) (put_sorted lt S a _ (sift_sorted lt S d l)) to from
    where
      to : (c : A) → In c (sift lt S d (l ++ a ∷ [])) → In c (put lt S a (sift lt S d l))
      to c h = let (i, q) = sift_in lt S d (l ++ a ∷ []) c h in
          in_put lt S a _ c (elim (in_app l (a ∷ []) c i) [
            | inl k ↦ inr (in_sift lt S d l c k q)
            | inr k ↦ elim k [ inl e ↦ inl e | inr e ↦ absurd e ]
          ])

      from : (c : A) → In c (put lt S a (sift lt S d l)) → In c (sift lt S d (l ++ a ∷ []))
      from c h = elim (put_in lt S a _ c h) [
        | inl e ↦ in_sift lt S d _ c (in_right l (a ∷ []) c (inl e)) (rw e p)
        | inr k ↦ let (i, q) = sift_in lt S d l c k in in_sift lt S d _ c (in_left l (a ∷ []) c i) q
      ]

  pub sift_skip : {P : A → Type 0} (d : (a : A) → Dec (P a)) (l : List A) (a : A) → ¬ (P a) → sift lt S d (l ++ a ∷ []) ≡ sift lt S d l
  sift_skip d l a p = sorted_eq lt S _ _ (sift_sorted lt S d _) (sift_sorted lt S d l) to from
    where
      to : (c : A) → In c (sift lt S d (l ++ a ∷ [])) → In c (sift lt S d l)
      to c h = let (i, q) = sift_in lt S d (l ++ a ∷ []) c h in
          elim (in_app l (a ∷ []) c i) [ inl k ↦ in_sift lt S d l c k q | inr k ↦ elim k [ inl e ↦ absurd (p (rw (← e) q)) | inr e ↦ absurd e ] ]

      from : (c : A) → In c (sift lt S d l) → In c (sift lt S d (l ++ a ∷ []))
      from c h = let (i, q) = sift_in lt S d l c h in in_sift lt S d _ c (in_left l (a ∷ []) c i) q

  take_again : (b : ℕ) (l : List A) → take b (take (suc b) l) ≡ take b l
  take_again zero l = refl
  take_again (suc b) [] = refl
  take_again (suc b) (x ∷ l) = ap (λ m. x ∷ m) (take_again b l)

  take_twice : (b : ℕ) (l : List A) → take b (take b l) ≡ take b l
  take_twice zero l = refl
  take_twice (suc b) [] = refl
  take_twice (suc b) (x ∷ l) = ap (λ m. x ∷ m) (take_twice b l)

  take_cons : (b : ℕ) (c : A) (l : List A) → take b (c ∷ take b l) ≡ take b (c ∷ l)
  take_cons zero c l = refl
  take_cons (suc b) c l = ap (λ m. c ∷ m) (take_again b l)

  -- only the first b matter for the first b after a member is put in
  pub put_take : (b : ℕ) (a : A) (l : List A) → take b (put lt S a (take b l)) ≡ take b (put lt S a l)
  unfolding put
  put_take zero a l = refl
  put_take (suc b) a [] = refl
  put_take (suc b) a (c ∷ l) = go (put_take b a l) (S.cmp a c)
    where
      go : take b (put lt S a (take b l)) ≡ take b (put lt S a l) → (k : Cmp lt a c) →
          take {A = A} (suc b) (elim k [ less h ↦ a ∷ c ∷ take b l | same h ↦ c ∷ take b l | more h ↦ c ∷ put lt S a (take b l) ]) ≡
          take {A = A} (suc b) (elim k [ less h ↦ a ∷ c ∷ l | same h ↦ c ∷ l | more h ↦ c ∷ put lt S a l ])
      go ih (less h) = ap (λ m. a ∷ m) (take_cons b c l)
      go ih (same h) = ap (λ m. c ∷ m) (take_twice b l)
      go ih (more h) = ap (λ m. c ∷ m) ih
