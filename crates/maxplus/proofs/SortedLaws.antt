-- Laws of lists in strict order: two with the same members are equal; who is in a sifted list; listing one member after the other.
use mathlib.Core.Path.{◌≡◌, refl, ap₂, sym, ◌∙◌}
use mathlib.Core.Logic.{◌⊎◌, inl, inr, ◌↔◌}
use mathlib.Core.List.{List, [], ◌∷◌}
use Prim.Native.Nat.{suc, ◌≤◌}
use native.Mathlib.Omega.{arith}
use lib.ListN.{length}
use Rattle.maxplus.specs.Finite.{In}
use Rattle.maxplus.specs.Sorted.{Cmp, less, same, more, Strict, Sorted, put, sift}
use Rattle.maxplus.specs.Above.{gt?, above}

module _ {A : Type 0} (lt : A → A → Type 0) (S : Strict lt) where
  pub sorted_eq : (l m : List A) → Sorted lt S l → Sorted lt S m → ((a : A) → In a l → In a m) → ((a : A) → In a m → In a l) → l ≡ m
  sorted_eq [] [] s t f g = refl
  sorted_eq [] (b ∷ m) s t f g = absurd (g b (inl refl))
  sorted_eq (a ∷ l) [] s t f g = absurd (f a (inl refl))
  sorted_eq (a ∷ l) (b ∷ m) s t f g =
      ap₂ ◌∷◌ head (sorted_eq l m s.1 t.1 (λ c h. down c h (f c (inr h))) (λ c h. up c h (g c (inr h))))
    where
      head' : (a ≡ b) ⊎ In a m → (b ≡ a) ⊎ In b l → a ≡ b
      head' (inl e) q = e
      head' (inr h) (inl e) = sym e
      head' (inr h) (inr k) = absurd (S.irrefl a (S.trans a b a (s.0 b k) (t.0 a h)))

      head : a ≡ b
      head = head' (f a (inl refl)) (g b (inl refl))

      down : (c : A) → In c l → (c ≡ b) ⊎ In c m → In c m
      down c h (inl e) = absurd (S.irrefl a (rw (e ∙ sym head) at (s.0 c h)))
      down c h (inr k) = k

      up : (c : A) → In c m → (c ≡ a) ⊎ In c l → In c l
      up c h (inl e) = absurd (S.irrefl b (rw (e ∙ head) at (t.0 c h)))
      up c h (inr k) = k

  pub put_in : (a : A) (l : List A) (c : A) → In c (put lt S a l) → (c ≡ a) ⊎ In c l
  unfolding put
  put_in a [] c h = h
  put_in a (b ∷ l) c h = go (put_in a l c) (S.cmp a b) h
    where
      go : (In c (put lt S a l) → (c ≡ a) ⊎ In c l) → (k : Cmp lt a b) →
          In c (elim k [ less h ↦ a ∷ b ∷ l | same h ↦ b ∷ l | more h ↦ b ∷ put lt S a l ]) → (c ≡ a) ⊎ In c (b ∷ l)
      go ih (less k) h = h
      go ih (same k) h = inr h
      go ih (more k) (inl e) = inr (inl e)
      go ih (more k) (inr q) = elim (ih q) [ inl e ↦ inl e | inr e ↦ inr (inr e) ]

  pub in_put : (a : A) (l : List A) (c : A) → (c ≡ a) ⊎ In c l → In c (put lt S a l)
  unfolding put
  in_put a [] c h = h
  in_put a (b ∷ l) c h = go (in_put a l c) (S.cmp a b) h
    where
      go : ((c ≡ a) ⊎ In c l → In c (put lt S a l)) → (k : Cmp lt a b) → (c ≡ a) ⊎ In c (b ∷ l) →
          In c (elim k [ less h ↦ a ∷ b ∷ l | same h ↦ b ∷ l | more h ↦ b ∷ put lt S a l ])
      go ih (less k) h = h
      go ih (same k) (inl e) = inl (e ∙ k)
      go ih (same k) (inr h) = h
      go ih (more k) (inl e) = inr (ih (inl e))
      go ih (more k) (inr (inl e)) = inl e
      go ih (more k) (inr (inr e)) = inr (ih (inr e))

  pub put_sorted : (a : A) (l : List A) → Sorted lt S l → Sorted lt S (put lt S a l)
  unfolding put
  put_sorted a [] s = (λ b h. absurd h, tt)
  put_sorted a (b ∷ l) s = go (put_sorted a l s.1) (S.cmp a b)
    where
      go : Sorted lt S (put lt S a l) → (k : Cmp lt a b) →
          Sorted lt S (elim k [ less h ↦ a ∷ b ∷ l | same h ↦ b ∷ l | more h ↦ b ∷ put lt S a l ])
      go ih (less k) = (λ c h. elim h [ inl e ↦ rw e k | inr q ↦ S.trans a b c k (s.0 c q) ], s)
      go ih (same k) = s
      go ih (more k) = (λ c h. elim (put_in a l c h) [ inl e ↦ rw e k | inr q ↦ s.0 c q ], ih)

  pub sift_sorted : {P : A → Type 0} (d : (a : A) → Dec (P a)) (l : List A) → Sorted lt S (sift lt S d l)
  unfolding sift
  sift_sorted d [] = tt
  sift_sorted {P} d (a ∷ l) = go (sift_sorted d l) (d a)
    where
      go : Sorted lt S (sift lt S d l) → (k : Dec (P a)) → Sorted lt S (elim k [ yes h ↦ put lt S a (sift lt S d l) | no h ↦ sift lt S d l ])
      go ih (yes h) = put_sorted a (sift lt S d l) ih
      go ih (no h) = ih

  pub sift_in : {P : A → Type 0} (d : (a : A) → Dec (P a)) (l : List A) (c : A) → In c (sift lt S d l) → In c l × P c
  unfolding sift
  sift_in d [] c h = absurd h
  sift_in {P} d (a ∷ l) c h = go (sift_in d l c) (d a) h
    where
      go : (In c (sift lt S d l) → In c l × P c) → (k : Dec (P a)) → In c (elim k [ yes h ↦ put lt S a (sift lt S d l) | no h ↦ sift lt S d l ]) →
          In c (a ∷ l) × P c
      go ih (yes k) h = elim (put_in a (sift lt S d l) c h) [ inl e ↦ (inl e, rw e k) | inr q ↦ (inr (ih q).0, (ih q).1) ]
      go ih (no k) h = (inr (ih h).0, (ih h).1)

  pub in_sift : {P : A → Type 0} (d : (a : A) → Dec (P a)) (l : List A) (c : A) → In c l → P c → In c (sift lt S d l)
  unfolding sift
  in_sift d [] c h p = h
  in_sift {P} d (a ∷ l) c h p = go (λ h. in_sift d l c h p) (d a) h
    where
      go : (In c l → In c (sift lt S d l)) → (k : Dec (P a)) → (c ≡ a) ⊎ In c l →
          In c (elim k [ yes h ↦ put lt S a (sift lt S d l) | no h ↦ sift lt S d l ])
      go ih (yes k) (inl e) = in_put a _ c (inl e)
      go ih (yes k) (inr q) = in_put a _ c (inr (ih q))
      go ih (no k) (inl e) = absurd (k (rw e at p))
      go ih (no k) (inr q) = ih q

  -- ---- listing by "the least one above the last": what is left to list, and what finding the least does to it
  pub in_above : (a : A) (l : List A) (b : A) → In b (above lt S a l) ↔ (In b l × lt a b)
  unfolding above
  in_above a l b = (λ h. sift_in (gt? lt S a) l b h, λ h. in_sift (gt? lt S a) l b h.0 h.1)

  pub above_sorted : (a : A) (l : List A) → Sorted lt S (above lt S a l)
  unfolding above
  above_sorted a l = sift_sorted (gt? lt S a) l

  -- ---- sorting out what is wanted makes no list longer
  put_few : (a : A) (l : List A) → length (put lt S a l) ≤ suc (length l)
  unfolding put
  put_few a [] = omega arith
  put_few a (b ∷ l) = go (put_few a l) (S.cmp a b)
    where
      go : length (put lt S a l) ≤ suc (length l) → (c : Cmp lt a b) →
          length {A = A} (elim c [ less h ↦ a ∷ b ∷ l | same h ↦ b ∷ l | more h ↦ b ∷ put lt S a l ]) ≤ suc (suc (length l))
      go ih (less h) = omega arith
      go ih (same h) = omega arith
      go ih (more h) = omega arith

  pub sift_few : {Q : A → Type 0} (d : (a : A) → Dec (Q a)) (l : List A) → length (sift lt S d l) ≤ length l
  unfolding sift
  sift_few d [] = omega arith
  sift_few {Q} d (a ∷ l) = go (sift_few d l) (d a)
    where
      go : length (sift lt S d l) ≤ length l → (k : Dec (Q a)) →
          length {A = A} (elim k [ yes h ↦ put lt S a (sift lt S d l) | no h ↦ sift lt S d l ]) ≤ suc (length l)
      go ih (yes h) = omega (arith, put_few a (sift lt S d l))
      go ih (no h) = omega arith
