-- Equal numbers; tests; sums; decisions below a bound and over a list; who is in a list that is built.
use mathlib.Core.Path.{◌≡◌, refl, ap, ap₂, sym}
use mathlib.Core.Logic.{◌⊎◌, inl, inr, ◌↔◌}
use mathlib.Core.List.{List, [], ◌∷◌, ◌++◌}
use mathlib.Core.Bool.{Bool, true, false, cond, not, ◌&&◌, decide}
use Prim.Native.Nat.{ℕ, zero, suc, ◌+◌, ◌<◌}
use native.Mathlib.Omega.{arith}
use native.Mathlib.Decide.{map_dec, ℕ_discrete}
use lib.Dec.{T, eqb}
use lib.ListN.{length, get_or}
use borrow.Author.Tests.{eqb-true, eqb-false}
use Rattle.maxplus.specs.Finite.{In, each, map_l, sum}

-- ---- tests: one passes or does not, and two of them together
pub test : (b : Bool) → T b ⊎ T (not b)
test true = inl tt
test false = inr tt

pub both : (p q : Bool) → T (p && q) ↔ (T p × T q)
both true q = (λ t. (tt, t), λ t. t.1)
both false q = (λ t. absurd t, λ t. t.0)

pub cond_yes : {A : Type 0} (b : Bool) (x y : A) → T b → cond b x y ≡ x
cond_yes true x y h = refl
cond_yes false x y h = absurd h

pub cond_no : {A : Type 0} (b : Bool) (x y : A) → T (not b) → cond b x y ≡ y
cond_no true x y h = absurd h
cond_no false x y h = refl

-- ---- sums of the same numbers
pub sum_ext : (n : ℕ) (f g : ℕ → ℕ) → ((j : ℕ) → j < n → f j ≡ g j) → sum n f ≡ sum n g
unfolding sum
sum_ext zero f g h = refl
sum_ext (suc n) f g h = ap₂ ◌+◌ (sum_ext n f g (λ j q. h j (omega arith))) (h n (omega arith))

-- ---- equal numbers
pub equal : (a b : ℕ) → a ≡ b → eqb a b ≡ true
equal a b e = go (eqb a b) (eqb-false a b)
  where
    go : (x : Bool) → (x ≡ false → a ≡ b → ⊥) → x ≡ true
    go true h = refl
    go false h = absurd (h refl e)

pub unequal : (a b : ℕ) → ¬ (a ≡ b) → eqb a b ≡ false
unequal a b f = go (eqb a b) (eqb-true a b)
  where
    go : (x : Bool) → (x ≡ true → a ≡ b) → x ≡ false
    go true h = absurd (f (h refl))
    go false h = refl

-- ---- decisions below a bound
unfoldable pub all_or : (P : ℕ → Type 0) → ((k : ℕ) → Dec (P k)) → (n : ℕ) →
    ((k : ℕ) → k < n → P k) ⊎ ((k : ℕ) × (k < n) × ¬ (P k))
all_or P d zero = inl (λ k h. let e : ⊥ = omega arith in absurd e)
all_or P d (suc n) = go (all_or P d n) (d n)
  where
    go : ((k : ℕ) → k < n → P k) ⊎ ((k : ℕ) × (k < n) × ¬ (P k)) → Dec (P n) →
        ((k : ℕ) → k < suc n → P k) ⊎ ((k : ℕ) × (k < suc n) × ¬ (P k))
    go (inr t) e = inr (t.0, omega arith, t.2)
    go (inl f) (no e) = inr (n, omega arith, e)
    go (inl f) (yes e) = inl (λ k h. elim (ℕ_discrete k n) [ yes r ↦ rw r e | no r ↦ f k (omega arith) ])

unfoldable pub all_dec : (P : ℕ → Type 0) → ((k : ℕ) → Dec (P k)) → (n : ℕ) → Dec ((k : ℕ) → k < n → P k)
all_dec P d n = elim (all_or P d n) [ inl f ↦ yes f | inr t ↦ no (λ f. t.2 (f t.0 t.1)) ]

-- some member of a list
unfoldable pub any_dec : {A : Type 0} (P : A → Type 0) → ((a : A) → Dec (P a)) → (l : List A) → Dec ((a : A) × In a l × P a)
any_dec P d [] = no (λ t. absurd t.1)
any_dec {A} P d (b ∷ l) = go (any_dec P d l) (d b)
  where
    go : Dec ((a : A) × In a l × P a) → Dec (P b) → Dec ((a : A) × In a (b ∷ l) × P a)
    go (yes t) e = yes (t.0, inr t.1, t.2)
    go (no f) (yes e) = yes (b, inl refl, e)
    go (no f) (no e) = no (λ t. elim t.1 [ inl r ↦ e (rw r at t.2) | inr r ↦ f (t.0, r, t.2) ])

-- ---- decisions of compound statements
unfoldable pub dec_× : {P Q : Type 0} → Dec P → Dec Q → Dec (P × Q)
dec_× (yes a) (yes b) = yes (a, b)
dec_× (yes a) (no b) = no (λ t. b t.1)
dec_× (no a) b = no (λ t. a t.0)

unfoldable pub dec_¬ : {P : Type 0} → Dec P → Dec (¬ P)
dec_¬ (yes a) = no (λ f. f a)
dec_¬ (no a) = yes a

unfoldable pub dec_⊎ : {P Q : Type 0} → Dec P → Dec Q → Dec (P ⊎ Q)
dec_⊎ (yes a) b = yes (inl a)
dec_⊎ (no a) (yes b) = yes (inr b)
dec_⊎ (no a) (no b) = no (λ t. elim t [ inl p ↦ a p | inr q ↦ b q ])

unfoldable pub dec_→ : {P Q : Type 0} → Dec P → Dec Q → Dec (P → Q)
dec_→ (yes a) (yes b) = yes (λ p. b)
dec_→ (yes a) (no b) = no (λ f. b (f a))
dec_→ (no a) b = yes (λ p. absurd (a p))

-- some number below a bound
unfoldable pub some_dec : (P : ℕ → Type 0) → ((k : ℕ) → Dec (P k)) → (n : ℕ) → Dec ((k : ℕ) × (k < n) × P k)
some_dec P d n = go (all_or (λ k. ¬ (P k)) (λ k. dec_¬ (d k)) n)
  where
    go : ((k : ℕ) → k < n → ¬ (P k)) ⊎ ((k : ℕ) × (k < n) × ¬ (¬ (P k))) → Dec ((k : ℕ) × (k < n) × P k)
    go (inl f) = no (λ t. f t.0 t.1 t.2)
    go (inr (k, hk, nn)) = elim (d k) [ yes p ↦ yes (k, hk, p) | no p ↦ absurd (nn p) ]

-- a decision as a test
pub decide_yes : {P : Type 0} (d : Dec P) → T (decide d) → P
unfolding decide
decide_yes (yes p) t = p
decide_yes (no p) t = absurd t

pub decide_of : {P : Type 0} (d : Dec P) → P → T (decide d)
unfolding decide
decide_of (yes p) q = tt
decide_of (no p) q = absurd (p q)

pub decided_yes : {P : Type 0} (d : Dec P) → P → decide d ≡ true
unfolding decide
decided_yes (yes p) q = refl
decided_yes (no p) q = absurd (p q)

pub decided_no : {P : Type 0} (d : Dec P) → ¬ P → decide d ≡ false
unfolding decide
decided_no (yes p) q = absurd (q p)
decided_no (no p) q = refl

pub same_test? : (a b : Bool) → Dec (a ≡ b)
same_test? true true = yes refl
same_test? true false = no (λ e. let z : ◌≡◌ {A = ℕ} 0 1 = cc in let f : ⊥ = omega arith in f)
same_test? false true = no (λ e. let z : ◌≡◌ {A = ℕ} 0 1 = cc in let f : ⊥ = omega arith in f)
same_test? false false = yes refl

-- two lists are the same where their members are
pub same_list? : {A : Type 0} → ((a b : A) → Dec (a ≡ b)) → (l m : List A) → Dec (l ≡ m)
same_list? d [] [] = yes refl
same_list? d [] (b ∷ m) = no (λ e. let z : ◌≡◌ {A = ℕ} 0 1 = cc in let x : ⊥ = omega arith in x)
same_list? d (a ∷ l) [] = no (λ e. let z : ◌≡◌ {A = ℕ} 0 1 = cc in let x : ⊥ = omega arith in x)
same_list? d (a ∷ l) (b ∷ m) = map_dec (λ p. ap2 p) (λ e. (cc, cc)) (dec_× (d a b) (same_list? d l m))
  where
    ap2 : (a ≡ b) × (l ≡ m) → a ∷ l ≡ b ∷ m
    ap2 (p, q) = cc

-- ---- who is in a list
module _ {A : Type 0} where
  pub in_left : (l m : List A) (a : A) → In a l → In a (l ++ m)
  in_left [] m a x' = elim x' [ ]
  in_left (b ∷ l) m a (inl e) = inl e
  in_left (b ∷ l) m a (inr h) = inr (in_left l m a h)

  pub in_right : (l m : List A) (a : A) → In a m → In a (l ++ m)
  in_right [] m a h = h
  in_right (b ∷ l) m a h = inr (in_right l m a h)

  pub in_app : (l m : List A) (a : A) → In a (l ++ m) → In a l ⊎ In a m
  in_app [] m a h = inr h
  in_app (b ∷ l) m a (inl e) = inl (inl e)
  in_app (b ∷ l) m a (inr h) = elim (in_app l m a h) [ inl k ↦ inl (inr k) | inr k ↦ inr k ]

  pub in_each : (n : ℕ) (f : ℕ → List A) (a : A) (j : ℕ) → j < n → In a (f j) → In a (each n f)
  unfolding each
  in_each zero f a j h k = let e : ⊥ = omega arith in absurd e
  in_each (suc n) f a j h k = go (in_each n f a j) (ℕ_discrete j n)
    where
      go : (j < n → In a (f j) → In a (each n f)) → Dec (j ≡ n) → In a (each n f ++ f n)
      go ih (yes e) = in_right (each n f) (f n) a (rw e at k)
      go ih (no e) = in_left (each n f) (f n) a (ih (omega arith) k)

  pub each_in : (n : ℕ) (f : ℕ → List A) (a : A) → In a (each n f) → (j : ℕ) × (j < n) × In a (f j)
  unfolding each
  each_in zero f a h = absurd h
  each_in (suc n) f a h = go (each_in n f a) (in_app (each n f) (f n) a h)
    where
      go : (In a (each n f) → (j : ℕ) × (j < n) × In a (f j)) → In a (each n f) ⊎ In a (f n) → (j : ℕ) × (j < suc n) × In a (f j)
      go ih (inl k) = let t = ih k in (t.0, omega arith, t.2)
      go ih (inr k) = (n, omega arith, k)

module _ {A C : Type 0} where
  pub in_map : (f : A → C) (l : List A) (a : A) → In a l → In (f a) (map_l f l)
  unfolding map_l
  in_map f [] a x' = elim x' [ ]
  in_map f (b ∷ l) a (inl e) = inl (ap f e)
  in_map f (b ∷ l) a (inr h) = inr (in_map f l a h)

  pub map_in : (f : A → C) (l : List A) (c : C) → In c (map_l f l) → (a : A) × In a l × (c ≡ f a)
  unfolding map_l
  map_in f [] c h = absurd h
  map_in f (b ∷ l) c (inl e) = (b, inl refl, e)
  map_in f (b ∷ l) c (inr h) = let t = map_in f l c h in (t.0, inr t.1, t.2)

-- ---- the places of a list
pub in_at : {A : Type 0} (d : A) (l : List A) (k : ℕ) → k < length l → In (get_or l k d) l
in_at d [] k h = let e : ⊥ = omega arith in absurd e
in_at d (a ∷ l) zero h = inl refl
in_at d (a ∷ l) (suc k) h = inr (in_at d l k (omega arith))

pub in_place : {A : Type 0} (d : A) (l : List A) (a : A) → In a l → (k : ℕ) × (k < length l) × (get_or l k d ≡ a)
in_place d [] a h = absurd h
in_place d (b ∷ l) a (inl e) = (0, omega arith, sym e)
in_place d (b ∷ l) a (inr h) = let (k, i, e) = in_place d l a h in (suc k, omega arith, e)
