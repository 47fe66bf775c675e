-- Lists in strict order, and the members of a list that pass a test, in order and once each.
use Rattle.std.specs.Prelude.{◌≡◌, List, [], ◌∷◌}
use Rattle.maxplus.specs.Finite.{In}

pub data Cmp {A : Type 0} (lt : A → A → Type 0) (a b : A) : Type 0 where
  less : lt a b → Cmp lt a b
  same : a ≡ b → Cmp lt a b
  more : lt b a → Cmp lt a b

pub record Strict {A : Type 0} (lt : A → A → Type 0) : Type 0 where
  pub irrefl : (a : A) → ¬ (lt a a)
  pub trans : (a b c : A) → lt a b → lt b c → lt a c
  pub cmp : (a b : A) → Cmp lt a b

module _ {A : Type 0} (lt : A → A → Type 0) (S : Strict lt) where
  abbrev pub Sorted : List A → Type 0
  Sorted [] = Unit {0}
  Sorted (a ∷ l) = ((b : A) → In b l → lt a b) × Sorted l

  -- a at its place, unless it is there
  unfoldable pub put : A → List A → List A
  put a [] = a ∷ []
  put a (b ∷ l) = elim (S.cmp a b) [ less h ↦ a ∷ b ∷ l | same h ↦ b ∷ l | more h ↦ b ∷ put a l ]

  unfoldable pub sift : {P : A → Type 0} → ((a : A) → Dec (P a)) → List A → List A
  sift d [] = []
  sift d (a ∷ l) = elim (d a) [ yes h ↦ put a (sift d l) | no h ↦ sift d l ]
