-- The sets of the test for extreme, over the tables that it is given.
use Rattle.std.specs.Prelude.{◌≡◌, ◌⊎◌, List, ℕ, ◌<◌, get_or}
use Rattle.std.specs.Int.Bits.{bit_and}
use Rattle.maxplus.specs.Entry.{E, ◌≼◌, ◌⊗◌, Present}
use Rattle.maxplus.specs.Tables.{sup, Vec, Mat}
use Rattle.trigger_sets.specs.Sets.{Has, SetOf}

-- A(k), for an x(k) that is there: the j with S(k,j) + x(j) = x(k)
abbrev pub Held : ℕ → Mat → Vec → ℕ → ℕ → Type 0
Held n S x k j = Present (x k) × ((j < n) × (S k j ⊗ x j ≡ x k))

pub record HeldSets (n : ℕ) (S : Mat) (x : Vec) (r : List ℕ) : Type 0 where
  pub at : (k : ℕ) → k < n → SetOf (λ j. Held n S x k j) (get_or r k 0)

-- j reaches a, and no place is beyond
abbrev pub ReachesTop : ℕ → Vec → E → ℕ → Type 0
ReachesTop n t a j = (j < n) × (t j ≡ a) × ((k : ℕ) → k < n → t k ≼ a)

-- times t by trigger, what is asked for a, the largest lateness o: the panel has a floor and lands just where Δ asks
abbrev pub Tight : ℕ → Vec → E → E → Type 0
Tight n t a o = Present a × (a ⊗ o ≡ sup n t)

-- where there is a lateness, the triggers that reach the landing of a tight panel; else 64, which no set of six bits holds
pub record Reaching (n : ℕ) (t : Vec) (a o : E) (m : ℕ) : Type 0 where
  pub tight : Present o → Tight n t a o → SetOf (λ j. (j < n) × (t j ≡ sup n t)) m
  pub never : ¬ (Tight n t a o) → m ≡ 64

pub record TightSets (panels n : ℕ) (A : Mat) (a x : Vec) (o : E) (r : List ℕ) : Type 0 where
  pub at : (i : ℕ) → i < panels → Reaching n (λ j. A i j ⊗ x j) (a i) o (get_or r i 0)

-- some panel's triggers are all held
abbrev pub Inside : List ℕ → ℕ → ℕ → Type 0
Inside tight panels held = (i : ℕ) × (i < panels) × (bit_and (get_or tight i 0) held ≡ get_or tight i 0)

-- cl(k): what is held, with front where some panel fires
abbrev pub Closed : List ℕ → ℕ → ℕ → ℕ → ℕ → Type 0
Closed tight panels front held j = Has held j ⊎ (Inside tight panels held × Has front j)
