-- "Absent is the paper's zero: below every number, and absent plus anything is absent."
-- ≼ is the order, ⊕ the larger, ⊗ the sum, inv the sign turned.
use Rattle.std.specs.Prelude.{◌≡◌, Bool, true, false, ℤ, pos}
use Rattle.maxplus.specs.Whole.{◌≤z◌, ◌+z◌, neg, leqz, maxz}

pub data E : Type 0 where
  absent : E
  num : ℤ → E

abbrev pub le_E : E → E → Type 0
le_E absent b = Unit {0}
le_E (num a) absent = ⊥
le_E (num a) (num b) = a ≤z b

infix 50 ◌≼◌
pub record ◌≼◌ (a b : E) : Type 0 where
  pub un : le_E a b

-- the same order as a test
abbrev pub leq_E : E → E → Bool
leq_E absent b = true
leq_E (num a) absent = false
leq_E (num a) (num b) = leqz a b

infixl 60 ◌⊗◌
unfoldable pub ◌⊗◌ : E → E → E
absent ⊗ b = absent
num a ⊗ absent = absent
num a ⊗ num b = num (a +z b)

infixl 55 ◌⊕◌
unfoldable pub ◌⊕◌ : E → E → E
absent ⊕ b = b
num a ⊕ absent = num a
num a ⊕ num b = num (maxz a b)

unfoldable pub inv : E → E
inv absent = absent
inv (num a) = num (neg a)

abbrev pub unit : E
unit = num (pos 0)

abbrev pub Present : E → Type 0
Present a = (z : ℤ) × (a ≡ num z)

abbrev pub present? : E → Bool
present? absent = false
present? (num a) = true

-- the number, where there is one
unfoldable pub val : E → ℤ
val absent = pos 0
val (num a) = a
