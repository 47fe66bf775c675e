-- A loop over places that does something at place j alone: what it has is b until j is passed, and then a.
use mathlib.Core.Path.{◌≡◌, ap}
use mathlib.Core.Bool.{Bool, cond}
use Prim.Native.Nat.{ℕ, ◌+◌, ◌≤◌, ◌<◌}
use native.Mathlib.Omega.{arith}
use native.Mathlib.Decide.{dec_lt}
use borrow.Author.Tests.{lt-ltb, le-ltb}
use lib.Dec.{ltb}

pub zero_le : (j : ℕ) → 0 ≤ j
zero_le j = omega arith

-- at place j
pub here : {k j : ℕ} → k ≡ j → (k ≤ j) × (j < k + 1)
here e = (omega arith, omega arith)

module _ {A : Type 0} (j : ℕ) (b a : A) where
  abbrev pub passed : ℕ → A
  passed k = cond (ltb j k) a b

  by : {t : Bool} (k : ℕ) → ltb j k ≡ t → passed k ≡ cond t a b
  by k e = ap (λ (t : Bool). cond t a b) e

  pub not_passed : {k : ℕ} → k ≤ j → passed k ≡ b
  not_passed {k} h = by k (le-ltb j k h)

  pub now_passed : {k : ℕ} → j < k → passed k ≡ a
  now_passed {k} h = by k (lt-ltb j k h)

  -- another place is passed
  pub pass_other : {k : ℕ} → ¬ (k ≡ j) → passed (k + 1) ≡ passed k
  pass_other {k} n = elim (dec_lt j k) [
    | yes h ↦ rw (by (k + 1) (lt-ltb j (k + 1) (omega arith)), by k (lt-ltb j k h))
    | no h ↦ rw (by (k + 1) (le-ltb j (k + 1) (omega (arith, n))), by k (le-ltb j k (omega arith)))
  ]
