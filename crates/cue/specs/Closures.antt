-- A test for the lines of the list that needs no other candidate: the least sets of triggers that can be lowered together have a trigger in
-- common. That it is step 7's is shown in proofs/Closure.
use Rattle.std.specs.Prelude.{◌≡◌, ◌⊎◌, ℕ, ◌<◌, ℤ}
use Rattle.maxplus.specs.Whole.{neg}
use Rattle.maxplus.specs.Entry.{num, ◌⊗◌, Present}
use Rattle.maxplus.specs.Tables.{Vec, star}
use Rattle.maxplus.specs.Line.{Line, at}
use Rattle.cue.specs.Cue.{Cue, timing, overdue}
use Rattle.cue.specs.Vectors.{landing}
use Rattle.cue.specs.Method.{ask}

module _ (n : ℕ) (P : Cue) (D : ℤ) (c : Vec) where
  open P use {panels, lag, floor, due, order}

  -- A(k): M*(k,j) + c(j) = c(k)
  abbrev pub HeldBy : ℕ → ℕ → Type 0
  HeldBy k j = star n order k j ⊗ c j ≡ c k

  -- R: the triggers that reach the largest c(j) − q(j)
  abbrev pub Foremost : ℕ → Type 0
  Foremost j = c j ⊗ num (neg (due j)) ≡ overdue n (timing due) c

  -- the panel lands just where Δ asks, and all the triggers that reach its landing are in A(k)
  abbrev pub Fires : ℕ → ℕ → Type 0
  Fires k i = Present (floor i) ×
      ((ask n P D i ⊗ overdue n (timing due) c ≡ landing n P c i) × ((j : ℕ) → j < n → lag i j ⊗ c j ≡ landing n P c i →
      HeldBy k j))

  -- A(k), with A(R) where some panel fires
  abbrev pub Closure : ℕ → ℕ → Type 0
  Closure k j = HeldBy k j ⊎ (((i : ℕ) × (i < panels) × Fires k i) × ((l : ℕ) × (l < n) × (Foremost l × HeldBy l j)))

module _ (n : ℕ) (P : Cue) (D : ℤ) where
  -- the closures of c's triggers have one in common
  abbrev pub Common : Line n → Type 0
  Common c = (j : ℕ) × (j < n) × ((k : ℕ) → k < n → Present (at n c k) → Closure n P D (at n c) k j)
