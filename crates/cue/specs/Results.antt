-- How far from 0 the finite results of steps 1 to 7 are, for entries within given limits; and that a result fits signed 32 bits.
use Rattle.std.specs.Prelude.{◌≡◌, List, ℕ, ◌+◌, ◌^◌, ◌≤◌, ◌<◌, ℤ}
use Rattle.maxplus.specs.Whole.{up, dn}
use Rattle.maxplus.specs.Entry.{E, num, ◌⊗◌, inv}
use Rattle.maxplus.specs.Finite.{In}
use Rattle.maxplus.specs.Tables.{power, star}
use Rattle.maxplus.specs.Line.{Line, at}
use Rattle.cue.specs.Cue.{Cue}
use Rattle.cue.specs.Method as method
use Rattle.cue.specs.Method.{Selection, through, pull, mark, least, ask, need, ray}
use Rattle.cue.specs.Sizes.{size_limit, power_size, star_size, through_size, mark_down, mark_up, least_down, least_up, threshold_size, gain_size}
use Rattle.cue.specs.Sizes.{need_down, need_up, ray_down, ray_up, line_down}

-- −k ≤ a, and a ≤ k, where a is there
pub record Above (k : ℕ) (a : E) : Type 0 where
  pub above : (z : ℤ) → a ≡ num z → dn z ≤ k + up z

pub record Below (k : ℕ) (a : E) : Type 0 where
  pub below : (z : ℤ) → a ≡ num z → up z ≤ k + dn z

pub record Within (k l : ℕ) (a : E) : Type 0 where
  pub low : Above k a
  pub high : Below l a

-- −2³¹ < z < 2³¹, so that the least such number is free to stand for absent
pub record Signed32 (a : E) : Type 0 where
  pub fits : (z : ℤ) → a ≡ num z → (up z < 2 ^ 31) × (dn z < 2 ^ 31)

-- every component of every line fits
abbrev pub Fitting : (n : ℕ) → List (Line n) → Type 0
Fitting n L = (c : Line n) → In c L → (i : ℕ) → i < n → Signed32 (at n c i)

-- lags, floors and due marks that are there lie from −L to L, entries of the order table from −B to B
pub record Limited (n L B : ℕ) (P : Cue) : Type 0 where
  pub lags : (i j : ℕ) → i < P.panels → j < n → Within L L (P.lag i j)
  pub floors : (i : ℕ) → i < P.panels → Within L L (P.floor i)
  pub dues : (j : ℕ) → j < n → Within L L (num (P.due j))
  pub orders : (i j : ℕ) → i < n → j < n → Within B B (P.order i j)

-- each finite result, by its step, where K k l a says of a that −k to l holds it: powers, M*, d, r, Δ, the thresholds p(i) − Δ − r(j), what
-- the walk compares, w, candidates before the shift and after it, lines
pub record Results (L B : ℕ) (K : ℕ → ℕ → E → Type 0) (n : ℕ) (P : Cue) : Type 0 where
  pub powers : (k i j : ℕ) → k ≤ size_limit → i < n → j < n → K (power_size L B k) (power_size L B k) (power n P.order k i j)
  pub stars : (i j : ℕ) → i < n → j < n → K (star_size L B) (star_size L B) (star n P.order i j)
  pub throughs : (i j : ℕ) → i < P.panels → j < n → K (through_size L B) (through_size L B) (through n P i j)
  pub marks : (j : ℕ) → j < n → K (mark_down L B) (mark_up L B) (num (mark n P j))
  pub deviation : K (least_down L B) (least_up L B) (num (least n P))
  pub thresholds : (i j : ℕ) → i < P.panels → j < n → K (threshold_size L B) (threshold_size L B) (ask n P (least n P) i ⊗ num (pull n P j))
  pub gains : (i j : ℕ) → i < P.panels → j < n → K (gain_size L B) (gain_size L B) (through n P i j ⊗ inv (P.floor i))
  pub needs : (s : Selection) → In s (method.selections n P (least n P)) → (t : ℕ) → t < n →
      K (need_down L B) (need_up L B) (need n P (least n P) s t)
  pub rays : (s : Selection) → In s (method.selections n P (least n P)) → (t i : ℕ) → t < n → i < n →
      K (ray_down L B) (ray_up L B) (ray n P (least n P) s t i)
  pub candidates : (c : Line n) → In c (method.candidates n P (least n P)) → (i : ℕ) → i < n → K (line_down L B) 0 (at n c i)
  pub components : (c : Line n) → In c (method.lines n P) → (i : ℕ) → i < n → K (line_down L B) 0 (at n c i)
