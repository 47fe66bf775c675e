-- Step 7's list of any lines C (document 01). What decides equality, order and combinations is maxplus's.
use Rattle.std.specs.Prelude.{List, [], ◌∷◌, ℕ}
use Rattle.maxplus.specs.Line.{Line, at, lt_l}
use Rattle.maxplus.specs.Sorted.{sift}
use Rattle.maxplus.specs.Combination.{Combination}
use Rattle.maxplus.proofs.FiniteLaws.{dec_¬}
use Rattle.maxplus.proofs.LineLaws.{strict, same?}
use Rattle.maxplus.proofs.CombinationLaws.{combination?}

module _ (n : ℕ) where
  -- "the other distinct candidates": the lines of C that differ from c
  unfoldable pub others : List (Line n) → Line n → List (Line n)
  others [] c = []
  others (d ∷ C) c = elim (same? n d c) [ yes e ↦ others C c | no e ↦ d ∷ others C c ]

  -- "no combination of the other distinct candidates, where here weights may also be absent"
  unfoldable pub needed? : (C : List (Line n)) (c : Line n) → Dec (¬ (Combination n (others C c) (at n c)))
  needed? C c = dec_¬ (combination? n (others C c) (at n c))

  -- "The list holds each distinct candidate that is [such]. … It is sorted by component 1, then 2 and so on, absent lowest."
  unfoldable pub minimal : List (Line n) → List (Line n)
  minimal C = sift (lt_l n) (strict n) (needed? C) C
