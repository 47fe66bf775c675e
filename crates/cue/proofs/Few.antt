-- How many steps, selections and lines there can be at six panels and six triggers: 6 + 6² + … + 6⁶ steps, 6⁶ selections, and six times as
-- many lines.
use Prim.Native.Nat.{ℕ, zero, suc, ◌*◌, ◌^◌, ◌≤◌}
use native.Mathlib.Omega.{arith}
use native.Mathlib.Decide.{le_ind}
use native.Mathlib.Nat.{le_trans, pow-le-pow_left, pow-le-pow_right}
use mathlib.Core.List.{List}
use lib.Dec.{lit<}
use lib.ListN.{length, length-append}
use Rattle.maxplus.specs.Finite.{each, map_l}
use Rattle.maxplus.specs.Line.{lt_l}
use Rattle.maxplus.proofs.EachLaws.{map_length}
use Rattle.maxplus.proofs.LineLaws.{strict}
use Rattle.maxplus.proofs.SortedLaws.{sift_few}
use Rattle.cue.specs.Minimal.{minimal, needed?}
use Rattle.cue.specs.Cue.{Cue}
use Rattle.cue.specs.Method.{least, steps, selections, candidate, candidates, lines, floor_panels}
use Rattle.cue.proofs.Walk.{selections_bound, steps_bound, floor_panels_few}
use Rattle.cue.specs.Sizes.{size_limit, geometric, most_lines}

each_few : {A : Type 0} (n : ℕ) (f : ℕ → List A) → ((k : ℕ) → length (f k) ≤ 46656) → length (each n f) ≤ n * 46656
unfolding each
each_few zero f h = omega arith
each_few (suc n) f h = omega (arith, length-append (each n f) (f n), each_few n f h, h n)

-- more triggers or more panels allow no fewer steps
pub geometric_mono : (n m f : ℕ) → n ≤ m → geometric n f ≤ geometric m f
unfolding geometric
geometric_mono n m zero h = omega arith
geometric_mono n m (suc f) h = omega (arith, geometric_mono n m f h, pow-le-pow_left h (suc f))

geometric_more : (n f g : ℕ) → f ≤ g → geometric n f ≤ geometric n g
unfolding geometric
geometric_more n f g = le_ind (λ g. geometric n f ≤ geometric n g) (omega arith) (λ g h p. omega arith) g

module _ (n : ℕ) (P : Cue) (hn : n ≤ size_limit) (hm : P.panels ≤ size_limit) where
  pub selections_few : length (selections n P (least n P)) ≤ 46656
  selections_few =
      le_trans (selections_bound n P (least n P))
      (le_trans (pow-le-pow_left hn (length (floor_panels n P)))
      (let p : 6 ^ length (floor_panels n P) ≤ size_limit ^ 6 = pow-le-pow_right (lit< tt) (le_trans (floor_panels_few n P) hm) in omega arith))

  pub steps_few : steps n P (least n P) ≤ 55986
  steps_few =
      le_trans (steps_bound n P (least n P))
      (le_trans (geometric_mono n 6 (length (floor_panels n P)) hn)
      (le_trans (geometric_more 6 (length (floor_panels n P)) 6 (le_trans (floor_panels_few n P) hm)) (unfold geometric in omega arith)))

  pub lines_few : length (lines n P) ≤ most_lines
  unfolding lines minimal candidates
  lines_few = omega (
    arith,
    sift_few (lt_l n) (strict n) (needed? n (candidates n P (least n P))) (candidates n P (least n P)),
    each_few n (λ t. map_l (λ s. candidate n P (least n P) s t) (selections n P (least n P))) (λ k. rw (map_length (λ s. candidate n P (least n P) s k)
        (selections n P (least n P))) selections_few),
  )
