-- Laws of the word that holds the triggers left to the levels: each level's six bits, and one level more before the others.
use mathlib.Core.Path.{◌≡◌, sym, ap, ◌∙◌}
use mathlib.Core.List.{List}
use Prim.Native.Nat.{ℕ, zero, suc, ◌+◌, ◌-◌, ◌*◌, ◌/◌, ◌%◌, ◌^◌, ◌<◌, ◌≤◌}
use native.Mathlib.Nat.{div-one, pow-suc, pow-le-pow_right}
use native.Mathlib.Decide.{ℕ_discrete}
use native.Mathlib.Omega.{arith}
use lib.Dec.{lit<}
use lib.Pow.{shr-shr}
use Rattle.walk.specs.Trace.{serves}
use Rattle.walk.proofs.NarrowLaws.{cut_small}
use Rattle.tally.specs.Counting.{digit, left, behind, Speaks}

pub digit_at : (w i : ℕ) → w / 2 ^ (6 * i) % 64 ≡ digit w i
unfolding digit
digit_at w zero = ap (λ x. x % 64) (div-one w)
digit_at w (suc i) = let e : 6 * suc i ≡ 6 + 6 * i = omega arith in rw e (ap (λ x. x % 64) (sym (shr-shr w 6 (6 * i))) ∙ digit_at (w / 64) i)

pub digit_small : (w i : ℕ) → digit w i < 64
unfolding digit
digit_small w zero = omega arith
digit_small w (suc i) = digit_small (w / 64) i

module _ (w v : ℕ) (h : v < 64) where
  digit_first : digit (w * 64 + v) 0 ≡ v
  unfolding digit
  digit_first = omega arith

  digit_later : (i : ℕ) → digit (w * 64 + v) (suc i) ≡ digit w i
  unfolding digit
  digit_later i = let e : (w * 64 + v) / 64 ≡ w = omega arith in rw e

module _ {o : ℕ → ℕ} where
  pub speaks_start : Speaks o 6 0
  speaks_start = record { from = omega arith; small = omega arith; at = λ k h l. let e : ⊥ = omega arith in absurd e }

  -- a level's triggers come before those of the levels behind it
  pub speaks_more : {l w v : ℕ} → Speaks o (l + 1) w → v ≡ o l → v < 64 → Speaks o l (w * 64 + v)
  speaks_more {l} {w} {v} s e h = record {
    from = omega (arith, s.from);
    small = let d : 6 - l ≡ suc (6 - (l + 1)) = omega (arith, s.from) in rw d (omega (arith, pow-suc 64 (6 - (l + 1)), s.small));
    at = λ k a b. elim (ℕ_discrete k l) [
      | yes d ↦ let z : k - l ≡ 0 = omega arith in rw (z, d) (digit_first w v h ∙ e)
      | no d ↦ let z : k - l ≡ suc (k - (l + 1)) = omega arith in rw z (digit_later w v h (k - (l + 1)) ∙ s.at k (omega arith) b)
    ];
  }

  pub speaks_fits : {l w : ℕ} → 0 < l → Speaks o l w → w < 64 ^ 5
  speaks_fits {l} {w} h s = let k : 6 - l ≤ 5 = omega arith in
      let p : 64 ^ (6 - l) ≤ 64 ^ 5 = pow-le-pow_right (lit< tt) k in omega (arith, s.small)

-- what a fixing leaves of a level's mask
pub behind_small : (gains : List (List ℕ)) (l w j k : ℕ) → j < 6 → behind gains l w j k < 64
behind_small gains l w j k h = cut_small j (serves gains l j k) (left l w k) h (digit_small w (k - l))
