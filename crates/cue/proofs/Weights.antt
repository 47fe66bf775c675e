-- A timing is tightest exactly when whole-number weights, one for every line, make it the largest of weight + line.
-- The weight of a line is the largest that fits; it is a number because a line has a component that is there.
use mathlib.Core.Path.{◌≡◌, refl, ap, ◌∙◌}
use mathlib.Core.Logic.{◌↔◌}
use mathlib.Core.List.{List}
use Prim.Native.Nat.{ℕ}
use lib.IntN.{ℤ}
use Rattle.maxplus.specs.Whole.{◌≤z◌, ◌+z◌, neg}
use Rattle.maxplus.specs.Entry.{num, ◌≼◌, ◌⊗◌, inv}
use Rattle.maxplus.specs.Finite.{In}
use Rattle.maxplus.specs.Tables.{NoGain}
use Rattle.maxplus.specs.Line.{Line, at}
use Rattle.maxplus.specs.Normal.{Normal}
use Rattle.maxplus.specs.Combination.{Weighed}
use Rattle.maxplus.proofs.WholeLaws.{z_refl}
use Rattle.maxplus.proofs.EntryLaws.{◌▸◌, ≼_anti, ≼_of, ≼_back, ⊗_left, num_≼, num_⊗, inv_num}
use Rattle.maxplus.proofs.SupLaws.{sup_l_ub, sup_l_lub}
use Rattle.maxplus.proofs.CombinationLaws.{weight_fits, weight_meets, Under, Span}
use Rattle.cue.specs.Cue.{Cue, timing}
use Rattle.cue.specs.Vectors.{Tightest, Readable}
use Rattle.cue.specs.Method.{lines}
use Rattle.cue.specs.Latest.{fit}
use Rattle.cue.proofs.Cone.{tightest_cone}
use Rattle.cue.proofs.Extreme.{lines_normal, lines_meet, cone_combination_of_lines}
use Rattle.cue.proofs.Room.{fit_largest}

module _ (n : ℕ) where
  -- a line that lies below X, shifted to meet it at j, meets it there with the weight that fits
  fit_meets : (X : ℕ → ℤ) (c : Line n) → Normal n c → (j : ℕ) (a : ℤ) → at n c j ≡ num a → Under n j c (timing X) →
      num (X j) ≼ num (fit n X c) ⊗ at n c j
  fit_meets X c t j a ea u = ≼_back (weight_meets (at n c j) (num (X j)) (a, ea)) ▸ ⊗_left _ (≼_of ew ▸ num_≼ fits)
    where
      ew : num (X j) ⊗ inv (at n c j) ≡ num (X j +z neg a)
      ew = ap (λ e. num (X j) ⊗ inv e) ea ∙ ap (λ e. num (X j) ⊗ e) (inv_num a) ∙ num_⊗ (X j) (neg a)

      fits : X j +z neg a ≤z fit n X c
      fits = (fit_largest n X c t (X j +z neg a)).0
          (λ i hi. ⊗_left _ (≼_back ew) ▸ weight_fits (at n c i) (at n c j) (num (X i)) (num (X j)) (u i hi))

  weigh : (L : List (Line n)) → ((c : Line n) → In c L → Normal n c) → (X : ℕ → ℤ) → Span n L (timing X) → Weighed n L X
  weigh L nL X s = record {
    weight = fit n X;
    is = λ j hj. let (c, hc, (a, ea), u) = s j hj (X j, refl) in
        ≼_anti (fit_meets X c (nL c hc) j a ea u ▸ sup_l_ub L (λ c. num (fit n X c) ⊗ at n c j) c hc)
        (sup_l_lub L _ (λ c hc. (fit_largest n X c (nL c hc) (fit n X c)).1 (z_refl _) j hj));
  }

module _ (n : ℕ) (P : Cue) (R : Readable n P) (np : NoGain n P.order) where
  pub tightest_weighed : (X : ℕ → ℤ) → Tightest n P X ↔ Weighed n (lines n P) X
  tightest_weighed X = (
    λ t. weigh n (lines n P) (lines_normal n P) X (lines_meet n P np (timing X) ((tightest_cone n P R np X).0 t)),
    λ w. (tightest_cone n P R np X).1
        ((cone_combination_of_lines n P np (timing X)).1 (record { weight = λ c. num (w.weight c); is = w.is })),
  )
