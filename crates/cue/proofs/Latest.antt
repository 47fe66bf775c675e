-- The latest tightest timing that a given G leaves in reach is the one that the lines make with the largest weights that fit: whatever
-- the weights, a tightest timing is made, and a tightest timing within G is made with weights that fit, so it is no later.
use mathlib.Core.Path.{refl, ap, sym, ◌∙◌}
use Prim.Native.Nat.{ℕ}
use lib.IntN.{ℤ}
use Rattle.maxplus.specs.Entry.{num, ◌⊗◌}
use Rattle.maxplus.specs.Tables.{NoGain}
use Rattle.maxplus.specs.Line.{Line, at}
use Rattle.maxplus.specs.Latest.{LatestOf}
use Rattle.maxplus.proofs.WholeLaws.{z_refl}
use Rattle.maxplus.proofs.EntryLaws.{◌▸◌, ≼_of, val_of, num_⊗}
use Rattle.maxplus.proofs.SupLaws.{sup_l_ub}
use Rattle.cue.specs.Cue.{Cue, timing}
use Rattle.cue.specs.Vectors.{Tightest, Readable}
use Rattle.cue.specs.Method.{mark, lines}
use Rattle.cue.specs.Latest.{made, fit, latest}
use Rattle.cue.proofs.Cone.{mark_cone}
use Rattle.cue.proofs.Extreme.{lines_normal, lines_meet}
use Rattle.cue.proofs.Room.{Makes, weights_fit, weights_later}
use Rattle.cue.proofs.Weights.{tightest_weighed}

module _ (n : ℕ) (P : Cue) (R : Readable n P) (np : NoGain n P.order) where
  -- each trigger is there in some line, since r is made of the lines: whatever the weights, a timing is made
  pub made_makes : (w : Line n → ℤ) → Makes n (lines n P) w (made n (lines n P) w)
  unfolding made
  made_makes w j hj = let (c, hc, (a, e), u) = lines_meet n P np (timing (mark n P)) (mark_cone n P R np) j hj (mark n P j, refl) in
      sym (val_of _ (≼_of (sym (num_⊗ (w c) a) ∙ ap (λ e. num (w c) ⊗ e) (sym e)) ▸ sup_l_ub (lines n P) (λ c. num (w c) ⊗ at n c j) c hc))

  made_tightest : (w : Line n → ℤ) → Tightest n P (made n (lines n P) w)
  made_tightest w = (tightest_weighed n P R np _).1 (record { weight = w; is = made_makes w })

  pub latest_is : (G : ℕ → ℤ) → LatestOf n (Tightest n P) G (latest n P G)
  unfolding latest
  latest_is G = record {
    such = made_tightest (fit n G);
    no_later = (weights_fit n (lines n P) (fit n G) _ (made_makes (fit n G)) (lines_normal n P) G).1 (λ c hc. z_refl _);
    latest = λ Y t h. let w = (tightest_weighed n P R np Y).0 t in
        weights_later n (lines n P) w.weight Y w.is (fit n G) _ (made_makes (fit n G))
        ((weights_fit n (lines n P) w.weight Y w.is (lines_normal n P) G).0 h);
  }
