-- A refusal is one of `refusals`, so that its number is one of document 01's.
use mathlib.Core.Path.{◌≡◌, refl, sym, ◌∙◌}
use mathlib.Core.Bool.{Bool, true, false, cond, not}
use mathlib.Core.List.{List}
use Prim.Native.Nat.{ℕ, ◌≤◌}
use native.Mathlib.Omega.{arith}
use lib.Dec.{eqb}
use Rattle.sheet.specs.Sheet.{Got, got, refused, Sheet, ◌>>=◌, read}
use Rattle.sheet.specs.Meaning.{Timing}
use Rattle.sheet.specs.Cue.{Orderly, orderly?}
use Rattle.sheet.specs.Ordered.{ordered}
use Rattle.sheet.specs.Times.{some_beyond}
use Rattle.sheet.specs.Admitted.{admitted}
use Rattle.sheet.proofs.OrderedLaws.{ordered_by}
use Rattle.sheet.proofs.LineLaws.{not_got}
use Rattle.reading.proofs.Refusals.{refusal_is, ordered_is}
use Rattle.refusals.specs.Numbers.{number}
use Rattle.refusals.specs.declared.Refusal.{Refusal}
use Rattle.refusals.specs.declared.Refusal.TheVariants as refusal
use Rattle.refusals.proofs.NumberLaws.{Known, known_within}

is : {j k : ℕ} → ◌≡◌ {A = Got Sheet} (refused j) (refused k) → Known j → Known k
is {j} {k} e (r, q) = let h : k ≡ j = cc in (r, h ∙ q)

module _ (s : List ℕ) (count : ℕ) (X : Timing) (k : ℕ) where
  by_tests : (x y : Bool) → cond x (refused 10) (cond y (refused 11) (ordered s)) ≡ refused k → Known k
  by_tests true y e = is e (refusal.WrongCount, refl)
  by_tests false true e = is e (refusal.TimeTooFar, refl)
  by_tests false false e = ordered_is s k e

  pub admitted_is : admitted s count X ≡ refused k → Known k
  unfolding admitted
  admitted_is e = go (read s) refl e
    where
      go : (g : Got Sheet) → read s ≡ g →
          (g >>= λ t r. cond (not (eqb count t.triggers)) (refused 10) (cond (some_beyond t.triggers X) (refused 11) (ordered s))) ≡
          refused k → Known k
      go (refused j) q e = is e (refusal_is s j q)
      go (got t r) q e = by_tests (not (eqb count t.triggers)) (some_beyond t.triggers X) e

  pub admitted_known : admitted s count X ≡ refused k → (1 ≤ k) × (k ≤ 14)
  admitted_known e = known_within k (admitted_is e)
