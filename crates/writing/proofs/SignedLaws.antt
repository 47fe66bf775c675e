-- Laws of signed words as the machine tests, turns and passes them on: a component's word, and the sign of a number.
use mathlib.Core.Path.{◌≡◌, sym, ap, ◌∙◌}
use mathlib.Core.List.{◌++◌}
use mathlib.Core.Bool.{true, false}
use mathlib.Core.Logic.{◌⊎◌, inl, inr, ⊎_elim}
use Prim.Native.Nat.{ℕ, ◌≤◌}
use native.Mathlib.Decide.{ℕ_discrete}
use native.Mathlib.Omega.{arith}
use borrow.Author.Tests.{ltb-true}
use lib.IntN.{ℤ, pos, negsuc, nat_abs}
use lib.ListN.{length}
use lib.Signed.{lt_z}
use mir.Syntax.{w32, w64}
use mir.Val.{SFits, to_z, of_z}
use mir.Facts.{sfits_widen, to_z-of_z}
use Rattle.maxplus.specs.Entry.{absent, num}
use Rattle.sheet.specs.Text.{bytes}
use Rattle.writing.specs.Numerals.{natural, numeral, item}
use Rattle.cue.specs.Standing.{of_signed}
use Rattle.cue.proofs.StandingLaws.{of_signed_absent, of_signed_number}
use Rattle.writing.proofs.NumeralLaws.{signed_length}

-- ---- a component's word
of_signed_or : (w : ℤ) → SFits w32 w → (of_signed w ≡ absent) ⊎ (of_signed w ≡ num w)
of_signed_or w f = go (ℕ_discrete (of_z w32 w) 0x8000_0000)
  where
    go : Dec (of_z w32 w ≡ 0x8000_0000) → (of_signed w ≡ absent) ⊎ (of_signed w ≡ num w)
    go (yes e) = inl (of_signed_absent w f e)
    go (no n) = inr (of_signed_number w f n)

pub numeral_32 : (w : ℤ) → SFits w32 w → length (numeral w) ≤ 11
numeral_32 w f = signed_length 9 w (omega (arith, f.sfits))

pub item_32 : (w : ℤ) → SFits w32 w → length (item (of_signed w)) ≤ 11
unfolding bytes
item_32 w f = ⊎_elim (λ e. rw e (omega arith)) (λ e. rw e (numeral_32 w f)) (of_signed_or w f)

-- a word that is passed on is read back from its bits
pub item_back : {w : ℤ} → SFits w32 w → item (of_signed (to_z w32 (of_z w32 w))) ≡ item (of_signed w)
item_back f = ap (λ z. item (of_signed z)) (to_z-of_z f)

-- and so is one that is made wider on its way
pub wider_fits : {w : ℤ} → SFits w32 w → SFits w64 (to_z w32 (of_z w32 w))
wider_fits f = rw (to_z-of_z f) (sfits_widen tt f)

pub wider_back : {w : ℤ} → SFits w32 w → to_z w64 (of_z w64 (to_z w32 (of_z w32 w))) ≡ w
wider_back f = to_z-of_z (wider_fits f) ∙ to_z-of_z f

-- ---- a number's sign and magnitude, as the machine has them
abbrev back : ℤ → ℤ
back z = to_z w64 (of_z w64 z)

module _ (v : ℤ) (f : SFits w64 v) {size : ℕ} (e : size ≡ nat_abs (back v)) where
  size_is : size ≡ nat_abs v
  size_is = e ∙ ap nat_abs (to_z-of_z f)

  pub below_text : lt_z (back v) (pos 0) ≡ true → bytes "-" ++ natural size ≡ numeral v
  below_text t = go v (ap (λ z. lt_z z (pos 0)) (sym (to_z-of_z f)) ∙ t) size_is
    where
      go : (v : ℤ) → lt_z v (pos 0) ≡ true → size ≡ nat_abs v → bytes "-" ++ natural size ≡ numeral v
      go (pos n) t q = let h = ltb-true n 0 t in let e : ⊥ = omega arith in absurd e
      go (negsuc n) t q = rw q

  pub above_text : lt_z (back v) (pos 0) ≡ false → natural size ≡ numeral v
  above_text t = go v (ap (λ z. lt_z z (pos 0)) (sym (to_z-of_z f)) ∙ t) size_is
    where
      go : (v : ℤ) → lt_z v (pos 0) ≡ false → size ≡ nat_abs v → natural size ≡ numeral v
      go (pos n) t q = ap natural q
      go (negsuc n) t q = let e : ◌≡◌ {A = ℕ} 0 1 = cc in let e : ⊥ = omega arith in absurd e
