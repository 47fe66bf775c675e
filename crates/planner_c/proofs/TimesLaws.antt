-- The times that are lent, as the six components of a timing: as many as are lent are taken, and more than six are none of a sheet's.
use mathlib.Core.Path.{◌≡◌, refl, ap, sym, ◌∙◌, fun_ext}
use mathlib.Core.List.{List}
use Prim.Native.Nat.{ℕ, ◌≤◌, ◌<◌}
use native.Mathlib.Omega.{arith}
use native.Mathlib.Decide.{dec_lt}
use lib.IntN.{ℤ, pos}
use lib.ListN.{length, get_or-eq_default}
use Rattle.maxplus.proofs.EachLaws.{length_each, each_at}
use Rattle.cue.specs.Sizes.{size_limit, six}
use Rattle.sheet.specs.Meaning.{Timing}
use Rattle.sheet.specs.Sheet.{Got, got, Sheet, read}
use Rattle.sheet.specs.Sheet as sheet
use Rattle.sheet.specs.Admitted.{admitted}
use Rattle.sheet.proofs.Good.{read_good}
use Rattle.sheet.proofs.AdmittedLaws.{admitted_refused, admitted_10}
use Rattle.timing.specs.Times.{component}

-- the components of at most six times are these times
six_same : (lent : List ℤ) → length lent ≤ size_limit → component (six (component lent)) ≡ component lent
six_same lent h = fun_ext at
  where
    at : (j : ℕ) → component (six (component lent)) j ≡ component lent j
    at j = elim (dec_lt j 6) [
      | yes q ↦ each_at 6 j (component lent) (pos 0) q
      | no q ↦
          get_or-eq_default (six (component lent)) (pos 0) {n = j} (omega (arith, length_each 6 (component lent))) ∙
          sym (get_or-eq_default lent (pos 0) {n = j} (omega arith))
    ]

module _ (s : List ℕ) where
  -- no sheet has so many triggers: the times are not looked at
  many : (count : ℕ) → size_limit < count → (k : ℕ) × ((X : Timing) → admitted s count X ≡ sheet.refused k)
  many count h = go (read s) refl
    where
      go : (g : Got Sheet) → read s ≡ g → (k : ℕ) × ((X : Timing) → admitted s count X ≡ sheet.refused k)
      go (sheet.refused k) e = (k, λ X. admitted_refused s count X k e)
      go (got t r) e =
          let n = (read_good s t r e).triggers_few in
          (10, λ X. admitted_10 s count X t r e (λ q. let x : ⊥ = omega arith in x))

  module _ {A : Type 0} (ask : ℕ → Timing → A) (told : ℕ → A)
      (refuses : (count : ℕ) (X : Timing) (k : ℕ) → admitted s count X ≡ sheet.refused k → ask count X ≡ told k) where
    -- what is answered for the timing that is made of the times is what is answered for the times
    pub as_lent : (lent at : List ℤ) {count : ℕ} → count ≡ length lent → (length lent ≤ size_limit → at ≡ six (component lent)) →
        ask count (component at) ≡ ask (length lent) (component lent)
    as_lent lent at c e = ap (λ count. ask count (component at)) c ∙ elim (dec_lt size_limit (length lent)) [
      | yes q ↦ let (k, h) = many (length lent) q in refuses _ _ k (h _) ∙ sym (refuses _ _ k (h _))
      | no q ↦
          let l : length lent ≤ size_limit = omega arith in
          ap (ask (length lent)) (ap component (e l) ∙ six_same lent l)
    ]
