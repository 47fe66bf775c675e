-- What fits a line within a timing is the largest weight with which the line stays there. Any weights that make a timing tell whether it is
-- within another one: each must fit.
use mathlib.Core.Path.{◌≡◌, ap, sym, ◌∙◌}
use mathlib.Core.Logic.{◌↔◌}
use mathlib.Core.List.{List}
use Prim.Native.Nat.{ℕ, ◌<◌}
use native.Mathlib.Omega.{arith}
use lib.IntN.{ℤ, pos}
use Rattle.maxplus.specs.Whole.{◌≤z◌, neg}
use Rattle.maxplus.specs.Entry.{E, absent, num, ◌≼◌, ◌⊗◌, inv, val}
use Rattle.maxplus.specs.Finite.{In}
use Rattle.maxplus.specs.Tables.{sup_l}
use Rattle.maxplus.specs.Line.{Line, at}
use Rattle.maxplus.specs.Normal.{Normal}
use Rattle.maxplus.specs.Latest.{NoLater}
use Rattle.maxplus.proofs.WholeLaws.{neg_neg, up_add, up_neg, z_refl}
use Rattle.maxplus.proofs.EntryLaws.{◌▸◌, ≼_absent, ≼_of, ≼_back, ⊗_left, ⊗_right, ⊗_unit_r, num_≼}
use Rattle.maxplus.proofs.SupLaws.{sup_lub, sup_l_ub, sup_l_lub}
use Rattle.cue.specs.Cue.{timing, overdue}
use Rattle.cue.specs.Latest.{fit}
use Rattle.cue.proofs.Deviation.{swap_E, overdue_at, overdue_there}

-- w + c ≤ g, where c − g ≤ s and w ≤ −s
in_E : (c : E) (w g s : ℤ) → c ⊗ num (neg g) ≼ num s → w ≤z neg s → num w ⊗ c ≼ num g
unfolding ◌⊗◌
in_E absent w g s h k = ≼_absent _
in_E (num c) w g s h k = omega (arith, up_add w c, up_neg g, up_neg s, up_add c (neg g))

turn : (w s : ℤ) → s ≤z neg w → w ≤z neg s
turn w s h = omega (arith, up_neg w, up_neg s)

-- ---- one line
module _ (n : ℕ) (G : ℕ → ℤ) (c : Line n) (t : Normal n c) where
  -- the component 0 is there
  past_there : overdue n (timing G) (at n c) ≡ num (val (overdue n (timing G) (at n c)))
  past_there = overdue_there n G (at n c) t.top t.here (pos 0, t.zero_there)

  past_within : (w : ℤ) → ((i : ℕ) → i < n → num w ⊗ at n c i ≼ num (G i)) → overdue n (timing G) (at n c) ≼ num (neg w)
  unfolding overdue inv
  past_within w h = sup_lub n _ (λ i hi. swap_E (at n c i) w (G i) (h i hi))

  -- with the weight w the line stays within G exactly when w is no more than what fits
  pub fit_largest : (w : ℤ) → ((i : ℕ) → i < n → num w ⊗ at n c i ≼ num (G i)) ↔ (w ≤z fit n G c)
  unfolding fit
  fit_largest w = (
    λ h. turn w _ (≼_back past_there ▸ past_within w h).un,
    λ l i hi. in_E (at n c i) w (G i) _ (overdue_at n G (at n c) i hi ▸ ≼_of past_there) l,
  )

  -- no component is above 0: what is no later than all of G fits; and where one is 0, no more than G fits
  pub fit_from : (w : ℤ) → ((i : ℕ) → i < n → w ≤z G i) → w ≤z fit n G c
  fit_from w h = (fit_largest w).0 (λ i hi. ⊗_right _ (t.low i hi) ▸ ≼_of (⊗_unit_r _) ▸ num_≼ (h i hi))

  pub fit_top : fit n G c ≤z G t.top
  fit_top = (≼_back (⊗_unit_r _) ▸ ⊗_right _ (≼_back t.zero_there) ▸ (fit_largest (fit n G c)).1 (z_refl _) t.top t.here).un

  -- what fits is a number, not a stand-in
  pub fit_is : overdue n (timing G) (at n c) ≡ num (neg (fit n G c))
  unfolding fit
  fit_is = past_there ∙ ap num (sym (neg_neg _))

-- ---- weights that make a timing
module _ (n : ℕ) where
  -- the weights w make X of the lines L
  abbrev pub Makes : List (Line n) → (Line n → ℤ) → (ℕ → ℤ) → Type 0
  Makes L w X = (j : ℕ) → j < n → num (X j) ≡ sup_l L (λ c. num (w c) ⊗ at n c j)

  module _ (L : List (Line n)) (w : Line n → ℤ) (X : ℕ → ℤ) (m : Makes L w X) where
    -- with its weight each line lies below what is made
    makes_above : (c : Line n) → In c L → (j : ℕ) → j < n → num (w c) ⊗ at n c j ≼ num (X j)
    makes_above c hc j hj = sup_l_ub L (λ c. num (w c) ⊗ at n c j) c hc ▸ ≼_back (m j hj)

    -- the timing is within G exactly when each weight fits
    pub weights_fit : ((c : Line n) → In c L → Normal n c) → (G : ℕ → ℤ) → NoLater n X G ↔ ((c : Line n) → In c L → w c ≤z fit n G c)
    weights_fit nL G = (
      λ h c hc. (fit_largest n G c (nL c hc) (w c)).0 (λ i hi. makes_above c hc i hi ▸ num_≼ (h i hi)),
      λ h j hj. (≼_of (m j hj) ▸ sup_l_lub L _ (λ c hc. (fit_largest n G c (nL c hc) (w c)).1 (h c hc) j hj)).un,
    )

    -- larger weights make a later timing
    pub weights_later : (b : Line n → ℤ) (Y : ℕ → ℤ) → Makes L b Y → ((c : Line n) → In c L → w c ≤z b c) → NoLater n X Y
    weights_later b Y e h j hj = (≼_of (m j hj) ▸ sup_l_lub L _ (λ c hc. ⊗_left _ (num_≼ (h c hc)) ▸
        sup_l_ub L (λ c. num (b c) ⊗ at n c j) c hc) ▸ ≼_back (e j hj)).un
