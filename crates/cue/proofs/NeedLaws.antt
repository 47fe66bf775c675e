-- Step 6's w, fixing by fixing: one more changes it at its trigger alone, to the larger of what it was and what the panel asks.
use mathlib.Core.Path.{◌≡◌, refl, ap, ◌∙◌}
use mathlib.Core.List.{[], ◌∷◌, ◌++◌}
use Prim.Native.Nat.{ℕ}
use lib.IntN.{ℤ}
use Rattle.maxplus.specs.Entry.{E, absent, ◌⊗◌, ◌⊕◌, inv}
use Rattle.maxplus.specs.Tables.{sup_l, idm}
use Rattle.maxplus.proofs.EntryLaws.{⊗_unit, ⊗_nothing}
use Rattle.maxplus.proofs.SupLaws.{sup_l_end}
use Rattle.maxplus.proofs.TableLaws.{idm_same, idm_other}
use Rattle.cue.specs.Cue.{Cue}
use Rattle.cue.specs.Method.{Selection, ask, through, need}

module _ (n : ℕ) (P : Cue) (D : ℤ) where
  -- what panel i asks of its trigger j
  abbrev pub wanted : ℕ → ℕ → E
  wanted i j = ask n P D i ⊗ inv (through n P i j)

  -- nothing is asked where nothing is fixed
  pub need_none : (t : ℕ) → need n P D [] t ≡ absent
  unfolding need sup_l
  need_none t = refl

  need_end : (s : Selection) (i j t : ℕ) → need n P D (s ++ (i, j) ∷ []) t ≡ idm j t ⊗ wanted i j ⊕ need n P D s t
  unfolding need
  need_end s i j t = sup_l_end s (i, j) (λ f. idm f.1 t ⊗ wanted f.0 f.1)

  pub need_more : (s : Selection) (i j : ℕ) → need n P D (s ++ (i, j) ∷ []) j ≡ wanted i j ⊕ need n P D s j
  need_more s i j = need_end s i j j ∙ ap (λ (e : E). e ⊗ wanted i j ⊕ need n P D s j) (idm_same j) ∙
      ap (λ (e : E). e ⊕ need n P D s j) (⊗_unit (wanted i j))

  pub need_other : (s : Selection) (i j t : ℕ) → ¬ (t ≡ j) → need n P D (s ++ (i, j) ∷ []) t ≡ need n P D s t
  unfolding ◌⊕◌
  need_other s i j t h = need_end s i j t ∙ ap (λ (e : E). e ⊗ wanted i j ⊕ need n P D s t) (idm_other j t h) ∙
      ap (λ (e : E). e ⊕ need n P D s t) (⊗_nothing (wanted i j))
