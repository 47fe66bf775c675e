-- Last moments by overruns: landings are in time exactly when each trigger's time and its overrun come to at most 0, and times no later than
-- given ones are in time exactly when they are no later than these made early enough.
use mathlib.Core.Path.{◌≡◌, refl, ap, sym, ◌∙◌}
use mathlib.Core.Logic.{◌↔◌}
use mathlib.Core.Bool.{Bool, true, false, cond, not}
use mathlib.Core.Option.{Option, none, some, some-injective, none-ne-some}
use Prim.Native.Nat.{ℕ, ◌+◌, ◌<◌}
use native.Mathlib.Omega.{arith}
use native.Mathlib.Decide.{map_dec}
use lib.Dec.{T, nleb→lt}
use lib.IntN.{ℤ}
use Rattle.maxplus.specs.Whole.{up, dn, ◌≤z◌, ◌+z◌, neg, leqz}
use Rattle.maxplus.specs.Entry.{E, absent, num, ◌≼◌, ◌⊗◌, inv, unit}
use Rattle.maxplus.specs.Tables.{sup, Vec, mv}
use Rattle.maxplus.specs.Latest.{NoLater}
use Rattle.maxplus.proofs.WholeLaws.{up_add, up_neg, leqz_yes}
use Rattle.maxplus.proofs.EntryLaws.{◌▸◌, ≼_anti, ≼_absent, ≼_of, ≼_back, ≼_dec, ⊗_comm, ⊗_assoc, ⊗_nothing, inv_num}
use Rattle.maxplus.proofs.FiniteLaws.{all_dec}
use Rattle.maxplus.proofs.SupLaws.{sup_ub, sup_lub, sup_ext, sup_comm, sup_⊗r}
use Rattle.cue.specs.Cue.{timing, overdue}
use Rattle.cue.specs.Results.{Within}
use Rattle.sheet.specs.Sheet.{Sheet, spare}
use Rattle.sheet.specs.Sizes.{cap_down}
use Rattle.sheet.specs.Times.{far_limit}
use Rattle.sheet.specs.Meaning.{Timing, landing, InTime}
use Rattle.sheet.specs.Overruns.{overrun, overruns_by, overruns, lower, lowered}
use Rattle.sheet.specs.Good.{Good}
use Rattle.sheet.proofs.WithinLaws.{within_absent, within_more, within_⊗, within_inv, within_sup}
use Rattle.sheet.proofs.Idle.{spare_idle}

-- y ≤ z exactly when y − z is at most 0
pub turned : (y : E) (z : ℤ) → (y ≼ num z) ↔ (y ⊗ num (neg z) ≼ unit)
unfolding ◌⊗◌
turned absent z = (λ h. ≼_absent _, λ h. ≼_absent _)
turned (num y) z = (
  λ h. record { un = record { le = let k = h.un.le in omega (arith, up_neg z, up_add y (neg z)) } },
  λ h. record { un = record { le = let k = h.un.le in omega (arith, up_neg z, up_add y (neg z)) } },
)

module _ (t : Sheet) (b : ℕ → ℤ) where
  -- the latest landing of any vector past its last moment, by panels and by triggers
  pub late_sum : (x : Vec) → sup t.panels (λ i. mv t.triggers t.lag x i ⊗ num (neg (b i))) ≡ sup t.triggers (λ j. overrun t b j ⊗ x j)
  unfolding mv overrun overdue
  late_sum x =
      sup_ext t.panels (λ i hi. sup_⊗r t.triggers (num (neg (b i))) (λ j. t.lag i j ⊗ x j)) ∙
      sup_comm t.panels t.triggers (λ i j. t.lag i j ⊗ x j ⊗ num (neg (b i))) ∙
      sup_ext t.triggers (λ j hj.
      sup_ext t.panels (λ i hi. ⊗_assoc _ _ _ ∙ ap (λ e. t.lag i j ⊗ e) (⊗_comm (x j) _) ∙ sym (⊗_assoc _ _ _) ∙
      ap (λ e. t.lag i j ⊗ e ⊗ x j) (sym (inv_num (b i)))) ∙
      sym (sup_⊗r t.panels (x j) (λ i. t.lag i j ⊗ inv (num (b i)))))

  pub landings_early : (x : Vec) → ((i : ℕ) → i < t.panels → mv t.triggers t.lag x i ≼ num (b i)) ↔
      ((j : ℕ) → j < t.triggers → overrun t b j ⊗ x j ≼ unit)
  landings_early x = (
    λ h j hj. sup_ub t.triggers (λ j. overrun t b j ⊗ x j) j hj ▸ ≼_back (late_sum x) ▸
        sup_lub t.panels _ (λ i hi. (turned _ (b i)).0 (h i hi)),
    λ h i hi. (turned _ (b i)).1 (sup_ub t.panels (λ i. mv t.triggers t.lag x i ⊗ num (neg (b i))) i hi ▸ ≼_of (late_sum x) ▸
        sup_lub t.triggers _ h),
  )

-- ---- with a last line or without
module _ (t : Sheet) where
  abbrev Early : Option (ℕ → ℤ) → Timing → Type 0
  Early last X = (j : ℕ) → j < t.triggers → overruns_by t last j ⊗ num (X j) ≼ unit

  early_by : (last : Option (ℕ → ℤ)) (X : Timing) →
      ((b : ℕ → ℤ) → last ≡ some b → (i : ℕ) → i < t.panels → landing t X i ≼ num (b i)) ↔ Early last X
  unfolding landing ◌⊗◌
  early_by none X = (λ h j hj. ≼_absent _, λ h b e. absurd (none-ne-some b e))
  early_by (some b) X = (
    λ h. (landings_early t b (timing X)).0 (h b refl),
    λ h d e. rw (← some-injective b d e) ((landings_early t b (timing X)).1 h),
  )

  pub in_time_early : (X : Timing) → InTime t X ↔ Early t.last X
  in_time_early X = early_by t.last X

  pub in_time? : (X : Timing) → Dec (InTime t X)
  in_time? X = map_dec (in_time_early X).1 (in_time_early X).0
      (all_dec (λ j. overruns t j ⊗ num (X j) ≼ unit) (λ j. ≼_dec _ _) t.triggers)

-- ---- times made early enough
lower_cases : (K : ℤ → Type 0) (x v : ℤ) → (x ≤z neg v → K x) → (neg v ≤z x → K (neg v)) → K (lower x (num v))
lower_cases K x v f g = go (leqz x (neg v)) (leqz_yes x (neg v)) (nleb→lt (up x + dn (neg v)) (up (neg v) + dn x))
  where
    go : (c : Bool) → (T c → x ≤z neg v) → (T (not c) → up (neg v) + dn x < up x + dn (neg v)) → K (cond c x (neg v))
    go true h k = f (h tt)
    go false h k = g (record { le = let l = k tt in omega arith })

lower_most : (x y : ℤ) (o : E) → (y ≤z lower x o) ↔ ((y ≤z x) × (o ⊗ num y ≼ unit))
unfolding ◌⊗◌
lower_most x y absent = (λ h. (h, ≼_absent _), λ h. h.0)
lower_most x y (num v) = lower_cases (λ z. (y ≤z z) ↔ ((y ≤z x) × (num (v +z y) ≼ unit))) x v
    (λ l. (λ h. (h, below (record { le = let p = h.le in let q = l.le in omega arith })), λ h. h.0))
    (λ l. (λ h. (record { le = let p = h.le in let q = l.le in omega arith }, below h), λ h. above h.1))
  where
    below : y ≤z neg v → num (v +z y) ≼ unit
    below h = record { un = record { le = let p = h.le in omega (arith, up_neg v, up_add v y) } }

    above : num (v +z y) ≼ unit → y ≤z neg v
    above h = record { le = let p = h.un.le in omega (arith, up_neg v, up_add v y) }

module _ (t : Sheet) where
  -- no later than times made early enough: no later than these, and in time
  pub no_later_lowered : (X G : Timing) → NoLater t.triggers X (lowered t G) ↔ (NoLater t.triggers X G × InTime t X)
  unfolding lowered
  no_later_lowered X G = (
    λ h. (
      λ j hj. ((lower_most (G j) (X j) (overruns t j)).0 (h j hj)).0,
      (in_time_early t X).1 (λ j hj. ((lower_most (G j) (X j) (overruns t j)).0 (h j hj)).1),
    ),
    λ h j hj. (lower_most (G j) (X j) (overruns t j)).1 (h.0 j hj, (in_time_early t X).0 h.1 j hj),
  )

  -- a spare trigger reaches no panel, so that its time stays
  idle_by : (last : Option (ℕ → ℤ)) (j : ℕ) → T (spare t j) → overruns_by t last j ≡ absent
  unfolding overrun overdue
  idle_by none j s = refl
  idle_by (some b) j s = ≼_anti (sup_lub t.panels _ (λ i hi.
      ≼_of (ap (λ e. e ⊗ inv (num (b i))) (((spare_idle t j).0 s).no_lag i hi) ∙ ⊗_nothing _))) (≼_absent _)

  pub lowered_spare : (G : Timing) (j : ℕ) → T (spare t j) → lowered t G j ≡ G j
  unfolding lowered
  lowered_spare G j s = ap (lower (G j)) (idle_by t.last j s)

-- ---- how far from 0 they are
module _ (t : Sheet) (good : Good t) where
  pub overrun_within : (b : ℕ → ℤ) → t.last ≡ some b → (j : ℕ) → j < t.triggers → Within cap_down cap_down (overrun t b j)
  unfolding overrun overdue
  overrun_within b e j hj = within_sup t.panels _ (λ i hi. within_⊗ (good.lags i j hi hj) (within_inv (good.lasts b e i hi)))

  within_by : (last : Option (ℕ → ℤ)) → t.last ≡ last → (j : ℕ) → j < t.triggers → Within cap_down cap_down (overruns_by t last j)
  within_by none e j hj = within_absent
  within_by (some b) e j hj = overrun_within b e j hj

  pub overruns_within : (j : ℕ) → j < t.triggers → Within cap_down cap_down (overruns t j)
  overruns_within = within_by t.last refl

  -- a time within the limit on tested times stays within it
  lower_within : (x : ℤ) (o : E) → Within far_limit far_limit (num x) → Within cap_down cap_down o → Within far_limit far_limit (num (lower x o))
  lower_within x absent w h = w
  lower_within x (num v) w h = lower_cases (λ z. Within far_limit far_limit (num z)) x v (λ l. w)
      (λ l. within_more {k = cap_down} (omega arith) (rw (← inv_num v) (within_inv h)))

  pub lowered_within : (G : Timing) → ((j : ℕ) → j < t.triggers → Within far_limit far_limit (num (G j))) →
      (j : ℕ) → j < t.triggers → Within far_limit far_limit (num (lowered t G j))
  unfolding lowered
  lowered_within G w j hj = lower_within (G j) (overruns t j) (w j hj) (overruns_within j hj)
