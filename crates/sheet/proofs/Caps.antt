-- Caps: each line reaches every panel with a floor, so that it has a cap, the largest weight that keeps it in time; and a timing made of the
-- lines is in time exactly when each line, with its weight, is.
use mathlib.Core.Path.{◌≡◌, refl, ap, sym, ◌∙◌}
use mathlib.Core.Logic.{◌↔◌, ◌⊎◌, inl, inr}
use mathlib.Core.Bool.{not}
use mathlib.Core.List.{List}
use Prim.Native.Nat.{ℕ, ◌<◌}
use native.Mathlib.Omega.{arith}
use lib.Dec.{T}
use lib.IntN.{ℤ}
use Rattle.maxplus.specs.Whole.{◌≤z◌, neg}
use Rattle.maxplus.specs.Entry.{E, num, ◌≼◌, ◌⊗◌, inv, unit, Present, val}
use Rattle.maxplus.specs.Finite.{In}
use Rattle.maxplus.specs.Line.{Line, at}
use Rattle.maxplus.specs.Tables.{sup, mv}
use Rattle.maxplus.proofs.WholeLaws.{up_add, up_neg}
use Rattle.maxplus.proofs.EntryLaws.{◌▸◌, ≼_absent, ≼_of, ≼_back, ⊗_left, ⊗_right, ⊗_assoc, ⊗_nothing, ⊗_left_comm}
use Rattle.maxplus.proofs.EntryLaws.{val_of, num_≼, num_⊗, inv_num}
use Rattle.maxplus.proofs.FiniteLaws.{test}
use Rattle.maxplus.proofs.SupLaws.{sup_ub, sup_lub, sup_⊗, sup_l_ub, sup_l_lub, sup_l_⊗}
use Rattle.cue.proofs.Reaches.{⊗_present}
use Rattle.sheet.specs.Sheet.{Sheet, spare}
use Rattle.sheet.specs.Meaning.{Timing, landing, Tightest, InTime, Weighed, line_landing, Allowed, Cap, Capped}
use Rattle.sheet.specs.Cue.{Orderly, sheet_lines, cap}
use Rattle.sheet.specs.Overruns.{overrun}
use Rattle.sheet.specs.Good.{Good}
use Rattle.sheet.proofs.Idle.{spare_idle}
use Rattle.sheet.proofs.Overruns.{turned, late_sum}
use Rattle.sheet.proofs.LineLandings.{reaches, late}
use Rattle.sheet.proofs.Demands.{demand_2}

module _ (t : Sheet) where
  open t use {panels, triggers, lag}

  -- ---- a timing lands as late as the latest of its lines, each with its weight
  module _ (L : List (Line triggers)) (X : Timing) (w : Weighed t L X) (i : ℕ) (hi : i < panels) where
    idle_lag : (j : ℕ) (a b : E) → T (spare t j) → lag i j ⊗ a ≼ b
    idle_lag j a b s = ≼_of (ap (λ e. e ⊗ a) (((spare_idle t j).0 s).no_lag i hi) ∙ ⊗_nothing _) ▸ ≼_absent _

    line_in_landing : (c : Line triggers) → In c L → num (w.weight c) ⊗ line_landing t c i ≼ landing t X i
    unfolding line_landing landing mv
    line_in_landing c hc = rw sup_⊗ (sup_lub triggers _ (λ j hj. ≼_of (⊗_left_comm _ _ _) ▸ part j hj (test (spare t j))))
      where
        part : (j : ℕ) → j < triggers → T (spare t j) ⊎ T (not (spare t j)) →
            lag i j ⊗ (num (w.weight c) ⊗ at triggers c j) ≼ sup triggers (λ j. lag i j ⊗ num (X j))
        part j hj (inl s) = idle_lag j _ _ s
        part j hj (inr s) = ⊗_right _ (sup_l_ub L (λ c. num (w.weight c) ⊗ at triggers c j) c hc ▸ ≼_back (w.is j hj s)) ▸
            sup_ub triggers (λ j. lag i j ⊗ num (X j)) j hj

    landing_of_lines : {b : E} → ((c : Line triggers) → In c L → num (w.weight c) ⊗ line_landing t c i ≼ b) → landing t X i ≼ b
    unfolding line_landing landing mv
    landing_of_lines {b} h = sup_lub triggers _ (λ j hj. part j hj (test (spare t j)))
      where
        part : (j : ℕ) → j < triggers → T (spare t j) ⊎ T (not (spare t j)) → lag i j ⊗ num (X j) ≼ b
        part j hj (inl s) = idle_lag j _ _ s
        part j hj (inr s) = ≼_of (ap (λ e. lag i j ⊗ e) (w.is j hj s) ∙ sup_l_⊗ (lag i j) L (λ c. num (w.weight c) ⊗ at triggers c j)) ▸
            sup_l_lub L _ (λ c hc. ≼_of (⊗_left_comm _ _ _) ▸ ⊗_right _ (sup_ub triggers (λ j. lag i j ⊗ at triggers c j) j hj) ▸ h c hc)

  -- ---- the largest weight
  module _ (b : ℕ → ℤ) (c : Line triggers) where
    allowed_late : (w : ℤ) → Allowed t b c w ↔ (num w ⊗ sup panels (late t b c) ≼ unit)
    unfolding late
    allowed_late w = (
      λ h. rw sup_⊗ (sup_lub panels _ (λ i hi. ≼_of (sym (⊗_assoc _ _ _)) ▸ (turned _ (b i)).0 (h i hi))),
      λ h i hi. (turned _ (b i)).1 (≼_of (⊗_assoc _ _ _) ▸ ⊗_right (num w) (sup_ub panels (late t b c) i hi) ▸ h),
    )

    -- where the line reaches some panel the largest is a number, and minus it is the cap
    module _ (z : ℤ) (e : sup panels (late t b c) ≡ num z) where
      up_to : (w : ℤ) → (num w ⊗ sup panels (late t b c) ≼ unit) ↔ (w ≤z neg z)
      up_to w = rw (e, num_⊗ w z) (
        λ h. record { le = let k = h.un.le in omega (arith, up_neg z, up_add w z) },
        λ h. record { un = record { le = let k = h.le in omega (arith, up_neg z, up_add w z) } },
      )

      cap_number : cap t b c ≡ neg z
      unfolding cap late val
      cap_number = ap (λ e. neg (val e)) e

      cap_of : Cap t b c (cap t b c)
      cap_of = rw cap_number (record {
        allowed = (allowed_late (neg z)).1 ((up_to (neg z)).1 (record { le = omega arith }));
        largest = λ v a. (up_to v).0 ((allowed_late v).0 a);
      })

      cap_inv : num (cap t b c) ≡ inv (sup panels (late t b c))
      cap_inv = ap num cap_number ∙ sym (inv_num z) ∙ ap inv (sym e)

  module _ (G : Good t) (o : Orderly t) where
    module _ (b : ℕ → ℤ) (c : Line triggers) (h : In c (sheet_lines t)) where
      late_there : Present (sup panels (late t b c))
      unfolding late
      late_there =
          let (i, hi, p) = reaches t G o c h in
          let (z, e) = ⊗_present (line_landing t c i) (num (neg (b i))) p (neg (b i), refl) in
          (_, val_of _ (≼_back e ▸ sup_ub panels (late t b c) i hi))

      -- "so a cap always exists"
      pub cap_is : Cap t b c (cap t b c)
      cap_is = cap_of b c late_there.0 late_there.1

      -- by overruns
      pub cap_overruns : num (cap t b c) ≡ inv (sup triggers (λ j. overrun t b j ⊗ at triggers c j))
      unfolding late line_landing
      cap_overruns = cap_inv b c late_there.0 late_there.1 ∙ ap inv (late_sum t b (at triggers c))

    -- "exactly when it combines all the lines with whole-number weights no greater than their caps"
    pub in_time_capped : (X : Timing) → (Tightest t X × InTime t X) ↔ Capped t (sheet_lines t) X
    in_time_capped X = (
      λ h. let w = (demand_2 t G o X).0 h.0 in record {
        weighed = w;
        within = λ b e c hc v k. k.largest (w.weight c) (λ i hi. line_in_landing (sheet_lines t) X w i hi c hc ▸ h.1 b e i hi);
      },
      λ k. let w = k.weighed in (
        (demand_2 t G o X).1 w,
        λ b e i hi. landing_of_lines (sheet_lines t) X w i hi (λ c hc.
            let top = cap_is b c hc in
            ⊗_left _ (num_≼ (k.within b e c hc (cap t b c) top)) ▸ top.allowed i hi),
      ),
    )
