-- A timing handed back, one trigger more at a time: the times made at the triggers in use, the wished ones at the spare ones.
use mathlib.Core.Path.{◌≡◌, refl, ap, ap₂, sym, ◌∙◌}
use mathlib.Core.Bool.{Bool, true, false}
use mathlib.Core.List.{List}
use Prim.Native.Nat.{ℕ, ◌+◌, ◌≤◌, ◌<◌}
use native.Mathlib.Omega.{arith}
use native.Mathlib.Numerals.{add-one}
use lib.IntN.{ℤ, pos}
use lib.ListN.{get_or, set, replicate}
use Rattle.maxplus.specs.Finite.{sum}
use Rattle.maxplus.specs.Packing.{rank, filled}
use Rattle.maxplus.proofs.PackingLaws.{rank_next, filled_rank, filled_other}
use Rattle.cue.specs.Sizes.{six}
use Rattle.trigger_sets.specs.Sets.{bit}
use Rattle.spares.specs.declared.Places.{Places}
use Rattle.spares.specs.Using.{PlacesOf}
use Rattle.spares.proofs.AgreeLaws.{passes, fails}
use Rattle.spares.proofs.PlaceLaws.{used_bit}
use Rattle.timing.specs.Times.{component, timing_of}
use Rattle.timing.specs.declared.Timing.{Timing}
use Rattle.timing.proofs.NumberLaws.{first, components_none, components_more}

module _ (p : Places) (wished made : List ℤ) where
  -- j triggers have been looked at, k of them are in use
  pub record Handing (at : List ℤ) (k j : ℕ) : Type 0 where
    pub few : k ≤ j
    pub times : (s : ℕ → Bool) (n : ℕ) → PlacesOf s n p →
        (k ≡ rank s j) × (at ≡ six (first j (filled s (component wished) (component made))))

  pub handing_none : Handing (replicate 6 (pos 0)) 0 0
  handing_none = record { few = omega arith; times = λ s n u. (sym (unfold rank sum in refl), components_none _) }

  module _ {at : List ℤ} {k j : ℕ} {z : ℤ} (h : j < 6) (y : Handing at k j) where
    pub handing_used : bit p.used j ≡ true → z ≡ get_or made k (pos 0) → Handing (set at j z) (k + 1) (j + 1)
    handing_used b e = record {
      few = omega (arith, y.few);
      times = λ s n u.
          let q = passes (sym (used_bit u j h) ∙ b) in
          let (r, t) = y.times s n u in (
            omega (arith, r, (rank_next s j).1 q, ap (rank s) (add-one j)),
            rw t (components_more (filled s (component wished) (component made)) j z h
                (e ∙ ap (component made) r ∙ sym (filled_rank s (component wished) (component made) j q))),
          );
    }

    pub handing_spare : bit p.used j ≡ false → z ≡ get_or wished j (pos 0) → Handing (set at j z) k (j + 1)
    handing_spare b e = record {
      few = omega (arith, y.few);
      times = λ s n u.
          let q = fails (sym (used_bit u j h) ∙ b) in
          let (r, t) = y.times s n u in (
            omega (arith, r, (rank_next s j).2 q, ap (rank s) (add-one j)),
            rw t (components_more (filled s (component wished) (component made)) j z h
                (e ∙ sym (filled_other s (component wished) (component made) j q))),
          );
    }

  -- all triggers have been looked at
  pub handing_all : {at : List ℤ} {k j : ℕ} → Handing at k j → j ≡ p.triggers → (s : ℕ → Bool) (n : ℕ) → PlacesOf s n p →
      ◌≡◌ {A = Timing} (record { count = p.triggers; at = at }) (timing_of n (filled s (component wished) (component made)))
  handing_all y e s n u =
      let back : ℕ → List ℤ → Timing = λ n at. record { count = n; at = at } in
      ap₂ back u.triggers_are ((y.times s n u).1 ∙ ap (λ j. six (first j (filled s (component wished) (component made)))) (e ∙ u.triggers_are))
