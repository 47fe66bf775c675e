-- The marks of a cue as words: those of the sheet, or those of rule 2.
use mathlib.Core.Path.{◌≡◌, refl, ap, ap₂, sym, subst, ◌∙◌}
use mathlib.Core.List.{List}
use Prim.Native.Nat.{ℕ, ◌≤◌, ◌<◌}
use native.Mathlib.Nat.{le_refl}
use native.Mathlib.Omega.{arith}
use lib.IntN.{pos}
use lib.ListN.{replicate, get_or-replicate}
use Rattle.maxplus.specs.Whole.{neg}
use Rattle.maxplus.specs.Entry.{num, ◌⊗◌, inv}
use Rattle.maxplus.specs.Tables.{sup}
use Rattle.maxplus.proofs.EntryLaws.{⊗_unit, ⊗_unit_r, inv_inv}
use Rattle.maxplus.proofs.SupLaws.{sup_ext}
use Rattle.cue.specs.Cue.{timing, overdue}
use Rattle.cue.specs.Sizes.{size_limit}
use Rattle.cue.specs.Results.{Within}
use Rattle.sheet.specs.Sheet.{Sheet, Measure, by_marks, by_spread, own_due, limit}
use Rattle.sheet.specs.Cue.{used, cue_size, trigger_at, floor_by, due_by, cue_of}
use Rattle.sheet.specs.Good.{Measured}
use Rattle.sheet.proofs.WithinLaws.{within_sup}
use Rattle.sheet.proofs.Good.{in_range}
use Rattle.sheet.proofs.Seam.{farthest_due}
use Rattle.words.specs.Words.{far, word, entry, Near}
use Rattle.reading.specs.Reading.{numbers, measure_words}
use Rattle.reading.specs.declared.SheetWords.{SheetWords}
use Rattle.reading.specs.declared.Measure.TheVariants.{Marks, Spread}
use Rattle.rows.specs.Grid.{strip}
use Rattle.tables.specs.Held.{meant, meant_v, Holds, HoldsV, Closely, CloselyV}
use Rattle.tables.proofs.SquareLaws.{close_within, closely_within, closely_within_v}
use Rattle.spares.specs.Using.{PlacesOf, Picked}
use Rattle.spares.specs.declared.Places.{Places}
use Rattle.spares.proofs.PickedLaws.{picked_at}
use Rattle.preparing.specs.Prepared.{Worded}
use Rattle.preparing.proofs.Preparing.{panels_of, below}
use Rattle.preparing.proofs.Results.{word_held, strip_held, first_held}

marks_not_spread : {C : Type 0} {p q : List ℕ} → Marks p q ≡ Spread → C
marks_not_spread e = let z : ◌≡◌ {A = ℕ} 0 1 = cc in let x : ⊥ = omega arith in absurd x

module _ {s : Sheet} {t : SheetWords} (W : Worded s t) where
  measure_of : t.measure ≡ measure_words s.triggers s.measure
  measure_of = ap (λ t. t.measure) W.words

  -- ---- by marks: the sheet's own
  module _ {floor due : List ℕ} (e : t.measure ≡ Marks floor due) where
    pub own_floors : HoldsV s.panels (floor_by s.measure) floor
    own_floors = go s.measure (sym measure_of ∙ e) W.good.limited.floors
      where
        go : (M : Measure) → measure_words s.triggers M ≡ Marks floor due → ((i : ℕ) → i < s.panels → Within limit limit (floor_by M i)) →
            HoldsV s.panels (floor_by M) floor
        go (by_marks p q) e w = let f : strip p ≡ floor = cc in rw (← f) (strip_held p W.good.panels_few w)
        go by_spread e w = marks_not_spread (sym e)

    pub own_dues : {p : Places} {r : List ℕ} → PlacesOf (used s) s.triggers p → Picked p due r →
        HoldsV (cue_size s) (timing (cue_of s).due) r
    unfolding meant_v
    own_dues U h = record { at = λ k q. ap entry (picked_at U h k q) ∙ own (trigger_at s k) (below W U k q) }
      where
        own : (j : ℕ) → j < s.triggers → meant_v due j ≡ num (due_by s.panels s.lag s.measure j)
        own j b = go s.measure (sym measure_of ∙ e) W.good.dues
          where
            go : (M : Measure) → measure_words s.triggers M ≡ Marks floor due →
                ((j : ℕ) → j < s.triggers → Within limit limit (own_due M j)) → meant_v due j ≡ num (due_by s.panels s.lag M j)
            go (by_marks p q) e w =
                let f : strip (numbers s.triggers q) ≡ due = cc in rw (← f) ((first_held s.triggers q W.good.triggers_few w).at j b)
            go by_spread e w = marks_not_spread (sym e)

  -- ---- under rule 2
  module _ (e : t.measure ≡ Spread) where
    spread_is : s.measure ≡ by_spread
    spread_is = go s.measure (sym measure_of ∙ e)
      where
        go : (M : Measure) → measure_words s.triggers M ≡ Spread → M ≡ by_spread
        go (by_marks p q) e = marks_not_spread e
        go by_spread e = refl

    module _ {z : ℕ} (zero_is : z ≡ word (num (pos 0))) where
      zero_near : Within limit limit (num (pos 0))
      zero_near = in_range (num (pos 0)) refl

      zeros : HoldsV s.panels (λ i. num (pos 0)) (replicate 6 z)
      unfolding meant_v
      zeros = record {
        at = λ i h. ap entry (get_or-replicate 6 i z 0 (let f = W.good.panels_few in omega arith) ∙ zero_is) ∙ word_held (num (pos 0)) zero_near;
      }

      pub floors_0 : HoldsV s.panels (floor_by s.measure) (replicate 6 z)
      floors_0 = rw spread_is zeros

      -- the largest lag of each trigger, and minus it
      module _ {p : Places} (U : PlacesOf (used s) s.triggers p) {lags : List (List ℕ)}
          (hl : Holds s.panels (cue_size s) (cue_of s).lag lags) where
        pub farthest_asks : (t.panels ≤ size_limit) × (p.count ≤ size_limit) × Closely t.panels p.count limit lags ×
            CloselyV t.panels limit (replicate 6 z)
        farthest_asks = rw (panels_of W, U.count_is) (
          W.good.panels_few,
          W.good.few,
          closely_within (le_refl _) (le_refl _) hl W.good.limited.lags,
          closely_within_v (le_refl _) (le_refl _) zeros (λ i h. zero_near),
        )

        module _ {far-lags : List ℕ}
            (hf : HoldsV p.count (λ j. overdue t.panels (meant_v (replicate 6 z)) (λ i. meant lags i j)) far-lags) where
          farthest_held : HoldsV (cue_size s) (λ k. sup s.panels (λ i. (cue_of s).lag i k)) far-lags
          unfolding overdue inv neg
          farthest_held = record {
            at = λ k q. (rw (U.count_is, panels_of W) at hf).at k q ∙
                sup_ext s.panels (λ i h. ap₂ (λ a b. a ⊗ inv b) (hl.at i k h q) (zeros.at i h) ∙ ⊗_unit_r _);
          }

          pub turned_asks : (p.count ≤ size_limit) × CloselyV p.count far far-lags × Near z
          turned_asks = rw U.count_is (
            W.good.few,
            closely_within_v (omega arith) (omega arith) farthest_held (λ k q. within_sup s.panels _ (λ i h. W.good.limited.lags i k h q)),
            close_within far z (ap entry zero_is ∙ word_held (num (pos 0)) zero_near) (omega arith) (omega arith) zero_near,
          )

          pub farthest_dues : {due : List ℕ} → HoldsV p.count (λ j. entry z ⊗ inv (meant_v far-lags j)) due →
              HoldsV (cue_size s) (timing (cue_of s).due) due
          farthest_dues hd = record {
            at = λ k q. (rw U.count_is at hd).at k q ∙
                ap₂ (λ a b. a ⊗ inv b) (ap entry zero_is ∙ word_held (num (pos 0)) zero_near) (farthest_held.at k q) ∙ ⊗_unit _ ∙
                ap inv (sym (farthest_due s (subst (Measured s) spread_is W.good.measured) (λ j. pos 0) k q)) ∙ inv_inv _ ∙
                ap (λ M. num (due_by s.panels s.lag M (trigger_at s k))) (sym spread_is);
          }
