-- What is promised of every sheet that reading gives, over its tables: cue's theorems carried over the seam.
use mathlib.Core.Path.{◌≡◌, ◌∙◌}
use mathlib.Core.Logic.{◌↔◌}
use native.Mathlib.Omega.{arith}
use Rattle.maxplus.specs.Entry.{num, ◌≼◌}
use Rattle.maxplus.specs.Line.{lt_l}
use Rattle.maxplus.specs.Sorted.{Sorted}
use Rattle.maxplus.proofs.EntryLaws.{◌▸◌, ≼_anti, ≼_of, ≼_back}
use Rattle.maxplus.proofs.LineLaws.{strict}
use Rattle.maxplus.proofs.LayoutLaws.{layout_sorted}
use Rattle.cue.specs.Method.{lines}
use Rattle.cue.proofs.Demands as theory
use Rattle.sheet.specs.Sheet.{Sheet}
use Rattle.sheet.specs.Meaning.{Timing, Keeps, deviation, Tightest, Weighed, SameSpares, SameTimings}
use Rattle.sheet.specs.Cue.{used, cue_size, cue_of, Orderly, sheet_least, sheet_lines}
use Rattle.sheet.specs.Good.{Good}
use Rattle.sheet.proofs.Seam.{at_used, anyhow, over, over_keeps, over_deviation, keeps_cue, deviation_cue, tightest_cue}
use Rattle.sheet.proofs.ListLaws.{weighed_cue}
use Rattle.sheet.proofs.TwoSheets.{SameLists, lists_timings, lists_spares}

-- "8: no timing keeps the order"
pub order_kept : (t : Sheet) → ((X : Timing) × Keeps t X) ↔ Orderly t
order_kept t = (
  λ p. (theory.order_kept (cue_size t) (cue_of t)).0 (at_used t p.0, (keeps_cue t p.0).0 p.1),
  λ o. let (Y, k) = (theory.order_kept (cue_size t) (cue_of t)).1 o in (over t anyhow Y, over_keeps t anyhow Y k),
)

module _ (t : Sheet) (G : Good t) (o : Orderly t) where
  -- demand 2: Δ is the least deviation of any timing that keeps the order, and some timing has it
  pub deviation_at_least : (X : Timing) → Keeps t X → num (sheet_least t) ≼ deviation t X
  deviation_at_least X k =
      theory.deviation_at_least (cue_size t) (cue_of t) G.readable o (at_used t X) ((keeps_cue t X).0 k) ▸ ≼_back (deviation_cue t G.measured X)

  pub deviation_reached : (X : Timing) × Keeps t X × (deviation t X ≡ num (sheet_least t))
  deviation_reached = let (Y, k, d) = theory.deviation_reached (cue_size t) (cue_of t) G.readable o in
      (over t anyhow Y, over_keeps t anyhow Y k, over_deviation t anyhow Y G.measured ∙ d)

  -- "those that keep the order and reach the least deviation are the tightest ones"
  pub tightest_test : (X : Timing) → Tightest t X ↔ (Keeps t X × (deviation t X ≡ num (sheet_least t)))
  tightest_test X = (
    λ h. let (Y, k, d) = deviation_reached in (h.keeps, ≼_anti (h.least Y k ▸ ≼_of d) (deviation_at_least X h.keeps)),
    λ h. record { keeps = h.0; least = λ Y k. ≼_of h.1 ▸ deviation_at_least Y k },
  )

  -- and the lines make the tightest timings, with whole-number weights, one for each line, in the components that are not spare
  pub demand_2 : (X : Timing) → Tightest t X ↔ Weighed t (sheet_lines t) X
  demand_2 X = let both = theory.demand_2 (cue_size t) (cue_of t) G.readable o (at_used t X) in (
    λ h. (weighed_cue t X).1 (both.0 ((tightest_cue t G.measured X).0 h)),
    λ w. (tightest_cue t G.measured X).1 (both.1 ((weighed_cue t X).0 w)),
  )

  -- "sorted by component 1, then 2 and so on, absent lowest", the components in their places
  pub list_sorted : Sorted (lt_l t.triggers) (strict t.triggers) (sheet_lines t)
  unfolding sheet_lines
  list_sorted = layout_sorted (used t) t.triggers t.triggers (omega arith) (lines (cue_size t) (cue_of t))
      (theory.list_sorted (cue_size t) (cue_of t) G.readable o)

-- ---- demand 3: for equal numbers of triggers the words of the lists are the same exactly when the same triggers are spare and the same
-- timings tightest
module _ (t u : Sheet) (G : Good t) (H : Good u) (o : Orderly t) (p : Orderly u) (same_size : t.triggers ≡ u.triggers) where
  pub demand_3 : SameSpares t u → SameLists t u ↔ SameTimings t u
  demand_3 same = lists_timings t u G H o p same_size same

  pub demand_3_whole : SameLists t u ↔ (SameSpares t u × SameTimings t u)
  demand_3_whole = (
    λ e. let same = lists_spares t u G H o p same_size e in (same, (demand_3 same).0 e),
    λ h. (demand_3 h.0).1 h.1,
  )
