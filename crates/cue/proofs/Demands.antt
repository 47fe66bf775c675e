-- What document 01 says of its method, and document 02 of timings, each a theorem: here only the statements, each with the name of its proof.
-- n triggers, P and Q tables. What is meant (Meaning) stands on one side, what the method finds (Method) on the other; least n P is Δ.
use mathlib.Core.Path.{◌≡◌}
use mathlib.Core.Logic.{◌↔◌}
use mathlib.Core.List.{List}
use Prim.Native.Nat.{ℕ, ◌^◌, ◌≤◌, ◌<◌}
use lib.Dec.{T}
use lib.IntN.{ℤ}
use lib.ListN.{length}
use Rattle.maxplus.specs.Entry.{num, ◌≼◌}
use Rattle.maxplus.specs.Finite.{In}
use Rattle.maxplus.specs.Tables.{Vec, mv, star, NoGain}
use Rattle.maxplus.specs.Line.{Line, at, lt_l}
use Rattle.maxplus.specs.Normal.{Normal}
use Rattle.maxplus.specs.Sorted.{Sorted}
use Rattle.maxplus.specs.Combination.{Weighed, Combination}
use Rattle.maxplus.specs.Latest.{LatestOf}
use Rattle.maxplus.proofs.LatestLaws.{latest_one}
use Rattle.maxplus.proofs.LineLaws.{strict}
use Rattle.cue.specs.Minimal.{others}
use Rattle.cue.specs.Cue.{Cue, timing}
use Rattle.cue.specs.Vectors.{Keeps, deviation, Tightest, Readable}
use Rattle.cue.specs.Sizes.{size_limit, geometric, line_down}
use Rattle.cue.specs.Results.{Within, Limited, Signed32, Results}
use Rattle.cue.specs.Method.{Entries, Selection, least, floor_panels, walk, steps, candidates, lines}
use Rattle.cue.specs.Latest.{latest}
use Rattle.cue.proofs.Order.{keeps_iff_unchanged}
use Rattle.cue.proofs.Deviation.{at_least, least_reached, tightest_least, order_possible}
use Rattle.cue.proofs.Cone.{Cone}
use Rattle.cue.proofs.Walk.{steps_bound, reached_left, reached_selection}
use Rattle.cue.specs.Visited.{Visited}
use Rattle.cue.proofs.Extreme.{Extreme, in_lines, lines_increasing, lines_normal, some_line}
use Rattle.cue.specs.Closures.{Common}
use Rattle.cue.proofs.Closure.{extreme_closure, lines_common, lines_by_closure}
use Rattle.cue.proofs.Bounds.{results_six, results_32}
use Rattle.cue.proofs.Weights.{tightest_weighed}
use Rattle.cue.proofs.Latest.{latest_is}
use Rattle.cue.proofs.TwoSheets.{lists_equal, written, TightestOf, written_lists_equal}

-- ---- "Timings that keep the order exist exactly when no diagonal entry of powers 1 to n is above 0."
pub order_kept : (n : ℕ) (P : Cue) → ((X : ℕ → ℤ) × Keeps n P.order (timing X)) ↔ NoGain n P.order
order_kept = order_possible

module _ (n : ℕ) (P : Cue) (R : Readable n P) (np : NoGain n P.order) where
  -- where they exist, what keeps the order, absent components allowed, is what M* leaves unchanged
  pub order_unchanged : (x : Vec) → Keeps n P.order x ↔ ((i : ℕ) → i < n → mv n (star n P.order) x i ≡ x i)
  order_unchanged = keeps_iff_unchanged n P.order np

  -- ---- "The least deviation Δ": no timing that keeps the order deviates by less, and one deviates by Δ
  pub deviation_at_least : (X : ℕ → ℤ) → Keeps n P.order (timing X) → num (least n P) ≼ deviation n P (timing X)
  deviation_at_least = at_least n P R np

  pub deviation_reached : (X : ℕ → ℤ) × Keeps n P.order (timing X) × (deviation n P (timing X) ≡ num (least n P))
  deviation_reached = least_reached n P R np

  -- "those that keep the order and reach the least deviation are the tightest ones"
  pub tightest_test : (X : ℕ → ℤ) → Tightest n P X ↔ (Keeps n P.order (timing X) × (deviation n P (timing X) ≡ num (least n P)))
  tightest_test = tightest_least n P R np

  -- ---- "A selection is complete when each panel with a floor has its trigger": whatever was fixed, each panel still to come has a
  -- trigger left, and the walk goes on to a selection
  pub trigger_left : {is : List ℕ} {o : Entries} → Visited n P (least n P) is o → (k : ℕ) → In k is → (j : ℕ) × (j < n) × T (o k j)
  trigger_left = reached_left n P R np

  pub no_dead_end : {is : List ℕ} {o : Entries} → Visited n P (least n P) is o → (s : Selection) × In s (walk n P is o)
  no_dead_end = reached_selection n P R np

  -- "With f panels that have a floor, steps is at most n + n² + ... + n to the power f."
  pub steps_at_most : steps n P (least n P) ≤ geometric n (length (floor_panels n P))
  steps_at_most = steps_bound n P (least n P)

  -- ---- demand 2: tightest exactly when whole-number weights, one for each line, make it the largest of weight + line
  pub demand_2 : (X : ℕ → ℤ) → Tightest n P X ↔ Weighed n (lines n P) X
  demand_2 = tightest_weighed n P R np

  -- ---- document 02, No. 1: "the tightest timing none of whose components exceeds the given one and which is at least as late, component
  -- by component, as every other such timing. One always exists": it is the formula's, and there is no other
  pub latest_reachable : (G : ℕ → ℤ) → LatestOf n (Tightest n P) G (latest n P G)
  latest_reachable = latest_is n P R np

  pub latest_unique : (G X : ℕ → ℤ) → LatestOf n (Tightest n P) G X → (j : ℕ) → j < n → X j ≡ latest n P G j
  latest_unique G X h = latest_one h (latest_is n P R np G)

  -- ---- "The list holds each distinct candidate that is no combination of the other distinct candidates, where here weights may also be
  -- absent. … It is sorted by component 1, then 2 and so on, absent lowest."
  pub list_members : (c : Line n) → In c (lines n P) ↔
      (In c (candidates n P (least n P)) × ¬ (Combination n (others n (candidates n P (least n P)) c) (at n c)))
  list_members = in_lines n P

  pub list_sorted : Sorted (lt_l n) (strict n) (lines n P)
  list_sorted = lines_increasing n P

  pub list_never_empty : (c : Line n) × In c (lines n P)
  list_never_empty = some_line n P R np

  -- "the greatest component is 0"
  pub list_normal : (c : Line n) → In c (lines n P) → Normal n c
  list_normal = lines_normal n P

  -- ---- a test for these lines that needs no other candidate: the least sets that can be lowered have a trigger in common (Closure)
  pub extreme_test : (c : Line n) → Cone n P (least n P) (at n c) → Normal n c → Extreme n P (least n P) c ↔ Common n P (least n P) c
  extreme_test = extreme_closure n P (least n P) np

  pub list_test : (c : Line n) → In c (lines n P) ↔ (In c (candidates n P (least n P)) × Common n P (least n P) c)
  list_test = lines_common n P np

  pub list_by_test : (L : List (Line n)) → Sorted (lt_l n) (strict n) L →
      ((c : Line n) → In c L ↔ (In c (candidates n P (least n P)) × Common n P (least n P) c)) → L ≡ lines n P
  list_by_test = lines_by_closure n P np

  -- ---- "All finite results fit signed 32 bits; this is proved." Entries within ±L, those of the order table within ±B, and six triggers at
  -- most: Results lists them, each with its size
  pub sizes : (L B : ℕ) → Limited n L B P → n ≤ size_limit → Results L B Within n P
  sizes L B = results_six n L B P np

  pub sizes_32 : (L B : ℕ) → Limited n L B P → n ≤ size_limit → line_down L B < 2 ^ 31 → Results L B (λ k l. Signed32) n P
  sizes_32 L B = results_32 n L B P np

-- ---- demand 3: "every timing is tightest on both sheets or on neither" exactly when the lists are the same
pub demand_3 : (n : ℕ) (P Q : Cue) → Readable n P → Readable n Q → NoGain n P.order → NoGain n Q.order →
    (lines n P ≡ lines n Q) ↔ ((X : ℕ → ℤ) → Tightest n P X ↔ Tightest n Q X)
demand_3 = lists_equal

-- "both lines carry the same count of triggers and the same six components, absent matching only absent": for two counts of triggers
pub demand_3_written : (n k : ℕ) (P Q : Cue) → n ≤ size_limit → k ≤ size_limit → Readable n P → Readable k Q → NoGain n P.order →
    NoGain k Q.order →
    (written n (lines n P) ≡ written k (lines k Q)) ↔ ((l : ℕ) (X : ℕ → ℤ) → TightestOf n P l X ↔ TightestOf k Q l X)
demand_3_written = written_lists_equal
