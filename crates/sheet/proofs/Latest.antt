-- The latest timing of a sheet (document 02, No. 1): the formula over the sheet's lines gives one, there is no other, and how far from 0 it is.
use mathlib.Core.Path.{◌≡◌, ap, sym, ◌∙◌}
use mathlib.Core.Logic.{◌⊎◌, inl, inr}
use mathlib.Core.Bool.{not}
use mathlib.Core.List.{List}
use Prim.Native.Nat.{ℕ, ◌+◌, ◌<◌}
use lib.Dec.{T}
use Rattle.maxplus.specs.Whole.{◌≤z◌}
use Rattle.maxplus.specs.Entry.{num}
use Rattle.maxplus.specs.Packing.{rank}
use Rattle.maxplus.specs.Latest.{NoLater, LatestOf}
use Rattle.maxplus.proofs.WholeLaws.{z_refl}
use Rattle.maxplus.proofs.LatestLaws as laws
use Rattle.maxplus.proofs.FiniteLaws.{test}
use Rattle.maxplus.proofs.PackingLaws.{rank_more, placed, place_rank, filled_rank, filled_other}
use Rattle.cue.specs.Latest.{latest}
use Rattle.cue.specs.Results.{Within}
use Rattle.cue.specs.Vectors as vectors
use Rattle.cue.proofs.Latest.{latest_is}
use Rattle.cue.proofs.Bounds.{latest_within}
use Rattle.sheet.specs.Sheet.{got, Sheet, limit}
use Rattle.sheet.specs.Sizes.{order_limit, line_down}
use Rattle.sheet.specs.Meaning.{Timing, Tightest, InTime, Latest}
use Rattle.sheet.specs.Cue.{used, cue_size, trigger_at, cue_of, Orderly}
use Rattle.sheet.specs.Overruns.{lowered}
use Rattle.sheet.specs.Good.{Good}
use Rattle.sheet.specs.Times.{far_limit}
use Rattle.sheet.specs.Admitted.{admitted}
use Rattle.sheet.proofs.Good.{read_good}
use Rattle.sheet.proofs.Idle.{spare_idle}
use Rattle.sheet.proofs.Spares.{unused_idle}
use Rattle.sheet.proofs.Overruns.{in_time_early, no_later_lowered, lowered_spare, lowered_within}
use Rattle.sheet.proofs.AdmittedLaws.{Admits, admitted_as}
use Rattle.sheet.proofs.Seam.{at_used, over, over_tightest, tightest_ext, tightest_cue}
use Rattle.sheet.proofs.Fits.{near}

-- the times that the formula gives for the triggers in use, where the given ones are made early enough, and the given ones at the spare
-- triggers: "No. 1 hands that number back"
unfoldable pub latest_on : Sheet → Timing → Timing
latest_on t G = over t G (latest (cue_size t) (cue_of t) (at_used t (lowered t G)))

module _ (t : Sheet) (good : Good t) (o : Orderly t) (G : Timing) where
  abbrev best : Timing
  best = latest (cue_size t) (cue_of t) (at_used t G)

  abbrev best_is : LatestOf (cue_size t) (vectors.Tightest (cue_size t) (cue_of t)) (at_used t G) best
  best_is = latest_is (cue_size t) (cue_of t) good.readable o (at_used t G)

  module _ (j : ℕ) (h : j < t.triggers) where
    -- at a trigger in use, and at a spare one
    in_use : T (used t j) → (Y : Timing) → (Y (trigger_at t (rank (used t) j)) ≡ Y j) × (rank (used t) j < cue_size t)
    in_use u Y = (ap Y (place_rank (used t) t.triggers j h u), rank_more (used t) j t.triggers h u)

    no_later : T (used t j) ⊎ T (not (used t j)) → over t G best j ≤z G j
    no_later (inl u) = let (e, q) = in_use u G in
        rw (filled_rank (used t) G best j u) (rw e at (best_is.no_later (rank (used t) j) q))
    no_later (inr u) = rw (filled_other (used t) G best j u) (z_refl (G j))

    later : (Y : Timing) → Tightest t Y → NoLater t.triggers Y G → T (used t j) ⊎ T (not (used t j)) → Y j ≤z over t G best j
    later Y y k (inl u) = let (e, q) = in_use u Y in
        rw (filled_rank (used t) G best j u) (rw e at
        (best_is.latest (at_used t Y) ((tightest_cue t good.measured Y).0 y) (λ i p. k (trigger_at t i) (placed (used t) t.triggers i p).below)
        (rank (used t) j) q))
    later Y y k (inr u) = rw (filled_other (used t) G best j u) (k j h)

  latest_tightest : LatestOf t.triggers (Tightest t) G (over t G best)
  latest_tightest = record {
    such = over_tightest t good.measured G best best_is.such;
    no_later = λ j h. no_later j h (test (used t j));
    latest = λ Y y k j h. later j h Y y k (test (used t j));
  }

pub latest_one : {t : Sheet} {G X Y : Timing} → Latest t G X → Latest t G Y → (j : ℕ) → j < t.triggers → X j ≡ Y j
latest_one h k = laws.latest_one h k

-- only the first n components count
tightest_same : (t : Sheet) → Good t → {X Y : Timing} → ((j : ℕ) → j < t.triggers → X j ≡ Y j) → Tightest t X → Tightest t Y
tightest_same t good {X} {Y} e h = (tightest_cue t good.measured Y).1 (tightest_ext (cue_size t) (cue_of t)
    (λ k q. e (trigger_at t k) (placed (used t) t.triggers k q).below) ((tightest_cue t good.measured X).0 h))

in_time_same : (t : Sheet) → {X Y : Timing} → ((j : ℕ) → j < t.triggers → X j ≡ Y j) → InTime t X → InTime t Y
in_time_same t {X} {Y} e h = (in_time_early t Y).1 (λ j q. rw (← e j q) ((in_time_early t X).0 h j q))

pub latest_same : (t : Sheet) → Good t → {G X Y : Timing} → ((j : ℕ) → j < t.triggers → X j ≡ Y j) →
    Latest t G X → Latest t G Y
latest_same t good {G} {X} {Y} e h = record {
  such = record { tightest = tightest_same t good e h.such.tightest; in_time = in_time_same t e h.such.in_time };
  no_later = λ j q. rw (← e j q) (h.no_later j q);
  latest = λ Z u k j q. rw (← e j q) (h.latest Z u k j q);
}

-- the latest of those no later than times made early enough is the latest of those in time
latest_in_time : (t : Sheet) {G X : Timing} → LatestOf t.triggers (Tightest t) (lowered t G) X → Latest t G X
latest_in_time t {G} {X} h = let (early, timely) = (no_later_lowered t X G).0 h.no_later in record {
  such = record { tightest = h.such; in_time = timely };
  no_later = early;
  latest = λ Y y k. h.latest Y y.tightest ((no_later_lowered t Y G).1 (k, y.in_time));
}

-- at the spare triggers nothing is lowered
over_lowered : (t : Sheet) (G Y : Timing) (j : ℕ) → j < t.triggers → over t (lowered t G) Y j ≡ over t G Y j
over_lowered t G Y j h = go (test (used t j))
  where
    go : T (used t j) ⊎ T (not (used t j)) → over t (lowered t G) Y j ≡ over t G Y j
    go (inl u) = filled_rank (used t) (lowered t G) Y j u ∙ sym (filled_rank (used t) G Y j u)
    go (inr u) = filled_other (used t) (lowered t G) Y j u ∙ lowered_spare t G j ((spare_idle t j).1 (unused_idle t j h u)) ∙
        sym (filled_other (used t) G Y j u)

pub latest_formula : (t : Sheet) → Good t → Orderly t → (G : Timing) → Latest t G (latest_on t G)
unfolding latest_on
latest_formula t good o G = latest_same t good (over_lowered t G _) (latest_in_time t (latest_tightest t good o (lowered t G)))

module _ (s : List ℕ) (count : ℕ) (G : Timing) (t : Sheet) (r : List ℕ) (e : admitted s count G ≡ got t r) where
  abbrev admits : Admits s count G t r
  admits = admitted_as s count G t r e

  abbrev good : Good t
  good = read_good s t r admits.read_is

  -- "One always exists"
  unfoldable pub latest_exists : (X : Timing) × Latest t G X
  latest_exists = (latest_on t G, latest_formula t good admits.orderly G)

  given : (j : ℕ) → j < t.triggers → Within far_limit far_limit (num (G j))
  given = near G t.triggers admits.near

  -- it is as far from 0 as a given timing may be, and a line's size lower at most: at the triggers in use, and the given one at the others
  pub latest_fits : (k : ℕ) → k < cue_size t →
      Within (far_limit + line_down) far_limit (num (latest (cue_size t) (cue_of t) (at_used t (lowered t G)) k))
  latest_fits = latest_within (cue_size t) (cue_of t) (at_used t (lowered t G)) far_limit far_limit
      (λ k q. lowered_within t good G given (trigger_at t k) (placed (used t) t.triggers k q).below) limit order_limit admits.orderly
      good.limited good.few
