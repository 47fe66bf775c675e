-- All finite results of a sheet that is read fit signed 32 bits (specs/Fits): cue's sizes at the limits on a sheet's entries, and the sums
-- that a tested timing makes with them.
use mathlib.Core.Path.{◌≡◌, refl}
use mathlib.Core.Bool.{false}
use mathlib.Core.List.{[], ◌∷◌}
use mathlib.Core.Option.{some}
use Prim.Native.Nat.{ℕ, ◌+◌, ◌*◌, ◌≤◌, ◌<◌}
use native.Mathlib.Omega.{arith}
use native.Mathlib.Nat.{le_trans}
use borrow.Author.Tests.{ltb-false}
use lib.Dec.{ltb}
use lib.IntN.{ℤ, pos}
use Rattle.maxplus.specs.Whole.{up, dn}
use Rattle.maxplus.specs.Entry.{num, ◌⊗◌}
use Rattle.maxplus.specs.Finite.{In, each}
use Rattle.maxplus.specs.Line.{Line, at}
use Rattle.maxplus.specs.Tables.{sup, mv}
use Rattle.maxplus.proofs.EntryLaws.{num_inj}
use Rattle.maxplus.proofs.PackingLaws.{rank_few, placed}
use Rattle.maxplus.proofs.EachLaws.{each_at, length_each}
use Rattle.cue.specs.Cue.{timing}
use Rattle.cue.specs.Cue as cue
use Rattle.cue.specs.Vectors as vectors
use Rattle.cue.specs.Results.{Above, Below, Within, Signed32}
use Rattle.cue.proofs.Bounds.{above_⊗, below_⊗, above_sup, below_sup, above_inv, below_inv, power_within, times_le, signed32, results_six, results_32}
use Rattle.cue.proofs.Walk.{steps_bound}
use Rattle.cue.proofs.Few.{geometric_mono, selections_few, steps_few, lines_few}
use Rattle.sheet.specs.Sheet.{Sheet, limit}
use Rattle.sheet.specs.Sizes.{order_limit, star_size, through_size, mark_down, least_up, need_down, line_down, cap_down, cap_up}
use Rattle.sheet.specs.Meaning.{Timing, landing, deviation}
use Rattle.sheet.specs.Times.{far_limit, beyond, some_beyond}
use Rattle.sheet.specs.Cue.{used, cue_size, trigger_at, cue_of, Orderly, sheet_lines, cap}
use Rattle.sheet.specs.Overruns.{overrun}
use Rattle.sheet.specs.Good.{Good}
use Rattle.sheet.specs.Fits.{Fits, AllResultsFit}
use Rattle.sheet.proofs.LineLaws.{none_or, none_at}
use Rattle.sheet.proofs.WithinLaws.{within_⊗, within_inv, within_sup}
use Rattle.sheet.proofs.Good.{read_good}
use Rattle.sheet.proofs.Seam.{at_used, landing_cue, deviation_cue}
use Rattle.sheet.proofs.ListLaws.{lines_many, components_within}
use Rattle.sheet.proofs.Overruns.{overrun_within}
use Rattle.sheet.proofs.Caps.{cap_overruns}

-- ---- the sizes as multiples of the limit: an order entry, M*, d and r, Δ, w, a line, a cap
pub values : (order_limit ≡ 2 * limit) × (star_size ≡ 10 * limit) × (through_size ≡ 11 * limit) × (mark_down ≡ 11 * limit) ×
    (least_up ≡ 13 * limit) × (need_down ≡ 25 * limit) × (line_down ≡ 48 * limit) × (cap_down ≡ 2 * limit) × (cap_up ≡ 50 * limit)
values = (refl, refl, refl, refl, refl, refl, refl, refl, refl)

-- ---- a timing that is tested
pub not_beyond : (x : ℤ) → beyond x ≡ false → (up x ≤ far_limit) × (dn x ≤ far_limit)
not_beyond x b = let e = none_or (ltb far_limit (up x)) (ltb far_limit (dn x)) b in (ltb-false _ _ e.0, ltb-false _ _ e.1)

pub near : (X : Timing) (n : ℕ) → some_beyond n X ≡ false → (j : ℕ) → j < n → Within far_limit far_limit (num (X j))
near X n e j h =
    let b : beyond (X j) ≡ false = rw (each_at n j X (pos 0) h) at (none_at beyond (pos 0) (each n (λ j. X j ∷ [])) j e (rw (length_each n X) h)) in
    let (u, d) = not_beyond (X j) b in
    record { low = record { above = λ y f. rw (← num_inj f) (omega arith) }; high = record { below = λ y f. rw (← num_inj f) (omega arith) } }

module _ (t : Sheet) (G : Good t) (X : Timing) (e : some_beyond t.triggers X ≡ false) where
  landing_within : (i : ℕ) → i < t.panels → Within (limit + far_limit) (limit + far_limit) (landing t X i)
  unfolding landing mv
  landing_within i h = within_sup t.triggers _ (λ j q. within_⊗ (G.lags i j h q) (near X t.triggers e j q))

  -- on the cue, whose marks are within the limit by either rule
  overdue_within : Within (far_limit + limit) (far_limit + limit) (cue.overdue (cue_size t) (timing (cue_of t).due) (timing (at_used t X)))
  unfolding cue.overdue
  overdue_within = within_sup (cue_size t) _ (λ k q. within_⊗
      (near X t.triggers e (trigger_at t k) (placed (used t) t.triggers k q).below) (within_inv (G.limited.dues k q)))

  shortfall_within : Within (limit + (limit + far_limit)) (limit + (limit + far_limit))
      (cue.shortfall t.panels (cue_size t) (cue_of t).lag (cue_of t).floor (timing (at_used t X)))
  unfolding cue.shortfall
  shortfall_within = within_sup t.panels _ (λ i h. within_⊗ (G.limited.floors i h)
      (within_inv (rw (landing_cue t X i h) at (landing_within i h))))

  deviation_fits : Signed32 (deviation t X)
  deviation_fits = rw (deviation_cue t G.measured X)
      (unfold vectors.deviation in signed32 (omega arith) (omega arith) (within_⊗ overdue_within shortfall_within))

-- ---- caps
module _ (t : Sheet) (G : Good t) (o : Orderly t) (b : ℕ → ℤ) (e : t.last ≡ some b) (c : Line t.triggers) (h : In c (sheet_lines t)) where
  -- a component is at most 0
  late_low : Above cap_up (sup t.triggers (λ j. overrun t b j ⊗ at t.triggers c j))
  late_low = above_sup t.triggers _ (λ j q. above_⊗ _ _ (overrun_within t G b e j q).low (components_within t G o c h j q).low)

  late_high : Below cap_down (sup t.triggers (λ j. overrun t b j ⊗ at t.triggers c j))
  late_high = below_sup t.triggers _ (λ j q. below_⊗ _ _ (overrun_within t G b e j q).high (components_within t G o c h j q).high)

  pub cap_within : Within cap_down cap_up (num (cap t b c))
  cap_within = rw (cap_overruns t G o b c h) (record { low = above_inv _ late_high; high = below_inv _ late_low })

-- ---- all of it
fits : (t : Sheet) → Good t → Fits t
fits t G =
    let n = cue_size t in
    let P = cue_of t in
    record {
      powers = λ k i j hk hi hj.
          let p : k * order_limit ≤ 6 * order_limit = times_le k 6 order_limit (le_trans hk G.few) in
          signed32 (omega arith) (omega arith) (power_within n 5 limit order_limit P G.limited G.few k i j hi hj);
      results = λ o. results_32 n limit order_limit P o G.limited G.few (omega arith);
      orders = G.limited.orders;
      sizes = λ o. results_six n limit order_limit P o G.limited G.few;
      steps_most = le_trans (steps_bound n P _) (geometric_mono n t.triggers _ (rank_few (used t) t.triggers));
      steps = let h = steps_few n P G.few G.panels_few in omega arith;
      selections = let h = selections_few n P G.few G.panels_few in omega arith;
      count = let h = lines_few n P G.few G.panels_few in let e = lines_many t in omega arith;
      caps = λ o b e c h. signed32 (omega arith) (omega arith) (cap_within t G o b e c h);
      cap_sizes = λ o b e c h. cap_within t G o b e c h;
      landings = λ X e i h. signed32 (omega arith) (omega arith) (landing_within t G X e i h);
      deviation = λ X e. deviation_fits t G X e;
    }

pub all_fit : AllResultsFit
all_fit s t r e = fits t (read_good s t r e)
