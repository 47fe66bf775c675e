-- Which triggers are in use: those that are not spare; and what the order table has of a spare one.
use mathlib.Core.Path.{◌≡◌, refl, ap, sym, ◌∙◌}
use mathlib.Core.Logic.{◌↔◌, ◌⊎◌, inl, inr}
use mathlib.Core.Bool.{Bool, true, false, not, ◌&&◌, ◌||◌}
use Prim.Native.Nat.{ℕ, ◌^◌, ◌<◌}
use native.Mathlib.Omega.{arith}
use lib.Dec.{T, ltb, lt→ltb, T_not, not_T}
use Rattle.maxplus.specs.Entry.{absent, ◌⊗◌, Present, present?}
use Rattle.maxplus.specs.Finite.{count_if, byte_of}
use Rattle.maxplus.specs.Tables.{sup, mm}
use Rattle.maxplus.proofs.EntryLaws.{◌▸◌, ≼_anti, ≼_absent, ≼_of, ⊕_l, ⊕_r, ⊕_lub, ⊗_absent, ⊗_nothing, absent_not}
use Rattle.maxplus.proofs.SupLaws.{sup_ub, sup_lub}
use Rattle.maxplus.specs.Packing.{rank}
use Rattle.maxplus.proofs.FiniteLaws.{test, both, sum_ext}
use Rattle.maxplus.proofs.PackingLaws.{rank_more, place_rank}
use Rattle.cue.specs.Vectors.{Readable}
use Rattle.sheet.specs.Sheet.{Sheet, given_table, none_present, spare}
use Rattle.sheet.specs.Cue.{floor_by, order_table, used, cue_size, trigger_at, cue_of}
use Rattle.sheet.proofs.Idle.{none_absent, absent_left, Idle, spare_idle, used_not_spare}

module _ (t : Sheet) where
  open t use {panels, triggers, lag, after, land}

  pub spare_unused : (j : ℕ) → T (spare t j) → T (not (used t j))
  spare_unused j s = not_T (used t j) (λ u. T_not (spare t j) ((used_not_spare t j).0 u).1 s)

  pub unused_idle : (j : ℕ) → j < triggers → T (not (used t j)) → Idle t j
  unused_idle j hj h = go (test (spare t j))
    where
      go : T (spare t j) ⊎ T (not (spare t j)) → Idle t j
      go (inl s) = (spare_idle t j).0 s
      go (inr s) = absurd (T_not (used t j) h ((used_not_spare t j).1 (hj, s)))

  unused_spare : (j : ℕ) → j < triggers → not (used t j) ≡ spare t j
  unused_spare j h = agree (used t j) (spare t j) (λ u. ((used_not_spare t j).0 u).1) (λ s. (used_not_spare t j).1 (h, s))
    where
      agree : (u s : Bool) → (T u → T (not s)) → (T (not s) → T u) → not u ≡ s
      agree true false f g = refl
      agree false true f g = refl
      agree true true f g = absurd (f tt)
      agree false false f g = absurd (g tt)

  -- the triggers that are not in use, as bits, are the spares
  pub unused_byte : byte_of triggers (λ j. not (used t j)) ≡ byte_of triggers (spare t)
  unfolding byte_of
  unused_byte = sum_ext triggers _ _ (λ j h. ap (λ b. count_if b (2 ^ j)) (unused_spare j h))

  -- a trigger that reaches a panel is used
  pub lag_used : (i j : ℕ) → i < panels → j < triggers → Present (lag i j) → T (used t j)
  lag_used i j hi hj (z, e) = go (test (used t j))
    where
      go : T (used t j) ⊎ T (not (used t j)) → T (used t j)
      go (inl u) = u
      go (inr u) = absurd (absent_not (sym ((unused_idle j hj u).no_lag i hi) ∙ e))

  -- ---- it binds nothing: its row and its column of the order table are absent
  pub order_row : (i : ℕ) → Idle t i → (j : ℕ) → j < triggers → order_table t i j ≡ absent
  unfolding order_table mm
  order_row i h j hj = ≼_anti (⊕_lub (≼_of (h.no_row j hj))
      (sup_lub panels _ (λ p hp. ≼_of (ap (λ e. e ⊗ lag p j) (h.no_land p hp) ∙ ⊗_nothing _)))) (≼_absent _)

  pub order_column : (j : ℕ) → Idle t j → (i : ℕ) → i < triggers → order_table t i j ≡ absent
  unfolding order_table mm
  order_column j h i hi = ≼_anti (⊕_lub (≼_of (h.no_column i hi))
      (sup_lub panels _ (λ p hp. ≼_of (ap (λ e. given_table land i p ⊗ e) (h.no_lag p hp) ∙ ⊗_absent _)))) (≼_absent _)

  -- ---- a panel has a lag, so the trigger that reaches it is in use
  pub cue_readable : ((i : ℕ) × (i < panels) × Present (floor_by t.measure i)) →
      ((i : ℕ) → i < panels → (j : ℕ) × (j < triggers) × Present (lag i j)) → Readable (cue_size t) (cue_of t)
  cue_readable floored lagged = record { trigger = let (k, q, p) = reached floored.0 floored.1 in omega arith; floored = floored; lagged = reached }
    where
      reached : (i : ℕ) → i < panels → (k : ℕ) × (k < cue_size t) × Present (lag i (trigger_at t k))
      reached i h =
          let (j, q, p) = lagged i h in
          let u = lag_used i j h q p in
          (rank (used t) j, rank_more (used t) j triggers q u, rw (place_rank (used t) triggers j q u) p)

  -- ---- in the order table: a land entry waits for a panel, which has a lag, so that it shows in its row there
  module _ (lagged : (i : ℕ) → i < panels → (j : ℕ) × (j < triggers) × Present (lag i j)) (j : ℕ) where
    abbrev rowless : Bool
    rowless = none_present triggers (λ k. order_table t j k)

    abbrev columnless : Bool
    columnless = none_present triggers (λ k. order_table t k j)

    abbrev lagless : Bool
    lagless = none_present panels (λ i. lag i j)

    after_below : (i k : ℕ) → order_table t i k ≡ absent → after i k ≡ absent
    unfolding order_table
    after_below i k e = ≼_anti (⊕_l _ _ ▸ ≼_of e) (≼_absent _)

    land_below : ((k : ℕ) → k < triggers → order_table t j k ≡ absent) → (i : ℕ) → i < panels → given_table land j i ≡ absent
    unfolding order_table mm
    land_below h i hi =
        let (k, hk, (z, e)) = lagged i hi in
        let s = sup_ub panels (λ p. given_table land j p ⊗ lag p k) i hi ▸ ⊕_r (after j k) _ ▸ ≼_of (h k hk) in
        absent_left (given_table land j i) (lag i k) z e s

    idle_order : Idle t j ↔ T (lagless && rowless && columnless)
    idle_order = (
      λ h. (both (lagless && rowless) columnless).1 (
        (both lagless rowless).1 ((none_absent panels (λ i. lag i j)).1 h.no_lag, (none_absent triggers (λ k. order_table t j k)).1 (order_row j h)),
        (none_absent triggers (λ k. order_table t k j)).1 (order_column j h),
      ),
      λ h. let (ab, c) = (both (lagless && rowless) columnless).0 h in
          let (a, b) = (both lagless rowless).0 ab in
          let row = (none_absent triggers (λ k. order_table t j k)).0 b in
          let column = (none_absent triggers (λ k. order_table t k j)).0 c in
          record {
            no_lag = (none_absent panels (λ i. lag i j)).0 a;
            no_row = λ k q. after_below j k (row k q);
            no_column = λ k q. after_below k j (column k q);
            no_land = land_below row;
          },
    )

    -- so a trigger is in use exactly when it has a lag, or an entry of the order table in its row or column
    pub used_order : j < triggers → used t j ≡
        (present? (sup panels (λ i. lag i j)) || present? (sup triggers (λ k. order_table t j k)) || present? (sup triggers (λ k. order_table t k j)))
    unfolding used
    used_order h = below (ltb j triggers) (lt→ltb j triggers h) ∙
        (go (spare t j) (present? (sup panels (λ i. lag i j))) (present? (sup triggers (λ k. order_table t j k)))
        (present? (sup triggers (λ k. order_table t k j))) (λ s. idle_order.0 ((spare_idle t j).0 s)) (λ s. (spare_idle t j).1 (idle_order.1 s)))
      where
        below : (b : Bool) → T b → (b && not (spare t j)) ≡ not (spare t j)
        below true q = refl
        below false q = absurd q

        go : (s a b c : Bool) → (T s → T (not a && not b && not c)) → (T (not a && not b && not c) → T s) → not s ≡ (a || b || c)
        go true false false false f g = refl
        go true true b c f g = absurd (f tt)
        go true false true c f g = absurd (f tt)
        go true false false true f g = absurd (f tt)
        go false true b c f g = refl
        go false false true c f g = refl
        go false false false true f g = refl
        go false false false false f g = absurd (g tt)
