-- The seam: what is meant of a sheet is what the method's theory says of its cue. One law for each word of the meaning; a request that
-- changes what a sheet says changes these laws and `cue_of`, and no theorem about cues.
use mathlib.Core.Path.{◌≡◌, ap, ap₂, sym, ◌∙◌}
use mathlib.Core.Logic.{◌↔◌, ◌⊎◌, inl, inr}
use mathlib.Core.Bool.{false, cond, not}
use mathlib.Core.Option.{Option, none, some}
use Prim.Native.Nat.{ℕ, ◌<◌}
use native.Mathlib.Omega.{arith}
use lib.Dec.{T}
use lib.IntN.{ℤ, pos}
use Rattle.maxplus.specs.Whole.{neg}
use Rattle.maxplus.specs.Entry.{E, absent, num, ◌≼◌, ◌⊗◌, ◌⊕◌, inv}
use Rattle.maxplus.specs.Tables.{sup, Vec, Mat, mv, mm}
use Rattle.maxplus.specs.Packing.{rank, filled}
use Rattle.maxplus.proofs.WholeLaws.{neg_neg}
use Rattle.maxplus.proofs.EntryLaws.{◌▸◌, ≼_refl, ≼_anti, ≼_absent, ≼_of, ≼_back, ⊕_l, ⊕_r, ⊕_lub, ⊗_left, ⊗_comm, ⊗_nothing}
use Rattle.maxplus.proofs.EntryLaws.{⊗_unit, distrib, val_of, inv_inv}
use Rattle.maxplus.proofs.SupLaws.{sup_ub, sup_lub, sup_ext, sup_⊗r, sup_comm}
use Rattle.maxplus.proofs.TableLaws.{mv_mm, mv_at, mv_ext}
use Rattle.maxplus.proofs.FiniteLaws.{test, cond_yes, cond_no}
use Rattle.maxplus.proofs.PackingLaws.{rank_more, placed, place_rank, sup_places, filled_place}
use Rattle.cue.specs.Cue.{timing}
use Rattle.cue.specs.Cue as cue
use Rattle.cue.specs.Vectors as vectors
use Rattle.cue.specs.Results.{Within, Limited}
use Rattle.sheet.specs.Sheet.{Sheet, Measure, by_marks, by_spread, limit, given, given_table, spare}
use Rattle.sheet.specs.Sizes.{order_limit}
use Rattle.sheet.specs.Meaning.{Timing, landing, Keeps, overdue, shortfall, latest_landing, earliest_landing, spread, deviation_by, deviation}
use Rattle.sheet.specs.Meaning.{Tightest}
use Rattle.sheet.specs.Cue.{used, cue_size, trigger_at, order_table, floor_by, due_by, cue_of}
use Rattle.sheet.specs.Good.{Measured}
use Rattle.sheet.proofs.LineLaws.{true_not_false}
use Rattle.sheet.proofs.WithinLaws.{within_more, within_⊗, within_⊕, within_sup}
use Rattle.sheet.proofs.Idle.{spare_idle, used_not_spare}
use Rattle.sheet.proofs.Spares.{unused_idle, order_row, order_column}

larger_⊗ : (a b c : E) → (a ⊕ b) ⊗ c ≡ a ⊗ c ⊕ b ⊗ c
larger_⊗ a b c = ⊗_comm (a ⊕ b) c ∙ distrib c a b ∙ rw (⊗_comm c a, ⊗_comm c b)

-- ---- a cue looks at its own triggers only
module _ (n : ℕ) (P : cue.Cue) {x y : Vec} (e : (k : ℕ) → k < n → x k ≡ y k) where
  keeps_ext : vectors.Keeps n P.order x → vectors.Keeps n P.order y
  unfolding vectors.Keeps
  keeps_ext h i j hi hj = rw (← e i hi, ← e j hj) (h i j hi hj)

  deviation_ext : vectors.deviation n P x ≡ vectors.deviation n P y
  unfolding vectors.deviation cue.overdue cue.shortfall
  deviation_ext = ap₂ ◌⊗◌ (sup_ext n (λ j hj. ap (λ a. a ⊗ inv (timing P.due j)) (e j hj)))
      (sup_ext P.panels (λ i hi. ap (λ a. P.floor i ⊗ inv a) (mv_ext n P.lag x y i e)))

pub tightest_ext : (n : ℕ) (P : cue.Cue) {X Y : Timing} → ((k : ℕ) → k < n → X k ≡ Y k) → vectors.Tightest n P X → vectors.Tightest n P Y
tightest_ext n P {X} {Y} e h =
    record {
      keeps = keeps_ext n P (λ k q. ap num (e k q)) h.keeps;
      least = λ Z k. ≼_back (deviation_ext n P {x = timing X} {y = timing Y} (λ k q. ap num (e k q))) ▸ h.least Z k;
    }

-- 0 for every spare trigger, where any numbers would do
abbrev pub anyhow : Timing
anyhow j = pos 0

module _ (t : Sheet) where
  abbrev land : Mat
  land = given_table t.land

  -- ---- document 02, No. 2
  -- the after rules and the land rules are the rules of one table: with C for land, A for lag and y = A x, C y ≤ x is (C A) x ≤ x
  keeps_order : (X : Timing) → Keeps t X ↔ vectors.Keeps t.triggers (order_table t) (timing X)
  unfolding vectors.Keeps order_table landing
  keeps_order X = (
    λ k i j hi hj. rw larger_⊗ (⊕_lub (k.after_rules i j hi hj)
        (mv_at t.triggers (mm t.panels land t.lag) x i j hj ▸ ≼_of (mv_mm t.panels t.triggers land t.lag x i) ▸
        (unfold mv in sup_lub t.panels _ (λ p hp. k.land_rules i p hi hp)))),
    λ k. record {
      after_rules = λ i j hi hj. ⊗_left (x j) (⊕_l _ _) ▸ k i j hi hj;
      land_rules = λ i p hi hp. mv_at t.panels land (mv t.triggers t.lag x) i p hp ▸
          ≼_back (mv_mm t.panels t.triggers land t.lag x i) ▸
          (unfold mv in sup_lub t.triggers _ (λ j hj. ⊗_left (x j) (⊕_r _ _) ▸ k i j hi hj));
    },
  )
    where
      x : Vec
      x = timing X

  -- a sheet without land lines has the after table as its order table
  pub order_of_after : given t.land ≡ false → (i j : ℕ) → order_table t i j ≡ t.after i j
  unfolding order_table mm
  order_of_after e i j = go t.land e
    where
      go : (c : Option Mat) → given c ≡ false → t.after i j ⊕ sup t.panels (λ p. given_table c i p ⊗ t.lag p j) ≡ t.after i j
      go none h = ≼_anti (⊕_lub (≼_refl _) (sup_lub t.panels _ (λ p hp. rw ⊗_nothing (≼_absent _)))) (⊕_l _ _)
      go (some c) h = absurd (true_not_false h)

  -- an entry of the order table is one of the after table, or the sum of a land entry and a lag
  order_within : ((i j : ℕ) → i < t.panels → j < t.triggers → Within limit limit (t.lag i j)) →
      ((i j : ℕ) → i < t.triggers → j < t.triggers → Within limit limit (t.after i j)) →
      ((i j : ℕ) → i < t.triggers → j < t.panels → Within limit limit (land i j)) →
      (i j : ℕ) → i < t.triggers → j < t.triggers → Within order_limit order_limit (order_table t i j)
  unfolding order_table mm
  order_within lags afters lands i j h q = within_⊕ (t.after i j) _ (within_more (omega arith) (afters i j h q))
      (within_sup t.panels _ (λ p hp. within_more (omega arith) (within_⊗ (lands i p h hp) (lags p j hp q))))

  pub cue_limited : ((i j : ℕ) → i < t.panels → j < t.triggers → Within limit limit (t.lag i j)) →
      ((i : ℕ) → i < t.panels → Within limit limit (floor_by t.measure i)) →
      ((j : ℕ) → j < t.triggers → Within limit limit (num (due_by t.panels t.lag t.measure j))) →
      ((i j : ℕ) → i < t.triggers → j < t.triggers → Within limit limit (t.after i j)) →
      ((i j : ℕ) → i < t.triggers → j < t.panels → Within limit limit (land i j)) →
      Limited (cue_size t) limit order_limit (cue_of t)
  cue_limited lags floors dues afters lands =
      record {
        lags = λ i k h q. lags i (trigger_at t k) h (below k q);
        floors = floors;
        dues = λ k q. dues (trigger_at t k) (below k q);
        orders = λ k l h q. order_within lags afters lands (trigger_at t k) (trigger_at t l) (below k h) (below l q);
      }
    where
      below : (k : ℕ) → k < cue_size t → trigger_at t k < t.triggers
      below k q = (placed (used t) t.triggers k q).below

  -- ---- document 02, No. 4: what is said of a timing is said of what it has at the triggers in use, whatever the spare components
  abbrev pub at_used : Timing → Timing
  at_used X k = X (trigger_at t k)

  -- the row and the column of a spare trigger are absent, so only the rules between triggers in use say something
  keeps_used : (x : Vec) → vectors.Keeps t.triggers (order_table t) x ↔ vectors.Keeps (cue_size t) (cue_of t).order (λ k. x (trigger_at t k))
  unfolding vectors.Keeps
  keeps_used x = (
    λ k a b ha hb. k (trigger_at t a) (trigger_at t b) (placed (used t) t.triggers a ha).below (placed (used t) t.triggers b hb).below,
    λ k i j hi hj. rule k i j hi hj (test (used t i)) (test (used t j)),
  )
    where
      nothing : (i j : ℕ) → order_table t i j ≡ absent → order_table t i j ⊗ x j ≼ x i
      nothing i j e = ≼_of (ap (λ a. a ⊗ x j) e ∙ ⊗_nothing _) ▸ ≼_absent _

      rule : vectors.Keeps (cue_size t) (cue_of t).order (λ k. x (trigger_at t k)) → (i j : ℕ) → i < t.triggers → j < t.triggers →
          T (used t i) ⊎ T (not (used t i)) → T (used t j) ⊎ T (not (used t j)) → order_table t i j ⊗ x j ≼ x i
      rule k i j hi hj (inr u) d = nothing i j (order_row t i (unused_idle t i hi u) j hj)
      rule k i j hi hj (inl u) (inr v) = nothing i j (order_column t j (unused_idle t j hj v) i hi)
      rule k i j hi hj (inl u) (inl v) =
          rw (place_rank (used t) t.triggers i hi u, place_rank (used t) t.triggers j hj v) at
          (k (rank (used t) i) (rank (used t) j) (rank_more (used t) i t.triggers hi u) (rank_more (used t) j t.triggers hj v))

  pub keeps_cue : (X : Timing) → Keeps t X ↔ vectors.Keeps (cue_size t) (cue_of t).order (timing (at_used X))
  keeps_cue X = (λ k. (keeps_used (timing X)).0 ((keeps_order X).0 k), λ k. (keeps_order X).1 ((keeps_used (timing X)).1 k))

  -- a spare trigger reaches no panel
  pub landing_cue : (X : Timing) (i : ℕ) → i < t.panels → landing t X i ≡ vectors.landing (cue_size t) (cue_of t) (timing (at_used X)) i
  unfolding landing mv
  landing_cue X i hi = sup_places (used t) t.triggers (λ j. t.lag i j ⊗ num (X j))
      (λ j hj u. ap (λ e. e ⊗ num (X j)) ((unused_idle t j hj u).no_lag i hi) ∙ ⊗_nothing _)

  -- a spare trigger's due mark is not looked at
  overdue_cue : (q : ℕ → ℤ) (X : Timing) → overdue t q X ≡ cue.overdue (cue_size t) (timing (at_used q)) (timing (at_used X))
  unfolding overdue cue.overdue inv
  overdue_cue q X = sup_places (used t) t.triggers part (λ j hj u. cond_yes (spare t j) absent _ ((spare_idle t j).1 (unused_idle t j hj u))) ∙
      sup_ext (cue_size t) (λ k hk. cond_no (spare t (trigger_at t k)) absent _
      ((used_not_spare t (trigger_at t k)).0 (placed (used t) t.triggers k hk).passes).1)
    where
      part : ℕ → E
      part j = cond (spare t j) absent (num (X j) ⊗ num (neg (q j)))

  shortfall_cue : (p : Vec) (X : Timing) → shortfall t p X ≡ cue.shortfall t.panels (cue_size t) (cue_of t).lag p (timing (at_used X))
  unfolding shortfall cue.shortfall
  shortfall_cue p X = sup_ext t.panels (λ i hi. ap (λ e. p i ⊗ inv e) (landing_cue X i hi))

  -- ---- document 02, No. 7: the marks of rule 2 measure the spread
  module _ (reached : Measured t by_spread) (X : Timing) where
    abbrev farthest : ℕ → E
    farthest k = sup t.panels (λ i. t.lag i (trigger_at t k))

    -- each trigger in use has a lag (14), so that minus its due mark is its largest lag
    pub farthest_due : (k : ℕ) → k < cue_size t → inv (num (due_by t.panels t.lag by_spread (trigger_at t k))) ≡ farthest k
    unfolding inv
    farthest_due k hk =
        let p = placed (used t) t.triggers k hk in
        let (i, hi, (z, e)) = reached (trigger_at t k) p.below ((used_not_spare t (trigger_at t k)).0 p.passes).1 in
        ap num (neg_neg _) ∙ sym (val_of (farthest k) (≼_back e ▸ sup_ub t.panels (λ i. t.lag i (trigger_at t k)) i hi))

    -- x(j) and the largest lag of j are the latest landing that j makes, so that the largest of these is the latest of all
    latest_cue : latest_landing t X ≡ cue.overdue (cue_size t) (timing (at_used (due_by t.panels t.lag by_spread))) (timing (at_used X))
    unfolding latest_landing cue.overdue mv
    latest_cue = sup_ext t.panels (λ i hi. landing_cue X i hi) ∙
        sup_comm t.panels (cue_size t) (λ i k. t.lag i (trigger_at t k) ⊗ num (X (trigger_at t k))) ∙
        sup_ext (cue_size t) (λ k hk. sym (sup_⊗r t.panels (num (X (trigger_at t k))) (λ i. t.lag i (trigger_at t k))) ∙ ⊗_comm (farthest k) _ ∙
        ap (λ e. num (X (trigger_at t k)) ⊗ e) (sym (farthest_due k hk)))

    -- with floors of 0 the largest p(i) − y(i) is minus the earliest landing
    earliest_cue : inv (earliest_landing t X) ≡
        cue.shortfall t.panels (cue_size t) (cue_of t).lag (floor_by by_spread) (timing (at_used X))
    unfolding earliest_landing cue.shortfall
    earliest_cue = inv_inv _ ∙ sup_ext t.panels (λ i hi. ap inv (landing_cue X i hi) ∙ sym (⊗_unit _))

    -- the marks of rule 2 as those of a sheet: "every floor counts as 0 and due j as minus the largest lag of trigger j"
    pub spread_marks : spread t X ≡ overdue t (due_by t.panels t.lag by_spread) X ⊗ shortfall t (floor_by by_spread) X
    unfolding spread
    spread_marks = ap₂ ◌⊗◌ (latest_cue ∙ sym (overdue_cue (due_by t.panels t.lag by_spread) X))
        (earliest_cue ∙ sym (shortfall_cue (floor_by by_spread) X))

  -- ---- either source of marks
  pub deviation_cue : Measured t t.measure → (X : Timing) → deviation t X ≡ vectors.deviation (cue_size t) (cue_of t) (timing (at_used X))
  unfolding deviation vectors.deviation
  deviation_cue m X = go t.measure m
    where
      go : (M : Measure) → Measured t M → deviation_by t M X ≡
          cue.overdue (cue_size t) (timing (at_used (due_by t.panels t.lag M))) (timing (at_used X)) ⊗
          cue.shortfall t.panels (cue_size t) (cue_of t).lag (floor_by M) (timing (at_used X))
      go (by_marks p q) m = ap₂ ◌⊗◌ (overdue_cue q X) (shortfall_cue p X)
      go by_spread m = unfold spread in ap₂ ◌⊗◌ (latest_cue m X) (earliest_cue m X)

  -- ---- times of the cue's triggers as a timing of the sheet, G at the spare ones
  abbrev pub over : (G Y : Timing) → Timing
  over G Y = filled (used t) G Y

  pub over_at : (G Y : Timing) (k : ℕ) → k < cue_size t → over G Y (trigger_at t k) ≡ Y k
  over_at G Y k h = filled_place (used t) t.triggers G Y k h

  module _ (G Y : Timing) where
    over_same : (k : ℕ) → k < cue_size t → timing Y k ≡ timing (at_used (over G Y)) k
    over_same k h = ap num (sym (over_at G Y k h))

    pub over_keeps : vectors.Keeps (cue_size t) (cue_of t).order (timing Y) → Keeps t (over G Y)
    over_keeps h = (keeps_cue (over G Y)).1 (keeps_ext (cue_size t) (cue_of t) over_same h)

    pub over_deviation : Measured t t.measure → deviation t (over G Y) ≡ vectors.deviation (cue_size t) (cue_of t) (timing Y)
    over_deviation m = deviation_cue m (over G Y) ∙ sym (deviation_ext (cue_size t) (cue_of t) over_same)

  pub tightest_cue : Measured t t.measure → (X : Timing) → Tightest t X ↔ vectors.Tightest (cue_size t) (cue_of t) (at_used X)
  tightest_cue m X = (
    λ h. record {
      keeps = (keeps_cue X).0 h.keeps;
      least = λ Y k. ≼_back (deviation_cue m X) ▸ h.least (over anyhow Y) (over_keeps anyhow Y k) ▸ ≼_of (over_deviation anyhow Y m);
    },
    λ h. record {
      keeps = (keeps_cue X).1 h.keeps;
      least = λ Y k. ≼_of (deviation_cue m X) ▸ h.least (at_used Y) ((keeps_cue Y).0 k) ▸ ≼_back (deviation_cue m Y);
    },
  )

  -- times that are tightest on the cue are tightest on the sheet, whatever stands at the spare triggers
  pub over_tightest : Measured t t.measure → (G Y : Timing) → vectors.Tightest (cue_size t) (cue_of t) Y → Tightest t (over G Y)
  over_tightest m G Y h = (tightest_cue m (over G Y)).1 (tightest_ext (cue_size t) (cue_of t) (λ k q. sym (over_at G Y k q)) h)
