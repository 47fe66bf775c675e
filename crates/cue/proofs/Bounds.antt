-- How large results are, by two limits: L on lags, floors and due marks, B on the entries of the order table. A star entry adds up fewer
-- than n rules, so it lies within mB; the rest adds up along the definitions. For six triggers each size has its name (specs/Sizes).
use mathlib.Core.Path.{refl, ap, sym, subst}
use mathlib.Core.Logic.{inl, inr}
use mathlib.Core.List.{List}
use Prim.Native.Nat.{ℕ, zero, suc, ◌+◌, ◌*◌, ◌^◌, ◌≤◌, ◌<◌}
use native.Mathlib.Omega.{arith}
use native.Mathlib.Nat.{mul-le-mul_right}
use lib.IntN.{ℤ, pos, negsuc}
use Rattle.maxplus.specs.Whole.{up, dn, ◌+z◌, neg}
use Rattle.maxplus.specs.Entry.{E, absent, num, ◌≼◌, ◌⊗◌, ◌⊕◌, inv, unit, val}
use Rattle.maxplus.specs.Finite.{In}
use Rattle.maxplus.specs.Tables.{sup, sup_l, mv, mm, idm, power, star, NoGain, normal}
use Rattle.maxplus.specs.Line.{Line, at}
use Rattle.maxplus.proofs.WholeLaws.{up_add, up_neg}
use Rattle.maxplus.proofs.EntryLaws.{◌▸◌, ≼_anti, ≼_of, ≼_back, ⊕_or, ⊗_absent, ⊗_nothing, num_⊗, inv_num, absent_not, num_inj}
use Rattle.maxplus.proofs.SupLaws.{sup_ub, sup_at, sup_l_ub, sup_l_at}
use Rattle.maxplus.proofs.TableLaws.{idm_or}
use Rattle.maxplus.proofs.LineLaws.{at_line}
use Rattle.cue.specs.Cue.{Cue, timing, overdue, shortfall}
use Rattle.cue.specs.Method.{Selection, through, pull_E, pull, mark, least_E, least, ask, selections, need, seed, ray, candidate}
use Rattle.cue.specs.Method.{candidates, lines}
use Rattle.cue.specs.Latest.{made, fit, latest}
use Rattle.cue.specs.Sizes.{size_limit, line_down}
use Rattle.cue.specs.Results.{Above, Below, Within, Signed32, Limited, Results}
use Rattle.cue.proofs.Deviation.{overdue_at, pull_is, due_pull, mv_through, mark_keeps}
use Rattle.cue.proofs.Candidates.{candidate_of, candidates_normal, selection_trigger, selection_panel, selection_serving}
use Rattle.cue.proofs.Candidates.{ray_is_from, ray_overdue}
use Rattle.cue.proofs.Extreme.{in_lines, lines_normal}
use Rattle.cue.proofs.Room.{fit_from, fit_top}

above_num : {k : ℕ} (z : ℤ) → dn z ≤ k + up z → Above k (num z)
above_num {k} z h = record { above = λ y e. subst (λ y. dn y ≤ k + up y) (num_inj e) h }

below_num : {k : ℕ} (z : ℤ) → up z ≤ k + dn z → Below k (num z)
below_num {k} z h = record { below = λ y e. subst (λ y. up y ≤ k + dn y) (num_inj e) h }

above_absent : (k : ℕ) → Above k absent
above_absent k = record { above = λ z e. absurd (absent_not e) }

below_absent : (k : ℕ) → Below k absent
below_absent k = record { below = λ z e. absurd (absent_not e) }

pub above_more : {k l : ℕ} {a : E} → k ≤ l → Above k a → Above l a
above_more h b = record { above = λ z e. let t = b.above z e in omega arith }

pub below_more : {k l : ℕ} {a : E} → k ≤ l → Below k a → Below l a
below_more h b = record { below = λ z e. let t = b.below z e in omega arith }

pub above_⊗ : {k l : ℕ} (a b : E) → Above k a → Above l b → Above (k + l) (a ⊗ b)
above_⊗ {k} {l} absent b h i = rw ⊗_nothing (above_absent _)
above_⊗ {k} {l} (num a) absent h i = rw ⊗_absent (above_absent _)
above_⊗ {k} {l} (num a) (num b) h i = rw num_⊗ (above_num (a +z b) (omega (arith, h.above a refl, i.above b refl, up_add a b)))

pub below_⊗ : {k l : ℕ} (a b : E) → Below k a → Below l b → Below (k + l) (a ⊗ b)
below_⊗ {k} {l} absent b h i = rw ⊗_nothing (below_absent _)
below_⊗ {k} {l} (num a) absent h i = rw ⊗_absent (below_absent _)
below_⊗ {k} {l} (num a) (num b) h i = rw num_⊗ (below_num (a +z b) (omega (arith, h.below a refl, i.below b refl, up_add a b)))

pub above_inv : {k : ℕ} (a : E) → Below k a → Above k (inv a)
above_inv absent h = unfold inv in above_absent _
above_inv (num a) h = rw inv_num (above_num (neg a) (omega (arith, h.below a refl, up_neg a)))

pub below_inv : {k : ℕ} (a : E) → Above k a → Below k (inv a)
below_inv absent h = unfold inv in below_absent _
below_inv (num a) h = rw inv_num (below_num (neg a) (omega (arith, h.above a refl, up_neg a)))

above_neg : {k : ℕ} (a : ℤ) → Below k (num a) → Above k (num (neg a))
above_neg a h = above_num (neg a) (omega (arith, h.below a refl, up_neg a))

below_neg : {k : ℕ} (a : ℤ) → Above k (num a) → Below k (num (neg a))
below_neg a h = below_num (neg a) (omega (arith, h.above a refl, up_neg a))

above_val : {k : ℕ} (a : E) → Above k a → Above k (num (val a))
unfolding val
above_val absent h = above_num (pos 0) (omega arith)
above_val (num a) h = h

below_val : {k : ℕ} (a : E) → Below k a → Below k (num (val a))
unfolding val
below_val absent h = below_num (pos 0) (omega arith)
below_val (num a) h = h

-- what is above something that is above −k is above −k
above_≼ : {k : ℕ} {z : ℤ} (a : E) → num z ≼ a → Above k (num z) → Above k a
above_≼ absent h b = absurd h.un
above_≼ {k} {z} (num a) h b = let l = h.un in above_num a (omega (arith, l, b.above z refl))

-- a largest is one of its parts
pub above_sup : (n : ℕ) {k : ℕ} (f : ℕ → E) → ((j : ℕ) → j < n → Above k (f j)) → Above k (sup n f)
above_sup n f h = record { above = λ z e. let (j, hj, r) = sup_at n f (≼_back e) in (h j hj).above z (≼_anti (sup_ub n f j hj ▸ ≼_of e) r) }

pub below_sup : (n : ℕ) {k : ℕ} (f : ℕ → E) → ((j : ℕ) → j < n → Below k (f j)) → Below k (sup n f)
below_sup n f h = record { below = λ z e. let (j, hj, r) = sup_at n f (≼_back e) in (h j hj).below z (≼_anti (sup_ub n f j hj ▸ ≼_of e) r) }

above_sup_l : {A : Type 0} (l : List A) {k : ℕ} (f : A → E) → ((a : A) → In a l → Above k (f a)) → Above k (sup_l l f)
above_sup_l l f h = record {
  above = λ z e. let (a, ha, r) = sup_l_at l f (≼_back e) in
      (h a ha).above z (≼_anti (sup_l_ub l f a ha ▸ ≼_of e) r);
}

below_sup_l : {A : Type 0} (l : List A) {k : ℕ} (f : A → E) → ((a : A) → In a l → Below k (f a)) → Below k (sup_l l f)
below_sup_l l f h = record {
  below = λ z e. let (a, ha, r) = sup_l_at l f (≼_back e) in
      (h a ha).below z (≼_anti (sup_l_ub l f a ha ▸ ≼_of e) r);
}

above_⊕ : {k : ℕ} (a b : E) → Above k a → Above k b → Above k (a ⊕ b)
above_⊕ a b h i = elim (⊕_or a b) [ inl e ↦ rw e h | inr e ↦ rw e i ]

below_⊕ : {k : ℕ} (a b : E) → Below k a → Below k b → Below k (a ⊕ b)
below_⊕ a b h i = elim (⊕_or a b) [ inl e ↦ rw e h | inr e ↦ rw e i ]

idm_above : (i j : ℕ) → Above 0 (idm i j)
idm_above i j = elim (idm_or i j) [ inl e ↦ rw e (above_num (pos 0) (omega arith)) | inr e ↦ rw e (above_absent 0) ]

idm_below : (i j : ℕ) → Below 0 (idm i j)
idm_below i j = elim (idm_or i j) [ inl e ↦ rw e (below_num (pos 0) (omega arith)) | inr e ↦ rw e (below_absent 0) ]

-- joined with power 0 an entry lies no further from 0, joined with the sum of two that lie as far at most twice as far
pub within_unit : {k : ℕ} (i j : ℕ) (a : E) → Within k k a → Within k k (idm i j ⊕ a)
within_unit i j a w = record {
  low = above_⊕ (idm i j) a (above_more (omega arith) (idm_above i j)) w.low;
  high = below_⊕ (idm i j) a (below_more (omega arith) (idm_below i j)) w.high;
}

pub within_passed : {k : ℕ} (a b c : E) → Within k k a → Within k k b → Within k k c → Within (k + k) (k + k) (a ⊕ b ⊗ c)
within_passed a b c u v w = record {
  low = above_⊕ a (b ⊗ c) (above_more (omega arith) u.low) (above_⊗ b c v.low w.low);
  high = below_⊕ a (b ⊗ c) (below_more (omega arith) u.high) (below_⊗ b c v.high w.high);
}

pub times_le : (k m L : ℕ) → k ≤ m → k * L ≤ m * L
times_le k m L h = mul-le-mul_right L h

-- at most m + 1 triggers; M below is mB
module _ (n m L B : ℕ) (P : Cue) (l : Limited n L B P) (few : n ≤ suc m) where
  open P use {panels, lag, floor, due, order}

  -- before any check of circles: a power adds up that many entries
  pub power_within : (k i j : ℕ) → i < n → j < n → Within (k * B) (k * B) (power n order k i j)
  unfolding power mm
  power_within zero i j hi hj = record { low = above_more (omega arith) (idm_above i j); high = below_more (omega arith) (idm_below i j) }
  power_within (suc k) i j hi hj =
      record {
        low = above_sup n _ (λ h hh. above_more (omega arith)
            (above_⊗ (order i h) (power n order k h j) (l.orders i h hi hh).low (power_within k h j hh hj).low));
        high = below_sup n _ (λ h hh. below_more (omega arith)
            (below_⊗ (order i h) (power n order k h j) (l.orders i h hi hh).high (power_within k h j hh hj).high));
      }

  pub star_within : (i j : ℕ) → i < n → j < n → Within (m * B) (m * B) (star n order i j)
  unfolding star
  star_within i j hi hj =
      record {
        low = above_sup n _ (λ k hk. above_more (times_le k m B (omega arith)) (power_within k i j hi hj).low);
        high = below_sup n _ (λ k hk. below_more (times_le k m B (omega arith)) (power_within k i j hi hj).high);
      }

  pub through_within : (i j : ℕ) → i < panels → j < n → Within (m * B + L) (m * B + L) (through n P i j)
  unfolding through mm
  through_within i j hi hj =
      record {
        low = above_sup n _ (λ k hk. above_more (omega arith)
            (above_⊗ (lag i k) (star n order k j) (l.lags i k hi hk).low (star_within k j hk hj).low));
        high = below_sup n _ (λ k hk. below_more (omega arith)
            (below_⊗ (lag i k) (star n order k j) (l.lags i k hi hk).high (star_within k j hk hj).high));
      }

  -- d(i,j) − p(i), from −M − 2L to M + 2L
  pub gain_within : (i j : ℕ) → i < panels → j < n → Within (m * B + L + L) (m * B + L + L) (through n P i j ⊗ inv (floor i))
  gain_within i j hi hj =
      record {
        low = above_⊗ (through n P i j) (inv (floor i)) (through_within i j hi hj).low (above_inv _ (l.floors i hi).high);
        high = below_⊗ (through n P i j) (inv (floor i)) (through_within i j hi hj).high (below_inv _ (l.floors i hi).low);
      }

  -- r = −pull, from −M − L to L
  pub pull_within : (j : ℕ) → j < n → Within L (m * B + L) (num (pull n P j))
  pull_within j hj =
      record {
        low = above_≼ (num (pull n P j)) (due_pull n P j hj) (above_neg (due j) (l.dues j hj).high);
        high = subst (λ a. Below (m * B + L) a) (pull_is n P j hj)
            (unfold pull_E overdue inv in below_sup n _
            (λ i hi. below_⊗ (star n order i j) (num (neg (due i))) (star_within i j hi hj).high (below_neg (due i) (l.dues i hi).low)));
      }

  module _ (np : NoGain n order) where
    mark_landing : (i : ℕ) → i < panels → Within (m * B + 2 * L) (2 * L) (mv n (through n P) (timing (mark n P)) i)
    mark_landing i hi = rw (← mv_through n P (timing (mark n P)) (mark_keeps n P np) i) (unfold mv in (
        record {
          low = above_sup n _ (λ j hj. above_more (omega arith)
              (above_⊗ (lag i j) (num (neg (pull n P j))) (l.lags i j hi hj).low (above_neg (pull n P j) (pull_within j hj).high)));
          high = below_sup n _ (λ j hj. below_more (omega arith)
              (below_⊗ (lag i j) (num (neg (pull n P j))) (l.lags i j hi hj).high (below_neg (pull n P j) (pull_within j hj).low)));
        }))

    -- Δ, from −3L to M + 3L
    pub least_within : Within (3 * L) (m * B + 3 * L) (num (least n P))
    unfolding least least_E shortfall
    least_within =
        record {
          low = above_val _ (above_sup panels _
              (λ i hi. above_more (omega arith)
              (above_⊗ (floor i) (inv (mv n (through n P) (timing (mark n P)) i)) (l.floors i hi).low
              (above_inv _ (mark_landing i hi).high))));
          high = below_val _ (below_sup panels _
              (λ i hi. below_more (omega arith)
              (below_⊗ (floor i) (inv (mv n (through n P) (timing (mark n P)) i)) (l.floors i hi).high
              (below_inv _ (mark_landing i hi).low))));
        }

    -- p(i) − Δ − r(j), from −M − 5L to M + 5L
    pub threshold_within : (i j : ℕ) → i < panels → j < n →
        Within (m * B + 5 * L) (m * B + 5 * L) (ask n P (least n P) i ⊗ num (pull n P j))
    threshold_within i j hi hj =
        record {
          low = above_more (omega arith) (above_⊗ (ask n P (least n P) i) (num (pull n P j))
              (above_⊗ (floor i) (num (neg (least n P))) (l.floors i hi).low (above_neg (least n P) least_within.high)) (pull_within j hj).low);
          high = below_more (omega arith) (below_⊗ (ask n P (least n P) i) (num (pull n P j))
              (below_⊗ (floor i) (num (neg (least n P))) (l.floors i hi).high (below_neg (least n P) least_within.low)) (pull_within j hj).high);
        }

    abbrev D : ℤ
    D = least n P

    module _ (s : Selection) (hs : In s (selections n P D)) where
      -- w, from −2M − 5L to L
      pub need_within : (t : ℕ) → t < n → Within (2 * (m * B) + 5 * L) L (need n P D s t)
      need_within t ht =
          record {
            low = unfold need in above_sup_l s _
                (λ f q. above_more (omega arith)
                (above_⊗ (idm f.1 t) (ask n P D f.0 ⊗ inv (through n P f.0 f.1)) (idm_above f.1 t)
                (fixing f.0 f.1 (fixed_panels f q) (fixed_trigger f q))));
            high = up_to (need n P D s t) (pull n P t) ((selection_serving n P D s hs).marked t ht) (pull_within t ht).low;
          }
        where
          fixed_panels : (f : ℕ × ℕ) → In f s → f.0 < panels
          fixed_panels f q = selection_panel n P D s hs f.0 f.1 q

          fixed_trigger : (f : ℕ × ℕ) → In f s → f.1 < n
          fixed_trigger f q = selection_trigger n P D s hs f.0 f.1 q

          fixing : (i j : ℕ) → i < panels → j < n → Above (2 * (m * B) + 5 * L) (ask n P D i ⊗ inv (through n P i j))
          fixing i j hi hj = above_more (omega arith)
              (above_⊗ (ask n P D i) (inv (through n P i j))
              (above_⊗ (floor i) (num (neg D)) (l.floors i hi).low (above_neg D least_within.high))
              (above_inv _ (through_within i j hi hj).high))

          up_to : (w : E) (r : ℤ) → w ⊗ num r ≼ unit → Above L (num r) → Below L w
          up_to absent r h b = below_absent _
          up_to (num w) r h b = let k = (rw num_⊗ at h).un in below_num w (omega (arith, k, up_add w r, b.above r refl))

      -- candidates before the shift, from −3M − 6L to M + 2L
      pub ray_within : (t i : ℕ) → t < n → i < n → Within (3 * (m * B) + 6 * L) (m * B + 2 * L) (ray n P D s t i)
      ray_within t i ht hi =
          record {
            low = unfold ray mv in above_sup n _
                (λ j hj. above_more (omega arith)
                (above_⊗ (star n order i j) (seed n P D s t j) (star_within i j hi hj).low (seed_above j hj)));
            high = up_to (ray n P D s t i) (due i) (overdue_at n due (ray n P D s t) i hi ▸
                ≼_of (ap (overdue n (timing due)) (ray_is_from n P D s t)) ▸ ray_overdue n P D (need n P D s) (selection_serving n P D s hs) t)
                (l.dues i hi).high (pull_within t ht).high;
          }
        where
          seed_above : (j : ℕ) → j < n → Above (2 * (m * B) + 6 * L) (seed n P D s t j)
          seed_above j hj = unfold seed in
              above_⊕ (idm t j) (need n P D s j ⊗ num (pull n P t)) (above_more (omega arith) (idm_above t j))
              (above_more (omega arith) (above_⊗ (need n P D s j) (num (pull n P t)) (need_within j hj).low (pull_within t ht).low))

          up_to : (x : E) (q : ℤ) {g : ℤ} → x ⊗ num (neg q) ≼ num g → Below L (num q) → Below (m * B + L) (num g) → Below (m * B + 2 * L) x
          up_to absent q h a b = below_absent _
          up_to (num x) q {g} h a b = let k = (rw num_⊗ at h).un in
              below_num x (omega (arith, k, up_neg q, up_add x (neg q), a.below q refl, b.below g refl))

    -- every candidate, and so every line, from −4M − 8L to 0
    pub candidate_within : (c : Line n) → In c (candidates n P D) → (i : ℕ) → i < n → Within (4 * (m * B) + 8 * L) 0 (at n c i)
    candidate_within c hc i hi =
        let (t, s, ht, hs, e) = candidate_of n P D c hc in
        record {
          low = subst (λ c. Above (4 * (m * B) + 8 * L) (at n c i)) (sym e) (low t s ht hs);
          high = high (at n c i) ((candidates_normal n P D c hc).low i hi);
        }
      where
        low : (t : ℕ) (s : Selection) → t < n → In s (selections n P D) → Above (4 * (m * B) + 8 * L) (at n (candidate n P D s t) i)
        low t s ht hs = unfold candidate in (rw (at_line n (normal n (ray n P D s t)) i hi) (unfold normal in
            above_more (omega arith) (above_⊗ (inv (sup n (ray n P D s t))) (ray n P D s t i)
            (above_inv _ (below_sup n _ (λ j hj. (ray_within s hs t j ht hj).high))) (ray_within s hs t i ht hi).low)))

        high : (a : E) → a ≼ unit → Below 0 a
        high absent h = below_absent _
        high (num a) h = let k = h.un in below_num a (omega arith)

    pub line_within : (c : Line n) → In c (lines n P) → (i : ℕ) → i < n → Within (4 * (m * B) + 8 * L) 0 (at n c i)
    line_within c hc = candidate_within c ((in_lines n P c).0 hc).0

-- ---- at most six triggers
pub results_six : (n L B : ℕ) (P : Cue) → NoGain n P.order → Limited n L B P → n ≤ size_limit → Results L B Within n P
results_six n L B P np l six =
    record {
      powers = λ k i j hk hi hj. power_within n 5 L B P l six k i j hi hj;
      stars = star_within n 5 L B P l six;
      throughs = through_within n 5 L B P l six;
      marks = λ j hj. let w = pull_within n 5 L B P l six j hj in
          record { low = above_neg (pull n P j) w.high; high = below_neg (pull n P j) w.low };
      deviation = least_within n 5 L B P l six np;
      thresholds = threshold_within n 5 L B P l six np;
      gains = gain_within n 5 L B P l six;
      needs = need_within n 5 L B P l six np;
      rays = ray_within n 5 L B P l six np;
      candidates = candidate_within n 5 L B P l six np;
      components = line_within n 5 L B P l six np;
    }

-- ---- the latest timing, where G lies from −a to b
module _ (n : ℕ) (P : Cue) (G : ℕ → ℤ) (a b : ℕ) (g : (j : ℕ) → j < n → Within a b (num (G j))) where
  fit_within : (c : Line n) → In c (lines n P) → Within a b (num (fit n G c))
  fit_within c hc =
      let t = lines_normal n P c hc in
      let l = fit_from n G c t (neg (pos a)) (λ i hi. omega (arith, up_neg (pos a), (g i hi).low.above _ refl)) in
      let h = fit_top n G c t in
      record {
        low = above_num _ (omega (arith, l, up_neg (pos a)));
        high = below_num _ (omega (arith, h, (g t.top t.here).high.below _ refl));
      }

  -- a line goes down from there
  pub latest_within : (L B : ℕ) → NoGain n P.order → Limited n L B P → n ≤ size_limit →
      (j : ℕ) → j < n → Within (a + line_down L B) b (num (latest n P G j))
  unfolding latest made
  latest_within L B np l six j hj =
      let part = (results_six n L B P np l six).components in
      record {
        low = above_val _ (above_sup_l (lines n P) _ (λ c hc. above_⊗ (num (fit n G c)) (at n c j) (fit_within c hc).low (part c hc j hj).low));
        high = below_val _ (below_sup_l (lines n P) _
            (λ c hc. below_more (omega arith) (below_⊗ (num (fit n G c)) (at n c j) (fit_within c hc).high (part c hc j hj).high)));
      }

-- ---- signed 32 bits, wherever the largest of the sizes fits
pub signed32 : {k l : ℕ} {a : E} → k < 2 ^ 31 → l < 2 ^ 31 → Within k l a → Signed32 a
signed32 {k} {l} {a} hk hl w = record { fits = λ z e. go z (w.low.above z e) (w.high.below z e) }
  where
    go : (z : ℤ) → dn z ≤ k + up z → up z ≤ l + dn z → (up z < 2 ^ 31) × (dn z < 2 ^ 31)
    go (pos z) h i = (omega arith, omega arith)
    go (negsuc z) h i = (omega arith, omega arith)

pub results_32 : (n L B : ℕ) (P : Cue) → NoGain n P.order → Limited n L B P → n ≤ size_limit → line_down L B < 2 ^ 31 →
    Results L B (λ k l. Signed32) n P
results_32 n L B P np l six fit =
    let r = results_six n L B P np l six in
    record {
      powers = λ k i j hk hi hj. let p : k * B ≤ size_limit * B = times_le k 6 B hk in signed32 (omega arith) (omega arith) (r.powers k i j hk hi hj);
      stars = λ i j hi hj. signed32 (omega arith) (omega arith) (r.stars i j hi hj);
      throughs = λ i j hi hj. signed32 (omega arith) (omega arith) (r.throughs i j hi hj);
      marks = λ j hj. signed32 (omega arith) (omega arith) (r.marks j hj);
      deviation = signed32 (omega arith) (omega arith) r.deviation;
      thresholds = λ i j hi hj. signed32 (omega arith) (omega arith) (r.thresholds i j hi hj);
      gains = λ i j hi hj. signed32 (omega arith) (omega arith) (r.gains i j hi hj);
      needs = λ s hs t ht. signed32 (omega arith) (omega arith) (r.needs s hs t ht);
      rays = λ s hs t i ht hi. signed32 (omega arith) (omega arith) (r.rays s hs t i ht hi);
      candidates = λ c hc i hi. signed32 (omega arith) (omega arith) (r.candidates c hc i hi);
      components = λ c hc i hi. signed32 (omega arith) (omega arith) (r.components c hc i hi);
    }
