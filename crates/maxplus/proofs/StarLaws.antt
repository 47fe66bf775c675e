-- Powers and their star: no power gives more than the first n where no circle gains, so one step more gives nothing.
-- A way of n steps visits n + 1 places, so one twice; the circle between has no gain and is left out.
use mathlib.Core.Path.{◌≡◌, refl, ap, sym, ◌∙◌}
use mathlib.Core.Logic.{◌⊎◌, inl, inr}
use Prim.Native.Nat.{ℕ, zero, suc, ◌+◌, ◌-◌, ◌≤◌, ◌<◌}
use native.Mathlib.Omega.{arith}
use native.Mathlib.Decide.{ℕ_discrete, dec_lt}
use native.Mathlib.Nat.{suc-add, zero-add, add-zero}
use lib.IntN.{ℤ}
use Rattle.maxplus.specs.Entry.{E, num, ◌≼◌, ◌⊗◌, unit}
use Rattle.maxplus.specs.Tables.{Mat, mm, idm, power, star, NoGain}
use Rattle.maxplus.proofs.EntryLaws.{≼_refl, ◌▸◌, ≼_of, ≼_back, ≼_num, ≼_dec}
use Rattle.maxplus.proofs.EntryLaws.{⊗_mono, ⊗_right, ⊗_assoc, ⊗_unit, ⊗_split, ⊗_unit_r}
use Rattle.maxplus.proofs.FiniteLaws.{all_or, all_dec}
use Rattle.maxplus.proofs.SupLaws.{sup_ub, sup_lub, sup_at, sup_mono, sup_⊗, sup_⊗r}
use Rattle.maxplus.proofs.TableLaws.{idm_same, idm_in, idm_eq}
use Rattle.maxplus.proofs.Pigeon.{pigeon}

module _ (n : ℕ) (B : Mat) where
  pub power_add : (a b i k j : ℕ) → power n B a i k ⊗ power n B b k j ≼ power n B (a + b) i j
  unfolding power mm
  power_add zero b i k j = idm_in i k _ _ (λ e. rw (zero-add, e) (≼_refl _))
  power_add (suc a) b i k j = rw (suc-add, sup_⊗r) (sup_mono n (λ l h. rw ⊗_assoc (⊗_right _ (power_add a b l k j))))

  -- the weight of m steps along v
  weight : (ℕ → ℕ) → ℕ → E
  weight v zero = unit
  weight v (suc m) = B (v 0) (v 1) ⊗ weight (λ k. v (suc k)) m

  weight_power : (v : ℕ → ℕ) (m : ℕ) → ((k : ℕ) → k ≤ m → v k < n) → weight v m ≼ power n B m (v 0) (v m)
  unfolding power mm weight
  weight_power v zero h = ≼_back (idm_same (v 0))
  weight_power v (suc m) h =
      ⊗_right _ (weight_power (λ k. v (suc k)) m (λ k q. h (suc k) (omega arith))) ▸
      sup_ub n (λ l. B (v 0) l ⊗ power n B m l (v (suc m))) (v 1) (h 1 (omega arith))

  -- the way v from its a-th place on
  later : ℕ → (ℕ → ℕ) → ℕ → ℕ
  later zero v = v
  later (suc a) v = later a (λ k. v (suc k))

  later_at : (a : ℕ) (v : ℕ → ℕ) (k : ℕ) → later a v k ≡ v (a + k)
  unfolding later
  later_at zero v k = rw zero-add
  later_at (suc a) v k = rw suc-add (later_at a (λ k. v (suc k)) k)

  weight_cut : (a c : ℕ) (v : ℕ → ℕ) → weight v (a + c) ≡ weight v a ⊗ weight (later a v) c
  unfolding weight later
  weight_cut zero c v = rw (zero-add, ⊗_unit)
  weight_cut (suc a) c v = rw (suc-add, ⊗_assoc, weight_cut a c (λ k. v (suc k)))

  -- i, then the way v
  cons : ℕ → (ℕ → ℕ) → ℕ → ℕ
  cons i v zero = i
  cons i v (suc k) = v k

  -- a way of m steps from i to j that is worth z at least
  record Way (m i j : ℕ) (z : ℤ) : Type 0 where
    v : ℕ → ℕ
    from : v 0 ≡ i
    to : v m ≡ j
    low : (k : ℕ) → k ≤ m → v k < n
    worth : num z ≼ weight v m

  longer : (m i k j : ℕ) (z y : ℤ) → i < n → num z ≼ B i k ⊗ num y → Way m k j y → Way (suc m) i j z
  unfolding weight cons
  longer m i k j z y hi h r =
      record {
        v = cons i r.v;
        from = refl;
        to = r.to;
        low = elim [ zero ↦ λ q. hi | suc l ↦ λ q. r.low l (omega arith) ];
        worth = rw r.from (h ▸ ⊗_right _ r.worth);
      }

  -- what a power reaches, a way of that many steps reaches
  way : (m i j : ℕ) (z : ℤ) → i < n → j < n → num z ≼ power n B m i j → Way m i j z
  unfolding power mm weight
  way zero i j z hi hj h = go (ℕ_discrete i j)
    where
      go : Dec (i ≡ j) → Way 0 i j z
      go (yes e) = record { v = λ k. i; from = refl; to = e; low = λ k q. hi; worth = h ▸ ≼_of (rw (← e) (idm_same i)) }
      go (no e) = absurd (e (idm_eq i j h))
  way (suc m) i j z hi hj h =
      let t = sup_at n _ h in
      let s = ⊗_split (B i t.0) (power n B m t.0 j) t.2 in
      longer m i t.0 j z s.0 hi s.2 (way m t.0 j s.0 t.1 hj s.1)

  -- a way without a turn that gains nothing
  without : (m i j a c d : ℕ) (z : ℤ) (r : Way m i j z) → m ≡ a + c + d → r.v (a + c) ≡ r.v a → power n B c (r.v a) (r.v a) ≼ unit →
      num z ≼ power n B (a + d) i j
  without m i j a c d z r e f g =
      (rw (e, weight_cut (a + c) d r.v, weight_cut a c r.v) at r.worth) ▸
      ⊗_mono (⊗_mono first turn) last ▸ (rw ⊗_unit_r (power_add a d i (r.v a) j))
    where
      part : (a c : ℕ) → a + c ≤ m → weight (later a r.v) c ≼ power n B c (r.v a) (r.v (a + c))
      part a c h =
          let e = later_at a r.v in
          let w = weight_power (later a r.v) c (λ k q. rw e (r.low (a + k) (omega arith))) in
          rw (e, e, add-zero) at w

      first : weight r.v a ≼ power n B a i (r.v a)
      first = rw r.from at (weight_power r.v a (λ k q. r.low k (omega arith)))

      turn : weight (later a r.v) c ≼ unit
      turn = (rw f at (part a c (omega arith))) ▸ g

      last : weight (later (a + c) r.v) d ≼ power n B d (r.v a) j
      last = rw (f, ← e, r.to) at (part (a + c) d (omega arith))

  -- a way of n steps or more has a turn that can be left out
  shorter : (m i j : ℕ) (z : ℤ) → NoGain n B → n ≤ m → Way m i j z → (l : ℕ) × (l < m) × (num z ≼ power n B l i j)
  unfolding NoGain
  shorter m i j z np hm r = go (pigeon n r.v (λ k q. r.low k (omega arith)))
    where
      go : (a b : ℕ) × (a < b) × (b ≤ n) × (r.v a ≡ r.v b) → (l : ℕ) × (l < m) × (num z ≼ power n B l i j)
      go (a, b, p, q, e) =
          let s : a + (b - a) ≡ b = omega arith in (
            a + (m - b),
            omega arith,
            without m i j a (b - a) (m - b) z r (omega arith) (rw s (sym e))
                (np (b - a) (r.v a) (omega arith) (omega arith) (r.low a (omega arith))),
          )

  pub power_star : (k i j : ℕ) → k < n → power n B k i j ≼ star n B i j
  unfolding star
  power_star k i j h = sup_ub n (λ k. power n B k i j) k h

  -- no power gives more than the first n
  pub all_powers : NoGain n B → (m i j : ℕ) → i < n → j < n → power n B m i j ≼ star n B i j
  all_powers np m i j hi hj = ≼_num (λ z h. go (suc m) m z (omega arith) h)
    where
      go : (fuel m : ℕ) (z : ℤ) → m < fuel → num z ≼ power n B m i j → num z ≼ star n B i j
      go zero m z f h = let e : ⊥ = omega arith in absurd e
      go (suc fuel) m z f h = at (go fuel) (dec_lt m n)
        where
          at : ((m : ℕ) (z : ℤ) → m < fuel → num z ≼ power n B m i j → num z ≼ star n B i j) → Dec (m < n) → num z ≼ star n B i j
          at ih (yes q) = h ▸ power_star m i j q
          at ih (no q) = let t = shorter m i j z np (omega arith) (way m i j z hi hj h) in ih t.0 z (omega arith) t.2

  pub star_diag : (i : ℕ) → i < n → unit ≼ star n B i i
  star_diag i hi = ≼_back (idm_same i) ▸ (unfold power in power_star 0 i i (omega arith))

  pub one_more : (k i l j : ℕ) → l < n → B i l ⊗ power n B k l j ≼ power n B (suc k) i j
  unfolding power mm
  one_more k i l j hl = sup_ub n (λ l. B i l ⊗ power n B k l j) l hl

  -- one step more gives nothing
  pub step_star : NoGain n B → (i l j : ℕ) → i < n → l < n → j < n → B i l ⊗ star n B l j ≼ star n B i j
  unfolding star
  step_star np i l j hi hl hj = rw sup_⊗ (sup_lub n _ (λ k hk. one_more k i l j hl ▸ all_powers np (suc k) i j hi hj))

  -- the same from the other side
  pub star_step : NoGain n B → (l i j : ℕ) → l < n → i < n → j < n → star n B l i ⊗ B i j ≼ star n B l j
  unfolding star power mm
  star_step np l i j hl hi hj = rw sup_⊗r (sup_lub n _ (λ k hk. ⊗_right _ one ▸ power_add k 1 l i j ▸ all_powers np (k + 1) l j hl hj))
    where
      one : B i j ≼ power n B 1 i j
      one = ≼_of (sym (⊗_unit_r (B i j)) ∙ ap (λ e. B i j ⊗ e) (sym (idm_same j))) ▸ sup_ub n (λ k. B i k ⊗ idm k j) j hj

  -- some circle gains, or none does
  unfoldable pub gain_or : NoGain n B ⊎ ((k i : ℕ) × (0 < k) × (k ≤ n) × (i < n) × ¬ (power n B k i i ≼ unit))
  unfolding NoGain
  gain_or = go (all_or Q Q_dec n)
    where
      Q : ℕ → Type 0
      Q k = (i : ℕ) → i < n → power n B (suc k) i i ≼ unit

      Q_dec : (k : ℕ) → Dec (Q k)
      Q_dec k = all_dec (λ i. power n B (suc k) i i ≼ unit) (λ i. ≼_dec _ _) n

      go : ((k : ℕ) → k < n → Q k) ⊎ ((k : ℕ) × (k < n) × ¬ (Q k)) →
          ((k i : ℕ) → 0 < k → k ≤ n → i < n → power n B k i i ≼ unit) ⊎
          ((k i : ℕ) × (0 < k) × (k ≤ n) × (i < n) × ¬ (power n B k i i ≼ unit))
      go (inl f) = inl (λ k i a b hi. step k i a b hi)
        where
          step : (k i : ℕ) → 0 < k → k ≤ n → i < n → power n B k i i ≼ unit
          step zero i a b hi = let e : ⊥ = omega arith in absurd e
          step (suc k) i a b hi = f k (omega arith) i hi
      go (inr (k, hk, nq)) = elim (all_or (λ i. power n B (suc k) i i ≼ unit) (λ i. ≼_dec _ _) n) [
        | inl f ↦ absurd (nq f)
        | inr t ↦ inr
            (suc k, t.0, omega arith, omega arith, t.1, t.2)
      ]

  pub no_gain_at : NoGain n B → (k i : ℕ) → 0 < k → k ≤ n → i < n → power n B k i i ≼ unit
  unfolding NoGain
  no_gain_at np = np

  unfoldable pub no_gain? : Dec (NoGain n B)
  no_gain? = elim gain_or [ inl np ↦ yes np | inr t ↦ no (λ np. t.5 (no_gain_at np t.0 t.1 t.2 t.3 t.4)) ]
