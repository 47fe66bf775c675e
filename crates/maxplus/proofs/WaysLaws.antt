-- M* by ways through ever more places, as Warshall's method makes it: one place more at each pass.
-- A circle that gains shows at the place with which it is closed; where none shows, the ways through all the places are M*.
use mathlib.Core.Path.{◌≡◌}
use mathlib.Core.Logic.{inl, inr}
use Prim.Native.Nat.{ℕ, zero, suc, ◌+◌, ◌≤◌, ◌<◌}
use native.Mathlib.Omega.{arith}
use native.Mathlib.Decide.{ℕ_discrete}
use Rattle.maxplus.specs.Entry.{E, ◌≼◌, ◌⊗◌, ◌⊕◌, unit}
use Rattle.maxplus.specs.Tables.{Mat, mm, idm, power, star, NoGain}
use Rattle.maxplus.proofs.EntryLaws.{≼_refl, ◌▸◌, ≼_anti, ≼_of, ≼_back, ⊕_l, ⊕_r, ⊕_or, ⊕_lub}
use Rattle.maxplus.proofs.EntryLaws.{⊗_mono, ⊗_left, ⊗_right, ⊗_comm, ⊗_assoc, ⊗_unit, ⊗_unit_r}
use Rattle.maxplus.proofs.SupLaws.{sup_lub, sup_⊗, sup_⊗r}
use Rattle.maxplus.proofs.TableLaws.{idm_same, idm_in}
use Rattle.maxplus.proofs.StarLaws.{power_add, all_powers, star_diag, step_star, no_gain_at}

-- ways through place k too
unfoldable pub pass : Mat → ℕ → Mat
pass S k i j = S i j ⊕ S i k ⊗ S k j

-- a product of two larger ones is one of four products
⊕_⊗_lub : (a b c d : E) {e : E} → a ⊗ c ≼ e → a ⊗ d ≼ e → b ⊗ c ≼ e → b ⊗ d ≼ e → (a ⊕ b) ⊗ (c ⊕ d) ≼ e
⊕_⊗_lub a b c d {e} ac ad bc bd = elim (⊕_or a b) [
  | inl p ↦ elim (⊕_or c d) [ inl q ↦ rw (p, q) ac | inr q ↦ rw (p, q) ad ]
  | inr p ↦ elim (⊕_or c d) [ inl q ↦ rw (p, q) bc | inr q ↦ rw (p, q) bd ]
]

-- a factor that gains nothing
⊗_low_l : (a : E) {u : E} → u ≼ unit → u ⊗ a ≼ a
⊗_low_l a h = ⊗_left a h ▸ ≼_of (⊗_unit a)

⊗_low_r : (a : E) {u : E} → u ≼ unit → a ⊗ u ≼ a
⊗_low_r a h = ⊗_right a h ▸ ≼_of (⊗_unit_r a)

idm_lub : (i j : ℕ) {c : E} → (i ≡ j → unit ≼ c) → idm i j ≼ c
idm_lub i j {c} h = ≼_back (⊗_unit_r _) ▸ idm_in i j _ _ h

module _ (n : ℕ) (A : Mat) where
  -- the heaviest ways through the first k places: at least to stay, at least the table, closed under going on at one of them,
  -- no circle of them gains, and all of them ways
  pub record Ways (k : ℕ) (S : Mat) : Type 0 where
    pub itself : (i : ℕ) → i < n → unit ≼ S i i
    pub direct : (i j : ℕ) → i < n → j < n → A i j ≼ S i j
    pub closed : (l i j : ℕ) → l < k → l < n → i < n → j < n → S i l ⊗ S l j ≼ S i j
    pub low : (l : ℕ) → l < k → l < n → S l l ≼ unit
    pub within : NoGain n A → (i j : ℕ) → i < n → j < n → S i j ≼ star n A i j

  -- ---- of M* where no circle gains
  star_trans : NoGain n A → (i k j : ℕ) → i < n → j < n → star n A i k ⊗ star n A k j ≼ star n A i j
  unfolding star
  star_trans np i k j hi hj =
      rw sup_⊗r (sup_lub n _ (λ a ha. rw sup_⊗ (sup_lub n _ (λ b hb. power_add n A a b i k j ▸ all_powers n A np (a + b) i j hi hj))))

  star_low : NoGain n A → (i : ℕ) → i < n → star n A i i ≼ unit
  unfolding star power
  star_low np i hi = sup_lub n _ (λ k hk. at k hk)
    where
      at : (k : ℕ) → k < n → power n A k i i ≼ unit
      at zero hk = ≼_of (idm_same i)
      at (suc k) hk = no_gain_at n A np (suc k) i (omega arith) (omega arith) hi

  table_star : NoGain n A → (i j : ℕ) → i < n → j < n → A i j ≼ star n A i j
  table_star np i j hi hj = ≼_back (⊗_unit_r _) ▸ ⊗_right _ (star_diag n A j hj) ▸ step_star n A np i j j hi hj hj

  -- ---- through no place, through one place more
  pub ways_none : Ways 0 (λ i j. idm i j ⊕ A i j)
  ways_none =
      record {
        itself = λ i hi. ≼_back (idm_same i) ▸ ⊕_l _ _;
        direct = λ i j hi hj. ⊕_r _ _;
        closed = λ l i j hl. let e : ⊥ = omega arith in absurd e;
        low = λ l hl. let e : ⊥ = omega arith in absurd e;
        within = λ np i j hi hj. ⊕_lub (idm_lub i j (λ e. rw (← e) (star_diag n A i hi))) (table_star np i j hi hj);
      }

  -- going on at an earlier place makes a way through k at most once, as the circle between two visits of k gains nothing
  pub ways_more : {k : ℕ} {S : Mat} → k < n → S k k ≼ unit → Ways k S → Ways (k + 1) (pass S k)
  unfolding pass
  ways_more {k} {S} hk g w =
      record {
        itself = λ i hi. w.itself i hi ▸ ⊕_l _ _;
        direct = λ i j hi hj. w.direct i j hi hj ▸ ⊕_l _ _;
        closed = λ l i j hl ln hi hj. closed_at l i j hl ln hi hj (ℕ_discrete l k);
        low = λ l hl ln. low_at l hl ln (ℕ_discrete l k);
        within = λ np i j hi hj. ⊕_lub (w.within np i j hi hj)
            (⊗_mono (w.within np i k hi hk) (w.within np k j hk hj) ▸ star_trans np i k j hi hj);
      }
    where
      before : (l i j : ℕ) → l < k → l < n → i < n → j < n → pass S k i l ⊗ pass S k l j ≼ pass S k i j
      before l i j hl ln hi hj = unfold pass in ⊕_⊗_lub (S i l) (S i k ⊗ S k l) (S l j) (S l k ⊗ S k j)
          (w.closed l i j hl ln hi hj ▸ ⊕_l _ _)
          (≼_back (⊗_assoc _ _ _) ▸ ⊗_left _ (w.closed l i k hl ln hi hk) ▸ ⊕_r _ _)
          (≼_of (⊗_assoc _ _ _) ▸ ⊗_right _ (w.closed l k j hl ln hk hj) ▸ ⊕_r _ _)
          (≼_of (⊗_assoc _ _ _) ▸ ⊗_right _ (≼_back (⊗_assoc _ _ _) ▸ ⊗_low_l _ (w.closed l k k hl ln hk hk ▸ g)) ▸ ⊕_r _ _)

      -- to k, from k and at k nothing is new
      here : (i j : ℕ) → pass S k i k ⊗ pass S k k j ≼ pass S k i j
      here i j = unfold pass in ⊗_mono (⊕_lub (≼_refl _) (⊗_low_r _ g)) (⊕_lub (≼_refl _) (⊗_low_l _ g)) ▸ ⊕_r (S i j) _

      closed_at : (l i j : ℕ) → l < k + 1 → l < n → i < n → j < n → Dec (l ≡ k) → pass S k i l ⊗ pass S k l j ≼ pass S k i j
      closed_at l i j hl ln hi hj (yes e) = rw e (here i j)
      closed_at l i j hl ln hi hj (no e) = before l i j (omega arith) ln hi hj

      low_at : (l : ℕ) → l < k + 1 → l < n → Dec (l ≡ k) → pass S k l l ≼ unit
      low_at l hl ln (yes e) = rw e (unfold pass in ⊕_lub g (⊗_low_l _ g ▸ g))
      low_at l hl ln (no e) = unfold pass in
          ⊕_lub (w.low l (omega arith) ln) (≼_of (⊗_comm _ _) ▸ w.closed l k k (omega arith) ln hk hk ▸ g)

  -- a way from k to k that gains is a circle that gains
  pub ways_gain : {k : ℕ} {S : Mat} → k < n → ¬ (S k k ≼ unit) → Ways k S → ¬ (NoGain n A)
  ways_gain {k} {S} hk g w np = g (w.within np k k hk hk ▸ star_low np k hk)

  -- ---- through all the places
  -- every power is below: one step, then the ways of the power before it
  ways_power : {k : ℕ} {S : Mat} → n ≤ k → Ways k S → (m i j : ℕ) → i < n → j < n → power n A m i j ≼ S i j
  unfolding power mm
  ways_power {k} {S} hk w zero i j hi hj = idm_lub i j (λ e. rw (← e) (w.itself i hi))
  ways_power {k} {S} hk w (suc m) i j hi hj = sup_lub n _ (λ l hl.
      ⊗_mono (w.direct i l hi hl) (ways_power hk w m l j hl hj) ▸ w.closed l i j (omega arith) hl hi hj)

  pub ways_order : {k : ℕ} {S : Mat} → n ≤ k → Ways k S → NoGain n A
  unfolding NoGain
  ways_order {k} {S} hk w m i h0 hm hi = ways_power hk w m i i hi hi ▸ w.low i (omega arith) hi

  pub ways_star : {k : ℕ} {S : Mat} → n ≤ k → Ways k S → (i j : ℕ) → i < n → j < n → S i j ≡ star n A i j
  unfolding star
  ways_star {k} {S} hk w i j hi hj = ≼_anti (w.within (ways_order hk w) i j hi hj) (sup_lub n _ (λ m hm. ways_power hk w m i j hi hj))

  -- only the entries of the n places matter
  pub ways_as : {k : ℕ} {S T : Mat} → ((i j : ℕ) → i < n → j < n → T i j ≡ S i j) → Ways k S → Ways k T
  ways_as {k} {S} {T} e w =
      record {
        itself = λ i hi. w.itself i hi ▸ ≼_back (e i i hi hi);
        direct = λ i j hi hj. w.direct i j hi hj ▸ ≼_back (e i j hi hj);
        closed = λ l i j hl ln hi hj. ⊗_mono (≼_of (e i l hi ln)) (≼_of (e l j ln hj)) ▸ w.closed l i j hl ln hi hj ▸ ≼_back (e i j hi hj);
        low = λ l hl ln. ≼_of (e l l ln ln) ▸ w.low l hl ln;
        within = λ np i j hi hj. ≼_of (e i j hi hj) ▸ w.within np i j hi hj;
      }
