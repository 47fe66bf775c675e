-- Steps 2 and 3: the marks r are a timing that keeps the order, no keeper is past due less than its parts are past r,
-- and Δ is the least deviation of all timings that keep the order, reached by r.
use mathlib.Core.Path.{◌≡◌, refl, ap, sym, ◌∙◌}
use mathlib.Core.Logic.{inl, inr, ◌↔◌}
use Prim.Native.Nat.{ℕ, ◌<◌}
use native.Mathlib.Omega.{arith}
use lib.IntN.{ℤ}
use Rattle.maxplus.specs.Whole.{◌+z◌, neg}
use Rattle.maxplus.specs.Entry.{E, absent, num, ◌≼◌, ◌⊗◌, ◌⊕◌, inv, unit, Present, val}
use Rattle.maxplus.specs.Tables.{Vec, mv, star, NoGain}
use Rattle.maxplus.proofs.WholeLaws.{up_add, up_neg}
use Rattle.maxplus.proofs.EntryLaws.{◌▸◌, ≼_anti, ≼_absent, ≼_of, ≼_back, ⊕_l, ⊕_r}
use Rattle.maxplus.proofs.EntryLaws.{⊕_lub, ⊗_mono, ⊗_left, ⊗_right, ⊗_comm, ⊗_assoc, ⊗_unit}
use Rattle.maxplus.proofs.EntryLaws.{distrib, val_of, num_⊗, ⊗_left_comm, present_of, absent_not, same_entry?}
use Rattle.maxplus.proofs.FiniteLaws.{dec_×}
use Rattle.maxplus.proofs.SupLaws.{sup_ub, sup_lub, sup_mono, sup_ext, sup_⊗, sup_⊗r}
use Rattle.maxplus.proofs.TableLaws.{mv_mm, mv_ext, mv_at}
use Rattle.maxplus.proofs.StarLaws.{star_diag, star_step, gain_or}
use Rattle.cue.specs.Cue.{Cue, timing, overdue, shortfall}
use Rattle.cue.specs.Vectors.{Keeps, landing, deviation, Tightest, Readable}
use Rattle.cue.specs.Method.{through, pull_E, pull, mark, least_E, least}
use Rattle.cue.proofs.Order.{none_keeps, keeps_star, keeps_unchanged, keeps?}

-- x + r ≤ g, so x ≤ g − r
over_E : (x r g : ℤ) → num x ⊗ num r ≼ num g → num x ≼ num g ⊗ num (neg r)
unfolding ◌⊗◌
over_E x r g h = omega (arith, up_add x r, up_neg r, up_add g (neg r))

-- a panel that lands at most g later is short by at most g less
short_E : (a b p : E) (g s : ℤ) → Present a → a ≼ num g ⊗ b → p ⊗ inv a ≼ num s → p ⊗ inv b ≼ num (g +z s)
unfolding ◌⊗◌ inv
short_E a b absent g s e h k = ≼_absent _
short_E absent b (num p) g s e h k = absurd (absent_not e.1)
short_E (num a) absent (num p) g s e h k = ≼_absent _
short_E (num a) (num b) (num p) g s e h k = omega (arith, up_add g b, up_neg a, up_add p (neg a), up_neg b, up_add p (neg b), up_add g s)

pub swap_E : (b : E) (x y : ℤ) → num x ⊗ b ≼ num y → b ⊗ num (neg y) ≼ num (neg x)
unfolding ◌⊗◌
swap_E absent x y h = ≼_absent _
swap_E (num b) x y h = omega (arith, up_add x b, up_neg y, up_neg x, up_add b (neg y))

turn_E : (x y : ℤ) → num (neg y) ≼ num x → num (neg x) ⊗ num (neg y) ≼ unit
unfolding ◌⊗◌
turn_E x y h = omega (arith, up_neg x, up_neg y, up_add (neg x) (neg y))

inv_present : (a p : E) → Present a → Present p → Present (p ⊗ inv a)
unfolding ◌⊗◌ inv
inv_present absent p e f = absurd (absent_not e.1)
inv_present (num a) absent e f = absurd (absent_not f.1)
inv_present (num a) (num p) e f = (p +z neg a, refl)

module _ (n : ℕ) (q : ℕ → ℤ) where
  pub overdue_⊕ : (x y : Vec) → overdue n (timing q) (λ j. x j ⊕ y j) ≼ overdue n (timing q) x ⊕ overdue n (timing q) y
  unfolding overdue inv
  overdue_⊕ x y = sup_lub n _ (λ j h. rw (⊗_comm, distrib)
      (⊕_lub (≼_of (⊗_comm _ _) ▸ sup_ub n (λ j. x j ⊗ num (neg (q j))) j h ▸ ⊕_l _ _)
      (≼_of (⊗_comm _ _) ▸ sup_ub n (λ j. y j ⊗ num (neg (q j))) j h ▸ ⊕_r _ _)))

  pub overdue_shift : (a : E) (x : Vec) → overdue n (timing q) (λ j. a ⊗ x j) ≡ a ⊗ overdue n (timing q) x
  unfolding overdue inv
  overdue_shift a x = simp (sup_⊗, ⊗_assoc)

  pub overdue_mono : (x y : Vec) → ((j : ℕ) → j < n → x j ≼ y j) → overdue n (timing q) x ≼ overdue n (timing q) y
  unfolding overdue inv
  overdue_mono x y h = sup_mono n (λ j hj. ⊗_left _ (h j hj))

  pub overdue_at : (x : Vec) (j : ℕ) → j < n → x j ⊗ num (neg (q j)) ≼ overdue n (timing q) x
  unfolding overdue inv
  overdue_at x j h = sup_ub n (λ j. x j ⊗ num (neg (q j))) j h

  -- a vector with a component that is there is somewhere past due
  pub overdue_there : (x : Vec) (j : ℕ) → j < n → Present (x j) → overdue n (timing q) x ≡ num (val (overdue n (timing q) x))
  overdue_there x j h (z, e) = val_of _ (≼_of (sym (num_⊗ z (neg (q j))) ∙ ap (λ e. e ⊗ num (neg (q j))) (sym e)) ▸ overdue_at x j h)

module _ (n : ℕ) (P : Cue) where
  open P use {panels, lag, floor, due, order}

  -- pull(j) = −r(j) is at least M*(i,j) − q(i) for each i
  pull_E_at : (i j : ℕ) → i < n → star n order i j ⊗ num (neg (due i)) ≼ pull_E n P j
  unfolding pull_E
  pull_E_at i j hi = overdue_at n due (λ i. star n order i j) i hi

  pub pull_is : (j : ℕ) → j < n → pull_E n P j ≡ num (pull n P j)
  unfolding pull_E pull
  pull_is j h = let (z, e) = present_of _ (star_diag n order j h) in overdue_there n due (λ i. star n order i j) j h (z, e)

  pub pull_at : (i j : ℕ) → i < n → j < n → star n order i j ⊗ num (neg (due i)) ≼ num (pull n P j)
  pull_at i j hi hj = pull_E_at i j hi ▸ ≼_of (pull_is j hj)

  -- −q(j) ≤ pull(j): the marks are no later than the due marks
  pub due_pull : (j : ℕ) → j < n → num (neg (due j)) ≼ num (pull n P j)
  due_pull j h = ≼_back (⊗_unit _) ▸ ⊗_left _ (star_diag n order j h) ▸ pull_at j j h h

  -- a keeper x is past due at least as far as its part at j is past r(j)
  pub pull_overdue : (x : Vec) → Keeps n order x → (j : ℕ) → j < n → x j ⊗ num (pull n P j) ≼ overdue n (timing due) x
  pull_overdue x k j h = rw (← pull_is j h) (unfold pull_E in (rw (← overdue_shift n due (x j) (λ i. star n order i j))
      (overdue_mono n due _ x (λ i hi. ≼_of (⊗_comm (x j) (star n order i j)) ▸ keeps_star n order x k i j hi h))))

  -- what keeps the order lands by d as by the lags
  pub mv_through : (x : Vec) → Keeps n order x → (i : ℕ) → mv n lag x i ≡ mv n (through n P) x i
  unfolding through
  mv_through x k i = sym (mv_mm n n lag (star n order) x i ∙ mv_ext n lag _ x i (keeps_unchanged n order x k))

  pub mark_keeps : NoGain n order → Keeps n order (timing (mark n P))
  unfolding Keeps
  mark_keeps np i j hi hj = swap_E (order i j) (pull n P i) (pull n P j) (rw (← pull_is i hi, ← pull_is j hj) go)
    where
      go : pull_E n P i ⊗ order i j ≼ pull_E n P j
      go = unfold pull_E overdue inv in (rw sup_⊗r
          (sup_lub n _ (λ l hl. rw (⊗_assoc, ⊗_comm (num (neg (due l))), ← ⊗_assoc) (⊗_left _ (star_step n order np l i j hl hi hj) ▸
          sup_ub n (λ l. star n order l j ⊗ num (neg (due l))) l hl))))

  -- the marks are no later than the due marks
  pub mark_overdue : overdue n (timing due) (timing (mark n P)) ≼ unit
  unfolding overdue inv
  mark_overdue = sup_lub n _ (λ j hj. turn_E (pull n P j) (due j) (due_pull j hj))

  pub shortfall_at : (x : Vec) (i : ℕ) → i < panels → floor i ⊗ inv (landing n P x i) ≼ shortfall panels n lag floor x
  unfolding shortfall
  shortfall_at x i h = sup_ub panels (λ i. floor i ⊗ inv (landing n P x i)) i h

  module _ (R : Readable n P) where
    pub lands : (X : ℕ → ℤ) (i : ℕ) → i < panels → Present (landing n P (timing X) i)
    lands X i hi = let (j, hj, (a, ea)) = R.lagged i hi in present_of _ (≼_of (sym (num_⊗ a (X j)) ∙ ap (λ e. e ⊗ num (X j)) (sym ea)) ▸
        mv_at n lag (timing X) i j hj)

    pub timing_overdue : (X : ℕ → ℤ) → overdue n (timing due) (timing X) ≡ num (val (overdue n (timing due) (timing X)))
    timing_overdue X = overdue_there n due (timing X) 0 R.trigger (X 0, refl)

    pub shortfall_there : (X : ℕ → ℤ) → shortfall panels n lag floor (timing X) ≡ num (val (shortfall panels n lag floor (timing X)))
    unfolding shortfall
    shortfall_there X = let (i, hi, f) = R.floored in let (z, e) = inv_present (landing n P (timing X) i) (floor i) (lands X i hi) f in
        val_of _ (≼_back e ▸ sup_ub panels (λ i. floor i ⊗ inv (landing n P (timing X) i)) i hi)

    module _ (np : NoGain n order) where
      pub mark_shortfall : shortfall panels n lag floor (timing (mark n P)) ≡ num (least n P)
      unfolding least least_E
      mark_shortfall = shortfall_there (mark n P) ∙ ap (λ e. num (val e)) same
        where
          same : shortfall panels n lag floor (timing (mark n P)) ≡ shortfall panels n (through n P) floor (timing (mark n P))
          same = unfold shortfall in sup_ext panels (λ i hi. ap (λ e. floor i ⊗ inv e) (mv_through (timing (mark n P)) (mark_keeps np) i))

      -- no timing that keeps the order deviates by less than Δ: x is nowhere past r by more than g, the most it is past due, so it lands at
      -- most g later than r everywhere, and is short by at most g less
      pub at_least : (X : ℕ → ℤ) → Keeps n order (timing X) → num (least n P) ≼ deviation n P (timing X)
      unfolding deviation
      at_least X k = ≼_back mark_shortfall ▸ below ▸
          ≼_back (ap (λ e. e ⊗ shortfall panels n lag floor x) (timing_overdue X) ∙ ap (λ e. num g ⊗ e) (shortfall_there X) ∙ num_⊗ g _)
        where
          x : Vec
          x = timing X

          g : ℤ
          g = val (overdue n (timing due) x)

          far : (i : ℕ) → landing n P x i ≼ num g ⊗ landing n P (timing (mark n P)) i
          far i = rw (mv_through x k i, mv_through (timing (mark n P)) (mark_keeps np) i)
              (unfold mv in (rw sup_⊗ (sup_mono n (λ j hj. rw ⊗_left_comm (⊗_right _ (over_E (X j) (pull n P j) g (pull_overdue x k j hj ▸
              ≼_of (timing_overdue X))))))))

          below : shortfall panels n lag floor (timing (mark n P)) ≼ num (g +z val (shortfall panels n lag floor x))
          below = unfold shortfall in sup_lub panels _
              (λ i hi. short_E (landing n P x i) (landing n P (timing (mark n P)) i) (floor i) g (val (shortfall panels n lag floor x)) (lands X i hi)
              (far i)
              (shortfall_at x i hi ▸ ≼_of (shortfall_there X)))

      -- and r deviates by Δ
      pub reached : deviation n P (timing (mark n P)) ≡ num (least n P)
      unfolding deviation
      reached = ≼_anti (⊗_mono mark_overdue (≼_of mark_shortfall) ▸ ≼_of (⊗_unit _))
          (unfold deviation in at_least (mark n P) (mark_keeps np))

      pub least_reached : (X : ℕ → ℤ) × Keeps n order (timing X) × (deviation n P (timing X) ≡ num (least n P))
      least_reached = (mark n P, mark_keeps np, reached)

      -- tightest exactly when the order is kept and the deviation is Δ
      pub tightest_least : (X : ℕ → ℤ) → Tightest n P X ↔ (Keeps n order (timing X) × (deviation n P (timing X) ≡ num (least n P)))
      tightest_least X = (
        λ t. (t.keeps, ≼_anti (t.least (mark n P) (mark_keeps np) ▸ ≼_of reached) (at_least X t.keeps)),
        λ t. record { keeps = t.0; least = λ Y k. ≼_of t.1 ▸ at_least Y k },
      )

      -- the test of a timing
      unfoldable pub tightest? : (X : ℕ → ℤ) → Dec (Tightest n P X)
      tightest? X = elim (dec_× (keeps? n order (timing X)) (same_entry? (deviation n P (timing X)) (num (least n P)))) [
        | yes t ↦ yes
            ((tightest_least X).1 t)
        | no t ↦ no (λ h. t ((tightest_least X).0 h))
      ]

  -- some timing keeps the order exactly when no circle gains
  pub order_possible : ((X : ℕ → ℤ) × Keeps n order (timing X)) ↔ NoGain n order
  order_possible = (
    λ t. elim (gain_or n order) [ inl np ↦ np | inr s ↦ absurd (none_keeps n order t.0 s.0 s.1 s.4 s.5 t.1) ],
    λ np. (mark n P, mark_keeps np),
  )
