-- The test for extreme in its fastest form: the least allowed set that holds k is reached in one round, because the star
-- is transitive, and c is extreme exactly when these least sets have a trigger in common.
use mathlib.Core.Path.{◌≡◌, ap, sym, ◌∙◌}
use mathlib.Core.Logic.{◌⊎◌, inl, inr, ◌↔◌}
use mathlib.Core.List.{List}
use mathlib.Core.Bool.{decide}
use Prim.Native.Nat.{ℕ, zero, suc, ◌<◌}
use native.Mathlib.Omega.{arith}
use lib.Dec.{T}
use lib.IntN.{ℤ, pos}
use Rattle.maxplus.specs.Whole.{neg}
use Rattle.maxplus.specs.Entry.{E, absent, num, ◌≼◌, ◌⊗◌, Present, val}
use Rattle.maxplus.specs.Finite.{In}
use Rattle.maxplus.specs.Tables.{Vec, mm, idm, power, star, NoGain}
use Rattle.maxplus.specs.Line.{Line, at}
use Rattle.maxplus.specs.Normal.{Normal}
use Rattle.maxplus.proofs.WholeLaws.{up_add}
use Rattle.maxplus.proofs.EntryLaws.{◌▸◌, ≼_anti, ≼_absent, ≼_of, ≼_back, ⊗_left}
use Rattle.maxplus.proofs.EntryLaws.{⊗_right, ⊗_assoc, ⊗_unit, ⊗_nums, present_dec, same_entry?}
use Rattle.maxplus.proofs.FiniteLaws.{all_dec, dec_×, dec_⊎, dec_→, some_dec, decide_yes, decide_of}
use Rattle.maxplus.proofs.SupLaws.{sup_at, sup_⊗r}
use Rattle.maxplus.proofs.TableLaws.{idm_eq}
use Rattle.maxplus.proofs.StarLaws.{star_diag, star_step}
use Rattle.cue.proofs.MinimalLaws.{Increasing, increasing_equal}
use Rattle.cue.specs.Cue.{Cue, overdue, timing}
use Rattle.cue.specs.Vectors.{landing}
use Rattle.cue.specs.Method.{least, ask, candidates, lines}
use Rattle.cue.specs.Closures as closures
use Rattle.cue.specs.Closures.{Common}
use Rattle.cue.proofs.Order.{keeps_rule, keeps_power, keeps_star}
use Rattle.cue.proofs.Deviation.{overdue_there}
use Rattle.cue.proofs.Cone.{Cone}
use Rattle.cue.proofs.Candidates.{candidates_normal, candidates_cone}
use Rattle.cue.proofs.Extreme.{Extreme, in_lines, lines_increasing, lines_extreme}
use Rattle.cue.proofs.LocalTest.{Triggers, Allowed, extreme_tight}

middle_E : (a x y : E) {z : ℤ} → num z ≼ a ⊗ x → a ⊗ y ≼ num z → y ≼ x
unfolding ◌⊗◌
middle_E absent x y h k = absurd h.un
middle_E (num a) absent y h k = absurd h.un
middle_E (num a) (num x) absent h k = ≼_absent _
middle_E (num a) (num x) (num y) {z} h k = omega (arith, up_add a x, up_add a y)

module _ (n : ℕ) (P : Cue) (D : ℤ) (c : Vec) where
  open P use {panels, lag, floor, due, order}

  abbrev HeldBy : ℕ → ℕ → Type 0
  HeldBy = closures.HeldBy n P D c

  abbrev Foremost : ℕ → Type 0
  Foremost = closures.Foremost n P D c

  abbrev Fires : ℕ → ℕ → Type 0
  Fires = closures.Fires n P D c

  abbrev Closure : ℕ → ℕ → Type 0
  Closure = closures.Closure n P D c

  unfoldable pub fires? : (k : ℕ) → Dec ((i : ℕ) × (i < panels) × Fires k i)
  fires? k = some_dec (Fires k) (λ i. dec_× (present_dec (floor i))
      (dec_× (same_entry? _ _) (all_dec (λ j. lag i j ⊗ c j ≡ landing n P c i → HeldBy k j)
      (λ j. dec_→ (same_entry? _ _) (same_entry? _ _)) n))) panels

  unfoldable pub closure? : (k j : ℕ) → Dec (Closure k j)
  closure? k j = dec_⊎ (same_entry? _ _)
      (dec_× (fires? k) (some_dec (λ l. Foremost l × HeldBy l j) (λ l. dec_× (same_entry? _ _) (same_entry? _ _)) n))

  module _ (np : NoGain n order) (cc : Cone n P D c) (g : ℤ) (eg : overdue n (timing due) c ≡ num g) where
    holds_refl : (j : ℕ) → j < n → HeldBy j j
    holds_refl j hj = ≼_anti (keeps_star n order c cc.ordered j j hj hj) (≼_back (⊗_unit (c j)) ▸ ⊗_left _ (star_diag n order j hj))

    -- order rules close in one round
    holds_step : (k i l : ℕ) → k < n → i < n → l < n → HeldBy k i → order i l ⊗ c l ≡ c i → HeldBy k l
    holds_step k i l hk hi hl h e = ≼_anti (keeps_star n order c cc.ordered k l hk hl)
        (≼_of (sym h ∙ ap (λ a. star n order k i ⊗ a) (sym e) ∙ sym (⊗_assoc _ _ _)) ▸ ⊗_left _ (star_step n order np k i l hk hi hl))

    holds_present : (k j : ℕ) → Present (c k) → HeldBy k j → Present (c j)
    holds_present k j (z, ez) h = let (x, y, ex, ey, l) = ⊗_nums (star n order k j) (c j) (≼_of (sym ez ∙ sym h)) in (y, ey)

    foremost_present : (j : ℕ) → Foremost j → Present (c j)
    foremost_present j h = let (x, y, ex, ey, l) = ⊗_nums (c j) (num (neg (due j))) (≼_of (sym eg ∙ sym h)) in (x, ex)

    closure_present : (k j : ℕ) → Present (c k) → Closure k j → Present (c j)
    closure_present k j p (inl h) = holds_present k j p h
    closure_present k j p (inr (t, (l, hl, (f, h)))) = holds_present l j (foremost_present l f) h

    abbrev least_set : ℕ → Triggers
    least_set k j = decide (closure? k j)

    -- it is allowed
    closure_allowed : (k : ℕ) → k < n → Allowed n P D c (least_set k)
    closure_allowed k hk =
        record {
          ordered = λ i l hi hl e t. decide_of (closure? k l) (ordered i l hi hl e (decide_yes (closure? k i) t));
          landed = λ i hi p e a j hj r. decide_of (closure? k j)
              (inr (landed i hi p e (λ j hj q. decide_yes (closure? k j) (a j hj q)) (fires? k), (j, hj, (r, holds_refl j hj))));
        }
      where
        ordered : (i l : ℕ) → i < n → l < n → order i l ⊗ c l ≡ c i → Closure k i → Closure k l
        ordered i l hi hl e (inl h) = inl (holds_step k i l hk hi hl h e)
        ordered i l hi hl e (inr (t, (m, hm, (f, h)))) = inr (t, (m, hm, (f, holds_step m i l hm hi hl h e)))

        -- if no panel fires the set is A(k), and this panel fires
        landed : (i : ℕ) → i < panels → Present (floor i) → ask n P D i ⊗ overdue n (timing due) c ≡ landing n P c i →
            ((j : ℕ) → j < n → lag i j ⊗ c j ≡ landing n P c i → Closure k j) → Dec ((i : ℕ) × (i < panels) × Fires k i) →
            (i : ℕ) × (i < panels) × Fires k i
        landed i hi p e a (yes t) = t
        landed i hi p e a (no t) = (i, hi, (p, (e, λ j hj q. elim (a j hj q) [ inl h ↦ h | inr u ↦ absurd (t u.0) ])))

    -- and least
    module _ (S : Triggers) (a : Allowed n P D c S) where
      along_power : (m k j : ℕ) → k < n → j < n → Present (c k) → power n order m k j ⊗ c j ≡ c k → T (S k) → T (S j)
      unfolding power mm
      along_power zero k j hk hj (z, ez) e t = let (x, y, ex, ey, l) = ⊗_nums (idm k j) (c j) (≼_of (sym ez ∙ sym e)) in
          rw (← idm_eq k j (≼_back ex)) t
      along_power (suc m) k j hk hj (z, ez) e t =
          let (i, hi, h) = sup_at n _ (≼_of (sym ez ∙ sym e) ▸ ≼_of (sup_⊗r n (c j) (λ i. order k i ⊗ power n order m i j))) in
          let h' : num z ≼ order k i ⊗ (power n order m i j ⊗ c j) = h ▸ ≼_of (⊗_assoc _ _ _) in
          let low : power n order m i j ⊗ c j ≼ c i = keeps_power n order c cc.ordered m i j hi hj in
          let up_to : order k i ⊗ c i ≼ num z = keeps_rule n order c cc.ordered k i hk hi ▸ ≼_of ez in
          let reach : num z ≼ order k i ⊗ c i = h' ▸ ⊗_right _ low in
          let (x, y, ex, ey, l) = ⊗_nums (order k i) (c i) reach in
          along_power m i j hi hj (y, ey) (≼_anti low (middle_E (order k i) (power n order m i j ⊗ c j) (c i) h' up_to))
          (a.ordered k i hk hi (≼_anti up_to reach ∙ sym ez) t)

      along_star : (k j : ℕ) → k < n → j < n → Present (c k) → HeldBy k j → T (S k) → T (S j)
      unfolding star
      along_star k j hk hj (z, ez) e t =
          let (m, hm, h) = sup_at n _ (≼_of (sym ez ∙ sym e) ▸ ≼_of (sup_⊗r n (c j) (λ m. power n order m k j))) in
          along_power m k j hk hj (z, ez) (≼_anti (keeps_power n order c cc.ordered m k j hk hj) (≼_of ez ▸ h)) t

      closure_least : (k j : ℕ) → k < n → j < n → Present (c k) → T (S k) → Closure k j → T (S j)
      closure_least k j hk hj p t (inl h) = along_star k j hk hj p h t
      closure_least k j hk hj p t (inr ((i, hi, (f, (e, q))), (l, hl, (r, h)))) =
          along_star l j hl hj (foremost_present l r) h (a.landed i hi f e (λ j hj o. along_star k j hk hj p (q j hj o) t) l hl r)

module _ (n : ℕ) (P : Cue) (D : ℤ) where
  unfoldable pub common? : (c : Line n) → Dec (Common n P D c)
  common? c = some_dec (λ j. (k : ℕ) → k < n → Present (at n c k) → Closure n P D (at n c) k j)
      (λ j. all_dec (λ k. Present (at n c k) → Closure n P D (at n c) k j)
      (λ k. dec_→ (present_dec (at n c k)) (closure? n P D (at n c) k j)) n) n

-- c is extreme exactly when some trigger is in the closure of every trigger of c. All numbers are whole, so lowering by one is the smallest
-- change: if some v of the cone lies below c, meets it at j and is not c, then v joined with c lowered everywhere by one is in the cone, and
-- it is c with just the triggers of some set S lowered by one, j not among them. So c is extreme exactly when all sets that can be lowered
-- have a trigger in common (LocalTest). Which sets can be lowered is said by the rules that hold with equality at c, and such sets are closed
-- under intersection; so it is enough to look at the least one with a given trigger k in it, the closure of k. It is what k holds by the
-- order, A(k): lowering k lowers what waits for it just in time, in one round, as M* is transitive. And where some panel that lands just
-- where Δ asks is reached by triggers of A(k) only, its landing falls, so α must fall: then all foremost triggers fall, with what they hold.
module _ (n : ℕ) (P : Cue) (D : ℤ) (np : NoGain n P.order) where
  pub extreme_closure : (c : Line n) → Cone n P D (at n c) → Normal n c →
      Extreme n P D c ↔ Common n P D c
  extreme_closure c cc nc = (to, from)
    where
      x : Vec
      x = at n c

      g : ℤ
      g = val (overdue n (timing P.due) x)

      top : Present (x nc.top)
      top = (pos 0, nc.zero_there)

      eg : overdue n (timing P.due) x ≡ num g
      eg = overdue_there n P.due x nc.top nc.here top

      to : Extreme n P D c → (j : ℕ) × (j < n) × ((k : ℕ) → k < n → Present (x k) → Closure n P D x k j)
      to h = let (j, hj, p, f) = (extreme_tight n P D c cc nc).0 h in (
        j,
        hj,
        λ k hk pk. decide_yes (closure? n P D x k j) (f (least_set n P D x np cc g eg k)
            (record {
              some = (k, hk, decide_of (closure? n P D x k k) (inl (holds_refl n P D x np cc g eg k hk)));
              within = λ i hi t. closure_present n P D x np cc g eg k i pk (decide_yes (closure? n P D x k i) t);
            }) (closure_allowed n P D x np cc g eg k hk)),
      )

      from : (j : ℕ) × (j < n) × ((k : ℕ) → k < n → Present (x k) → Closure n P D x k j) → Extreme n P D c
      from (j, hj, f) = (extreme_tight n P D c cc nc).1 (
        j,
        hj,
        closure_present n P D x np cc g eg nc.top j top (f nc.top nc.here top),
        λ S s a. let (i, hi, t) = s.some in
            closure_least n P D x np cc g eg S a i j hi hj (s.within i hi t) t (f i hi (s.within i hi t)),
      )

module _ (n : ℕ) (P : Cue) (np : NoGain n P.order) where
  -- the lines are the candidates that pass the test
  pub lines_common : (c : Line n) → In c (lines n P) ↔ (In c (candidates n P (least n P)) × Common n P (least n P) c)
  lines_common c = (
    λ h. let x = (lines_extreme n P np c).0 h in (((in_lines n P c).0 h).0, (extreme_closure n P D np c x.inside x.shape).0 x),
    λ t. (lines_extreme n P np c).1
        ((extreme_closure n P D np c (candidates_cone n P D np c t.0) (candidates_normal n P D c t.0)).1 t.1),
  )
    where
      D : ℤ
      D = least n P

  -- what is to be shown of another list: increasing, and its members are the candidates that pass
  pub lines_by_closure : (L : List (Line n)) → Increasing n L →
      ((c : Line n) → In c L ↔ (In c (candidates n P (least n P)) × Common n P (least n P) c)) → L ≡ lines n P
  lines_by_closure L s e = increasing_equal n L (lines n P) s (lines_increasing n P)
      (λ c. (λ h. (lines_common c).1 ((e c).0 h), λ h. (e c).1 ((lines_common c).0 h)))
