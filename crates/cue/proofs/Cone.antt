-- The hub: the vectors, absent components allowed, that keep the order and land as far as Δ asks.
-- It knows nothing of star, selections or candidates. Its timings are the tightest ones, and they determine it.
use mathlib.Core.Path.{◌≡◌, refl, ap, sym, ◌∙◌}
use mathlib.Core.Logic.{◌⊎◌, inl, inr, ◌↔◌}
use mathlib.Core.List.{List, [], ◌∷◌}
use Prim.Native.Nat.{ℕ, ◌<◌}
use native.Mathlib.Omega.{arith}
use lib.IntN.{ℤ, pos}
use Rattle.maxplus.specs.Whole.{◌≤z◌, ◌+z◌, neg}
use Rattle.maxplus.specs.Entry.{E, absent, num, ◌≼◌, ◌⊗◌, ◌⊕◌, inv, Present, val}
use Rattle.maxplus.specs.Finite.{In}
use Rattle.maxplus.specs.Tables.{sup, sup_l, Vec, NoGain, normal}
use Rattle.maxplus.specs.Line.{Line, at, line}
use Rattle.maxplus.proofs.WholeLaws.{up_add, up_neg}
use Rattle.maxplus.proofs.EntryLaws.{≼_refl, ◌▸◌, ≼_anti, ≼_absent, ≼_of, ≼_back, ⊕_l, ⊕_r, ⊕_or, ⊕_lub, ⊗_mono, ⊗_right, ⊗_absent}
use Rattle.maxplus.proofs.EntryLaws.{⊗_nothing, distrib, val_of, num_⊗, ⊗_left_comm, absent_not}
use Rattle.maxplus.proofs.SupLaws.{sup_lub}
use Rattle.maxplus.proofs.TableLaws.{mv_mono, mv_shift, mv_⊕}
use Rattle.maxplus.proofs.LineLaws.{at_line}
use Rattle.cue.specs.Cue.{Cue, timing, overdue, shortfall}
use Rattle.cue.specs.Vectors.{Keeps, landing, deviation, Tightest, Readable}
use Rattle.cue.specs.Method.{mark, least, ask}
use Rattle.cue.proofs.Deviation.{overdue_⊕, overdue_shift, overdue_mono, mark_keeps, shortfall_at, lands, timing_overdue}
use Rattle.cue.proofs.Deviation.{shortfall_there, at_least, reached, tightest_least}

floor_E : (a p : E) (D g s : ℤ) → Present a → p ⊗ inv a ≼ num s → g +z s ≤z D → p ⊗ num (neg D) ⊗ num g ≼ a
unfolding ◌⊗◌ inv
floor_E a absent D g s e h k = ≼_absent _
floor_E absent (num p) D g s e h k = absurd (absent_not e.1)
floor_E (num a) (num p) D g s e h k =
    omega (arith, up_neg D, up_add p (neg D), up_add (p +z neg D) g, up_neg a, up_add p (neg a), up_add g s)

unfloor_E : (a p : E) (D g : ℤ) → p ⊗ num (neg D) ⊗ num g ≼ a → p ⊗ inv a ≼ num (D +z neg g)
unfolding ◌⊗◌ inv
unfloor_E a absent D g h = ≼_absent _
unfloor_E absent (num p) D g h = absurd h.un
unfloor_E (num a) (num p) D g h =
    omega (arith, up_neg D, up_add p (neg D), up_add (p +z neg D) g, up_neg a, up_add p (neg a), up_neg g, up_add D (neg g))

sum_E : (D g : ℤ) → num g ⊗ num (D +z neg g) ≼ num D
unfolding ◌⊗◌
sum_E D g = omega (arith, up_neg g, up_add D (neg g), up_add g (D +z neg g))

module _ (n : ℕ) (P : Cue) (D : ℤ) where
  open P use {panels, lag, floor, due, order}

  pub record Cone (x : Vec) : Type 0 where
    pub ordered : Keeps n order x
    pub landed : (i : ℕ) → i < panels → ask n P D i ⊗ overdue n (timing due) x ≼ landing n P x i

  -- ---- closed under the larger of two, under shifts, and so under combinations
  pub cone_⊕ : (x y : Vec) → Cone x → Cone y → Cone (λ j. x j ⊕ y j)
  unfolding Keeps
  cone_⊕ x y gx gy =
      record {
        ordered = λ i j hi hj. rw distrib (⊕_lub (gx.ordered i j hi hj ▸ ⊕_l _ _) (gy.ordered i j hi hj ▸ ⊕_r _ _));
        landed = λ i hi. ⊗_right _ (overdue_⊕ n due x y) ▸ (rw distrib
            (⊕_lub (gx.landed i hi ▸ mv_mono n lag x _ i (λ j h. ⊕_l _ _)) (gy.landed i hi ▸ mv_mono n lag y _ i (λ j h. ⊕_r _ _))));
      }

  pub cone_⊗ : (a : E) (x : Vec) → Cone x → Cone (λ j. a ⊗ x j)
  unfolding Keeps
  cone_⊗ a x g =
      record {
        ordered = λ i j hi hj. rw (⊗_left_comm (order i j) a (x j)) (⊗_right _ (g.ordered i j hi hj));
        landed = λ i hi. rw (overdue_shift n due a x, mv_shift n lag a x i, ⊗_left_comm) (⊗_right _ (g.landed i hi));
      }

  pub cone_ext : (x y : Vec) → ((i : ℕ) → i < n → x i ≡ y i) → Cone x → Cone y
  unfolding Keeps
  cone_ext x y e g =
      record {
        ordered = λ i j hi hj. rw (← e i hi, ← e j hj) (g.ordered i j hi hj);
        landed = λ i hi. ⊗_right _ (overdue_mono n due y x (λ j hj. ≼_back (e j hj))) ▸ g.landed i hi ▸
            mv_mono n lag x y i (λ j hj. ≼_of (e j hj));
      }

  -- the greatest component shifted to 0
  pub cone_line : (y : Vec) → Cone y → Cone (at n (line n (normal n y)))
  unfolding normal
  cone_line y c = cone_ext (normal n y) (at n (line n (normal n y))) (λ i hi. sym (at_line n (normal n y) i hi)) (cone_⊗ (inv (sup n y)) y c)

  pub cone_absent : Cone (λ i. absent)
  unfolding Keeps overdue
  cone_absent = record {
    ordered = λ i j hi hj. rw ⊗_absent (≼_absent _);
    landed = λ i hi. ⊗_right _ (sup_lub n _ {c = absent} (λ j hj. ≼_of (⊗_nothing _))) ▸
        (rw ⊗_absent (≼_absent _));
  }

  pub cone_combination : (C : List (Line n)) → ((c : Line n) → In c C → Cone (at n c)) → (w : Line n → E) →
      Cone (λ i. sup_l C (λ c. w c ⊗ at n c i))
  unfolding sup_l
  cone_combination [] g w = cone_absent
  cone_combination (c ∷ C) g w = cone_⊕ (λ i. w c ⊗ at n c i) (λ i. sup_l C (λ c. w c ⊗ at n c i)) (cone_⊗ (w c) (at n c) (g c (inl refl)))
      (cone_combination C (λ d h. g d (inr h)) w)

-- ---- the timings in it are the tightest ones
module _ (n : ℕ) (P : Cue) (R : Readable n P) (np : NoGain n P.order) where
  open P use {panels, lag, floor, due, order}

  pub tightest_cone : (X : ℕ → ℤ) → Tightest n P X ↔ Cone n P (least n P) (timing X)
  tightest_cone X = (to, from)
    where
      x : Vec
      x = timing X

      g : ℤ
      g = val (overdue n (timing due) x)

      s : ℤ
      s = val (shortfall panels n lag floor x)

      parts : deviation n P x ≡ num (g +z s)
      parts = unfold deviation in (ap (λ e. e ⊗ shortfall panels n lag floor x) (timing_overdue n P R X) ∙
          ap (λ e. num g ⊗ e) (shortfall_there n P R X) ∙
          num_⊗ g s)

      to : Tightest n P X → Cone n P (least n P) x
      to t = let h : g +z s ≤z least n P = (≼_back parts ▸ ≼_of ((tightest_least n P R np X).0 t).1).un in
          record {
            ordered = t.keeps;
            landed = λ i hi. rw (timing_overdue n P R X) (floor_E (landing n P x i) (floor i) (least n P) g s (lands n P R X i hi)
                (shortfall_at n P x i hi ▸ ≼_of (shortfall_there n P R X)) h);
          }

      low : Cone n P (least n P) x → shortfall panels n lag floor x ≼ num (least n P +z neg g)
      low c = unfold shortfall in sup_lub panels _
          (λ i hi. unfloor_E (landing n P x i) (floor i) (least n P) g (rw (timing_overdue n P R X) at (c.landed i hi)))

      from : Cone n P (least n P) x → Tightest n P X
      from c = (tightest_least n P R np X).1 (
        c.ordered,
        ≼_anti
            (unfold deviation in ⊗_mono (≼_of (timing_overdue n P R X)) (low c) ▸ sum_E (least n P) g) (at_least n P R np X c.ordered),
      )

  pub mark_tightest : Tightest n P (mark n P)
  mark_tightest = (tightest_least n P R np (mark n P)).1 (mark_keeps n P np, reached n P R np)

  pub mark_cone : Cone n P (least n P) (timing (mark n P))
  mark_cone = (tightest_cone (mark n P)).0 mark_tightest

-- ---- the timings in it determine it: what holds however far G is pushed down holds without it
pub limit : (a b g : E) → ((k : ℤ) → a ≼ b ⊕ num (neg k) ⊗ g) → a ≼ b
limit absent b g h = ≼_absent b
limit (num a) b absent h = h (pos 0) ▸ ⊕_lub (≼_refl b) (≼_of (⊗_absent _) ▸ ≼_absent b)
limit (num a) b (num g) h = go (⊕_or b (num (neg k) ⊗ num g))
  where
    k : ℤ
    k = pos 1 +z g +z neg a

    no_way : num a ≼ num (neg k) ⊗ num g → ⊥
    no_way q = let r = (rw num_⊗ at q).un in
        omega (arith, r, up_neg a, up_add (pos 1) g, up_add (pos 1 +z g) (neg a), up_neg k, up_add (neg k) g)

    go : (b ⊕ num (neg k) ⊗ num g ≡ b) ⊎ (b ⊕ num (neg k) ⊗ num g ≡ num (neg k) ⊗ num g) → num a ≼ b
    go (inl e) = h k ▸ ≼_of e
    go (inr e) = absurd (no_way (h k ▸ ≼_of e))

module _ (n : ℕ) (P Q : Cue) (D F : ℤ) where
  pub timings_determine : (G : ℕ → ℤ) → Cone n P D (timing G) → ((X : ℕ → ℤ) → Cone n P D (timing X) → Cone n Q F (timing X)) →
      (v : Vec) → Cone n P D v → Cone n Q F v
  unfolding Keeps
  timings_determine G cG f v cv =
      record {
        ordered = λ i j hi hj. limit _ _ (num (G i)) (λ k. ⊗_right _ (⊕_l _ _) ▸ (cy k).ordered i j hi hj);
        landed = λ i hi. limit _ _ (landing n Q (timing G) i) (λ k. ⊗_right _ (overdue_mono n Q.due v (y k) (λ j hj. ⊕_l _ _)) ▸
            (cy k).landed i hi ▸
            mv_⊕ n Q.lag v (λ i. num (neg k) ⊗ num (G i)) i ▸
            ≼_of (ap (λ e. landing n Q v i ⊕ e) (mv_shift n Q.lag (num (neg k)) (timing G) i)));
      }
    where
      y : ℤ → Vec
      y k i = v i ⊕ num (neg k) ⊗ num (G i)

      there : (k : ℤ) (i : ℕ) → y k i ≡ num (val (y k i))
      there k i = val_of (y k i) (≼_back (num_⊗ (neg k) (G i)) ▸ ⊕_r (v i) (num (neg k) ⊗ num (G i)))

      cy : (k : ℤ) → Cone n Q F (y k)
      cy k = cone_ext n Q F (timing (λ i. val (y k i))) (y k) (λ i hi. sym (there k i)) (f (λ i. val (y k i))
          (cone_ext n P D (y k) (timing (λ i. val (y k i))) (λ i hi. there k i)
          (cone_⊕ n P D v (λ i. num (neg k) ⊗ num (G i)) cv (cone_⊗ n P D (num (neg k)) (timing G) cG))))
