-- Step 6: candidates lie in the cone, and every vector of the cone is the largest of candidates, each with the vector's own
-- component for weight.
use mathlib.Core.Path.{◌≡◌, refl, ap, sym, ◌∙◌, subst}
use Prim.Native.Nat.{ℕ, ◌<◌}
use native.Mathlib.Omega.{arith}
use lib.Dec.{T}
use lib.IntN.{ℤ}
use Rattle.maxplus.specs.Whole.{◌+z◌, neg}
use Rattle.maxplus.specs.Entry.{E, absent, num, ◌≼◌, ◌⊗◌, ◌⊕◌, inv, unit, Present, val}
use Rattle.maxplus.specs.Finite.{In}
use Rattle.maxplus.specs.Tables.{Vec, mv, idm, star, NoGain, normal}
use Rattle.maxplus.specs.Line.{Line, at, line}
use Rattle.maxplus.specs.Normal.{Normal}
use Rattle.maxplus.proofs.WholeLaws.{up_add, up_neg}
use Rattle.maxplus.proofs.EntryLaws.{≼_refl, ◌▸◌, ≼_absent, ≼_of, ≼_back, ⊕_l}
use Rattle.maxplus.proofs.EntryLaws.{⊕_r, ⊕_lub, ⊗_mono, ⊗_left, ⊗_right, ⊗_comm, ⊗_assoc}
use Rattle.maxplus.proofs.EntryLaws.{⊗_nothing, ⊗_unit, distrib, ⊗_unit_r, ⊗_left_comm, present_dec, absent_of}
use Rattle.maxplus.proofs.FiniteLaws.{in_each, each_in, in_map, map_in}
use Rattle.maxplus.proofs.SupLaws.{sup_lub, sup_⊗, sup_⊗r, sup_l_ub, sup_l_lub, sup_l_⊗}
use Rattle.maxplus.proofs.TableLaws.{mv_mm, idm_same, idm_in, mv_at}
use Rattle.maxplus.proofs.LineLaws.{normal_line, normal_present}
use Rattle.maxplus.proofs.CombinationLaws.{Under, under_line, Met, Span}
use Rattle.maxplus.proofs.StarLaws.{star_diag}
use Rattle.cue.specs.Cue.{Cue, overdue, timing}
use Rattle.cue.specs.Vectors.{Keeps}
use Rattle.cue.specs.Method.{Selection, through, pull, floor_panels, ask, kept, selections, need, seed, ray, candidate, candidates}
use Rattle.cue.proofs.Order.{keeps_star, star_keeps}
use Rattle.cue.proofs.Deviation.{overdue_there, pull_at, pull_overdue}
use Rattle.cue.proofs.Cone.{Cone, cone_line}
use Rattle.cue.proofs.Walk.{in_floor_panels, walk_within, walk_fixes, walk_panels, kept_above, Serves, cone_selection}

-- what a trigger that serves is asked for, it gives
pub need_E : (d x a : E) (g : ℤ) → a ⊗ num g ≼ d ⊗ x → a ⊗ inv d ⊗ num g ≼ x
unfolding ◌⊗◌ inv
need_E d x absent g h = ≼_absent _
need_E absent x (num a) g h = absurd h.un
need_E (num d) absent (num a) g h = absurd h.un
need_E (num d) (num x) (num a) g h = omega (arith, up_add a g, up_neg d, up_add a (neg d), up_add (a +z neg d) g, up_add d x)

-- x(t) no further than g past r(t), and w + g ≤ x(j): so x(t) + (w − r(t)) ≤ x(j)
seed_E : (xt w xj : E) (r g : ℤ) → xt ⊗ num r ≼ num g → w ⊗ num g ≼ xj → xt ⊗ (w ⊗ num r) ≼ xj
unfolding ◌⊗◌
seed_E absent w xj r g h k = ≼_absent _
seed_E (num xt) absent xj r g h k = ≼_absent _
seed_E (num xt) (num w) absent r g h k = absurd k.un
seed_E (num xt) (num w) (num xj) r g h k = omega (arith, up_add xt r, up_add w g, up_add w r, up_add xt (w +z r))

-- w ≤ r at a kept entry
mark_E : (d a : E) (r : ℤ) → a ⊗ num r ≼ d → (a ⊗ inv d) ⊗ num r ≼ unit
unfolding ◌⊗◌ inv
mark_E d absent r h = ≼_absent _
mark_E absent (num a) r h = absurd h.un
mark_E (num d) (num a) r h = omega (arith, up_add a r, up_neg d, up_add a (neg d), up_add (a +z neg d) r)

pub reach_E : (d a : E) (r s : ℤ) → a ⊗ num s ≼ d → a ⊗ num r ≼ d ⊗ ((a ⊗ inv d) ⊗ num r)
unfolding ◌⊗◌ inv
reach_E d absent r s h = ≼_absent _
reach_E absent (num a) r s h = absurd h.un
reach_E (num d) (num a) r s h =
    omega (arith, up_add a s, up_add a r, up_neg d, up_add a (neg d), up_add (a +z neg d) r, up_add d (a +z neg d +z r))

-- step 6 for any w in the place of a selection's
module _ (n : ℕ) (P : Cue) where
  open P use {panels, lag, floor, due, order}

  unfoldable pub seed_from : Vec → ℕ → Vec
  seed_from w t j = idm t j ⊕ w j ⊗ num (pull n P t)

  unfoldable pub ray_from : Vec → ℕ → Vec
  ray_from w t = mv n (star n order) (seed_from w t)

  unfoldable pub line_from : Vec → ℕ → Line n
  line_from w t = line n (normal n (ray_from w t))

  -- M* was applied, so rays keep the order
  ray_keeps : NoGain n order → (w : Vec) (t : ℕ) → Keeps n order (ray_from w t)
  unfolding ray_from
  ray_keeps np w t = star_keeps n order np (seed_from w t)

  -- and have a component at their own trigger
  ray_diag : (w : Vec) (t : ℕ) → t < n → unit ≼ ray_from w t t
  unfolding ray_from seed_from
  ray_diag w t ht =
      ≼_back (⊗_unit unit) ▸
      (⊗_mono (star_diag n order t ht) (≼_back (idm_same t) ▸ ⊕_l _ _)) ▸
      mv_at n (star n order) (λ j. idm t j ⊕ w j ⊗ num (pull n P t)) t t ht

  pub line_from_normal : (w : Vec) (t : ℕ) → t < n → Normal n (line_from w t)
  unfolding line_from
  line_from_normal w t ht = normal_line n (ray_from w t) t ht (ray_diag w t ht)

module _ (n : ℕ) (P : Cue) (D : ℤ) where
  open P use {panels, lag, floor, due, order}

  -- w gives each panel with a floor what it asks for at one of its kept triggers
  abbrev pub Served : Vec → Type 0
  Served w = (i : ℕ) → i < panels → Present (floor i) → (j : ℕ) × (j < n) × T (kept n P D i j) × (ask n P D i ⊗ inv (through n P i j) ≼ w j)

  -- and w ≤ r
  pub record Serving (w : Vec) : Type 0 where
    pub marked : (t : ℕ) → t < n → w t ⊗ num (pull n P t) ≼ unit
    pub served : Served w

  -- what a kept entry asks for is no more than r
  pub kept_mark : (i j : ℕ) → T (kept n P D i j) → (ask n P D i ⊗ inv (through n P i j)) ⊗ num (pull n P j) ≼ unit
  kept_mark i j k = mark_E (through n P i j) (ask n P D i) (pull n P j) (kept_above n P D i j k)

  -- ---- in the cone
  module _ (w : Vec) (v : Serving w) where
    seed_need : (t j : ℕ) → w j ⊗ num (pull n P t) ≼ seed_from n P w t j
    unfolding seed_from
    seed_need t j = ⊕_r _ _

    seed_pull : (t j : ℕ) → j < n → seed_from n P w t j ⊗ num (pull n P j) ≼ num (pull n P t)
    unfolding seed_from
    seed_pull t j hj = rw (⊗_comm, distrib) (⊕_lub
        (rw ⊗_comm (idm_in t j _ _ (λ e. rw e (≼_refl _))))
        ((rw (← ⊗_assoc, ⊗_comm (num (pull n P j))) (⊗_left _ (v.marked j hj))) ▸ ≼_of (⊗_unit _)))

    -- a candidate is no further past due than its seed's first part
    pub ray_overdue : (t : ℕ) → overdue n (timing due) (ray_from n P w t) ≼ num (pull n P t)
    unfolding overdue inv ray_from mv
    ray_overdue t = sup_lub n _ (λ i hi. rw sup_⊗r (sup_lub n _ (λ j hj. rw (⊗_comm (star n order i j), ⊗_assoc)
        (⊗_right _ (pull_at n P i j hi hj) ▸ seed_pull t j hj))))

    ray_cone : NoGain n order → (t : ℕ) → Cone n P D (ray_from n P w t)
    unfolding ray_from
    ray_cone np t =
        record {
          ordered = unfold ray_from in ray_keeps n P np w t;
          landed = λ i hi. ⊗_right _ (unfold ray_from in ray_overdue t) ▸ go i hi (present_dec (floor i));
        }
      where
        go : (i : ℕ) → i < panels → Dec (Present (floor i)) →
            ask n P D i ⊗ num (pull n P t) ≼ mv n lag (mv n (star n order) (seed_from n P w t)) i
        go i hi (yes p) = let (j, hj, k, b) = v.served i hi p in rw (← mv_mm)
            (reach_E (through n P i j) (ask n P D i) (pull n P t) (pull n P j) (kept_above n P D i j k) ▸
            (⊗_right _ (⊗_left _ b ▸ seed_need t j)) ▸
            (unfold through in mv_at n (through n P) (seed_from n P w t) i j hj))
        go i hi (no p) = rw (absent_of (floor i) p) (rw (⊗_nothing, ⊗_nothing) (≼_absent _))

    pub line_from_cone : NoGain n order → (t : ℕ) → Cone n P D (at n (line_from n P w t))
    unfolding line_from
    line_from_cone np t = cone_line n P D (ray_from n P w t) (ray_cone np t)

  -- ---- below a vector of the cone
  -- x keeps the order, is g past due, and w + g lies below x: then x(t) + the ray of w and t lies below x
  module _ (x : Vec) (g : ℤ) (k : Keeps n order x) (e : overdue n (timing due) x ≡ num g)
      (w : Vec) (b : (t : ℕ) → t < n → w t ⊗ num g ≼ x t) where
    seed_below : (t j : ℕ) → t < n → j < n → x t ⊗ seed_from n P w t j ≼ x j
    unfolding seed_from
    seed_below t j ht hj = rw distrib (⊕_lub
        (rw ⊗_comm (idm_in t j _ _ (λ f. rw f (≼_refl _))))
        (seed_E (x t) (w j) (x j) (pull n P t) g (rw e at (pull_overdue n P x k t ht)) (b j hj)))

    ray_below : (t i : ℕ) → t < n → i < n → x t ⊗ ray_from n P w t i ≼ x i
    unfolding ray_from mv
    ray_below t i ht hi = rw sup_⊗
        (sup_lub n _ (λ j hj. rw ⊗_left_comm (⊗_right _ (seed_below t j ht hj) ▸ keeps_star n order x k i j hi hj)))

    -- so the line of j, shifted, lies below x and meets it at j
    pub line_from_under : (j : ℕ) → j < n → Present (at n (line_from n P w j) j) × Under n j (line_from n P w j) x
    unfolding line_from
    line_from_under j hj = (
      normal_present n y j hj (ray_diag n P w j hj),
      under_line n y x j hj (λ i hi. ≼_of (⊗_comm (y i) (x j)) ▸ ray_below j i hj hi ▸ ≼_back (⊗_unit_r (x i)) ▸
          ⊗_right _ (ray_diag n P w j hj)),
    )
      where
        y : Vec
        y = ray_from n P w j

  -- ---- candidates are the lines from the w of selections
  pub ray_is_from : (s : Selection) (t : ℕ) → ray n P D s t ≡ ray_from n P (need n P D s) t
  unfolding ray seed ray_from seed_from
  ray_is_from s t = refl

  pub candidate_from : (s : Selection) (t : ℕ) → candidate n P D s t ≡ line_from n P (need n P D s) t
  unfolding candidate line_from
  candidate_from s t = ap (λ x. line n (normal n x)) (ray_is_from s t)

  pub in_candidates : (s : Selection) (t : ℕ) → t < n → In s (selections n P D) → In (candidate n P D s t) (candidates n P D)
  unfolding candidates
  in_candidates s t ht h = in_each n _ (candidate n P D s t) t ht (in_map (λ s. candidate n P D s t) _ s h)

  pub candidate_of : (c : Line n) → In c (candidates n P D) →
      (t : ℕ) × (s : Selection) × (t < n) × In s (selections n P D) × (c ≡ candidate n P D s t)
  unfolding candidates
  candidate_of c h = let (t, ht, k) = each_in n _ c h in let (s, hs, e) = map_in (λ s. candidate n P D s t) _ c k in (t, s, ht, hs, e)

  pub candidates_normal : (c : Line n) → In c (candidates n P D) → Normal n c
  candidates_normal c h = let (t, s, ht, hs, e) = candidate_of c h in
      subst (λ c. Normal n c) (sym (e ∙ candidate_from s t)) (line_from_normal n P (need n P D s) t ht)

  module _ (s : Selection) (hs : In s (selections n P D)) where
    fixed_kept : (i j : ℕ) → In (i, j) s → (j < n) × T (kept n P D i j)
    fixed_kept i j q = unfold selections in walk_within n P (floor_panels n P) (kept n P D) s hs i j q

    pub selection_trigger : (i j : ℕ) → In (i, j) s → j < n
    selection_trigger i j q = (fixed_kept i j q).0

    pub selection_panel : (i j : ℕ) → In (i, j) s → i < panels
    selection_panel i j q = unfold selections in walk_panels n P (kept n P D) s hs i j q

    fixed_panel : (i : ℕ) → i < panels → Present (floor i) → (j : ℕ) × In (i, j) s
    fixed_panel i hi p = unfold selections in walk_fixes n P (floor_panels n P) (kept n P D) s hs i (in_floor_panels n P i hi p)

    need_at : (i j : ℕ) → In (i, j) s → ask n P D i ⊗ inv (through n P i j) ≼ need n P D s j
    unfolding need
    need_at i j q = ≼_of (sym (⊗_unit _) ∙ ap (λ e. e ⊗ (ask n P D i ⊗ inv (through n P i j))) (sym (idm_same j))) ▸
        sup_l_ub s (λ f. idm f.1 j ⊗ (ask n P D f.0 ⊗ inv (through n P f.0 f.1))) (i, j) q

    pub selection_serving : Serving (need n P D s)
    selection_serving = record {
      marked = λ t ht. unfold need in (rw ⊗_comm (rw (sup_l_⊗)
          (sup_l_lub s _ (λ f q. rw (⊗_left_comm, ⊗_comm (num (pull n P t))) (idm_in f.1 t _ _ (λ e. rw (← e)
          (kept_mark f.0 f.1 (fixed_kept f.0 f.1 q).1)))))));
      served = λ i hi p. let (j, q) = fixed_panel i hi p in (j, (fixed_kept i j q).0, (fixed_kept i j q).1, need_at i j q);
    }

  pub candidates_cone : NoGain n order → (c : Line n) → In c (candidates n P D) → Cone n P D (at n c)
  candidates_cone np c h = let (t, s, ht, hs, e) = candidate_of c h in
      subst (λ c. Cone n P D (at n c)) (sym (e ∙ candidate_from s t)) (line_from_cone (need n P D s) (selection_serving s hs) np t)

  -- ---- and they generate it: every fixing of s serves x, which is g past due
  need_below : (x : Vec) (g : ℤ) (s : Selection) → ((i j : ℕ) → In (i, j) s → Serves n P D x g i j) → (t : ℕ) → need n P D s t ⊗ num g ≼ x t
  unfolding need
  need_below x g s v t = rw ⊗_comm (rw sup_l_⊗
      (sup_l_lub s _ (λ f q. rw (⊗_left_comm, ⊗_comm (num g))
      (idm_in f.1 t _ _ (λ e. rw (← e) (need_E (through n P f.0 f.1) (x f.1) (ask n P D f.0) g (v f.0 f.1 q).1))))))

  -- at each component that is there, a candidate lies below x and meets it
  pub cone_span : (x : Vec) → Cone n P D x → Span n (candidates n P D) x
  cone_span x c j hj p = go (val (overdue n (timing due) x)) (overdue_there n due x j hj p)
    where
      go : (g : ℤ) → overdue n (timing due) x ≡ num g → Met n (candidates n P D) x j
      go g e = fin (cone_selection n P D x g c e)
        where
          fin : (s : Selection) × In s (selections n P D) × ((i j : ℕ) → In (i, j) s → Serves n P D x g i j) → Met n (candidates n P D) x j
          fin (s, hs, v) =
              let (p, u) = line_from_under x g c.ordered e (need n P D s) (λ t ht. need_below x g s v t) j hj in
              (line_from n P (need n P D s) j, rw (← candidate_from s j) (in_candidates s j hj hs), p, u)
