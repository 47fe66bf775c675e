-- A test for extreme that looks at c and the tables alone. All numbers are whole, so one less is the smallest change:
-- c is extreme exactly when some trigger is in every set that can be lowered by one without leaving the cone.
-- Only the rules that are equalities at c decide which sets those are.
use mathlib.Core.Path.{◌≡◌, refl, ap, sym, ◌∙◌, subst}
use mathlib.Core.Logic.{◌⊎◌, inl, inr, ◌↔◌}
use mathlib.Core.Bool.{Bool, true, false, not}
use Prim.Native.Nat.{ℕ, ◌<◌}
use lib.Dec.{T, T_not}
use lib.IntN.{ℤ, pos}
use Rattle.maxplus.specs.Whole.{neg}
use Rattle.maxplus.specs.Entry.{E, absent, num, ◌≼◌, leq_E, ◌⊗◌, ◌⊕◌, Present, val, inv}
use Rattle.maxplus.specs.Tables.{sup, Vec, mv}
use Rattle.maxplus.specs.Line.{Line, at}
use Rattle.maxplus.specs.Normal.{Normal}
use Rattle.maxplus.proofs.EntryLaws.{≼_refl, ◌▸◌, ≼_anti, ≼_absent, ≼_of, ≼_back, ⊕_l, ⊕_r, ⊕_lub, ⊗_left, ⊗_right, ⊗_comm, ⊗_assoc}
use Rattle.maxplus.proofs.EntryLaws.{⊗_absent, ⊗_nothing, val_of, num_⊗, ≼_dec, leq_E_yes, leq_E_of, present_dec, absent_of, same_entry?}
use Rattle.maxplus.proofs.EntryLaws.{minus_one, equal_or_less, not_less, less_below}
use Rattle.maxplus.proofs.FiniteLaws.{all_or, all_dec, dec_→}
use Rattle.maxplus.proofs.SupLaws.{sup_ub, sup_lub, sup_at, sup_ext}
use Rattle.cue.specs.Cue.{Cue, overdue, timing}
use Rattle.cue.specs.Vectors.{Keeps, landing}
use Rattle.cue.specs.Method.{ask}
use Rattle.cue.proofs.Order.{keeps_rule}
use Rattle.cue.proofs.Deviation.{overdue_mono, overdue_there}
use Rattle.cue.proofs.Cone.{Cone, cone_⊕, cone_⊗, cone_ext}
use Rattle.cue.proofs.Extreme.{Extreme}

abbrev pub Triggers : Type 0
Triggers = ℕ → Bool

abbrev pub drop : Bool → E → E
drop true a = a ⊗ minus_one
drop false a = a

-- c, with the components in S less by one
abbrev pub lower : Vec → Triggers → Vec
lower c S i = drop (S i) (c i)

drop_below : (b : Bool) (a : E) → drop b a ≼ a
drop_below true a = less_below a
drop_below false a = ≼_refl a

drop_⊗l : (b : Bool) (e a : E) → e ⊗ drop b a ≡ drop b (e ⊗ a)
drop_⊗l true e a = sym (⊗_assoc e a minus_one)
drop_⊗l false e a = refl

drop_⊗r : (b : Bool) (a e : E) → drop b a ⊗ e ≡ drop b (a ⊗ e)
drop_⊗r b a e = ⊗_comm (drop b a) e ∙ drop_⊗l b e a ∙ ap (drop b) (⊗_comm e a)

-- v ≤ c, joined with c − 1: one less exactly where v is below c
join_E : (v c : E) → v ≼ c → v ⊕ minus_one ⊗ c ≡ drop (not (leq_E c v)) c
join_E absent absent h = unfold ◌⊕◌ in ⊗_absent _
join_E (num v) absent h = absurd h.un
join_E absent (num c) h = unfold ◌⊕◌ in ⊗_comm minus_one (num c)
join_E (num v) (num c) h = go (leq_E (num c) (num v)) refl
  where
    go : (b : Bool) → leq_E (num c) (num v) ≡ b → num v ⊕ minus_one ⊗ num c ≡ drop (not b) (num c)
    go true e = ≼_anti (⊕_lub h (≼_of (⊗_comm _ _) ▸ less_below (num c))) (leq_E_yes (num c) (num v) (rw e tt) ▸ ⊕_l _ _)
    go false e = ≼_anti (⊕_lub (low (equal_or_less (num v) (num c) h)) (≼_of (⊗_comm _ _))) (≼_of (⊗_comm _ _) ▸ ⊕_r _ _)
      where
        low : (num v ≡ num c) ⊎ (num v ≼ num c ⊗ minus_one) → num v ≼ num c ⊗ minus_one
        low (inl r) = absurd (let t : T (leq_E (num c) (num v)) = leq_E_of (num c) (num v) (≼_back r) in rw e at t)
        low (inr r) = r

-- lowering a set of parts lowers a largest by one, if all parts that reach it are in the set, and else not at all
abbrev All : ℕ → (ℕ → E) → ℤ → Triggers → Type 0
All n f z S = (j : ℕ) → j < n → f j ≡ num z → T (S j)

-- the largest of the lowered parts is e
abbrev Lowered : ℕ → (ℕ → E) → ℤ → Triggers → E → Type 0
Lowered n f z S e = (All n f z S × (e ≡ num z ⊗ minus_one)) ⊎ (¬ (All n f z S) × (e ≡ num z))

sup_drop : (n : ℕ) (f : ℕ → E) (z : ℤ) (S : Triggers) → sup n f ≡ num z → Lowered n f z S (sup n (λ j. drop (S j) (f j)))
sup_drop n f z S e = go (all_dec (λ j. f j ≡ num z → T (S j)) (λ j. dec_→ (same_entry? (f j) (num z)) (bool_dec (S j))) n)
  where
    bool_dec : (b : Bool) → Dec (T b)
    bool_dec true = yes tt
    bool_dec false = no (λ t. t)

    below : (j : ℕ) → j < n → f j ≼ num z
    below j hj = sup_ub n f j hj ▸ ≼_of e

    reached : (j : ℕ) × (j < n) × (f j ≡ num z)
    reached = let (j, hj, h) = sup_at n f (≼_back e) in (j, hj, ≼_anti (below j hj) h)

    go : Dec (All n f z S) → Lowered n f z S (sup n (λ j. drop (S j) (f j)))
    go (yes a) = inl (a, ≼_anti (sup_lub n _ low) high)
      where
        low : (j : ℕ) → j < n → drop (S j) (f j) ≼ num z ⊗ minus_one
        low j hj = elim (equal_or_less (f j) (num z) (below j hj)) [ inl r ↦ at_top (S j) (a j hj r) | inr r ↦ drop_below (S j) (f j) ▸ r ]
          where
            at_top : (b : Bool) → T b → drop b (f j) ≼ num z ⊗ minus_one
            at_top true t = ⊗_left _ (below j hj)
            at_top false t = absurd t

        high : num z ⊗ minus_one ≼ sup n (λ j. drop (S j) (f j))
        high = let (j, hj, r) = reached in at_top j r (S j) (a j hj r) ▸ sup_ub n (λ j. drop (S j) (f j)) j hj
          where
            at_top : (j : ℕ) → f j ≡ num z → (b : Bool) → T b → num z ⊗ minus_one ≼ drop b (f j)
            at_top j r true t = ⊗_left _ (≼_back r)
            at_top j r false t = absurd t
    go (no a) = inr (a, ≼_anti (sup_lub n _ (λ j hj. drop_below (S j) (f j) ▸ below j hj)) high)
      where
        high : num z ≼ sup n (λ j. drop (S j) (f j))
        high = one (all_or (λ j. f j ≡ num z → T (S j)) (λ j. dec_→ (same_entry? (f j) (num z)) (bool_dec (S j))) n)
          where
            one : ((j : ℕ) → j < n → f j ≡ num z → T (S j)) ⊎ ((j : ℕ) × (j < n) × ¬ (f j ≡ num z → T (S j))) →
                num z ≼ sup n (λ j. drop (S j) (f j))
            one (inl k) = absurd (a k)
            one (inr (j, hj, k)) = stays (S j) refl ▸ sup_ub n (λ j. drop (S j) (f j)) j hj
              where
                stays : (b : Bool) → S j ≡ b → num z ≼ drop b (f j)
                stays true r = absurd (k (λ q. rw r tt))
                stays false r = elim (same_entry? (f j) (num z)) [ yes q ↦ ≼_back q | no q ↦ absurd (k (λ q'. absurd (q q'))) ]

module _ (n : ℕ) (P : Cue) (D : ℤ) where
  open P use {panels, lag, floor, due, order}

  -- a set of triggers of c, with one in it
  pub record TriggerSet (c : Vec) (S : Triggers) : Type 0 where
    pub some : (i : ℕ) × (i < n) × T (S i)
    pub within : (i : ℕ) → i < n → T (S i) → Present (c i)

  -- ---- by lowering
  pub extreme_lower : (c : Line n) → Cone n P D (at n c) → Normal n c →
      Extreme n P D c ↔ ((j : ℕ) × (j < n) × Present (at n c j) ×
      ((S : Triggers) → TriggerSet (at n c) S → Cone n P D (lower (at n c) S) → T (S j)))
  extreme_lower c cc nc = (
    λ x. (x.where_at, x.in_range, x.there, λ S s k. to x S s k (S x.where_at) refl),
    λ t. record {
      inside = cc;
      shape = nc;
      where_at = t.0;
      in_range = t.1;
      there = t.2;
      alone = λ v cv lv ev i hi. from t.0 t.2 t.3 v cv lv ev i hi (≼_dec (at n c i) (v i));
    },
  )
    where
      to : (x : Extreme n P D c) (S : Triggers) → TriggerSet (at n c) S → Cone n P D (lower (at n c) S) → (b : Bool) → S x.where_at ≡ b →
          T (S x.where_at)
      to x S s k true e = rw e tt
      to x S s k false e = let (i, hi, t) = s.some in let (z, ez) = s.within i hi t in
          absurd (not_less z (subst (λ a. a ≼ a ⊗ minus_one) ez
          (≼_back (x.alone (lower (at n c) S) k (λ i hi. drop_below (S i) (at n c i))
          (ap (λ b. drop b (at n c x.where_at)) e) i hi) ▸
          dropped (S i) t (at n c i))))
        where
          dropped : (b : Bool) → T b → (a : E) → drop b a ≼ a ⊗ minus_one
          dropped true t a = ≼_refl _
          dropped false t a = absurd t

      from : (j : ℕ) → Present (at n c j) → ((S : Triggers) → TriggerSet (at n c) S → Cone n P D (lower (at n c) S) → T (S j)) → (v : Vec) →
          Cone n P D v → ((i : ℕ) → i < n → v i ≼ at n c i) → v j ≡ at n c j → (i : ℕ) → i < n → Dec (at n c i ≼ v i) →
          v i ≡ at n c i
      from j pj f v cv lv ev i hi (yes h) = ≼_anti (lv i hi) h
      from j pj f v cv lv ev i hi (no h) = absurd (T_not (leq_E (at n c j) (v j)) (f S set cone) (leq_E_of _ _ (≼_back ev)))
        where
          S : Triggers
          S k = not (leq_E (at n c k) (v k))

          in_S : (k : ℕ) → ¬ (at n c k ≼ v k) → T (S k)
          in_S k h = go (leq_E (at n c k) (v k)) refl
            where
              go : (b : Bool) → leq_E (at n c k) (v k) ≡ b → T (not b)
              go true e = absurd (h (leq_E_yes _ _ (rw e tt)))
              go false e = tt

          set : TriggerSet (at n c) S
          set = record { some = (i, hi, in_S i h); within = λ k hk t. there (at n c k) (v k) t }
            where
              there : (a b : E) → T (not (leq_E a b)) → Present a
              there absent b t = absurd t
              there (num a) b t = (a, refl)

          cone : Cone n P D (lower (at n c) S)
          cone = cone_ext n P D (λ k. v k ⊕ minus_one ⊗ at n c k) (lower (at n c) S) (λ k hk. join_E (v k) (at n c k) (lv k hk))
              (cone_⊕ n P D v (λ k. minus_one ⊗ at n c k) cv (cone_⊗ n P D minus_one (at n c) cc))

  -- ---- by the tight rules
  -- b(i,k) + c(k) = c(i): i in S asks k in S. A panel that lands just where Δ asks: all the triggers that reach its
  -- landing in S ask all that reach the largest c(j) − q(j) in S.
  pub record Allowed (c : Vec) (S : Triggers) : Type 0 where
    pub ordered : (i k : ℕ) → i < n → k < n → order i k ⊗ c k ≡ c i → T (S i) → T (S k)
    pub landed : (i : ℕ) → i < panels → Present (floor i) → ask n P D i ⊗ overdue n (timing due) c ≡ landing n P c i →
        ((j : ℕ) → j < n → lag i j ⊗ c j ≡ landing n P c i → T (S j)) → (j : ℕ) → j < n →
        c j ⊗ num (neg (due j)) ≡ overdue n (timing due) c → T (S j)

  module _ (c : Vec) (cc : Cone n P D c) (g : ℤ) (eg : overdue n (timing due) c ≡ num g) (S : Triggers)
      (s : (i : ℕ) → i < n → T (S i) → Present (c i)) where
    -- c(j) − q(j), and a(i,j) + c(j)
    abbrev lateness : Vec
    lateness j = c j ⊗ num (neg (due j))

    abbrev arrival : ℕ → Vec
    arrival i j = lag i j ⊗ c j

    overdue_drop : sup n (λ j. drop (S j) (c j ⊗ num (neg (due j)))) ≡ overdue n (timing due) (lower c S)
    unfolding overdue inv
    overdue_drop = sup_ext n (λ j hj. sym (drop_⊗r (S j) (c j) (num (neg (due j)))))

    landing_drop : (i : ℕ) → sup n (λ j. drop (S j) (lag i j ⊗ c j)) ≡ landing n P (lower c S) i
    unfolding mv
    landing_drop i = sup_ext n (λ j hj. sym (drop_⊗l (S j) (lag i j) (c j)))

    overdue_lowered : Lowered n lateness g S (overdue n (timing due) (lower c S))
    overdue_lowered = subst (Lowered n lateness g S) overdue_drop (sup_drop n lateness g S (unfold overdue inv in eg))

    landing_lowered : (i : ℕ) (y : ℤ) → landing n P c i ≡ num y → Lowered n (arrival i) y S (landing n P (lower c S) i)
    landing_lowered i y e = subst (Lowered n (arrival i) y S) (landing_drop i) (sup_drop n (arrival i) y S (unfold mv in e))

    landing_there : (i : ℕ) → i < panels → Present (floor i) → landing n P c i ≡ num (val (landing n P c i))
    landing_there i hi (z, ez) = val_of _
        (≼_back (ap (λ e. e ⊗ num (neg D) ⊗ num g) ez ∙ ap (λ e. e ⊗ num g) (num_⊗ z (neg D)) ∙ num_⊗ _ g) ▸
        ⊗_right _ (≼_back eg) ▸ cc.landed i hi)

    cone_allowed : Cone n P D (lower c S) → Allowed c S
    cone_allowed k =
        record {
          ordered = λ i l hi hl e t. ordered i l hi hl e (S i) refl (S l) refl t;
          landed = λ i hi p e a j hj r. landed i hi p e a j hj r (landing_lowered i _ (landing_there i hi p)) overdue_lowered;
        }
      where
        ordered : (i l : ℕ) → i < n → l < n → order i l ⊗ c l ≡ c i → (b : Bool) → S i ≡ b → (b' : Bool) → S l ≡ b' → T (S i) →
            T (S l)
        ordered i l hi hl e b r true r' t = rw r' tt
        ordered i l hi hl e false r false r' t = absurd (rw r at t)
        ordered i l hi hl e true r false r' t = let (z, ez) = s i hi t in
            absurd (not_less z (subst (λ a. a ≼ a ⊗ minus_one) ez (≼_of (sym e ∙ ap (λ b. order i l ⊗ drop b (c l)) (sym r')) ▸
            keeps_rule n order (lower c S) k.ordered i l hi hl ▸ ≼_of (ap (λ b. drop b (c i)) r))))

        landed : (i : ℕ) → i < panels → Present (floor i) → ask n P D i ⊗ overdue n (timing due) c ≡ landing n P c i →
            ((j : ℕ) → j < n → lag i j ⊗ c j ≡ landing n P c i → T (S j)) →
            (j : ℕ) → j < n → c j ⊗ num (neg (due j)) ≡ overdue n (timing due) c →
            Lowered n (arrival i) (val (landing n P c i)) S (landing n P (lower c S) i) →
            Lowered n lateness g S (overdue n (timing due) (lower c S)) → T (S j)
        landed i hi p e a j hj r (inr t) o = absurd (t.0 (λ j hj q. a j hj (q ∙ sym (landing_there i hi p))))
        landed i hi p e a j hj r (inl t) (inl o) = o.0 j hj (r ∙ eg)
        landed i hi p e a j hj r (inl t) (inr o) = absurd (not_less (val (landing n P c i))
            (≼_of (sym (landing_there i hi p) ∙ sym e ∙ ap (λ a. ask n P D i ⊗ a) (eg ∙ sym o.1)) ▸ k.landed i hi ▸ ≼_of t.1))

    allowed_cone : Allowed c S → Cone n P D (lower c S)
    allowed_cone a =
        record {
          ordered = unfold Keeps in (λ i l hi hl. ordered i l hi hl (S i) refl (S l) refl);
          landed = λ i hi. landed i hi (present_dec (floor i));
        }
      where
        ordered : (i l : ℕ) → i < n → l < n → (b : Bool) → S i ≡ b → (b' : Bool) → S l ≡ b' →
            order i l ⊗ drop (S l) (c l) ≼ drop (S i) (c i)
        ordered i l hi hl false r b' r' = rw r (⊗_right _ (drop_below (S l) (c l)) ▸ keeps_rule n order c cc.ordered i l hi hl)
        ordered i l hi hl true r true r' = rw (r, r') (≼_back (⊗_assoc _ _ _) ▸ ⊗_left _ (keeps_rule n order c cc.ordered i l hi hl))
        ordered i l hi hl true r false r' =
            rw (r, r') (tight (equal_or_less (order i l ⊗ c l) (c i) (keeps_rule n order c cc.ordered i l hi hl)))
          where
            tight : (order i l ⊗ c l ≡ c i) ⊎ (order i l ⊗ c l ≼ c i ⊗ minus_one) → order i l ⊗ c l ≼ c i ⊗ minus_one
            tight (inl e) = absurd (let t : T (S l) = a.ordered i l hi hl e (rw r tt) in rw r' at t)
            tight (inr e) = e

        overdue_low : overdue n (timing due) (lower c S) ≼ overdue n (timing due) c
        overdue_low = overdue_mono n due (lower c S) c (λ j hj. drop_below (S j) (c j))

        landed : (i : ℕ) → i < panels → Dec (Present (floor i)) → ask n P D i ⊗ overdue n (timing due) (lower c S) ≼ landing n P (lower c S) i
        landed i hi (no p) = rw (absent_of (floor i) p) (rw (⊗_nothing, ⊗_nothing) (≼_absent _))
        landed i hi (yes p) = go (landing_lowered i y ey)
          where
            y : ℤ
            y = val (landing n P c i)

            ey : landing n P c i ≡ num y
            ey = landing_there i hi p

            at_most : ask n P D i ⊗ overdue n (timing due) c ≼ num y
            at_most = cc.landed i hi ▸ ≼_of ey

            go : Lowered n (arrival i) y S (landing n P (lower c S) i) → ask n P D i ⊗ overdue n (timing due) (lower c S) ≼ landing n P (lower c S) i
            go (inr t) = ⊗_right _ overdue_low ▸ at_most ▸ ≼_back t.1
            go (inl t) = rw t.1 (tight (equal_or_less _ _ at_most) overdue_lowered)
              where
                tight : (ask n P D i ⊗ overdue n (timing due) c ≡ num y) ⊎ (ask n P D i ⊗ overdue n (timing due) c ≼ num y ⊗ minus_one) →
                    Lowered n lateness g S (overdue n (timing due) (lower c S)) → ask n P D i ⊗ overdue n (timing due) (lower c S) ≼ num y ⊗ minus_one
                tight (inr e) o = ⊗_right _ overdue_low ▸ e
                tight (inl e) (inl o) = ≼_of (ap (λ a. ask n P D i ⊗ a) (o.1 ∙ ap (λ a. a ⊗ minus_one) (sym eg)) ∙ sym (⊗_assoc _ _ _)) ▸
                    ⊗_left _ (≼_of e)
                tight (inl e) (inr o) = absurd (o.0
                    (λ j hj q. a.landed i hi p (e ∙ sym ey) (λ j hj q. t.0 j hj (q ∙ ey)) j hj (q ∙ sym eg)))

  -- c is extreme exactly when some trigger of c is in every set that the tight rules allow
  pub extreme_tight : (c : Line n) → Cone n P D (at n c) → Normal n c →
      Extreme n P D c ↔ ((j : ℕ) × (j < n) × Present (at n c j) × ((S : Triggers) → TriggerSet (at n c) S → Allowed (at n c) S → T (S j)))
  extreme_tight c cc nc = (
    λ x. let (j, hj, p, f) = (extreme_lower c cc nc).0 x in (j, hj, p, λ S s a. f S s (allowed_cone (at n c) cc g eg S s.within a)),
    λ t. (extreme_lower c cc nc).1 (t.0, t.1, t.2, λ S s k. t.3 S s (cone_allowed (at n c) cc g eg S s.within k)),
  )
    where
      g : ℤ
      g = val (overdue n (timing due) (at n c))

      eg : overdue n (timing due) (at n c) ≡ num g
      eg = overdue_there n due (at n c) nc.top nc.here (pos 0, nc.zero_there)
