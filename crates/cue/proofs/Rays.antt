-- The list without the walk, by adding one panel after the other for each trigger t. A ray of t keeps the order, is on t's new due mark at t
-- and behind no new due mark, and gives each panel with a floor what it asks for. Column t of M*, shifted to r(t) at t, is all that but for the
-- panels; a ray that does not give a panel what it asks is joined with the column of a kept trigger, shifted so that the panel is given just that.
use mathlib.Core.Path.{◌≡◌, refl, ap, sym, ◌∙◌, subst}
use mathlib.Core.Logic.{◌↔◌}
use mathlib.Core.List.{List}
use Prim.Native.Nat.{ℕ, ◌<◌}
use native.Mathlib.Omega.{arith}
use lib.IntN.{ℤ, pos}
use Rattle.maxplus.specs.Whole.{◌+z◌, neg}
use Rattle.maxplus.specs.Entry.{E, absent, num, ◌≼◌, ◌⊗◌, ◌⊕◌, inv, unit, Present, val}
use Rattle.maxplus.specs.Finite.{In}
use Rattle.maxplus.specs.Tables.{sup, Vec, star, NoGain, mv, normal}
use Rattle.maxplus.specs.Line.{Line, at, line}
use Rattle.maxplus.specs.Normal.{Normal}
use Rattle.maxplus.proofs.WholeLaws.{up_add, up_neg}
use Rattle.maxplus.proofs.EntryLaws.{◌▸◌, ≼_anti, ≼_absent, ≼_of, ≼_back, ⊕_l, ⊕_r, ⊕_lub, ⊗_left, ⊗_right, ⊗_comm}
use Rattle.maxplus.proofs.EntryLaws.{⊗_assoc, ⊗_nothing, ⊗_unit, ⊗_unit_r}
use Rattle.maxplus.proofs.EntryLaws.{distrib, val_of, ⊗_left_comm, present_dec, absent_of, inv_self}
use Rattle.maxplus.proofs.SupLaws.{sup_ub, sup_lub}
use Rattle.maxplus.proofs.TableLaws.{mv_at}
use Rattle.maxplus.proofs.LineLaws.{at_line, normal_line, normal_present}
use Rattle.maxplus.proofs.CombinationLaws.{under_line, Met, Span}
use Rattle.maxplus.proofs.StarLaws.{star_diag, step_star}
use Rattle.cue.specs.Cue.{Cue, overdue, timing}
use Rattle.cue.specs.Vectors.{Keeps}
use Rattle.cue.specs.Method.{through, pull, mark, least, ask, lines}
use Rattle.cue.specs.Closures.{Common}
use Rattle.cue.proofs.Order.{keeps_star}
use Rattle.cue.proofs.Deviation.{overdue_there, due_pull, pull_overdue, mv_through, mark_keeps}
use Rattle.cue.proofs.Cone.{Cone, cone_⊗, cone_line}
use Rattle.cue.proofs.Walk.{kept_above, cone_trigger}
use Rattle.cue.proofs.Candidates.{need_E, reach_E, Served}
use Rattle.cue.proofs.Extreme.{Alone, extreme_only, lines_extreme}
use Rattle.cue.proofs.Closure.{extreme_closure}

-- x ≤ r, told by x − r
under_mark : (x : E) (p : ℤ) → x ⊗ num p ≼ unit → x ≼ num (neg p)
unfolding ◌⊗◌
under_mark absent p h = ≼_absent _
under_mark (num x) p h = omega (arith, up_neg p, up_add x p)

mark_under : (x : E) (p : ℤ) → x ≼ num (neg p) → x ⊗ num p ≼ unit
unfolding ◌⊗◌
mark_under absent p h = ≼_absent _
mark_under (num x) p h = omega (arith, up_neg p, up_add x p)

-- x no further than g past r: then x − g ≤ r
unshift_E : (w x : E) (g : ℤ) → w ⊗ num g ≼ x → w ≼ x ⊗ num (neg g)
unfolding ◌⊗◌
unshift_E absent x g h = ≼_absent _
unshift_E (num w) absent g h = absurd h.un
unshift_E (num w) (num x) g h = omega (arith, up_neg g, up_add x (neg g), up_add w g)

past_E : (x y : E) (p g : ℤ) → y ⊗ num p ≼ num g → (x ⊗ num (neg g)) ⊗ y ≼ x ⊗ num (neg p)
unfolding ◌⊗◌
past_E absent y p g h = ≼_absent _
past_E (num x) absent p g h = ≼_absent _
past_E (num x) (num y) p g h = omega (arith, up_neg g, up_neg p, up_add x (neg g), up_add (x +z neg g) y, up_add x (neg p), up_add y p)

-- shifted by s and back
shift_back : (s : ℤ) (a : E) → inv (num s) ⊗ (num s ⊗ a) ≡ a
shift_back s a = sym (⊗_assoc _ _ _) ∙ ap (λ e. e ⊗ a) (inv_self s) ∙ ⊗_unit a

module _ (n : ℕ) (P : Cue) where
  open P use {panels, lag, floor, due, order}

  -- behind no new due mark, and on t's
  pub record OnMark (t : ℕ) (x : Vec) : Type 0 where
    pub ordered : Keeps n order x
    pub marked : (j : ℕ) → j < n → x j ⊗ num (pull n P j) ≼ unit
    pub on_mark : num (mark n P t) ≼ x t

  pub record Ray (t : ℕ) (x : Vec) : Type 0 where
    pub on : OnMark t x
    pub served : Served n P (least n P) x

  pub on_mark_as : (t : ℕ) (x y : Vec) → t < n → ((j : ℕ) → j < n → x j ≡ y j) → OnMark t x → OnMark t y
  unfolding Keeps
  on_mark_as t x y ht e o = record {
    ordered = λ i j hi hj. rw (← e i hi, ← e j hj) (o.ordered i j hi hj);
    marked = λ j hj. rw (← e j hj) (o.marked j hj);
    on_mark = o.on_mark ▸ ≼_of (e t ht);
  }

  -- column t of M* at r(t)
  unfoldable pub first_ray : ℕ → Vec
  first_ray t i = star n order i t ⊗ num (mark n P t)

  -- x joined with column s of M*, shifted by a
  unfoldable pub joined : Vec → E → ℕ → Vec
  joined x a s j = x j ⊕ a ⊗ star n order j s

  module _ (np : NoGain n order) where
    -- r keeps the order: so what is no later than r at s comes to no later than r by column s
    column_marked : (a : E) (s : ℕ) → s < n → a ⊗ num (pull n P s) ≼ unit → (j : ℕ) → j < n →
        (a ⊗ star n order j s) ⊗ num (pull n P j) ≼ unit
    column_marked a s hs h j hj = mark_under _ (pull n P j)
        (⊗_left _ (under_mark a (pull n P s) h) ▸ ≼_of (⊗_comm _ _) ▸ keeps_star n order (timing (mark n P)) (mark_keeps n P np) j s hj hs)

    column_ordered : (a : E) (s : ℕ) → s < n → (i j : ℕ) → i < n → j < n → order i j ⊗ (a ⊗ star n order j s) ≼ a ⊗ star n order i s
    column_ordered a s hs i j hi hj = ≼_of (⊗_left_comm _ _ _) ▸ ⊗_right _ (step_star n order np i j s hi hj hs)

    pub first_on_mark : (t : ℕ) → t < n → OnMark t (first_ray t)
    unfolding first_ray Keeps
    first_on_mark t ht = record {
      ordered = λ i j hi hj. rw (⊗_comm (star n order j t), ⊗_comm (star n order i t)) (column_ordered (num (mark n P t)) t ht i j hi hj);
      marked = λ j hj. rw (⊗_comm (star n order j t))
          (column_marked (num (mark n P t)) t ht (mark_under (num (mark n P t)) (pull n P t) (≼_of refl)) j hj);
      on_mark = ≼_back (⊗_unit (num (mark n P t))) ▸ ⊗_left _ (star_diag n order t ht);
    }

    pub joined_on_mark : (t : ℕ) (x : Vec) (a : E) (s : ℕ) → s < n → a ⊗ num (pull n P s) ≼ unit → OnMark t x → OnMark t (joined x a s)
    unfolding joined Keeps
    joined_on_mark t x a s hs h o = record {
      ordered = λ i j hi hj. rw distrib (⊕_lub (o.ordered i j hi hj ▸ ⊕_l _ _) (column_ordered a s hs i j hi hj ▸ ⊕_r _ _));
      marked = λ j hj. ≼_of (⊗_comm _ _) ▸
          (rw distrib (⊕_lub (≼_of (⊗_comm _ _) ▸ o.marked j hj) (≼_of (⊗_comm _ _) ▸ column_marked a s hs h j hj)));
      on_mark = o.on_mark ▸ ⊕_l _ _;
    }

  -- what keeps the order and is above x, and at s above a, is above the two joined
  pub joined_below : (x b : Vec) (a : E) (s : ℕ) → s < n → Keeps n order b → ((j : ℕ) → j < n → x j ≼ b j) → a ≼ b s →
      (j : ℕ) → j < n → joined x a s j ≼ b j
  unfolding joined
  joined_below x b a s hs k h l j hj = ⊕_lub (h j hj) (⊗_left _ l ▸ ≼_of (⊗_comm _ _) ▸ keeps_star n order b k j s hj hs)

  -- ---- rays are in the cone
  ray_overdue : (t : ℕ) (x : Vec) → OnMark t x → overdue n (timing due) x ≼ unit
  unfolding overdue inv
  ray_overdue t x o = sup_lub n _ (λ j hj. ⊗_right _ (due_pull n P j hj) ▸ o.marked j hj)

  pub ray_cone : (t : ℕ) (x : Vec) → Ray t x → Cone n P (least n P) x
  ray_cone t x r = record {
    ordered = r.on.ordered;
    landed = λ i hi. ⊗_right _ (ray_overdue t x r.on) ▸ go i hi (present_dec (floor i));
  }
    where
      go : (i : ℕ) → i < panels → Dec (Present (floor i)) → ask n P (least n P) i ⊗ unit ≼ mv n lag x i
      go i hi (yes p) = let (j, hj, k, b) = r.served i hi p in
          reach_E (through n P i j) (ask n P (least n P) i) (pos 0) (pull n P j) (kept_above n P (least n P) i j k) ▸
          ⊗_right _ (≼_of (⊗_unit_r _) ▸ b) ▸ mv_at n (through n P) x i j hj ▸ ≼_back (mv_through n P x r.on.ordered i)
      go i hi (no p) = rw (absent_of (floor i) p) (rw (⊗_nothing, ⊗_nothing) (≼_absent _))

  -- ---- lines of rays that generate the cone
  pub record Generates (C : List (Line n)) : Type 0 where
    pub inside : (c : Line n) → In c C → Cone n P (least n P) (at n c)
    pub shape : (c : Line n) → In c C → Normal n c
    pub meets : (x : Vec) → Cone n P (least n P) x → Span n C x

  unfoldable pub ray_line : Vec → Line n
  ray_line x = line n (normal n x)

  -- below what keeps the order, gives the panels what they ask and is above column t at r(t), there is a ray of t with its line in C
  pub record Covers (C : List (Line n)) : Type 0 where
    pub sound : (c : Line n) → In c C → (t : ℕ) × (t < n) × ((x : Vec) × Ray t x × (c ≡ ray_line x))
    pub full : (t : ℕ) → t < n → (b : Vec) → Keeps n order b → Served n P (least n P) b → ((j : ℕ) → j < n → first_ray t j ≼ b j) →
        (x : Vec) × Ray t x × ((j : ℕ) → j < n → x j ≼ b j) × In (ray_line x) C

  -- a vector of the cone, less what it is past due, gives the panels what they ask
  cone_serves : (x : Vec) (g : ℤ) → Cone n P (least n P) x → overdue n (timing due) x ≡ num g → Served n P (least n P) (λ j. x j ⊗ num (neg g))
  cone_serves x g c e i hi p = let (j, hj, k, v) = cone_trigger n P (least n P) x g c e i hi p in
      (j, hj, k, unshift_E _ (x j) g (need_E (through n P i j) (x j) (ask n P (least n P) i) g v.1))

  -- Take v in the cone with a component at t, and lower it by what it is past due, to v − g. It is behind no new due mark; joined with column t
  -- at r(t) it still keeps the order and gives the panels what they ask. So a ray y of t lies below that: y is at most v − g or column t at
  -- r(t), and r(t) at t. Shifted to v(t) at t, y lies below v: the first because v(t) − g is at most r(t), the second because v keeps the order.
  module _ (np : NoGain n order) (C : List (Line n)) (k : Covers C) (v : Vec) (c : Cone n P (least n P) v) (t : ℕ) (ht : t < n) (g : ℤ)
      (e : overdue n (timing due) v ≡ num g) where
    abbrev above : Vec
    above j = v j ⊗ num (neg g) ⊕ first_ray t j

    below_line : (y : Vec) → Ray t y → ((j : ℕ) → j < n → y j ≼ above j) → (i : ℕ) → i < n → y i ⊗ v t ≼ v i ⊗ y t
    unfolding first_ray
    below_line y r h i hi = ⊗_left _ (h i hi) ▸ ≼_of (⊗_comm _ _ ∙ distrib _ _ _) ▸ ⊕_lub
        (≼_of (⊗_comm _ _) ▸ past_E (v i) (v t) (pull n P t) g (pull_overdue n P v c.ordered t ht ▸ ≼_of e) ▸ ⊗_right _ r.on.on_mark)
        (≼_of (sym (⊗_assoc _ _ _) ∙ ap (λ a. a ⊗ num (mark n P t)) (⊗_comm _ _)) ▸
        ⊗_left _ (keeps_star n order v c.ordered i t hi ht) ▸ ⊗_right _ r.on.on_mark)

    above_ordered : Keeps n order above
    unfolding Keeps
    above_ordered i j hi hj = rw distrib (⊕_lub
        (≼_back (⊗_assoc _ _ _) ▸ ⊗_left _ (c.ordered i j hi hj) ▸ ⊕_l _ _)
        ((first_on_mark np t ht).ordered i j hi hj ▸ ⊕_r _ _))

    above_served : Served n P (least n P) above
    above_served i hi q = let (j, hj, m, b) = cone_serves v g c e i hi q in (j, hj, m, b ▸ ⊕_l _ _)

    ray_meets : Met n C v t
    unfolding ray_line
    ray_meets = let (y, r, h, i) = k.full t ht above above_ordered above_served (λ j hj. ⊕_r _ _) in
        (ray_line y, i, normal_present n y t ht r.on.on_mark, under_line n y v t ht (below_line y r h))

  pub covers_generate : NoGain n order → (C : List (Line n)) → Covers C → Generates C
  unfolding ray_line
  covers_generate np C k = record {
    inside = λ c h. let (t, ht, (x, r, e)) = k.sound c h in rw e (cone_line n P (least n P) x (ray_cone t x r));
    shape = λ c h. let (t, ht, (x, r, e)) = k.sound c h in rw e (normal_line n x t ht r.on.on_mark);
    meets = λ v c t ht p. ray_meets np C k v c t ht (val (overdue n (timing due) v)) (overdue_there n due v t ht p);
  }

  -- ---- the least rays are extreme
  -- what keeps the order and is on t's new due mark is above column t at r(t)
  pub above_first : (t : ℕ) → t < n → (y : Vec) → OnMark t y → (j : ℕ) → j < n → first_ray t j ≼ y j
  unfolding first_ray
  above_first t ht y o j hj = ⊗_right _ o.on_mark ▸ keeps_star n order y o.ordered j t hj ht

  -- on t's new due mark and behind none: past due by 0
  on_mark_overdue : (t : ℕ) → t < n → (x : Vec) → OnMark t x → overdue n (timing due) x ≡ unit
  unfolding inv
  on_mark_overdue t ht x o = ≼_anti (ray_overdue t x o)
      (≼_back (inv_self (pull n P t)) ▸ ⊗_left _ o.on_mark ▸ pull_overdue n P x o.ordered t ht)

  -- so a vector of the cone that is on t's new due mark and behind none is a ray of t
  cone_ray : (t : ℕ) → t < n → (x : Vec) → Cone n P (least n P) x → OnMark t x → Ray t x
  unfolding neg
  cone_ray t ht x c o = record {
    on = o;
    served = λ i hi p. let (j, hj, k, b) = cone_serves x (pos 0) c (on_mark_overdue t ht x o) i hi p in (j, hj, k, b ▸ ≼_of (⊗_unit_r _));
  }

  -- a vector that is alone at t stays so when it is shifted to its line: what is below the line is shifted back
  alone_line : (x : Vec) (t : ℕ) {z : ℤ} → t < n → num z ≼ x t → Alone n P (least n P) x t → Alone n P (least n P) (at n (ray_line x)) t
  unfolding ray_line normal
  alone_line x t ht h f v c l m i hi = go (val (sup n x)) (val_of (sup n x) (h ▸ sup_ub n x t ht))
    where
      go : (s : ℤ) → sup n x ≡ num s → v i ≡ at n (line n (normal n x)) i
      go s e = sym (shift_back s (v i)) ∙ ap (λ a. inv (num s) ⊗ a) (f (λ j. num s ⊗ v j) (cone_⊗ n P (least n P) (num s) v c)
          (λ j hj. ⊗_right _ (l j hj ▸ ≼_of (is j hj)) ▸ ≼_of (back j)) (ap (λ a. num s ⊗ a) (m ∙ is t ht) ∙ back t) i hi) ∙ sym (is i hi)
        where
          is : (j : ℕ) → j < n → at n (line n (normal n x)) j ≡ inv (num s) ⊗ x j
          is j hj = at_line n (normal n x) j hj ∙ ap (λ a. inv a ⊗ x j) e

          back : (j : ℕ) → num s ⊗ (inv (num s) ⊗ x j) ≡ x j
          back j = ⊗_left_comm _ _ _ ∙ shift_back s (x j)

  -- A ray of t below which there is no other ray of t is extreme: a vector of the cone that lies below it and meets it at t is behind no new
  -- due mark and on t's, so it is a ray of t, and the ray itself.
  pub ray_extreme : NoGain n order → (t : ℕ) → t < n → (x : Vec) → Ray t x →
      ((y : Vec) → Ray t y → ((j : ℕ) → j < n → y j ≼ x j) → (j : ℕ) → j < n → x j ≼ y j) → Common n P (least n P) (ray_line x)
  unfolding ray_line
  ray_extreme np t ht x r f = (extreme_closure n P (least n P) np (ray_line x) inside shape).0 (record {
    inside = inside;
    shape = shape;
    where_at = t;
    in_range = ht;
    there = normal_present n x t ht r.on.on_mark;
    alone = alone_line x t ht r.on.on_mark (λ v c l m i hi. ≼_anti (l i hi) (f v (cone_ray t ht v c (on v c l m)) l i hi));
  })
    where
      inside : Cone n P (least n P) (at n (line n (normal n x)))
      inside = cone_line n P (least n P) x (ray_cone t x r)

      shape : Normal n (line n (normal n x))
      shape = normal_line n x t ht r.on.on_mark

      on : (v : Vec) → Cone n P (least n P) v → ((j : ℕ) → j < n → v j ≼ x j) → v t ≡ x t → OnMark t v
      on v c l m = record {
        ordered = c.ordered;
        marked = λ j hj. ⊗_left _ (l j hj) ▸ r.on.marked j hj;
        on_mark = r.on.on_mark ▸ ≼_back m;
      }

  -- The list is the extreme ones among lines that generate the cone. One way: an extreme line c, extreme at j, is met at j by one of them, which
  -- is c. The other way: each of them is in the cone and its greatest component is 0, so where its closures have a trigger in common it is
  -- extreme, and the list has every extreme line.
  pub lines_generated : NoGain n order → (C : List (Line n)) → Generates C → (c : Line n) →
      In c (lines n P) ↔ (In c C × Common n P (least n P) c)
  lines_generated np C G c = (
    λ h. let x = (lines_extreme n P np c).0 h in let (d, hd, pd, ld) = G.meets (at n c) x.inside x.where_at x.in_range x.there in (
      subst (λ d. In d C) (extreme_only n P (least n P) c x d (G.inside d hd) (G.shape d hd) pd ld) hd,
      (extreme_closure n P (least n P) np c x.inside x.shape).0 x,
    ),
    λ t. let (h, q) = t in (lines_extreme n P np c).1 ((extreme_closure n P (least n P) np c (G.inside c h) (G.shape c h)).1 q),
  )
