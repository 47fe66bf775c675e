-- Steps 4 and 5: what the walk's selections are. Every fixing is a kept entry and every panel with a floor is fixed; how many steps
-- there are at most; a vector of the cone has a selection that serves it; and from no state that the walk reaches is there a dead end.
use mathlib.Core.Path.{◌≡◌, refl, ap, sym, ◌∙◌}
use mathlib.Core.Logic.{◌⊎◌, inl, inr, ◌↔◌}
use mathlib.Core.List.{List, [], ◌∷◌}
use mathlib.Core.Bool.{Bool, true, false, cond, ◌&&◌}
use Prim.Native.Nat.{ℕ, zero, suc, ◌+◌, ◌*◌, ◌^◌, ◌≤◌, ◌<◌}
use native.Mathlib.Omega.{arith}
use native.Mathlib.Nat.{pow-succ', pow-zero, le_trans}
use lib.Dec.{T, eqb, eqb_refl, eqb→eq}
use lib.IntN.{ℤ}
use lib.ListN.{length, length-append}
use Rattle.maxplus.specs.Whole.{◌+z◌, neg}
use Rattle.maxplus.specs.Entry.{E, absent, num, ◌≼◌, leq_E, ◌⊗◌, inv, Present, present?}
use Rattle.maxplus.specs.Finite.{In, each, only_if, map_l, sum, count_if}
use Rattle.maxplus.specs.Tables.{Vec, mv, NoGain}
use Rattle.maxplus.proofs.WholeLaws.{up_add, up_neg}
use Rattle.maxplus.proofs.EntryLaws.{◌▸◌, ≼_absent, ≼_of, ≼_back, num_⊗, leq_E_yes, leq_E_of, absent_not, present?_yes, present?_of}
use Rattle.maxplus.proofs.FiniteLaws.{in_each, each_in, in_map, map_in}
use Rattle.maxplus.proofs.SupLaws.{sup_at}
use Rattle.maxplus.proofs.EachLaws.{map_length}
use Rattle.cue.specs.Cue.{Cue, timing, overdue}
use Rattle.cue.specs.Vectors.{Readable}
use Rattle.cue.specs.Method.{Entries, Selection, through, pull, mark, least, floor_panels, serves_as_well, cut, walk, fixings, ask}
use Rattle.cue.specs.Method.{kept, selections, steps}
use Rattle.cue.specs.Sizes.{geometric}
use Rattle.cue.specs.Visited.{Visited, start, down}
use Rattle.cue.proofs.Deviation.{pull_overdue, mv_through, timing_overdue}
use Rattle.cue.proofs.Cone.{Cone, mark_cone}

-- a trigger that serves panel i, and panel k as well as i, serves k; and k has a floor
carry_E : (d x d' p p' : E) (D g : ℤ) → d ⊗ inv p ≼ d' ⊗ inv p' → Present p × (p ⊗ num (neg D) ⊗ num g ≼ d ⊗ x) →
    Present p' × (p' ⊗ num (neg D) ⊗ num g ≼ d' ⊗ x)
unfolding ◌⊗◌ inv
carry_E d x d' absent p' D g k (e, h) = absurd (absent_not e.1)
carry_E absent x d' (num p) p' D g k (e, h) = absurd h.un
carry_E (num d) absent d' (num p) p' D g k (e, h) = absurd h.un
carry_E (num d) (num x) absent (num p) p' D g k (e, h) = absurd k.un
carry_E (num d) (num x) (num d') (num p) absent D g k (e, h) = absurd k.un
carry_E (num d) (num x) (num d') (num p) (num p') D g k (e, h) = (
  (p', refl),
  omega (
    arith,
    up_neg p,
    up_neg p',
    up_neg D,
    up_add p (neg D),
    up_add (p +z neg D) g,
    up_add p' (neg D),
    up_add (p' +z neg D) g,
    up_add d x,
    up_add d' x,
    up_add d (neg p),
    up_add d' (neg p'),
  ),
)

-- a trigger that serves is kept
kept_E : (d x p : E) (D g r : ℤ) → p ⊗ num (neg D) ⊗ num g ≼ d ⊗ x → x ⊗ num r ≼ num g → p ⊗ num (neg D) ⊗ num r ≼ d
unfolding ◌⊗◌
kept_E d x absent D g r h k = ≼_absent _
kept_E absent x (num p) D g r h k = absurd h.un
kept_E (num d) absent (num p) D g r h k = absurd h.un
kept_E (num d) (num x) (num p) D g r h k =
    omega (arith, up_neg D, up_add p (neg D), up_add (p +z neg D) g, up_add (p +z neg D) r, up_add d x, up_add x r)

pub and_of : (a b : Bool) → T a → T b → T (a && b)
and_of true b s t = t
and_of false b s t = absurd s

pub and_l : (a b : Bool) → T (a && b) → T a
and_l true b t = tt
and_l false b t = absurd t

pub and_r : (a b : Bool) → T (a && b) → T b
and_r true b t = t
and_r false b t = absurd t

pub geometric_suc : (n f : ℕ) → geometric n (suc f) ≡ n * suc (geometric n f)
unfolding geometric
geometric_suc n zero = omega (arith, rw pow-zero at (pow-succ' n 0))
geometric_suc n (suc f) = omega (arith, geometric_suc n f, pow-succ' n (suc f))

each_at_most : {A : Type 0} (n c : ℕ) (f : ℕ → List A) → ((j : ℕ) → length (f j) ≤ c) → length (each n f) ≤ n * c
unfolding each
each_at_most zero c f h = omega arith
each_at_most (suc n) c f h = let a = each_at_most n c f h in let b = h n in simp length-append (omega arith)

length_only_if : {A : Type 0} (b : Bool) (l : List A) → length (only_if b l) ≤ length l
length_only_if true l = omega arith
length_only_if false l = omega arith

sum_below : (n c : ℕ) (f : ℕ → ℕ) → ((j : ℕ) → f j ≤ c) → sum n f ≤ n * c
unfolding sum
sum_below zero c f h = omega arith
sum_below (suc n) c f h = let a = sum_below n c f h in let b = h n in omega arith

module _ (n : ℕ) (P : Cue) where
  open P use {panels, lag, floor, due, order}

  -- the panels walked are those with a floor
  pub floor_panels_in : (i : ℕ) → In i (floor_panels n P) → (i < panels) × Present (floor i)
  unfolding floor_panels
  floor_panels_in i h = go (each_in panels _ i h)
    where
      go : (k : ℕ) × (k < panels) × In i (only_if (present? (floor k)) (k ∷ [])) → (i < panels) × Present (floor i)
      go (k, hk, h) = one (present? (floor k)) refl h
        where
          one : (b : Bool) → present? (floor k) ≡ b → In i (only_if b (k ∷ [])) → (i < panels) × Present (floor i)
          one true e (inl r) = rw r (hk, present?_yes (floor k) (rw e tt))
          one true e (inr r) = absurd r
          one false e h = absurd h

  pub in_floor_panels : (i : ℕ) → i < panels → Present (floor i) → In i (floor_panels n P)
  unfolding floor_panels
  in_floor_panels i hi p = in_each panels _ i i hi (one (present? (floor i)) (present?_of (floor i) p))
    where
      one : (b : Bool) → T b → In i (only_if b (i ∷ []))
      one true t = inl refl
      one false t = absurd t

  -- cutting adds nothing
  pub cut_within : (o : Entries) (i j k l : ℕ) → T (cut n P i j o k l) → T (o k l)
  unfolding cut
  cut_within o i j k l t = go (o k j) (serves_as_well n P i j k) refl t
    where
      go : (b c : Bool) → o k j ≡ b → T (cond (b && c) (eqb l j) (o k l)) → T (o k l)
      go true true e t = rw (eqb→eq l j t, e) tt
      go true false e t = t
      go false c e t = t

  -- what the walk takes at its first panel
  abbrev First : ℕ → List ℕ → Entries → Selection → Type 0
  First i is o s = (j : ℕ) × (s' : Selection) × (j < n) × T (o i j) × In s' (walk n P is (cut n P i j o)) × (s ≡ (i, j) ∷ s')

  walk_cons : (i : ℕ) (is : List ℕ) (o : Entries) (s : Selection) → In s (walk n P (i ∷ is) o) → First i is o s
  unfolding walk
  walk_cons i is o s h = go (each_in n _ s h)
    where
      go : (j : ℕ) × (j < n) × In s (only_if (o i j) (map_l (λ s. (i, j) ∷ s) (walk n P is (cut n P i j o)))) →
          First i is o s
      go (j, hj, h) = one (o i j) refl h
        where
          one : (b : Bool) → o i j ≡ b → In s (only_if b (map_l (λ s. (i, j) ∷ s) (walk n P is (cut n P i j o)))) → First i is o s
          one false f h = absurd h
          one true f h = let (s', hs, e) = map_in (λ s. (i, j) ∷ s) _ s h in (j, s', hj, rw f tt, hs, e)

  cons_walk : (i : ℕ) (is : List ℕ) (o : Entries) (j : ℕ) (s : Selection) → j < n → T (o i j) → In s (walk n P is (cut n P i j o)) →
      In ((i, j) ∷ s) (walk n P (i ∷ is) o)
  unfolding walk
  cons_walk i is o j s hj t h = in_each n _ ((i, j) ∷ s) j hj (one (o i j) t)
    where
      one : (b : Bool) → T b → In ((i, j) ∷ s) (only_if b (map_l (λ s. (i, j) ∷ s) (walk n P is (cut n P i j o))))
      one true t = in_map (λ s. (i, j) ∷ s) _ s h
      one false t = absurd t

  -- every fixing is an entry that was there
  pub walk_within : (is : List ℕ) (o : Entries) (s : Selection) → In s (walk n P is o) → (i j : ℕ) → In (i, j) s → (j < n) × T (o i j)
  walk_within [] o s h i j q = unfold walk in elim h [ inl e ↦ absurd (rw e at q) | inr e ↦ absurd e ]
  walk_within (k ∷ is) o s h i j q = go (walk_within is) (walk_cons k is o s h)
    where
      go : ((o : Entries) (s : Selection) → In s (walk n P is o) → (i j : ℕ) → In (i, j) s → (j < n) × T (o i j)) →
          First k is o s → (j < n) × T (o i j)
      go ih (l, s', hl, t, h', e) = one (rw e at q)
        where
          one : (◌≡◌ {A = ℕ × ℕ} (i, j) (k, l)) ⊎ In (i, j) s' → (j < n) × T (o i j)
          one (inl r) = rw (ap (λ f. f.0) r, ap (λ f. f.1) r) (hl, t)
          one (inr r) = let u = ih (cut n P k l o) s' h' i j r in (u.0, cut_within o k l i j u.1)

  -- every panel of the walk is fixed
  pub walk_fixes : (is : List ℕ) (o : Entries) (s : Selection) → In s (walk n P is o) → (i : ℕ) → In i is → (j : ℕ) × In (i, j) s
  walk_fixes [] o s h i q = elim q [ ]
  walk_fixes (k ∷ is) o s h i q = go (walk_fixes is) (walk_cons k is o s h) q
    where
      go : ((o : Entries) (s : Selection) → In s (walk n P is o) → (i : ℕ) → In i is → (j : ℕ) × In (i, j) s) →
          First k is o s → (i ≡ k) ⊎ In i is → (j : ℕ) × In (i, j) s
      go ih (l, s', hl, t, h', e) (inl r) = (l, rw (e, r) (inl refl))
      go ih (l, s', hl, t, h', e) (inr r) = let u = ih (cut n P k l o) s' h' i r in (u.0, rw e (inr u.1))

  -- and nothing else is
  pub walk_members : (is : List ℕ) (o : Entries) (s : Selection) → In s (walk n P is o) → (i j : ℕ) → In (i, j) s → In i is
  walk_members [] o s h i j q = unfold walk in elim h [ inl e ↦ absurd (rw e at q) | inr e ↦ absurd e ]
  walk_members (k ∷ is) o s h i j q = go (walk_members is) (walk_cons k is o s h)
    where
      go : ((o : Entries) (s : Selection) → In s (walk n P is o) → (i j : ℕ) → In (i, j) s → In i is) →
          First k is o s → (i ≡ k) ⊎ In i is
      go ih (l, s', hl, t, h', e) = one (rw e at q)
        where
          one : (◌≡◌ {A = ℕ × ℕ} (i, j) (k, l)) ⊎ In (i, j) s' → (i ≡ k) ⊎ In i is
          one (inl r) = inl (ap (λ f. f.0) r)
          one (inr r) = inr (ih (cut n P k l o) s' h' i j r)

  pub walk_panels : (o : Entries) (s : Selection) → In s (walk n P (floor_panels n P) o) → (i j : ℕ) → In (i, j) s → i < panels
  walk_panels o s h i j q = (floor_panels_in i (walk_members (floor_panels n P) o s h i j q)).0

  -- ---- how many steps: at most n + n² + … + n to the power f, with f panels
  pub fixings_bound : (is : List ℕ) (o : Entries) → fixings n P is o ≤ geometric n (length is)
  unfolding fixings geometric
  fixings_bound [] o = omega arith
  fixings_bound (i ∷ is) o = rw (geometric_suc n (length is)) (sum_below n _ _ (λ j. one (o i j) (fixings_bound is (cut n P i j o))))
    where
      one : (b : Bool) {k c : ℕ} → k ≤ c → count_if b (suc k) ≤ suc c
      one true h = omega arith
      one false h = omega arith

  -- and at most n to the power f selections
  pub walk_bound : (is : List ℕ) (o : Entries) → length (walk n P is o) ≤ n ^ length is
  unfolding walk
  walk_bound [] o = rw pow-zero (omega arith)
  walk_bound (i ∷ is) o = rw (pow-succ' n (length is))
      (each_at_most n _ _ (λ j. le_trans (length_only_if (o i j) _) (rw map_length (walk_bound is (cut n P i j o)))))

  pub floor_panels_few : length (floor_panels n P) ≤ panels
  unfolding floor_panels
  floor_panels_few = let h = each_at_most panels 1 (λ i. only_if (present? (floor i)) (i ∷ []))
      (λ i. length_only_if (present? (floor i)) (i ∷ [])) in omega arith

  module _ (D : ℤ) where
    -- "Entry d(i,j) is kept if it is present and at least p(i) − Δ − r(j). Panels without a floor keep none."
    pub kept_iff : (i j : ℕ) → T (kept n P D i j) ↔ (Present (floor i) × (ask n P D i ⊗ num (pull n P j) ≼ through n P i j))
    unfolding kept
    kept_iff i j = (
      λ t. (
        present?_yes (floor i) (and_l (present? (floor i)) (leq_E (ask n P D i ⊗ num (pull n P j)) (through n P i j)) t),
        leq_E_yes _ _ (and_r (present? (floor i)) _ t),
      ),
      λ h. and_of (present? (floor i)) (leq_E (ask n P D i ⊗ num (pull n P j)) (through n P i j)) (present?_of (floor i) h.0)
          (leq_E_of _ _ h.1),
    )

    pub kept_above : (i j : ℕ) → T (kept n P D i j) → ask n P D i ⊗ num (pull n P j) ≼ through n P i j
    kept_above i j t = ((kept_iff i j).0 t).1

    pub kept_of : (i j : ℕ) → Present (floor i) → ask n P D i ⊗ num (pull n P j) ≼ through n P i j → T (kept n P D i j)
    kept_of i j p h = (kept_iff i j).1 (p, h)

    pub selections_bound : length (selections n P D) ≤ n ^ length (floor_panels n P)
    unfolding selections
    selections_bound = walk_bound (floor_panels n P) (kept n P D)

    pub steps_bound : steps n P D ≤ geometric n (length (floor_panels n P))
    unfolding steps
    steps_bound = fixings_bound (floor_panels n P) (kept n P D)

  -- ---- no dead end
  -- "d(k,j) − p(k) ≥ d(i,j) − p(i)"
  pub serves_as_well_iff : (i j k : ℕ) →
      T (serves_as_well n P i j k) ↔ (through n P i j ⊗ inv (floor i) ≼ through n P k j ⊗ inv (floor k))
  unfolding serves_as_well
  serves_as_well_iff i j k = (leq_E_yes _ _, leq_E_of _ _)

  -- panel k has a trigger left that is good
  abbrev Left : (ℕ → ℕ → Type 0) → Entries → ℕ → Type 0
  Left G o k = (j : ℕ) × (j < n) × T (o k j) × G k j

  -- G is a goodness of entries that a cut carries on: a trigger that is good for panel i is good for a panel that it serves as well.
  module _ (G : ℕ → ℕ → Type 0) (carry : (i j k : ℕ) → T (serves_as_well n P i j k) → G i j → G k j) where
    -- a cut never empties a panel: it leaves the panel as it is, or the trigger fixed, which is there and as good
    cut_leaves : (i j : ℕ) → j < n → G i j → (o : Entries) (k : ℕ) → Left G o k → Left G (cut n P i j o) k
    unfolding cut
    cut_leaves i j hj v o k t = go (o k j) (serves_as_well n P i j k) refl refl
      where
        go : (b c : Bool) → o k j ≡ b → serves_as_well n P i j k ≡ c →
            (l : ℕ) × (l < n) × T (cond (o k j && serves_as_well n P i j k) (eqb l j) (o k l)) × G k l
        go true true e f = (j, hj, rw (e, f) (eqb_refl j), carry i j k (rw f tt) v)
        go true false e f = (t.0, t.1, rw (e, f) t.2, t.3)
        go false c e f = (t.0, t.1, rw e t.2, t.3)

    -- so good triggers can be taken all the way down
    greedy : (is : List ℕ) (o : Entries) → ((k : ℕ) → In k is → Left G o k) →
        (s : Selection) × In s (walk n P is o) × ((i j : ℕ) → In (i, j) s → G i j)
    greedy [] o h = ([], unfold walk in inl refl, λ i j q. absurd q)
    greedy (i ∷ is) o h =
        let (j, hj, t, v) = h i (inl refl) in
        let (s, hs, f) = greedy is (cut n P i j o) (λ k q. cut_leaves i j hj v o k (h k (inr q))) in (
          (i, j) ∷ s,
          cons_walk i is o j s hj t hs,
          λ k l q. elim q [ inl e ↦ rw (ap (λ f. f.0) e, ap (λ f. f.1) e) v | inr e ↦ f k l e ],
        )

  -- ---- at a vector x that is g past due
  module _ (D : ℤ) (x : Vec) (g : ℤ) where
    -- panel i has a floor, and j alone lands x there as far as D asks
    abbrev pub Serves : ℕ → ℕ → Type 0
    Serves i j = Present (floor i) × (ask n P D i ⊗ num g ≼ through n P i j ⊗ x j)

    serves_carried : (i j k : ℕ) → T (serves_as_well n P i j k) → Serves i j → Serves k j
    serves_carried i j k t v = carry_E (through n P i j) (x j) (through n P k j) (floor i) (floor k) D g ((serves_as_well_iff i j k).0 t) v

    -- the trigger that lands x furthest serves, and it is kept, because x is nowhere past r by more than g
    cone_kept : Cone n P D x → overdue n (timing due) x ≡ num g → (i : ℕ) → In i (floor_panels n P) → Left Serves (kept n P D) i
    cone_kept c e i q = go (floor_panels_in i q)
      where
        go : (i < panels) × Present (floor i) → Left Serves (kept n P D) i
        go (hi, (z, ez)) =
            let a : num (z +z neg D +z g) ≡ ask n P D i ⊗ num g =
            sym (ap (λ e. e ⊗ num (neg D) ⊗ num g) ez ∙ ap (λ e. e ⊗ num g) (num_⊗ z (neg D)) ∙ num_⊗ _ g) in
            let (j, hj, h) = sup_at n (λ j. through n P i j ⊗ x j) (≼_of a ▸
            (unfold mv in (rw (e, mv_through n P x c.ordered i) at (c.landed i hi)))) in (
              j,
              hj,
              kept_of D i j (z, ez)
                  (kept_E (through n P i j) (x j) (floor i) D g (pull n P j) (≼_back a ▸ h) (pull_overdue n P x c.ordered j hj ▸ ≼_of e)),
              ((z, ez), ≼_back a ▸ h),
            )

    pub cone_trigger : Cone n P D x → overdue n (timing due) x ≡ num g → (i : ℕ) → i < panels → Present (floor i) →
        (j : ℕ) × (j < n) × T (kept n P D i j) × Serves i j
    cone_trigger c e i hi p = cone_kept c e i (in_floor_panels i hi p)

    -- every vector of the cone has a selection whose every fixing serves it
    pub cone_selection : Cone n P D x → overdue n (timing due) x ≡ num g →
        (s : Selection) × In s (selections n P D) × ((i j : ℕ) → In (i, j) s → Serves i j)
    unfolding selections
    cone_selection c e = greedy Serves serves_carried (floor_panels n P) (kept n P D) (cone_kept c e)

  module _ (R : Readable n P) (np : NoGain n order) where
    abbrev any : ℕ → ℕ → Type 0
    any i j = Unit {0}

    reached_any : {is : List ℕ} {o : Entries} → Visited n P (least n P) is o → (k : ℕ) → In k is → Left any o k
    reached_any start k q = let (j, hj, t, v) = cone_kept (least n P) (timing (mark n P)) _ (mark_cone n P R np)
        (timing_overdue n P R (mark n P)) k q in (j, hj, t, tt)
    reached_any (down {i} {is} {o} j r hj t) k q = cut_leaves any (λ i j k t v. tt) i j hj tt o k (reached_any r k (inr q))

    -- in every state that the walk reaches each panel still to fix has a trigger left
    pub reached_left : {is : List ℕ} {o : Entries} → Visited n P (least n P) is o → (k : ℕ) → In k is → (j : ℕ) × (j < n) × T (o k j)
    reached_left r k q = let (j, hj, t, v) = reached_any r k q in (j, hj, t)

    -- and so from there it has a selection
    pub reached_selection : {is : List ℕ} {o : Entries} → Visited n P (least n P) is o → (s : Selection) × In s (walk n P is o)
    reached_selection {is} {o} r = let (s, hs, f) = greedy any (λ i j k t v. tt) is o (reached_any r) in (s, hs)
