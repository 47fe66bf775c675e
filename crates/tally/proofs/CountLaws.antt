-- Laws of counting: how many fixings and selections there are hangs on the triggers left alone, and what is remembered stays so.
use mathlib.Core.Path.{◌≡◌, refl, ap, ap₂, sym, ◌∙◌}
use mathlib.Core.List.{List, [], ◌∷◌, ◌++◌}
use Prim.Native.Nat.{ℕ, zero, suc, ◌+◌, ◌-◌, ◌<◌, ◌≤◌}
use native.Mathlib.Omega.{arith}
use native.Mathlib.Decide.{ℕ_discrete, dec_lt}
use lib.Bits.{bit_and}
use lib.Count.{count_trailing_zeros}
use lib.ListN.{length, get_or, set, replicate, length-set, length-append, get_or-replicate, get_or-eq_default}
use lib.Seq.{get_or-set_same, get_or-set_other}
use Rattle.trigger_sets.specs.Sets.{members}
use Rattle.walk.specs.Trace.{Event, fixing, whole, for_each, cut, serves, walk_from, walk_of, fixings, selections}
use Rattle.walk.specs.State.{counts_of}
use Rattle.walk.specs.declared.Counts.{Counts}
use Rattle.trigger_sets.proofs.MemberLaws.{members_split, members_none, members_few}
use Rattle.walk.proofs.TraceLaws.{fixings_append, selections_append, selections_few}
use Rattle.walk.proofs.Whole.{for_each_few, levels_few, most, most_few}
use Rattle.tally.specs.Counting.{digit, left, Speaks, behind, ahead, tried, unseen, Remembered, CountReady, Counted}
use Rattle.tally.specs.declared.Seen.{Seen}
use Rattle.cue.specs.Sizes.{size_limit}

-- ---- as many fixings and as many selections
pub record Alike (a b : List Event) : Type 0 where
  pub steps : fixings a ≡ fixings b
  pub sels : length (selections a) ≡ length (selections b)

alike_append : {a b c d : List Event} → Alike a b → Alike c d → Alike (a ++ c) (b ++ d)
alike_append {a} {b} {c} {d} h k = record {
  steps = omega (arith, fixings_append a c, fixings_append b d, h.steps, k.steps);
  sels = omega (
    arith,
    ap length (selections_append a c),
    ap length (selections_append b d),
    length-append (selections a) (selections c),
    length-append (selections b) (selections d),
    h.sels,
    k.sels,
  );
}

alike_fixing : {a b : List Event} → Alike a b → Alike (fixing ∷ a) (fixing ∷ b)
unfolding fixings selections
alike_fixing h = record { steps = ap suc h.steps; sels = h.sels }

alike_each : (js : List ℕ) (g h : ℕ → List Event) → ((j : ℕ) → Alike (g j) (h j)) → Alike (for_each js g) (for_each js h)
unfolding for_each
alike_each [] g h e = record { steps = refl; sels = refl }
alike_each (j ∷ js) g h e = alike_append (e j) (alike_each js g h e)

-- the triggers fixed before, and those left to the levels before, change neither
walk_alike : (gains : List (List ℕ)) (l i : ℕ) (o p : ℕ → ℕ) (q r : List ℕ) → ((k : ℕ) → i ≤ k → k < i + l → o k ≡ p k) →
    Alike (walk_from gains l i o q) (walk_from gains l i p r)
unfolding walk_from
walk_alike gains zero i o p q r e = record { steps = unfold fixings in refl; sels = unfold selections in refl }
walk_alike gains (suc l) i o p q r e = rw (e i (omega arith) (omega arith)) (alike_each (members (p i)) _ _ (λ j. alike_fixing
    (walk_alike gains l (suc i) _ _ _ _ (λ k a b. ap (cut j (serves gains i j k)) (e k (omega arith) (omega arith))))))

-- ---- how many there are at most
fixings_few : (es : List Event) → fixings es ≤ length es
unfolding fixings
fixings_few [] = omega arith
fixings_few (fixing ∷ es) = let r = fixings_few es in omega arith
fixings_few (whole q ∷ es) = let r = fixings_few es in omega arith

module _ (gains : List (List ℕ)) (f : ℕ) where
  module _ (few : f ≤ size_limit) {l : ℕ} (hl : l < f) (w : ℕ) where
    -- ---- a level's triggers, one after the other
    pub ahead_tried : ahead gains f l w ≡ tried gains f l w (digit w 0)
    unfolding ahead tried walk_from
    ahead_tried =
        let e : f - l ≡ suc (f - (l + 1)) = omega arith in let s : l + 1 ≡ suc l = omega arith in let z : l - l ≡ 0 = omega arith in rw (e, s, z)

    pub tried_none : tried gains f l w 0 ≡ []
    unfolding tried for_each
    tried_none = rw members_none

    -- what happens below trigger j of the level
    abbrev under : ℕ → List Event
    under j = walk_from gains (f - (l + 1)) (l + 1) (behind gains l w j) (j ∷ [])

    tried_more : (m : ℕ) → 0 < m → m < 64 →
        tried gains f l w m ≡ fixing ∷ under (count_trailing_zeros 8 m) ++ tried gains f l w (bit_and m (m - 1))
    unfolding tried for_each
    tried_more m h k = rw (members_split m h k)

    tried_few : (m : ℕ) → length (tried gains f l w m) ≤ 615858
    unfolding tried
    tried_few m =
        let k = most_few (f - (l + 1)) (omega arith) in
        let r = for_each_few 6 (suc (most (f - (l + 1)))) (members m) (λ j. fixing ∷ under j) (members_few m)
        (λ j. let r = levels_few gains (f - (l + 1)) (l + 1) (behind gains l w j) (j ∷ []) in omega arith) in
        omega arith

-- ---- no trigger is left anywhere: nothing happens
unseen_at : (l : ℕ) → get_or (replicate 6 unseen) l unseen ≡ unseen
unseen_at l = elim (dec_lt l 6) [ yes h ↦ get_or-replicate 6 l unseen unseen h | no h ↦ get_or-eq_default (replicate 6 unseen) unseen {n = l} (omega arith) ]

counts_eq : {r s : Counts} → r.steps ≡ s.steps → r.selections ≡ s.selections → r ≡ s
counts_eq {r} {s} e h = ap₂ (λ (a b : ℕ). record { steps = a; selections = b }) e h

module _ {gains : List (List ℕ)} {f : ℕ} where
  pub remembered_start : f ≤ size_limit → Remembered gains f (replicate 6 unseen)
  remembered_start few = record {
    size = refl;
    at = λ l h. let e = nothing l h in rw (unseen_at l) (
      sym (ap fixings e ∙ (unfold fixings in refl)),
      sym (ap (λ es. length (selections es)) e ∙ (unfold selections in refl)),
    );
  }
    where
      none : digit 0 0 ≡ 0
      none = unfold digit in refl

      nothing : (l : ℕ) → l < f → ahead gains f l 0 ≡ []
      nothing l h = ahead_tried gains f few h 0 ∙ ap (tried gains f l 0) none ∙ tried_none gains f few h 0

  -- ---- from a level on
  module _ {seen : List Seen} (y : CountReady gains f seen) where
    pub counted_whole : {l : ℕ} (w : ℕ) → l ≡ f → Counted gains f (ahead gains f l w) (record { steps = 0; selections = 1 }) seen
    unfolding ahead walk_from
    counted_whole {l} w e = let z : f - l ≡ 0 = omega arith in record {
      steps_are = rw z (unfold fixings in refl);
      selections_are = rw z (unfold selections in refl);
      remembered = y.remembered;
    }

    pub counted_again : {l w : ℕ} → l < f → (get_or seen l unseen).left ≡ w → Counted gains f (ahead gains f l w) (get_or seen l unseen).counts seen
    counted_again {l} h e = record {
      steps_are = (y.remembered.at l h).0 ∙ ap (λ w. fixings (ahead gains f l w)) e;
      selections_are = (y.remembered.at l h).1 ∙ ap (λ w. length (selections (ahead gains f l w))) e;
      remembered = y.remembered;
    }

  -- a level has been worked out, and is remembered
  pub counted_level : {l : ℕ} (w : ℕ) {c : Counts} {seen : List Seen} → f ≤ size_limit → l < f →
      Counted gains f (tried gains f l w (digit w 0)) c seen →
      Counted gains f (ahead gains f l w) c (set seen l (record { left = w; counts = c }))
  counted_level {l} w {c} {seen} few h t = record {
    steps_are = t.steps_are ∙ ap fixings (sym e);
    selections_are = t.selections_are ∙ ap (λ es. length (selections es)) (sym e);
    remembered = record {
      size = simp length-set z;
      at = λ k hk. elim (ℕ_discrete k l) [
        | yes d ↦ rw (d, get_or-set_same seen l (record { left = w; counts = c }) unseen (omega (arith, z)), e) (t.steps_are, t.selections_are)
        | no d ↦ rw (get_or-set_other seen l k (record { left = w; counts = c }) unseen d) (t.remembered.at k hk)
      ];
    };
  }
    where
      e : ahead gains f l w ≡ tried gains f l w (digit w 0)
      e = ahead_tried gains f few h w

      z : length seen ≡ 6
      z = t.remembered.size

  -- ---- a level's triggers: none, and one before the others
  pub counted_none : {l : ℕ} (w : ℕ) {seen : List Seen} → f ≤ size_limit → l < f → Remembered gains f seen →
      Counted gains f (tried gains f l w 0) (record { steps = 0; selections = 0 }) seen
  counted_none {l} w few h r = record {
    steps_are = sym (ap fixings (tried_none gains f few h w) ∙ (unfold fixings in refl));
    selections_are = sym (ap (λ es. length (selections es)) (tried_none gains f few h w) ∙ (unfold selections in refl));
    remembered = r;
  }

  module _ (w : ℕ) {l cuts m : ℕ} (few : f ≤ size_limit) (h : l < f) (some : 0 < m) (small : m < 64)
      {j r : ℕ} (e : j ≡ count_trailing_zeros 8 m) (k : r ≡ bit_and m (m - 1)) (b : Speaks (behind gains l w j) (l + 1) cuts)
      {a c : Counts} {seen seen' : List Seen}
      (t : Counted gains f (ahead gains f (l + 1) cuts) a seen)
      (o : Counted gains f (tried gains f l w r) c seen') where
    first : List Event
    first = under gains f few h w j

    others : List Event
    others = tried gains f l w r

    split : tried gains f l w m ≡ fixing ∷ first ++ others
    unfolding first others
    split = rw (e, k) (tried_more gains f few h w m some small)

    same : Alike (ahead gains f (l + 1) cuts) first
    unfolding ahead first
    same = walk_alike gains (f - (l + 1)) (l + 1) _ _ [] _ (λ k x y. b.at k (omega arith) (omega arith))

    pub more_steps : 1 + a.steps + c.steps ≡ fixings (tried gains f l w m)
    unfolding fixings others
    more_steps = sym (ap fixings split ∙ omega (arith, fixings_append first (unfold others in others), same.steps, t.steps_are, o.steps_are))

    pub more_selections : a.selections + c.selections ≡ length (selections (tried gains f l w m))
    unfolding selections others
    more_selections = sym (ap (λ es. length (selections es)) split ∙ omega (
      arith,
      ap length (selections_append first (unfold others in others)),
      length-append (selections first) (selections (unfold others in others)),
      same.sels,
      t.selections_are,
      o.selections_are,
    ))

    pub counted_more : Counted gains f (tried gains f l w m)
        (record { steps = 1 + a.steps + c.steps; selections = a.selections + c.selections }) seen'
    counted_more = record { steps_are = more_steps; selections_are = more_selections; remembered = o.remembered }

    -- and the sums fit
    pub steps_few : 1 + a.steps + c.steps ≤ 615858
    steps_few = omega (arith, more_steps, fixings_few (tried gains f l w m), tried_few gains f few h w m)

    pub selections_fit : a.selections + c.selections ≤ 615858
    selections_fit = omega (arith, more_selections, selections_few (tried gains f l w m), tried_few gains f few h w m)

  -- the word of all levels' triggers
  pub counted_all : (kept : List ℕ) {seen : List Seen} {w : ℕ} {r : Counts} → f ≤ size_limit → Speaks (λ k. get_or kept k 0) 0 w →
      Counted gains f (ahead gains f 0 w) r seen → r ≡ counts_of kept gains f
  unfolding ahead walk_of
  counted_all kept {w = w} few b t = counts_eq (rw e at t.steps_are ∙ same.steps) (rw e at t.selections_are ∙ same.sels)
    where
      e : f - 0 ≡ f
      e = omega arith

      same : Alike (walk_from gains f 0 (left 0 w) []) (walk_from gains f 0 (λ k. get_or kept k 0) [])
      same = walk_alike gains f 0 _ _ [] [] (λ k x y. b.at k x (omega arith))
