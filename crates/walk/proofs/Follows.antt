-- The walk over masks that follow a sheet's tables is document 01's walk: the same selections in the same order, and as many steps.
use mathlib.Core.Path.{◌≡◌, refl, sym, ap, ap₂, ◌∙◌}
use mathlib.Core.Bool.{Bool, true, false, cond, ◌&&◌}
use mathlib.Core.List.{List, [], ◌∷◌, ◌++◌, append_assoc, append-nil, zip, zip_with}
use Prim.Native.Nat.{ℕ, zero, suc, ◌+◌, ◌<◌, ◌≤◌}
use native.Mathlib.Omega.{arith}
use native.Mathlib.Decide.{dec_lt}
use borrow.Author.Tests.{lt-ltb}
use lib.Dec.{T, eqb, ltb, eqb→eq}
use lib.IntN.{ℤ}
use lib.ListN.{length, get_or, drop, drop_of_length-le}
use lib.Seq.{drop-cons}
use Rattle.maxplus.specs.Entry.{absent}
use Rattle.maxplus.specs.Finite.{each, only_if, map_l, count_if}
use Rattle.maxplus.proofs.EachLaws.{each_same, map_each, map_length, map_twice}
use Rattle.cue.specs.Cue.{Cue}
use Rattle.cue.specs.Method as M
use Rattle.cue.proofs.Walk.{cut_within}
use Rattle.words.specs.Words.{entry}
use Rattle.words.proofs.Laws.{entry_inj, entry_zero}
use Rattle.tables.specs.Held.{meant_v, HoldsV}
use Rattle.trigger_sets.specs.Sets.{bit}
use Rattle.walk.specs.Trace.{Event, fixing, whole, cut, serves, walk_from, walk_of, selections, fixings}
use Rattle.walk.specs.State.{picked, levels, start_of, counts_of}
use Rattle.walk.specs.Remembers.{Asks, Remembers}
use Rattle.walk.specs.Steps.{StepTaken}
use Rattle.walk.specs.Follows.{Follows}
use Rattle.walk.specs.declared.Walk.{Walk}
use Rattle.walk.specs.declared.Stepped.{Stepped}
use Rattle.walk.specs.declared.Outcome.TheVariants.{Selection, End}
use Rattle.maxplus.proofs.FiniteLaws.{sum_ext}
use Rattle.walk.proofs.NarrowLaws.{bit_cut}
use Rattle.walk.proofs.Whole.{start_pending}
use Rattle.walk.proofs.RememberLaws.{nothing_asked}
use Rattle.walk.proofs.Stepping.{remaining, Walked, step_remembers, found_selection, found_deep, end_selections, end_ended}
use Rattle.walk.proofs.EachLaws.{selections_each, fixings_each, members_each}

-- ---- document 01's walk as a list of events
module _ (n : ℕ) (P : Cue) where
  unfoldable events : List ℕ → M.Entries → List ℕ → List Event
  events [] o q = whole q ∷ []
  events (i ∷ is) o q = each n (λ j. only_if (o i j) (fixing ∷ events is (M.cut n P i j o) (q ++ j ∷ [])))

  events_fixings : (is : List ℕ) (o : M.Entries) (q : List ℕ) → fixings (events is o q) ≡ M.fixings n P is o
  unfolding events fixings M.fixings
  events_fixings [] o q = refl
  events_fixings (i ∷ is) o q =
      fixings_each n _ ∙ sum_ext n _ _ (λ j h. one (o i j) _ (events_fixings is (M.cut n P i j o) (q ++ j ∷ [])))
    where
      one : (b : Bool) (es : List Event) {k : ℕ} → fixings es ≡ k → fixings (only_if b (fixing ∷ es)) ≡ count_if b (suc k)
      one true es e = ap suc e
      one false es e = refl

  -- the panels ps pair with q to what is done, and the rest of them are is
  events_selections : (ps is : List ℕ) (o : M.Entries) (q : List ℕ) (done : M.Selection) →
      ((t : List ℕ) → zip ps (q ++ t) ≡ done ++ zip is t) →
      map_l (zip ps) (selections (events is o q)) ≡ map_l (λ s. done ++ s) (M.walk n P is o)
  unfolding events selections map_l M.walk zip zip_with
  events_selections ps [] o q done e = ap (λ (s : M.Selection). s ∷ []) (sym (ap (zip ps) (append-nil q)) ∙ e [])
  events_selections ps (i ∷ is) o q done e =
      ap (map_l (zip ps)) (selections_each n _) ∙ map_each (zip ps) n _ ∙
      each_same n _ _ (λ j h. one j (o i j) (events is (M.cut n P i j o) (q ++ j ∷ [])) (M.walk n P is (M.cut n P i j o))
      (events_selections ps is (M.cut n P i j o) (q ++ j ∷ []) (done ++ (i, j) ∷ []) (next j))) ∙
      sym (map_each (λ s. done ++ s) n _)
    where
      next : (j : ℕ) (t : List ℕ) → zip ps ((q ++ j ∷ []) ++ t) ≡ (done ++ (i, j) ∷ []) ++ zip is t
      next j t = ap (zip ps) (append_assoc q (j ∷ []) t) ∙ e (j ∷ t) ∙ sym (append_assoc done ((i, j) ∷ []) (zip is t))

      one : (j : ℕ) (b : Bool) (es : List Event) (w : List M.Selection) →
          map_l (zip ps) (selections es) ≡ map_l (λ s. (done ++ (i, j) ∷ []) ++ s) w →
          map_l (zip ps) (selections (only_if b (fixing ∷ es))) ≡ map_l (λ s. done ++ s) (only_if b (map_l (λ s. (i, j) ∷ s) w))
      one j true es w h =
          h ∙ sym (map_twice (λ s. (i, j) ∷ s) (λ s. done ++ s) _ (λ s. sym (append_assoc done ((i, j) ∷ []) s)) w)
      one j false es w h = refl

-- the two cuts of an entry, test by test: the trigger fixed is still there (a) and serves as well (s, s'); the entry is that trigger (e),
-- is one of the sheet's (c), and was there (y)
both_cut : (a s s' e c y : Bool) → (T a → s ≡ s') → (T e → T c) → cond (a && s) e (c && y) ≡ (c && cond (a && s') e y)
both_cut false s s' e c y p q = refl
both_cut true s s' e c y p q = rw (p tt) (go s')
  where
    only : (e c : Bool) → (T e → T c) → e ≡ (c && e)
    only true true q = refl
    only true false q = absurd (q tt)
    only false true q = refl
    only false false q = refl

    go : (s : Bool) → cond s e (c && y) ≡ (c && cond s e y)
    go true = only e c q
    go false = refl

module _ {n : ℕ} {P : Cue} {D : ℤ} {f : ℕ} {masks : List ℕ} {gains : List (List ℕ)} {panels : List ℕ}
    (F : Follows n P D f masks gains panels) where
  abbrev panel : ℕ → ℕ
  panel l = get_or panels l 0

  -- masks and entries agree at the levels from i on: those above are never read again
  record Agrees (i : ℕ) (o : ℕ → ℕ) (O : M.Entries) : Type 0 where
    bits : (k j : ℕ) → i ≤ k → k < f → j < 6 → bit (o k) j ≡ (ltb j n && O (panel k) j)
    within : (k j : ℕ) → T (O k j) → T (M.kept n P D k j)

  agrees_cut : (i j : ℕ) (o : ℕ → ℕ) (O : M.Entries) → Agrees i o O → i < f → j < n → T (O (panel i) j) →
      Agrees (suc i) (λ k. cut j (serves gains i j k) (o k)) (M.cut n P (panel i) j O)
  unfolding M.cut
  agrees_cut i j o O a hi hj t = record {
    bits = λ k l h hk hl. at k l h hk hl (a.bits k j (omega arith) hk (omega (arith, F.few))) (a.bits k l (omega arith) hk hl);
    within = λ k l t. a.within k l (cut_within n P O (panel i) j k l t);
  }
    where
      at : (k l : ℕ) → suc i ≤ k → k < f → l < 6 → bit (o k) j ≡ (ltb j n && O (panel k) j) → bit (o k) l ≡ (ltb l n && O (panel k) l) →
          bit (cut j (serves gains i j k) (o k)) l ≡ (ltb l n && M.cut n P (panel i) j O (panel k) l)
      at k l h hk hl p q =
          bit_cut j (serves gains i j k) (o k) l ∙
          ap₂ (λ (x y : Bool). cond (x && serves gains i j k) (eqb l j) y) (p ∙ ap (λ (b : Bool). b && O (panel k) j) (lt-ltb j n hj)) q ∙
          both_cut (O (panel k) j) _ _ (eqb l j) (ltb l n) (O (panel k) l)
          (λ u. F.order i k j (omega arith) hk hj (a.within (panel i) j t) (a.within (panel k) j u))
          (λ u. rw (eqb→eq l j u, lt-ltb j n hj) tt)

  -- level by level: the members of level i's mask are the triggers that its panel still has, ascending, and after each of them is fixed
  -- masks and entries agree at the later levels
  walk_events : (l i : ℕ) (o : ℕ → ℕ) (O : M.Entries) (q : List ℕ) → l + i ≡ f → Agrees i o O →
      walk_from gains l i o q ≡ events n P (drop i panels) O q
  unfolding walk_from events
  walk_events zero i o O q e a = rw (drop_of_length-le panels {i = i} (omega (arith, F.many)))
  walk_events (suc l) i o O q e a =
      let h : i < length panels = omega (arith, F.many) in
      rw (drop-cons panels i 0 h)
      (members_each n (o i) (O (panel i)) _ _ F.few (λ j k. a.bits i j (omega arith) (omega arith) k)
      (λ j hj t. ap (λ (es : List Event). fixing ∷ es)
      (walk_events l (suc i) _ _ (q ++ j ∷ []) (omega arith) (agrees_cut i j o O a (omega arith) hj t))))

  followed : walk_of masks gains f ≡ events n P panels (M.kept n P D) []
  unfolding walk_of
  followed = walk_events f 0 (λ k. get_or masks k 0) (M.kept n P D) [] (omega arith)
      (record { bits = λ k j h hk hj. F.bits k j hk hj; within = λ k j t. t })

  -- the walk's selections, each trigger with its panel, are document 01's, in their order
  pub selections_follow : map_l (zip panels) (selections (walk_of masks gains f)) ≡ M.selections n P D
  unfolding M.selections map_l
  selections_follow = rw (followed, ← F.floors)
      (events_selections n P panels panels (M.kept n P D) [] [] (λ t. refl) ∙ mapped (M.walk n P panels (M.kept n P D)))
    where
      mapped : (l : List M.Selection) → map_l (λ s. [] ++ s) l ≡ l
      mapped [] = refl
      mapped (s ∷ l) = ap (λ (l : List M.Selection). s ∷ l) (mapped l)

  -- and so is the number of steps
  pub steps_follow : fixings (walk_of masks gains f) ≡ M.steps n P D
  unfolding M.steps
  steps_follow = rw (followed, ← F.floors) (events_fixings n P panels (M.kept n P D) [])

  -- what `count` gives
  pub counts_follow : counts_of masks gains f ≡ record { steps = M.steps n P D; selections = length (M.selections n P D) }
  counts_follow = ap₂ (λ (k l : ℕ). record { steps = k; selections = l }) steps_follow
      (sym (map_length (zip panels) (selections (walk_of masks gains f))) ∙ ap length selections_follow)

-- ---- a loop over document 01's selections
-- those that a state has left, and the one that its picks show
abbrev pub ahead : List ℕ → List (List ℕ) → ℕ → List ℕ → Walk → List M.Selection
ahead masks gains f panels w = map_l (zip panels) (remaining masks gains f w)

abbrev pub shown : ℕ → List ℕ → Walk → M.Selection
shown f panels w = zip panels (picked f w.place.picks)

module _ {masks : List ℕ} {gains needs : List (List ℕ)} {f : ℕ} {w : Walk} {r : Stepped} (panels : List ℕ)
    (s : StepTaken masks gains needs f w r) where
  pub ahead_found : r.outcome ≡ Selection →
      ahead masks gains f panels w ≡ shown f panels r.next ∷ ahead masks gains f panels r.next
  unfolding map_l
  ahead_found e = ap (map_l (zip panels)) (found_selection s e)

  pub ahead_end : r.outcome ≡ End → ahead masks gains f panels w ≡ []
  unfolding map_l
  ahead_end e = ap (map_l (zip panels)) (end_selections s e)

module _ {n : ℕ} {P : Cue} {D : ℤ} {f : ℕ} {masks : List ℕ} {gains : List (List ℕ)} {panels : List ℕ}
    (F : Follows n P D f masks gains panels) where
  pub ahead_start : 0 < f → ahead masks gains f panels (start_of masks n) ≡ M.selections n P D
  ahead_start h = rw (start_pending masks gains f n h F.small) (selections_follow F)

-- ---- document 02, No. 3: the w of the states that a step hands back
module _ {n : ℕ} {P : Cue} {D : ℤ} {f : ℕ} {masks : List ℕ} {gains needs : List (List ℕ)} {panels : List ℕ}
    (F : Follows n P D f masks gains panels) (A : Asks n P D panels f needs) {w : Walk} {seen : List (List ℕ)}
    (b : Walked masks gains needs f n w seen) {r : Stepped} (s : StepTaken masks gains needs f w r) where
  remembered : Remembers n P D panels (levels f r.next.place) r.next
  remembered = step_remembers b s P D panels F A

  -- at a complete selection it is step 6's w of that selection
  pub selection_bounds : r.outcome ≡ Selection → HoldsV n (M.need n P D (shown f panels r.next)) r.next.bounds.at
  selection_bounds e = rw (found_deep s e) at remembered.bounds

  -- at the end it is absent everywhere
  pub end_bounds : r.outcome ≡ End → (j : ℕ) → get_or r.next.bounds.at j 0 ≡ 0
  unfolding picked meant_v
  end_bounds e j = elim (dec_lt j n) [
    | yes h ↦ entry_inj (none r.next.place.depth (end_ended s e).0 j h (remembered.bounds.at j h) ∙ sym entry_zero)
    | no h ↦ remembered.sized.past j (omega arith)
  ]
    where
      none : (d : ℕ) → d ≡ 0 → (j : ℕ) → j < n →
          entry (get_or r.next.bounds.at j 0) ≡ M.need n P D (zip panels (picked d r.next.place.picks)) j →
          entry (get_or r.next.bounds.at j 0) ≡ absent
      none zero q j h x = x ∙ nothing_asked n P D panels j
      none (suc d) q j h x = let z : ⊥ = omega arith in absurd z
