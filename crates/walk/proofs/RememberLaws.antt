-- What the state remembers, on each way that the walk goes on: step 6's w of the panels fixed so far.
-- Fixing trigger j at panel i changes w at j alone: to the larger of what it was and p(i) − Δ − d(i,j). So putting back the word that was
-- there gives the w of the panels above.
use mathlib.Core.Path.{◌≡◌, refl, sym, ap, ap₂, ◌∙◌}
use mathlib.Core.Bool.{Bool, true, false, cond, ◌&&◌}
use mathlib.Core.List.{List, [], ◌∷◌, ◌++◌, zip, zip_with}
use Prim.Native.Nat.{ℕ, zero, suc, ◌+◌, ◌-◌, ◌*◌, ◌/◌, ◌%◌, ◌<◌, ◌≤◌}
use native.Mathlib.Omega.{arith}
use native.Mathlib.Decide.{ℕ_discrete}
use native.Mathlib.Numerals.{add-one}
use lib.Bits.{and_le_l}
use lib.Dec.{T, eqb, ltb, eqb→eq, ltb→lt}
use lib.IntN.{ℤ}
use lib.ListN.{length, get_or, set}
use lib.Seq.{get_or-set_same, get_or-set_other}
use Rattle.maxplus.specs.Entry.{absent, ◌⊕◌}
use Rattle.cue.specs.Cue.{Cue}
use Rattle.cue.specs.Method as M
use Rattle.cue.proofs.NeedLaws.{wanted, need_none, need_more, need_other}
use Rattle.words.specs.Words.{entry}
use Rattle.words.proofs.Laws.{entry_zero}
use Rattle.tables.specs.Held.{cell, meant, meant_v, HoldsV}
use Rattle.tables.proofs.Loops.{blank_word}
use Rattle.tables.proofs.LineLaws.{sized_none, sized_set}
use Rattle.trigger_sets.specs.Sets.{bit, Has}
use Rattle.trigger_sets.proofs.BitLaws.{has_and}
use Rattle.trigger_sets.proofs.MemberLaws.{low_has}
use Rattle.walk.specs.Trace.{cut, serves, narrow, mask_at}
use Rattle.walk.specs.State.{picked, start_of, place_at, levels}
use Rattle.walk.specs.declared.Walk.{Walk}
use Rattle.walk.specs.Follows.{Follows}
use Rattle.walk.specs.Remembers.{Untried, Asks, Replaced, Remembers}
use Rattle.walk.specs.Inner.{Asked, pushed, popped, GivenUp}
use Rattle.walk.proofs.NarrowLaws.{bit_cut}
use Rattle.walk.proofs.PickLaws.{picked_length}
use Rattle.walk.proofs.Stack.{untried, fix_at, down, Splits, split_low}
use Rattle.walk.proofs.Walking.{whole_resumed, inner_resumed}
use Rattle.cue.specs.Sizes.{size_limit}

-- ---- the panels fixed
none_fixed : (ps : List ℕ) → ◌≡◌ {A = M.Selection} (zip ps []) []
unfolding zip zip_with
none_fixed [] = refl
none_fixed (p ∷ ps) = refl

-- a panel more is paired with its pick
zip_more : (ps q : List ℕ) (j : ℕ) → length q < length ps → zip ps (q ++ j ∷ []) ≡ zip ps q ++ (get_or ps (length q) 0, j) ∷ []
unfolding zip zip_with
zip_more [] q j h = let e : ⊥ = omega arith in absurd e
zip_more (p ∷ ps) [] j h = go ps
  where
    go : (ps : List ℕ) → zip (p ∷ ps) (j ∷ []) ≡ (p, j) ∷ []
    go [] = refl
    go (x ∷ ps) = refl
zip_more (p ∷ ps) (x ∷ q) j h = ap (λ (l : M.Selection). (p, x) ∷ l) (zip_more ps q j (omega arith))

-- nothing is asked where none is
pub nothing_asked : (n : ℕ) (P : Cue) (D : ℤ) (ps : List ℕ) (t : ℕ) → M.need n P D (zip ps []) t ≡ absent
nothing_asked n P D ps t = ap (λ (s : M.Selection). M.need n P D s t) (none_fixed ps) ∙ need_none n P D t

-- ---- triggers among the first n
cut_inside : (j : ℕ) (s : Bool) (m l : ℕ) → Has (cut j s m) l → Has m l
cut_inside j s m l t = go (bit m j) s refl (rw (bit_cut j s m l) at t)
  where
    go : (a b : Bool) → bit m j ≡ a → T (cond (a && b) (eqb l j) (bit m l)) → T (bit m l)
    go true true e t = rw (eqb→eq l j t, e) tt
    go true false e t = t
    go false b e t = t

narrow_inside : (gains : List (List ℕ)) (k : ℕ) (q : List ℕ) (i m l : ℕ) → Has (narrow gains k q i m) l → Has m l
unfolding narrow
narrow_inside gains k [] i m l t = t
narrow_inside gains k (j ∷ q) i m l t = cut_inside j (serves gains i j k) m l (narrow_inside gains k q (suc i) (cut j (serves gains i j k) m) l t)

first : (b c : Bool) → T (b && c) → T b
first true c t = tt
first false c t = t

-- ---- the words that are to be put back
module _ (n : ℕ) (P : Cue) (D : ℤ) (panels : List ℕ) where
  replaced_same : (d picks : ℕ) (a b : ℕ → ℕ) → ((i : ℕ) → i < d → a i ≡ b i) →
      Replaced n P D panels d picks a → Replaced n P D panels d picks b
  replaced_same zero picks a b h r = tt
  replaced_same (suc d) picks a b h (x, e, r) =
      (x, ap entry (sym (h 0 (omega arith))) ∙ e, replaced_same d (picks / 8) _ _ (λ i k. h (suc i) (omega arith)) r)

-- six words: the places after a push and after a pop
pushed_next : (x : ℕ) (s : List ℕ) (i : ℕ) → i < 5 → get_or s i 0 ≡ get_or (pushed x s) (suc i) 0
pushed_next x s zero h = refl
pushed_next x s (suc zero) h = refl
pushed_next x s (suc (suc zero)) h = refl
pushed_next x s (suc (suc (suc zero))) h = refl
pushed_next x s (suc (suc (suc (suc zero)))) h = refl
pushed_next x s (suc (suc (suc (suc (suc i))))) h = let e : ⊥ = omega arith in absurd e

popped_next : (s : List ℕ) (i : ℕ) → i < 5 → get_or s (suc i) 0 ≡ get_or (popped s) i 0
popped_next s zero h = refl
popped_next s (suc zero) h = refl
popped_next s (suc (suc zero)) h = refl
popped_next s (suc (suc (suc zero))) h = refl
popped_next s (suc (suc (suc (suc zero)))) h = refl
popped_next s (suc (suc (suc (suc (suc i))))) h = let e : ⊥ = omega arith in absurd e

module _ {n : ℕ} {P : Cue} {D : ℤ} {f : ℕ} {kept : List ℕ} {gains : List (List ℕ)} {panels : List ℕ} (F : Follows n P D f kept gains panels) where
  kept_few : (l : ℕ) → l < f → (j : ℕ) → j < 6 → Has (get_or kept l 0) j → j < n
  kept_few l h j k t = ltb→lt j n (first (ltb j n) _ (rw (F.bits l j h k) at t))

  mask_few : (d picks : ℕ) → d < f → (j : ℕ) → j < 6 → Has (mask_at kept gains (picked d picks)) j → j < n
  unfolding mask_at
  mask_few d picks h j k t =
      kept_few d h j k (rw (picked_length d picks) at (narrow_inside gains (length (picked d picks)) (picked d picks) 0 _ j t))

  -- ---- the start: nothing is fixed
  pub start_remembers : 0 < f → Remembers n P D panels 1 (start_of kept n)
  unfolding picked meant_v
  start_remembers h = record {
    count = refl;
    sized = sized_none n;
    bounds = record { at = λ t k. ap entry (blank_word t) ∙ entry_zero ∙ sym (nothing_asked n P D panels t) };
    replaced = tt;
    untried = (λ j k t. kept_few 0 h j k (rw small at t), tt);
  }
    where
      small : get_or kept 0 0 % 64 ≡ get_or kept 0 0
      small = omega (arith, F.small 0)

  -- ---- a trigger is fixed: w is raised at it alone, and the word that stood there comes first among those replaced
  module _ {needs : List (List ℕ)} (A : Asks n P D panels f needs) {w : Walk} {j r : ℕ} {after : List ℕ}
      (hd : w.place.depth < f) (hf : f ≤ size_limit) (some : 0 < untried w.place) (e : Splits j r (untried w.place))
      (a : Asked w.bounds.at j (cell needs w.place.depth j) after)
      {Kept-back : List ℕ} (p : Kept-back ≡ pushed (get_or w.bounds.at j 0) w.replaced)
      (R : Remembers n P D panels (suc w.place.depth) w) where
    abbrev d : ℕ
    d = w.place.depth

    abbrev left : ℕ
    left = w.place.left

    abbrev picks : ℕ
    picks = w.place.picks

    abbrev had : ℕ
    had = get_or w.bounds.at j 0

    abbrev more : M.Selection
    more = zip panels (picked d picks) ++ (get_or panels d 0, j) ∷ []

    j_six : j < 6
    j_six = split_low some (omega arith) e

    j_few : j < n
    j_few = R.untried.0 j j_six (rw e.0 (low_has (left % 64) some (omega arith)))

    last : (picks * 8 + j) % 8 ≡ j
    last = omega (arith, j_six)

    above : (picks * 8 + j) / 8 ≡ picks
    above = omega (arith, j_six)

    fixed_more : zip panels (picked (d + 1) (picks * 8 + j)) ≡ more
    unfolding picked
    fixed_more = rw (add-one d, last, above) (zip_more panels (picked d picks) j (omega (arith, picked_length d picks, F.many)) ∙
        ap (λ (i : ℕ). zip panels (picked d picks) ++ (get_or panels i 0, j) ∷ []) (picked_length d picks))

    asked : entry (cell needs d j) ≡ wanted n P D (get_or panels d 0) j
    unfolding meant
    asked = A.needed d j hd j_few

    held : (t : ℕ) → t < n → entry (get_or w.bounds.at t 0) ≡ M.need n P D (zip panels (picked d picks)) t
    unfolding meant_v
    held t h = R.bounds.at t h

    raised : (t : ℕ) → t < n → meant_v after t ≡ M.need n P D more t
    unfolding meant_v
    raised t ht = ap (λ (l : List ℕ). entry (get_or l t 0)) a.is ∙ go (ℕ_discrete t j)
      where
        go : Dec (t ≡ j) → entry (get_or (set w.bounds.at j a.word) t 0) ≡ M.need n P D more t
        go (yes q) = rw q (ap entry (get_or-set_same w.bounds.at j a.word 0 (rw R.sized.size j_six)) ∙ a.larger ∙
            ap₂ ◌⊕◌ asked (held j j_few) ∙ sym (need_more n P D _ _ j))
        go (no q) = ap entry (get_or-set_other w.bounds.at j t a.word 0 q) ∙ held t ht ∙ sym (need_other n P D _ _ j t q)

    few_left : (t : ℕ) → t < 6 → Has ((left / 64 * 64 + r) % 64) t → t < n
    few_left t h i =
        let q : (left / 64 * 64 + r) % 64 ≡ r = omega (arith, e.1, and_le_l (left % 64) (left % 64 - 1)) in
        R.untried.0 t h ((has_and (left % 64) (left % 64 - 1) t).0 (rw (q, e.1) at i)).0

    few_above : Untried n d ((left / 64 * 64 + r) / 64)
    few_above =
        let q : (left / 64 * 64 + r) / 64 ≡ left / 64 = omega (arith, e.1, and_le_l (left % 64) (left % 64 - 1)) in
        rw q R.untried.1

    was : entry had ≡ M.need n P D (zip panels (picked d ((picks * 8 + j) / 8))) ((picks * 8 + j) % 8)
    was = rw (last, above) (held j j_few)

    rest : Replaced n P D panels d ((picks * 8 + j) / 8) (λ i. get_or (pushed had w.replaced) (suc i) 0)
    rest = rw above (replaced_same n P D panels d picks _ _ (λ i h. pushed_next had w.replaced i (omega arith)) R.replaced)

    pub fix_remembers : Remembers n P D panels (d + 1)
        (record { place = fix_at j r w.place; bounds = record { count = w.bounds.count; at = after }; replaced = Kept-back })
    fix_remembers = record {
      count = R.count;
      sized = rw a.is (sized_set w.bounds.at j a.word j_few R.sized);
      bounds = record { at = λ t ht. raised t ht ∙ ap (λ (l : M.Selection). M.need n P D l t) (sym fixed_more) };
      replaced = rw (p, add-one d) (rw last j_few, was, rest);
      untried = rw (add-one d) (few_left, few_above);
    }

  -- ---- the panel above goes on: the word that its trigger had is put back
  -- the panels above have asked at the other triggers what all have
  above_same : (d picks t : ℕ) → suc d ≤ f → ¬ (t ≡ picks % 8) →
      M.need n P D (zip panels (picked (suc d) picks)) t ≡ M.need n P D (zip panels (picked d (picks / 8))) t
  unfolding picked
  above_same d picks t h q =
      ap (λ (l : M.Selection). M.need n P D l t)
      (zip_more panels (picked d (picks / 8)) (picks % 8) (omega (arith, picked_length d (picks / 8), F.many))) ∙
      need_other n P D _ _ (picks % 8) t q

  back_bounds : (d picks : ℕ) (b : List ℕ) (had : ℕ → ℕ) → d ≤ f → ¬ (d ≡ 0) → length b ≡ 6 →
      HoldsV n (M.need n P D (zip panels (picked d picks))) b → Replaced n P D panels d picks had →
      HoldsV n (M.need n P D (zip panels (picked (d - 1) (picks / 8)))) (set b (picks % 8) (had 0))
  unfolding meant_v
  back_bounds zero picks b had h nz size H R = absurd (nz refl)
  back_bounds (suc d) picks b had h nz size H R =
      let e : suc d - 1 ≡ d = omega arith in rw e (record { at = λ t ht. go t ht (ℕ_discrete t (picks % 8)) })
    where
      go : (t : ℕ) → t < n → Dec (t ≡ picks % 8) → meant_v (set b (picks % 8) (had 0)) t ≡ M.need n P D (zip panels (picked d (picks / 8))) t
      go t ht (yes q) = rw q (ap entry (get_or-set_same b (picks % 8) (had 0) 0 (omega (arith, R.0, F.few, size))) ∙ R.1)
      go t ht (no q) = ap entry (get_or-set_other b (picks % 8) t (had 0) 0 q) ∙ H.at t ht ∙ above_same d picks t h q

  back_replaced : (d picks : ℕ) (s : List ℕ) → d ≤ size_limit → ¬ (d ≡ 0) → Replaced n P D panels d picks (λ i. get_or s i 0) →
      (picks % 8 < n) × Replaced n P D panels (d - 1) (picks / 8) (λ i. get_or (popped s) i 0)
  back_replaced zero picks s h nz R = absurd (nz refl)
  back_replaced (suc d) picks s h nz R =
      let e : suc d - 1 ≡ d = omega arith in
      (R.0, rw e (replaced_same n P D panels d (picks / 8) _ _ (λ i k. popped_next s i (omega arith)) R.2))

  -- the levels that stay open are those of left
  pub back_remembers : {w v : Walk} {left : ℕ} → w.place.depth ≤ f → f ≤ size_limit → ¬ (w.place.depth ≡ 0) →
      GivenUp (record { place = place_at w.place.depth w.place.fixings left w.place.picks; bounds = w.bounds; replaced = w.replaced }) v →
      {l : ℕ} → Remembers n P D panels l w → Untried n (suc (w.place.depth - 1)) left → Remembers n P D panels (suc v.place.depth) v
  back_remembers {w} hd hf nz g R few =
      let p = w.place in
      let back = back_replaced p.depth p.picks w.replaced (omega arith) nz R.replaced in
      record {
        count = g.count ∙ R.count;
        sized = rw g.back (sized_set w.bounds.at (p.picks % 8) (get_or w.replaced 0 0) back.0 R.sized);
        bounds = rw (g.place, g.back)
            (back_bounds p.depth p.picks w.bounds.at (λ i. get_or w.replaced i 0) hd nz R.sized.size R.bounds R.replaced);
        replaced = rw (g.place, g.rest) back.1;
        untried = rw g.place few;
      }

  -- on the way up the level below is closed; where every panel was fixed, none is open there
  pub few_up : (d left : ℕ) → ¬ (d ≡ 0) → Untried n (suc d) left → Untried n (suc (d - 1)) (left / 64)
  few_up zero left nz x = absurd (nz refl)
  few_up (suc d) left nz x = let e : suc d - 1 ≡ d = omega arith in rw e x.1

  pub few_given : (d left : ℕ) → ¬ (d ≡ 0) → Untried n d left → Untried n (suc (d - 1)) left
  few_given zero left nz x = absurd (nz refl)
  few_given (suc d) left nz x = let e : suc d - 1 ≡ d = omega arith in rw e x

  -- ---- the next panel's level is opened, whose mask is m
  pub down_remembers : {w : Walk} {m : ℕ} → w.place.depth < f → m < 64 → m ≡ mask_at kept gains (picked w.place.depth w.place.picks) →
      Remembers n P D panels w.place.depth w →
      Remembers n P D panels (suc w.place.depth) (record { place = down m w.place; bounds = w.bounds; replaced = w.replaced })
  down_remembers {w} {m} hd h e R =
      let a : (w.place.left * 64 + m) % 64 ≡ m = omega arith in
      let b : (w.place.left * 64 + m) / 64 ≡ w.place.left = omega arith in
      record {
        count = R.count;
        sized = R.sized;
        bounds = R.bounds;
        replaced = R.replaced;
        untried = (rw a (λ j k t. mask_few w.place.depth w.place.picks hd j k (rw e at t)), rw b R.untried);
      }

  -- ---- as many levels are open as there are
  pub whole_remembers : {w : Walk} → w.place.depth ≡ f → Remembers n P D panels w.place.depth w →
      Remembers n P D panels (levels f w.place) w
  whole_remembers {w} e R = rw (whole_resumed f w.place e).1 R

  pub inner_remembers : {w : Walk} → ¬ (w.place.depth ≡ f) → Remembers n P D panels (suc w.place.depth) w →
      Remembers n P D panels (levels f w.place) w
  inner_remembers {w} h R = rw (inner_resumed f w.place h).1 R
