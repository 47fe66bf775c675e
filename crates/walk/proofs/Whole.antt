-- The whole walk: that cutting at once and cutting late come to the same, how long it is at most, and how it starts.
use mathlib.Core.Path.{◌≡◌, refl, sym, ap, ap₂, fun_ext, ◌∙◌}
use mathlib.Core.List.{List, [], ◌∷◌, ◌++◌, append-nil}
use mathlib.Core.Logic.{inr}
use Prim.Native.Nat.{ℕ, zero, suc, ◌+◌, ◌-◌, ◌*◌, ◌%◌, ◌<◌, ◌≤◌}
use native.Mathlib.Omega.{arith}
use native.Mathlib.Nat.{suc-mul}
use lib.Dec.{leb, leb→le}
use lib.ListN.{length, get_or, length-append}
use Rattle.trigger_sets.specs.Sets.{members}
use Rattle.walk.specs.Trace.{Event, fixing, for_each, cut, serves, narrow, mask_at, run, walk_from, walk_of, Masks}
use Rattle.walk.specs.State.{picked, level, stack, pending, resumed, start_of}
use Rattle.walk.specs.Steps.{StepReady}
use Rattle.trigger_sets.proofs.Tests.{all_at}
use Rattle.trigger_sets.proofs.MemberLaws.{members_few}
use Rattle.walk.proofs.Walking.{inner_resumed}
use Rattle.cue.specs.Sizes.{size_limit}

pub for_each_same : (js : List ℕ) (g h : ℕ → List Event) → ((j : ℕ) → g j ≡ h j) → for_each js g ≡ for_each js h
unfolding for_each
for_each_same [] g h e = refl
for_each_same (j ∷ js) g h e = ap₂ ◌++◌ (e j) (for_each_same js g h e)

-- ---- cutting late: the masks after the fixings q are the kept ones narrowed by q, one after the other. So it is the same whether a fixing
-- cuts every later mask at once, or a level's mask is cut by all the fixings above it when the level is come to.
narrow_more : (gains : List (List ℕ)) (k j : ℕ) (q : List ℕ) (i m : ℕ) →
    narrow gains k (q ++ j ∷ []) i m ≡ cut j (serves gains (i + length q) j k) (narrow gains k q i m)
unfolding narrow
narrow_more gains k j [] i m = let e : i + 0 ≡ i = omega arith in rw e
narrow_more gains k j (x ∷ q) i m =
    let e : i + suc (length q) ≡ suc i + length q = omega arith in
    rw e (narrow_more gains k j q (suc i) (cut x (serves gains i x k) m))

module _ (kept : List ℕ) (gains : List (List ℕ)) where
  -- the masks after the fixings q
  abbrev left : List ℕ → ℕ → ℕ
  left q k = narrow gains k q 0 (get_or kept k 0)

  left_more : (q : List ℕ) (j : ℕ) →
      ◌≡◌ {A = ℕ → ℕ} (λ k. cut j (serves gains (length q) j k) (left q k)) (left (q ++ j ∷ []))
  left_more q j = fun_ext (λ k. let e : 0 + length q ≡ length q = omega arith in sym (rw e at (narrow_more gains k j q 0 (get_or kept k 0))))

  late : (l : ℕ) (q : List ℕ) → walk_from gains l (length q) (left q) q ≡ run kept gains l q
  unfolding walk_from run mask_at
  late zero q = refl
  late (suc l) q = for_each_same (members (left q (length q))) _ _ (λ j. ap (λ (es : List Event). fixing ∷ es)
      (let e : length (q ++ j ∷ []) ≡ suc (length q) = length-append q (j ∷ []) ∙ omega arith in
      rw (left_more q j, ← e) (late l (q ++ j ∷ []))))

  walk_run : (f : ℕ) → walk_of kept gains f ≡ run kept gains f []
  unfolding walk_of narrow
  walk_run f = late f []

-- ---- how many events there are at most
pub for_each_few : (c b : ℕ) (js : List ℕ) (g : ℕ → List Event) → length js ≤ c → ((j : ℕ) → length (g j) ≤ b) →
    length (for_each js g) ≤ c * b
unfolding for_each
for_each_few c b [] g h k = omega arith
for_each_few zero b (j ∷ js) g h k = let e : ⊥ = omega arith in absurd e
for_each_few (suc c) b (j ∷ js) g h k =
    let r = for_each_few c b js g (omega arith) k in
    omega (arith, suc-mul c b, k j, length-append (g j) (for_each js g))

unfoldable pub most : ℕ → ℕ
most zero = 1
most (suc l) = 6 * suc (most l)

-- a walk of l levels
pub levels_few : (gains : List (List ℕ)) (l i : ℕ) (o : ℕ → ℕ) (q : List ℕ) → length (walk_from gains l i o q) ≤ most l
unfolding walk_from most
levels_few gains zero i o q = omega arith
levels_few gains (suc l) i o q = for_each_few 6 (suc (most l)) (members (o i)) _ (members_few (o i))
    (λ j. let r = levels_few gains l (suc i) (λ k. cut j (serves gains i j k) (o k)) (q ++ j ∷ []) in omega arith)

pub most_few : (f : ℕ) → f < 7 → most f ≤ 102642
unfolding most
most_few f h = leb→le (most f) 102642 (all_at (λ f. leb (most f) 102642) 7 tt f h)

pub walk_few : (kept : List ℕ) (gains : List (List ℕ)) (f : ℕ) → f ≤ size_limit → length (walk_of kept gains f) ≤ 102642
unfolding walk_of
walk_few kept gains f h = omega (arith, levels_few gains f 0 (λ k. get_or kept k 0) [], most_few f (omega arith))

-- ---- the start
module _ (kept : List ℕ) (gains : List (List ℕ)) (f c : ℕ) (h : 0 < f) where
  start_run : Masks kept → pending kept gains f (start_of kept c).place ≡ run kept gains f []
  unfolding pending stack level run mask_at narrow picked
  start_run s = go f h
    where
      go : (f : ℕ) → 0 < f → pending kept gains f (start_of kept c).place ≡ run kept gains f []
      go zero h = let e : ⊥ = omega arith in absurd e
      go (suc l) h =
          let e : suc l - 1 ≡ l = omega arith in
          let z : get_or kept 0 0 % 64 ≡ get_or kept 0 0 = omega (arith, s 0) in
          rw (e, z) (append-nil (level kept gains l (get_or kept 0 0) []))

  resumed_start : resumed f (start_of kept c).place ≡ (start_of kept c).place
  resumed_start = (inner_resumed f (start_of kept c).place (λ e. let z : ⊥ = omega (arith, h, e) in z)).0

  -- at the start the whole walk is pending
  pub start_pending : Masks kept → pending kept gains f (resumed f (start_of kept c).place) ≡ walk_of kept gains f
  start_pending s = ap (pending kept gains f) resumed_start ∙ start_run s ∙ sym (walk_run kept gains f)

  pub start_ready : f ≤ size_limit → Masks kept → StepReady kept gains f (start_of kept c).place
  start_ready k s = record {
    stands = inr (record { few = k; deep = h; small = s 0; inside = omega arith });
    masks = s;
    room = rw (start_pending s) (omega (arith, walk_few kept gains f k));
  }
