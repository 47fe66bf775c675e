-- The walk over masks as the list of what happens in it. Level l is the l-th panel with a floor.
use Rattle.std.specs.Prelude.{Bool, cond, List, [], ◌∷◌, ◌++◌, ℕ, zero, suc, ◌^◌, ◌<◌, leb, length, get_or}
use Rattle.trigger_sets.specs.Sets.{bit, members}

-- a trigger is fixed; a selection is whole
pub data Event : Type 0 where
  fixing : Event
  whole : List ℕ → Event

-- every mask has six bits
abbrev pub Masks : List ℕ → Type 0
Masks kept = (k : ℕ) → get_or kept k 0 < 64

unfoldable pub for_each : List ℕ → (ℕ → List Event) → List Event
for_each [] g = []
for_each (j ∷ js) g = g j ++ for_each js g

-- what fixing trigger j leaves of a later panel's mask m, where it serves as well or not
abbrev pub cut : ℕ → Bool → ℕ → ℕ
cut j s m = cond (bit m j) (cond s (2 ^ j) m) m

-- words in the order of the numbers d(i,j) − p(i)
module _ (gains : List (List ℕ)) where
  abbrev pub gain : ℕ → ℕ → ℕ
  gain i j = get_or (get_or gains i []) j 0

  -- "d(k,j) − p(k) ≥ d(i,j) − p(i)"
  abbrev pub serves : ℕ → ℕ → ℕ → Bool
  serves i j k = leb (gain i j) (gain k j)

  -- The walk as document 01 words it: fixing (i, j) cuts the masks o of the later panels at once. l levels are left, from level i on; q are
  -- the triggers fixed.
  unfoldable pub walk_from : ℕ → ℕ → (ℕ → ℕ) → List ℕ → List Event
  walk_from zero i o q = whole q ∷ []
  walk_from (suc l) i o q =
      for_each (members (o i)) (λ j. fixing ∷ walk_from l (suc i) (λ k. cut j (serves i j k) (o k)) (q ++ j ∷ []))

  -- level k's mask m after the levels from i on were fixed at the triggers q
  unfoldable pub narrow : ℕ → List ℕ → ℕ → ℕ → ℕ
  narrow k [] i m = m
  narrow k (j ∷ q) i m = narrow k q (suc i) (cut j (serves i j k) m)

-- the kept masks of the levels
module _ (kept : List ℕ) (gains : List (List ℕ)) where
  -- the whole walk over f levels
  unfoldable pub walk_of : ℕ → List Event
  walk_of f = walk_from gains f 0 (λ k. get_or kept k 0) []

  -- the triggers left to the level after those fixed at q
  unfoldable pub mask_at : List ℕ → ℕ
  mask_at q = narrow gains (length q) q 0 (get_or kept (length q) 0)

  -- what happens below the fixings q, with l levels left: the same walk, each mask cut late, when its level is come to
  unfoldable pub run : ℕ → List ℕ → List Event
  run zero q = whole q ∷ []
  run (suc l) q = for_each (members (mask_at q)) (λ j. fixing ∷ run l (q ++ j ∷ []))

-- the selections of a walk, and its fixings
unfoldable pub selections : List Event → List (List ℕ)
selections [] = []
selections (fixing ∷ es) = selections es
selections (whole q ∷ es) = q ∷ selections es

unfoldable pub fixings : List Event → ℕ
fixings [] = 0
fixings (fixing ∷ es) = suc (fixings es)
fixings (whole q ∷ es) = fixings es
