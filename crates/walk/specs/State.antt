-- Where a walk stands, and what it still has to give from there. A place has six bits for each open level's untried triggers, and three for
-- the pick of each fixed one, the deepest level's lowest. Open are the fixed levels and, unless every panel is fixed, the one below them.
use Rattle.std.specs.Prelude.{◌≡◌, cond, List, [], ◌∷◌, ◌++◌, ℕ, zero, suc, ◌-◌, ◌/◌, ◌%◌, ◌^◌, ◌<◌, ◌≤◌, eqb, length, get_or, replicate}
use Rattle.trigger_sets.specs.Sets.{members}
use Rattle.walk.specs.Trace.{Event, fixing, whole, for_each, run, walk_of, selections, fixings}
use Rattle.walk.specs.declared.Place.{Place}
use Rattle.walk.specs.declared.Walk.{Walk}
use Rattle.walk.specs.declared.Counts.{Counts}
use Rattle.walk.specs.declared.Outcome.{Outcome}
use Rattle.walk.specs.declared.Outcome.TheVariants.{Selection, End}
use Rattle.cue.specs.Sizes.{size_limit}

-- n fixings
abbrev pub marks : ℕ → List Event
marks n = replicate n fixing

-- the picks of d levels, the first level's first
unfoldable pub picked : ℕ → ℕ → List ℕ
picked zero p = []
picked (suc d) p = picked d (p / 8) ++ p % 8 ∷ []

-- they are triggers, and there are no more
abbrev pub Triggers : ℕ → ℕ → Type 0
Triggers zero p = p ≡ 0
Triggers (suc d) p = (p % 8 < 6) × Triggers d (p / 8)

-- a place, and a state, put together
abbrev pub place_at : ℕ → ℕ → ℕ → ℕ → Place
place_at d n left picks = record { depth = d; fixings = n; left = left; picks = picks }

abbrev pub walk_at : ℕ → ℕ → ℕ → ℕ → ℕ → List ℕ → List ℕ → Walk
walk_at count d n left picks bounds replaced =
    record { place = place_at d n left picks; bounds = record { count = count; at = bounds }; replaced = replaced }

-- the deepest panel fixed gives up its trigger
abbrev pub given_up : Place → Place
given_up p = place_at (p.depth - 1) p.fixings p.left (p.picks / 8)

-- where the walk goes on from a state: where every panel is fixed, the last one gives up its trigger first
abbrev pub resumed : ℕ → Place → Place
resumed f p = cond (eqb p.depth f) (given_up p) p

-- how many levels are open
abbrev pub levels : ℕ → Place → ℕ
levels f p = cond (eqb p.depth f) p.depth (suc p.depth)

module _ (kept : List ℕ) (gains : List (List ℕ)) where
  -- a level whose untried triggers are m, below the fixings p; l levels come after it
  unfoldable pub level : ℕ → ℕ → List ℕ → List Event
  level l m p = for_each (members m) (λ j. fixing ∷ run kept gains l (p ++ j ∷ []))

  -- the d levels that are open, deepest first; l levels come after them
  unfoldable pub stack : ℕ → ℕ → ℕ → ℕ → List Event
  stack l zero left picks = []
  stack l (suc d) left picks = level l (left % 64) (picked d picks) ++ stack (suc l) d (left / 64) (picks / 8)

  module _ (f : ℕ) where
    -- what is still to be given from a place where a panel is to be tried
    unfoldable pub pending : Place → List Event
    pending p = stack (f - suc p.depth) (suc p.depth) p.left p.picks

    -- and from one where a panel has just been fixed
    unfoldable pub fixed : Place → List Event
    fixed p = run kept gains (f - p.depth) (picked p.depth p.picks) ++ pending (given_up p)

-- a place where a panel is to be tried
pub record Sound (f : ℕ) (p : Place) : Type 0 where
  pub few : f ≤ size_limit
  pub deep : p.depth < f
  pub small : p.left < 64 ^ suc p.depth
  pub inside : Triggers p.depth p.picks

-- one where a panel has just been fixed
pub record FixedSound (f : ℕ) (p : Place) : Type 0 where
  pub few : f ≤ size_limit
  pub some : 0 < p.depth
  pub deep : p.depth ≤ f
  pub small : p.left < 64 ^ p.depth
  pub inside : Triggers p.depth p.picks

abbrev pub Ended : Place → Type 0
Ended p = (p.depth ≡ 0) × (p.left % 64 ≡ 0)

-- what is left of the events es: the selection that the picks show comes first, and every panel is fixed; or nothing comes but the fixings
abbrev pub After : List ℕ → List (List ℕ) → ℕ → Outcome → Place → List Event → Type 0
After kept gains f Selection p es =
    FixedSound f p × (p.depth ≡ f) × (es ≡ marks p.fixings ++ whole (picked f p.picks) ∷ pending kept gains f (given_up p))
After kept gains f End p es = Sound f p × Ended p × (es ≡ marks p.fixings)

-- where the walk starts
abbrev pub start_of : List ℕ → ℕ → Walk
start_of kept count = walk_at count 0 0 (get_or kept 0 0) 0 (replicate 6 0) (replicate 6 0)

-- the walk's counts
abbrev pub counts_of : List ℕ → List (List ℕ) → ℕ → Counts
counts_of kept gains f = record {
  steps = fixings (walk_of kept gains f);
  selections = length (selections (walk_of kept gains f));
}
