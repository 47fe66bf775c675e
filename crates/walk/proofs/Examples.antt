-- Small walks, computed.
use mathlib.Core.Path.{◌≡◌, refl}
use mathlib.Core.List.{[], ◌∷◌}
use Rattle.trigger_sets.specs.Sets.{bits_from, members}
use Rattle.walk.specs.Trace.{fixing, whole, for_each, walk_from, walk_of, selections, fixings}
use Rattle.walk.specs.State.{counts_of}

-- document 01's whole case, from its kept masks and its numbers d(i,j) − p(i) with 100 added
whole_case : walk_of (1 ∷ 3 ∷ []) ((97 ∷ 95 ∷ []) ∷ (102 ∷ 99 ∷ []) ∷ []) 2 ≡ fixing ∷ fixing ∷ whole (0 ∷ 0 ∷ []) ∷ []
unfolding walk_of walk_from for_each members bits_from
whole_case = refl

-- two panels and two triggers, all kept: equal words cut, smaller ones below do not
equal_cuts : counts_of (3 ∷ 3 ∷ []) ((9 ∷ 9 ∷ []) ∷ (9 ∷ 9 ∷ []) ∷ []) 2 ≡ record { steps = 4; selections = 2 }
unfolding walk_of walk_from for_each members bits_from selections fixings
equal_cuts = refl

smaller_stays : counts_of (3 ∷ 3 ∷ []) ((9 ∷ 9 ∷ []) ∷ (8 ∷ 8 ∷ []) ∷ []) 2 ≡ record { steps = 6; selections = 4 }
unfolding walk_of walk_from for_each members bits_from selections fixings
smaller_stays = refl
