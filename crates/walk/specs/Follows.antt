-- When masks and words follow a sheet's tables P with n triggers, for D in the place of Δ (document 01, steps 4 and 5).
use Rattle.std.specs.Prelude.{◌≡◌, ◌&&◌, List, ℕ, ◌<◌, ◌≤◌, T, ltb, ℤ, length, get_or}
use Rattle.cue.specs.Cue.{Cue}
use Rattle.cue.specs.Method as M
use Rattle.trigger_sets.specs.Sets.{bit}
use Rattle.walk.specs.Trace.{serves}
use Rattle.cue.specs.Sizes.{size_limit}

module _ (n : ℕ) (P : Cue) (D : ℤ) (f : ℕ) (masks : List ℕ) (gains : List (List ℕ)) (panels : List ℕ) where
  -- panels are those with a floor, f of them; the masks are their kept triggers, and wherever the walk compares two words they stand in
  -- the order of d(i,j) − p(i)
  pub record Follows : Type 0 where
    pub floors : panels ≡ M.floor_panels n P
    pub many : length panels ≡ f
    pub few : n ≤ size_limit
    pub small : (l : ℕ) → get_or masks l 0 < 64
    pub bits : (l j : ℕ) → l < f → j < 6 → bit (get_or masks l 0) j ≡ (ltb j n && M.kept n P D (get_or panels l 0) j)
    pub order : (l k j : ℕ) → l < k → k < f → j < n →
        T (M.kept n P D (get_or panels l 0) j) → T (M.kept n P D (get_or panels k 0) j) →
        serves gains l j k ≡ M.serves_as_well n P (get_or panels l 0) j (get_or panels k 0)
