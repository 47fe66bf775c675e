-- Document 02's No. 1, stated about what reaching returns and leaves: from the bytes of a sheet to the timing and the words.
use Rattle.std.specs.Prelude.{◌≡◌, ◌↔◌, List, Bool, ℕ, ◌<◌, ℤ}
use Rattle.sheet.specs.Sheet.{got, Sheet, read}
use Rattle.sheet.specs.Meaning.{Timing, Keeps, Latest}
use Rattle.timing.specs.Times.{component}
use Rattle.testing.specs.Testing.{testing}
use Rattle.testing.specs.Testing as tested
use Rattle.planning.specs.Planning.{planning, space_after, plan_answer, extent_of}
use Rattle.planning.specs.Planning as planned
use Rattle.planning.specs.Demands.{Planned}
use Rattle.reaching.specs.Reaching.{ReachOutcome, reached, full, refused, reaching, reached_space, reach_answer, reached_in, reach_extent}

-- a timing was reached; the one that is returned
abbrev pub Succeeds : ReachOutcome → Type 0
Succeeds (reached n X caps L) = Unit {0}
Succeeds (full w k) = ⊥
Succeeds (refused k) = ⊥

abbrev pub timing_reached : ReachOutcome → Timing
timing_reached o = component (reached_in (reach_answer o)).timing.at

-- the timing returned is the latest, any that is the latest is the one returned, and the list is planning's
pub record Reaches (s : List ℕ) (t : Sheet) (G : Timing) (space : List ℤ) (o : ReachOutcome) : Type 0 where
  pub latest : Latest t G (timing_reached o)
  pub only : (X : Timing) → Latest t G X → (j : ℕ) → j < t.triggers → X j ≡ timing_reached o j
  pub planned : Planned (planning s space)
  pub width : (reach_extent (reach_answer o)).width ≡ (extent_of (plan_answer (planning s space))).width
  pub count : (reach_extent (reach_answer o)).count ≡ (extent_of (plan_answer (planning s space))).count
  pub list : reached_space o space ≡ space_after (planning s space) space

-- "One always exists": of a sheet that is read and whose order can be kept, whatever timing is given
abbrev pub OneExists : Type 0
OneExists = (s : List ℕ) (t : Sheet) (r : List ℕ) → read s ≡ got t r → ((X : Timing) × Keeps t X) → (G : Timing) → (X : Timing) × Latest t G X

abbrev pub Request1 : Type 0
Request1 = (s : List ℕ) (t : Sheet) (r : List ℕ) (count : ℕ) (G : Timing) (space : List ℤ) → read s ≡ got t r →
    Succeeds (reaching s count G space) → Reaches s t G space (reaching s count G space)

-- "The refusals are those of testing, in that order, then 9": whatever the space, testing's exactly where testing refuses, with the same
-- number; 9 exactly where testing answers and planning has no room, with the same count
pub record Refusals (s : List ℕ) (count : ℕ) (G : Timing) (space : List ℤ) : Type 0 where
  pub of_testing : (k : ℕ) → (reaching s count G space ≡ refused k) ↔ (testing s count G ≡ tested.refused k)
  pub then_nine : (w k : ℕ) → (reaching s count G space ≡ full w k) ↔
      (((b : Bool) × (testing s count G ≡ tested.answer b)) × (planning s space ≡ planned.full w k))

abbrev pub ThoseOfTesting : Type 0
ThoseOfTesting = (s : List ℕ) (count : ℕ) (G : Timing) (space : List ℤ) → Refusals s count G space
