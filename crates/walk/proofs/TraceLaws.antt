-- The fixings and the selections of a list of events, part by part.
use mathlib.Core.Path.{◌≡◌, refl, ap, ◌∙◌}
use mathlib.Core.List.{List, [], ◌∷◌, ◌++◌}
use Prim.Native.Nat.{ℕ, zero, suc, ◌+◌, ◌≤◌}
use native.Mathlib.Omega.{arith}
use lib.ListN.{length, length-append, length-replicate}
use Rattle.walk.specs.Trace.{Event, fixing, whole, selections, fixings}
use Rattle.walk.specs.State.{marks}

pub fixings_append : (a b : List Event) → fixings (a ++ b) ≡ fixings a + fixings b
unfolding fixings
fixings_append [] b = omega arith
fixings_append (fixing ∷ a) b = let r = fixings_append a b in omega arith
fixings_append (whole q ∷ a) b = fixings_append a b

pub selections_append : (a b : List Event) → selections (a ++ b) ≡ selections a ++ selections b
unfolding selections
selections_append [] b = refl
selections_append (fixing ∷ a) b = selections_append a b
selections_append (whole q ∷ a) b = ap (λ (l : List (List ℕ)). q ∷ l) (selections_append a b)

pub fixings_marks : (n : ℕ) → fixings (marks n) ≡ n
unfolding fixings
fixings_marks zero = refl
fixings_marks (suc n) = ap suc (fixings_marks n)

pub selections_marks : (n : ℕ) → selections (marks n) ≡ []
unfolding selections
selections_marks zero = refl
selections_marks (suc n) = selections_marks n

-- after n fixings
pub marked_fixings : (n : ℕ) (es : List Event) → fixings (marks n ++ es) ≡ n + fixings es
marked_fixings n es = fixings_append (marks n) es ∙ ap (λ (k : ℕ). k + fixings es) (fixings_marks n)

pub marked_selections : (n : ℕ) (es : List Event) → selections (marks n ++ es) ≡ selections es
marked_selections n es = selections_append (marks n) es ∙ ap (λ (l : List (List ℕ)). l ++ selections es) (selections_marks n)

pub marked_length : (n : ℕ) (es : List Event) → length (marks n ++ es) ≡ n + length es
marked_length n es = omega (arith, length-append (marks n) es, length-replicate n fixing)

pub selections_few : (es : List Event) → length (selections es) ≤ length es
unfolding selections
selections_few [] = omega arith
selections_few (fixing ∷ es) = let r = selections_few es in omega arith
selections_few (whole q ∷ es) = let r = selections_few es in omega arith
