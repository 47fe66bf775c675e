-- The words that C is given: each answer at the front of the words that the caller has for it, and the number returned.
use Rattle.std.specs.Prelude.{List, [], ◌∷◌, ◌++◌, true, false, cond, ℕ, ◌+◌, eqb, ℤ, pos, get_or, Result, Ok, Err}
use Rattle.std.proofs.lemmas.List.Edits.{sets}
use Rattle.maxplus.specs.Finite.{each}
use Rattle.cue.specs.Sizes.{six}
use Rattle.timing.specs.Times.{component}
use Rattle.testing.specs.Testing.{TestOutcome, answer, refused}
use Rattle.refusals.specs.declared.Refusal.{Refusal}
use Rattle.keeping.specs.Keeping as keeping
use Rattle.keeping.specs.declared.KeptTable.{KeptTable}
use Rattle.planning.specs.Planning as planning
use Rattle.planning.specs.Planning.{unplanned_number, needed}
use Rattle.planning.specs.declared.CuePlan.{CuePlan}
use Rattle.planning.specs.declared.Extent.{Extent}
use Rattle.planning.specs.declared.Unplanned.{Unplanned}
use Rattle.comparing.specs.Comparing.{Comparison, unlike, first_refused, second_refused}
use Rattle.comparing.specs.Comparing as comparison
use Rattle.reaching.specs.Reaching as reaching
use Rattle.reaching.specs.declared.Reached.{Reached}
use Rattle.hiring.specs.Hiring as hiring
use Rattle.hiring.specs.declared.Hired.{Hired}

-- Words are stored from a place on; one that is past the end is dropped, and the rest stays (`sets`). The words of an answer are results,
-- which C can return by a pointer only, and not lent space: document 01's "leaves the rest" and "changes no lent byte or word" are about that.

-- for 9 "the count needed" and how many words a line takes, each at its place; for any other refusal nothing
unfoldable pub room_words : (at wide_at number count wide : ℕ) → List ℤ → List ℤ
room_words at wide_at k c w lent = cond (eqb k 9) (sets (sets lent at (pos c ∷ [])) wide_at (pos w ∷ [])) lent

-- deviation, steps, selections, count, the byte of spares and how many words a line takes; for 9 count and words in their places
unfoldable pub plan_words : Result CuePlan Unplanned → List ℤ → List ℤ
plan_words (Ok p) lent = sets lent 0 (p.deviation ∷ pos p.steps ∷ pos p.selections ∷ pos p.count ∷ pos p.spares ∷ pos p.width ∷ [])
plan_words (Err e) lent = room_words 3 5 (unplanned_number e) (needed e).count (needed e).width lent

-- byte and count for each of the first panels
unfoldable pub pairs : ℕ → List ℕ → List ℕ → List ℤ
pairs panels bytes counts = each panels (λ i. pos (get_or bytes i 0) ∷ pos (get_or counts i 0) ∷ [])

-- deviation, steps, selections, panels, and byte and count for each of six panels; for a refusal nothing
unfoldable pub kept_words : Result KeptTable Refusal → List ℤ → List ℤ
kept_words (Ok t) lent = sets lent 0 (t.deviation ∷ pos t.steps ∷ pos t.selections ∷ pos t.panels ∷ pairs 6 t.kept t.counts)
kept_words (Err r) lent = lent

-- 0, or the number of an error
abbrev pub number_by : {A E : Type 0} → (E → ℕ) → Result A E → ℕ
number_by f (Ok a) = 0
number_by f (Err e) = f e

-- 0, or the number of the refusal
abbrev pub plan_number : planning.PlanOutcome → ℕ
plan_number (planning.planned n s D k l caps L) = 0
plan_number (planning.full w k) = 9
plan_number (planning.refused k) = k

abbrev pub kept_number : keeping.KeptOutcome → ℕ
kept_number (keeping.kept D panels k l) = 0
kept_number (keeping.refused k) = k

abbrev pub reach_number : reaching.ReachOutcome → ℕ
reach_number (reaching.reached n X caps L) = 0
reach_number (reaching.full w k) = 9
reach_number (reaching.refused k) = k

abbrev pub hire_number : hiring.HireOutcome → ℕ
hire_number (hiring.hired t x) = 0
hire_number (hiring.refused k) = k

-- 100 for yes, 101 for no, past every refusal
abbrev pub test_number : TestOutcome → ℕ
test_number (answer true) = 100
test_number (answer false) = 101
test_number (refused k) = k

-- 100 for the same timings, 101 for others, 102 for other numbers of triggers or other spares; the first sheet's refusal, or 200 more than the second's
abbrev pub compare_number : Comparison → ℕ
compare_number (comparison.answer true a b) = 100
compare_number (comparison.answer false a b) = 101
compare_number (unlike a b) = 102
compare_number (first_refused k a) = k
compare_number (second_refused k b) = 200 + k

-- the numbers of lines written, the first sheet's and the second's, and how many words a line of each takes; for 9 those needed, in their places
unfoldable pub written_words : (first second : Extent) → List ℤ → List ℤ
written_words a b lent = sets lent 0 (pos a.count ∷ pos b.count ∷ pos a.width ∷ pos b.width ∷ [])

abbrev pub compare_words : Comparison → List ℤ → List ℤ
compare_words (comparison.answer s a b) lent = written_words a b lent
compare_words (unlike a b) lent = written_words a b lent
compare_words (first_refused k a) lent = room_words 0 2 k a.count a.width lent
compare_words (second_refused k b) lent = room_words 1 3 k b.count b.width lent

-- the number of lines, the timing's six components, 0 for the unused ones, and how many words a line takes; for 9 count and words in their
-- places
unfoldable pub reach_words : Result Reached Unplanned → List ℤ → List ℤ
reach_words (Ok r) lent = sets lent 0 (pos r.count ∷ six (component r.timing.at) ++ (pos r.width ∷ []))
reach_words (Err e) lent = room_words 0 7 (unplanned_number e) (needed e).count (needed e).width lent

-- how many bytes were written, and the next state; for a refusal nothing (document 02, No. 6)
unfoldable pub hire_words : Result Hired Refusal → List ℤ → List ℤ
hire_words (Ok r) lent = sets lent 0 (pos r.length ∷ pos r.state ∷ [])
hire_words (Err e) lent = lent
