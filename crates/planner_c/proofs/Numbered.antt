-- The number of each answer is that of its outcome: what is refused is one of `refusals`.
use mathlib.Core.Path.{◌≡◌, refl}
use mathlib.Core.List.{List}
use Prim.Native.Nat.{ℕ}
use lib.IntN.{ℤ}
use Rattle.refusals.specs.Numbers.{number}
use Rattle.refusals.proofs.NumberLaws.{Known, number_of}
use Rattle.sheet.specs.Meaning.{Timing}
use Rattle.planning.specs.Planning as planned
use Rattle.planning.specs.Planning.{planning, plan_answer, unplanned_number}
use Rattle.planning.proofs.PlanLaws as plan
use Rattle.keeping.specs.Keeping as kept
use Rattle.keeping.specs.Keeping.{keeping, kept_answer}
use Rattle.keeping.proofs.KeptLaws as keep
use Rattle.reaching.specs.Reaching as reached
use Rattle.reaching.specs.Reaching.{reaching, reach_answer}
use Rattle.reaching.proofs.ReachLaws as reach
use Rattle.hiring.specs.Hiring as hired
use Rattle.hiring.specs.Hiring.{hiring, hire_answer}
use Rattle.hiring.proofs.HireLaws as hire
use Rattle.answer_words.specs.Words.{number_by, plan_number, kept_number, reach_number, hire_number}

pub plan_numbered : (s : List ℕ) (space : List ℤ) → number_by unplanned_number (plan_answer (planning s space)) ≡ plan_number (planning s space)
plan_numbered s space = go (planning s space) (plan.refused_known s space)
  where
    go : (o : planned.PlanOutcome) → ((k : ℕ) → o ≡ planned.refused k → Known k) → number_by unplanned_number (plan_answer o) ≡ plan_number o
    go (planned.planned n b D k l caps L) f = refl
    go (planned.full w k) f = refl
    go (planned.refused k) f = number_of k (f k refl)

pub kept_numbered : (s : List ℕ) → number_by number (kept_answer (keeping s)) ≡ kept_number (keeping s)
kept_numbered s = go (keeping s) (keep.refused_known s)
  where
    go : (o : kept.KeptOutcome) → ((k : ℕ) → o ≡ kept.refused k → Known k) → number_by number (kept_answer o) ≡ kept_number o
    go (kept.kept D panels k l) f = refl
    go (kept.refused k) f = number_of k (f k refl)

pub reach_numbered : (s : List ℕ) (count : ℕ) (G : Timing) (space : List ℤ) →
    number_by unplanned_number (reach_answer (reaching s count G space)) ≡ reach_number (reaching s count G space)
reach_numbered s count G space = go (reaching s count G space) (reach.refused_known s count G space)
  where
    go : (o : reached.ReachOutcome) → ((k : ℕ) → o ≡ reached.refused k → Known k) → number_by unplanned_number (reach_answer o) ≡ reach_number o
    go (reached.reached n X caps L) f = refl
    go (reached.full w k) f = refl
    go (reached.refused k) f = number_of k (f k refl)

pub hire_numbered : (m n s room : ℕ) → number_by number (hire_answer (hiring m n s room)) ≡ hire_number (hiring m n s room)
hire_numbered m n s room = go (hiring m n s room) (hire.refused_known m n s room)
  where
    go : (o : hired.HireOutcome) → ((k : ℕ) → o ≡ hired.refused k → Known k) → number_by number (hire_answer o) ≡ hire_number o
    go (hired.hired t x) f = refl
    go (hired.refused k) f = number_of k (f k refl)
