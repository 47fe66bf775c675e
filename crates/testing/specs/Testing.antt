-- What testing a timing returns (document 01, "What each operation may refuse").
use Rattle.std.specs.Prelude.{Bool, List, ℕ, Result, Ok, Err}
use Rattle.std.proofs.Math.Bool.{decide}
use Rattle.sheet.specs.Meaning.{Timing}
use Rattle.sheet.specs.Sheet.{Got, got, Sheet}
use Rattle.sheet.specs.Sheet as sheet
use Rattle.sheet.specs.Admitted.{admitted}
use Rattle.sheet.proofs.Decided.{tightest?}
use Rattle.refusals.specs.Numbers.{number}
use Rattle.refusals.specs.declared.Refusal.{Refusal}

pub data TestOutcome : Type 0 where
  answer : Bool → TestOutcome
  refused : ℕ → TestOutcome

-- "Reading's, then 10 …; 11 …; then 8. Otherwise" the answer
abbrev pub tests : Got Sheet → Bool → TestOutcome
tests (sheet.refused k) b = refused k
tests (got t r) b = answer b

-- "yes exactly when the timing is tightest, else no"; with document 02's No. 5 it also has to meet every last moment
unfoldable pub testing : List ℕ → ℕ → Timing → TestOutcome
testing s count X = tests (admitted s count X) (decide (tightest? s X))

-- the outcome that each answer of the program stands for
abbrev pub test_answer : Result Bool Refusal → TestOutcome
test_answer (Ok b) = answer b
test_answer (Err r) = refused (number r)
