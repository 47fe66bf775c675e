-- What the program writes (document 01, "Whole case"): on standard output a plan or a refusal; on standard error nothing for a plan, a sentence for
-- a refusal.
use Rattle.std.specs.Prelude.{List, [], ℕ}
use Rattle.sheet.specs.Ordered.{ordered}
use Rattle.writing.specs.Texts.{plan_text, full_text, refusal_text}
use Rattle.advice.specs.Advice.{advice}
use Rattle.refusals.specs.Numbers.{number}
use Rattle.planning.specs.Planning.{PlanOutcome, planned, full, refused, plan_of}
use Rattle.planning.specs.declared.Unplanned.{Unplanned}
use Rattle.planning.specs.declared.Unplanned.TheVariants.{Refused, NoRoom}

unfoldable pub text : PlanOutcome → List ℕ
text (planned n s D k l caps L) = plan_text n s D k l caps L
text (full w k) = full_text k
text (refused k) = refusal_text k

-- the text where there is no plan
abbrev pub unplanned_text : Unplanned → List ℕ
unplanned_text (Refused r) = refusal_text (number r)
unplanned_text (NoRoom needed) = full_text needed.count

abbrev pub complaint : PlanOutcome → List ℕ
complaint (planned n s D k l caps L) = []
complaint (full w k) = advice 9
complaint (refused k) = advice k

-- "The program lends space for 2,000 lines", of seven words or of eight.
abbrev pub program_plan : List ℕ → PlanOutcome
program_plan s = plan_of (λ wide. 2000) (ordered s)

unfoldable pub program_text : List ℕ → List ℕ
program_text s = text (program_plan s)

unfoldable pub program_complaint : List ℕ → List ℕ
program_complaint s = complaint (program_plan s)
