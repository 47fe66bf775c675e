-- What planning returns and leaves in the lent space (document 01, "What each operation may refuse").
use Rattle.std.specs.Prelude.{List, Bool, cond, ℕ, ◌/◌, leb, ℤ, pos, length, Result, Ok, Err}
use Rattle.std.proofs.Math.Option.{Option}
use Rattle.maxplus.specs.Finite.{byte_of}
use Rattle.maxplus.specs.Line.{Line}
use Rattle.cue.specs.Written.{width, with_list}
use Rattle.sheet.specs.Sheet.{Got, got, Sheet, spare}
use Rattle.sheet.specs.Cue.{sheet_least, sheet_steps, sheet_selections, sheet_caps, sheet_lines}
use Rattle.sheet.specs.Ordered.{ordered}
use Rattle.refusals.specs.Numbers.{number, refusal_of}
use Rattle.planning.specs.declared.CuePlan.{CuePlan}
use Rattle.planning.specs.declared.Extent.{Extent}
use Rattle.planning.specs.declared.Unplanned.{Unplanned}
use Rattle.planning.specs.declared.Unplanned.TheVariants.{Refused, NoRoom}
use Rattle.sheet.specs.Sheet as sheet

-- "A success returns Δ, steps, selections and count", and which triggers are spare (document 02, No. 4); where the sheet has a last line each line
-- has a cap (No. 5)
pub data PlanOutcome : Type 0 where
  planned : (triggers : ℕ) (spare : ℕ → Bool) (deviation : ℤ) (steps selections : ℕ) → Option (Line triggers → ℤ) → List (Line triggers) →
      PlanOutcome
  full : (wide count : ℕ) → PlanOutcome
  refused : ℕ → PlanOutcome

-- "Reading's, 8, then 9: the list has more lines than the lent space holds; it also returns the count needed", where there is room for so many
-- lines of so many words each
abbrev pub plan_of : (room : ℕ → ℕ) → Got Sheet → PlanOutcome
plan_of room (sheet.refused k) = refused k
plan_of room (got t r) =
    let L = sheet_lines t in
    let wide = width (sheet_caps t) in
    cond (leb (length L) (room wide))
    (planned t.triggers (spare t) (sheet_least t) (sheet_steps t) (sheet_selections t) (sheet_caps t) L)
    (full wide (length L))

unfoldable pub planning : List ℕ → List ℤ → PlanOutcome
planning s space = plan_of (λ wide. length space / wide) (ordered s)

-- "writes exactly the list at the front of the space and leaves the rest"; "A refusal … changes no lent byte or word."
unfoldable pub space_after : PlanOutcome → List ℤ → List ℤ
space_after (planned n s D k l caps L) space = with_list n caps L space
space_after (full w k) space = space
space_after (refused k) space = space

-- the answer in a program: the outcome's numbers, the sheet's number of triggers, the spares as "a byte, bit 0 for trigger 1", and how many words
-- a line takes; or the refusal, 9 with the count needed and the words of a line
abbrev pub plan_answer : PlanOutcome → Result CuePlan Unplanned
plan_answer (planned n s D k l caps L) =
    Ok (record { triggers = n; spares = byte_of n s; deviation = D; steps = k; selections = l; width = width caps; count = length L })
plan_answer (full w k) = Err (NoRoom (record { count = k; width = w }))
plan_answer (refused k) = Err (Refused (refusal_of k))

-- the number by which it goes outside that there is no plan, and how much is needed: nothing is known of it but with 9
abbrev pub unplanned_number : Unplanned → ℕ
unplanned_number (Refused r) = number r
unplanned_number (NoRoom extent) = 9

abbrev pub needed : Unplanned → Extent
needed (Refused r) = record { count = 0; width = 0 }
needed (NoRoom extent) = extent

-- the plan that is returned; all 0 where there is none
abbrev pub plan_in : Result CuePlan Unplanned → CuePlan
plan_in (Ok p) = p
plan_in (Err e) = record { triggers = 0; spares = 0; deviation = pos 0; steps = 0; selections = 0; width = 0; count = 0 }

-- how much planning writes, or with 9 needs
abbrev pub extent_of : Result CuePlan Unplanned → Extent
extent_of (Ok p) = record { count = p.count; width = p.width }
extent_of (Err e) = needed e
