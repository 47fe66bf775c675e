-- Comparing two sheets: what is answered, and what is left in the two spaces. Demand 3 is "one claim about two plannings, from the bytes of
-- each sheet to the list written, whatever the space held before"; its other side is "that every timing is tightest on both sheets or on
-- neither". The answer says this other side, caps and last moments left out; that the code finds it by the two lists is demand 3.
use Rattle.std.specs.Prelude.{List, Bool, true, false, cond, not, ◌||◌, ℕ, eqb, ℤ, Result, Ok, Err}
use Rattle.std.proofs.Math.Bool.{decide}
use Rattle.sheet.proofs.Decided.{alike?}
use Rattle.planning.specs.Planning.{PlanOutcome, planned, full, refused, planning, space_after, plan_answer}
use Rattle.planning.specs.Planning.{unplanned_number, needed, extent_of}
use Rattle.planning.specs.declared.CuePlan.{CuePlan}
use Rattle.planning.specs.declared.Extent.{Extent}
use Rattle.planning.specs.declared.Unplanned.{Unplanned}
use Rattle.comparing.specs.declared.Compared.{Compared}
use Rattle.comparing.specs.declared.Compared.TheVariants.{Same, Different, Unlike}
use Rattle.comparing.specs.declared.Uncompared.{Uncompared}
use Rattle.comparing.specs.declared.Uncompared.TheVariants.{First, Second}

-- whether the same timings are tightest, for sheets with equal numbers of triggers, the same of them spare; or that these differ ("Two sheets
-- may be compared for equal lists only where the same triggers are spare"). With either goes how much stands in each space, the number of lines
-- and how many words a line takes: "Any later operation that writes also … returns how much it wrote". Or the first refusal, with as much as is
-- needed where it is 9
pub data Comparison : Type 0 where
  answer : (same : Bool) (first second : Extent) → Comparison
  unlike : (first second : Extent) → Comparison
  first_refused : (number : ℕ) (needed : Extent) → Comparison
  second_refused : (number : ℕ) (needed : Extent) → Comparison

-- the outcome that each answer of the program stands for
abbrev pub compare_answer : Result Compared Uncompared → Comparison
compare_answer (Ok (Same a b)) = answer true a b
compare_answer (Ok (Different a b)) = answer false a b
compare_answer (Ok (Unlike a b)) = unlike a b
compare_answer (Err (First e)) = first_refused (unplanned_number e) (needed e)
compare_answer (Err (Second e)) = second_refused (unplanned_number e) (needed e)

-- planning's refusals, the first sheet's before the second's; otherwise the answer
abbrev pub compares : Result CuePlan Unplanned → Result CuePlan Unplanned → Bool → Comparison
compares (Err e) q same = first_refused (unplanned_number e) (needed e)
compares (Ok p) (Err e) same = second_refused (unplanned_number e) (needed e)
compares (Ok p) (Ok q) same =
    cond (not (eqb p.triggers q.triggers) || not (eqb p.spares q.spares)) (unlike (extent_of (Ok p)) (extent_of (Ok q)))
    (answer same (extent_of (Ok p)) (extent_of (Ok q)))

-- "exactly when every timing is tightest on both or on neither"
unfoldable pub comparing : (first second : List ℕ) (left right : List ℤ) → Comparison
comparing s₁ s₂ left right = compares (plan_answer (planning s₁ left)) (plan_answer (planning s₂ right)) (decide (alike? s₁ s₂))

-- a space afterwards: as planning leaves it, and as it was where the other sheet is refused, since "a refusal … changes no lent byte or word"
unfoldable pub compared_space : (own other : PlanOutcome) → List ℤ → List ℤ
compared_space o (planned n s D k l caps L) space = space_after o space
compared_space o (full w k) space = space
compared_space o (refused k) space = space
