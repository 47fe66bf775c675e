-- What the inner functions of planning promise. Nothing public is stated here.
use Rattle.std.specs.Prelude.{◌≡◌, List, ℤ, Result}
use Rattle.planning.specs.Planning.{PlanOutcome, space_after, plan_answer}
use Rattle.planning.specs.declared.CuePlan.{CuePlan}
use Rattle.planning.specs.declared.Unplanned.{Unplanned}

-- a planning returns and leaves what its outcome says
pub record Does (o : PlanOutcome) (before after : List ℤ) (r : Result CuePlan Unplanned) : Type 0 where
  pub answer : r ≡ plan_answer o
  pub written : after ≡ space_after o before
