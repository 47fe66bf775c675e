-- What the inner functions of comparing promise. Nothing public is stated here.
use Rattle.std.specs.Prelude.{Result, Ok, Err}
use Rattle.planning.specs.declared.CuePlan.{CuePlan}
use Rattle.planning.specs.declared.Unplanned.{Unplanned}

-- an answer of planning, the plan left out
abbrev pub unplanned_in : Result CuePlan Unplanned → Result Unit Unplanned
unplanned_in (Ok p) = Ok tt
unplanned_in (Err e) = Err e
