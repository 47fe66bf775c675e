-- `rays::join` meets its contract.
use native.Mathlib.Omega.{arith}
use Rattle.rays.proofs.RayLaws.{joined_covered, joined_new}
use Rattle.rays.proofs.join.Goals as goal

pub returns-then-covered : goal.returns-then-covered
returns-then-covered c = joined_covered (omega arith) (rw c.if-covered.true at c.covered.ensures)

pub returns : goal.returns
returns c = joined_new c.requires (rw c.if-covered.false at c.covered.ensures) c.thin.ensures
