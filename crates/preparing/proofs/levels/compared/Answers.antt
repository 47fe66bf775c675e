-- `marks::levels::compared` meets its contract. The rows passed are written. Assumes nothing.
use native.Mathlib.Omega.{arith}
use Rattle.tables.specs.Held.{meant, meant_v}
use Rattle.tables.proofs.Loops.{filled_more}
use Rattle.preparing.proofs.LevelLaws.{gained_at, needed_at}
use Rattle.preparing.proofs.levels.compared.Goals as goal

pub loop-l-preserved : goal.loop-l-preserved
loop-l-preserved c =
    let a = c.args in
    let i = c.loop-l.invariant in (
      filled_more _ _ _ _ _ (omega arith) i.0 (gained_at a.through.now a.floor c.from-i.ensures c.less.ensures),
      filled_more _ _ _ _ _ (omega arith) i.1 (needed_at a.through.now a.asks c.from-i.ensures c.rest.ensures),
    )

pub returns : goal.returns
unfolding meant meant_v
returns c =
    let i = c.loop-l.invariant in
    record {
      gained = record { at = λ l j h k. (i.0.done l (omega arith)).at j k };
      needed = record { at = λ l j h k. (i.1.done l (omega arith)).at j k };
    }
