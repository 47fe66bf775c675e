-- `table_text::put_rows` meets its contract. The loop's invariant: the lines of the first `i` rows are put. Assumes nothing.
use native.Mathlib.Omega.{arith}
use Rattle.tables.specs.Held.{meant, meant_v}
use Rattle.writing.proofs.TextLaws.{grown_none, grown_more}
use Rattle.table_text.proofs.RowLaws.{rows_none, rows_more}
use Rattle.table_text.proofs.put_rows.Goals as goal

pub loop-i-init : goal.loop-i-init
loop-i-init c = grown_none _ 60 _ (rows_none _ _ _) (omega arith)

pub loop-i-preserved : goal.loop-i-preserved
unfolding meant meant_v
loop-i-preserved c =
    let p = c.put_row.ensures in
    grown_more _ 60 (rows_more _ _ _ _) c.loop-i.invariant p.puts (omega (arith, p.short))
