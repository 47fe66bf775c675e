-- `table_text::put_entries` meets its contract. The loop's invariant: the first `j` entries are put. Assumes nothing.
use native.Mathlib.Omega.{arith}
use Rattle.writing.proofs.WriterLaws.{then, put_as}
use Rattle.writing.proofs.TextLaws.{grown_none, grown_more, items_none, items_more}
use Rattle.table_text.proofs.RowLaws.{item_meant}
use Rattle.table_text.proofs.put_entries.Goals as goal

pub loop-j-init : goal.loop-j-init
loop-j-init c = grown_none _ 8 _ (items_none _) (omega arith)

pub loop-j-preserved : goal.loop-j-preserved
loop-j-preserved c =
    let b = c.put_comma.ensures in
    let p = c.put_entry.ensures in
    grown_more _ 8 (items_more _ _) c.loop-j.invariant (then b.puts (put_as (item_meant _ _) p.puts)) (omega (arith, b.short, p.short))
