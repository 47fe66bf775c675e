-- `table_text::put_entries` meets its contract. The loop's invariant: the first `j` entries are put. Assumes nothing.
use Rattle.tables.specs.Held.{meant_v}
use Rattle.writing.proofs.TextLaws.{Grown}
use Rattle.sheet_text.specs.SheetText.{row_items}
use Rattle.table_text.proofs.put_entries.Given as goal

abbrev pub invariant-loop-j : goal.invariant-loop-j
invariant-loop-j l = Grown (λ k. row_items k (meant_v l.row)) 8 l.initial.w l.w l.j
