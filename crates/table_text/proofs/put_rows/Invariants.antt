-- `table_text::put_rows` meets its contract. The loop's invariant: the lines of the first `i` rows are put. Assumes nothing.
use Rattle.tables.specs.Held.{meant}
use Rattle.writing.proofs.TextLaws.{Grown}
use Rattle.sheet_text.specs.SheetText.{rows_text}
use Rattle.table_text.proofs.put_rows.Given as goal

abbrev pub invariant-loop-i : goal.invariant-loop-i
invariant-loop-i l = Grown (λ k. rows_text l.key k l.count (meant l.rows)) 60 l.initial.w l.w l.i
