-- `table_text::put_row` meets its contract. Assumes nothing.
use Rattle.sheet.specs.Text.{bytes}
use Rattle.writing.proofs.WriterLaws.{then}
use Rattle.table_text.proofs.put_row.Goals as goal

pub returns-clause-puts : goal.returns-clause-puts
unfolding bytes
returns-clause-puts c =
    let key = c.put_bytes.ensures in
    let entries = c.put_entries.ensures in
    let end = c.put_byte.ensures in
    then (then key entries.puts) end
