-- `text::lines::put_line` meets its contract. Assumes nothing.
use Rattle.sheet.specs.Text.{bytes}
use Rattle.writing.proofs.WriterLaws.{then}
use Rattle.text.proofs.lines.put_line.Goals as goal

pub returns-clause-puts : goal.returns-clause-puts
unfolding bytes
returns-clause-puts c =
    let key = c.put_bytes.ensures in
    let i = c.put_items.ensures in
    let end = c.put_byte.ensures in
    then (then key i.puts) end
