-- `text::latest_text` meets its contract. Assumes nothing.
use Rattle.sheet.specs.Text.{bytes}
use Rattle.writing.specs.Texts.{latest_text}
use Rattle.writing.proofs.WriterLaws.{then, written}
use borrow.Author.Rules.{rules}
use Rattle.text.proofs.latest_text.Goals as goal

pub returns : goal.returns
unfolding bytes latest_text
returns c =
    let p = written c.new-w.ensures.front (then (then c.put_bytes.ensures c.put_times.ensures.puts) c.put_byte.ensures) in
    search rules
