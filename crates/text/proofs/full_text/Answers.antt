-- `text::full_text` meets its contract. Assumes nothing.
use Rattle.sheet.specs.Text.{bytes}
use Rattle.writing.specs.Texts.{refusal_text, full_text}
use Rattle.writing.proofs.WriterLaws.{then, written}
use borrow.Author.Rules.{rules}
use Rattle.text.proofs.full_text.Goals as goal

pub returns : goal.returns
unfolding bytes refusal_text full_text
returns c =
    let p = written c.new-w.ensures.front (then c.put_field.ensures.puts c.put_field-2.ensures.puts) in
    search rules
