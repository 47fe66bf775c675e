-- `text::kept_text` meets its contract. Assumes nothing.
use mathlib.Core.Path.{ap}
use mir.Facts.{to_z-of_z}
use Rattle.sheet.specs.Text.{bytes}
use Rattle.writing.specs.Numerals.{numeral}
use Rattle.writing.specs.Texts.{field, kept_text}
use Rattle.writing.proofs.WriterLaws.{then, put_as, written}
use borrow.Author.Rules.{rules}
use Rattle.text.proofs.kept_text.Goals as goal

pub returns : goal.returns
unfolding bytes kept_text
returns c =
    let first = put_as (ap (λ z. field (bytes "deviation=") (numeral z)) (to_z-of_z c.ranges.deviation)) c.put_field.ensures.puts in
    let p = written c.new-table.ensures.front
    (then (then (then first c.put_panels.ensures.puts) c.put_field-2.ensures.puts) c.put_field-3.ensures.puts) in
    search rules
