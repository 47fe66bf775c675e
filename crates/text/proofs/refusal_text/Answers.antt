-- `text::refusal_text` meets its contract. Assumes nothing.
use Rattle.sheet.specs.Text.{bytes}
use Rattle.writing.specs.Texts.{refusal_text}
use Rattle.writing.proofs.WriterLaws.{put_as, written}
use borrow.Author.Rules.{rules}
use mathlib.Core.Path.{ap}
use Rattle.writing.specs.Numerals.{natural}
use Rattle.writing.specs.Texts.{field}
use Rattle.text.proofs.refusal_text.Goals as goal

pub returns : goal.returns
unfolding bytes refusal_text
returns c =
    let first = put_as (ap (λ k. field (bytes "refused=") (natural k)) c.from.ensures) c.put_field.ensures.puts in
    let p = written c.new-w.ensures.front first in
    search rules
