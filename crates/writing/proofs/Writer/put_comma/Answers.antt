-- `writing::put_comma` meets its contract. Assumes nothing.
use Rattle.sheet.specs.Text.{bytes}
use Rattle.writing.proofs.WriterLaws.{put_as}
use Rattle.writing.proofs.TextLaws.{comma_behind}
use Rattle.writing.proofs.Writer.put_comma.Goals as goal

pub returns-then-j-ne0-clause-puts : goal.returns-then-j-ne0-clause-puts
unfolding bytes
returns-then-j-ne0-clause-puts c =
    let p = c.put_byte.ensures in
    put_as (comma_behind _ c.if-j-ne0.true) p
