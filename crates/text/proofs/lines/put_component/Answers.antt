-- `text::lines::put_component` meets its contract. Assumes nothing.
use Rattle.sheet.specs.Text.{bytes}
use Rattle.writing.proofs.WriterLaws.{put_as}
use Rattle.writing.proofs.TextLaws.{spare_component}
use Rattle.text.proofs.lines.put_component.Goals as goal

pub returns-then-spare-clause-puts : goal.returns-then-spare-clause-puts
unfolding bytes
returns-then-spare-clause-puts c = put_as (spare_component _ c.if-spare.true) c.put_byte.ensures
