-- `hiring::put_sizes` meets its contract. Assumes nothing.
use Rattle.sheet.specs.Text.{bytes}
use Rattle.writing.proofs.WriterLaws.{then}
use Rattle.hiring.proofs.put_sizes.Goals as goal

pub returns-clause-puts : goal.returns-clause-puts
unfolding bytes
returns-clause-puts c = then c.put_field.ensures.puts c.put_field-2.ensures.puts
