-- usage_text: what was put at the front is what is written
use Rattle.sheet.specs.Text.{bytes}
use Rattle.writing.proofs.PutLaws.{written}
use Rattle.hire.proofs.usage_text.Goals as goal

pub returns-clause-writes : goal.returns-clause-writes
unfolding bytes
returns-clause-writes c = written c.put_bytes.ensures
