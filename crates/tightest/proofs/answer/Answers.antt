-- `tightest::answer` meets its contract: what is put from the front of the bytes on is the text. Assumes nothing.
use Rattle.sheet.specs.Text.{bytes}
use Rattle.tightest.proofs.answer.Goals as goal

pub returns-in-Ok-true-clause-out_after : goal.returns-in-Ok-true-clause-out_after
unfolding bytes
returns-in-Ok-true-clause-out_after c = rw (rw c.in-Ok-true.field-0-test at c.in-Ok-true.is) c.put_bytes.ensures.text

pub returns-in-Ok-false-clause-out_after : goal.returns-in-Ok-false-clause-out_after
unfolding bytes
returns-in-Ok-false-clause-out_after c = rw (rw c.in-Ok-false.field-0-test at c.in-Ok-false.is) c.put_bytes-in-Ok-false.ensures.text
