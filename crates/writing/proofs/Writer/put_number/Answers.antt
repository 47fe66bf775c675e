-- put_number: a minus and the number's magnitude, or the number's digits alone
use Rattle.sheet.specs.Text.{bytes}
use Rattle.writing.proofs.WriterLaws.{then, put_as, put_short}
use Rattle.writing.proofs.NumeralLaws.{numeral_64}
use Rattle.writing.proofs.SignedLaws.{below_text, above_text}
use Rattle.writing.proofs.Writer.put_number.Goals as goal

pub returns-then-v-lt0 : goal.returns-then-v-lt0
unfolding bytes
returns-then-v-lt0 c =
    let p = put_short (numeral_64 _ c.ranges.v)
    (put_as (below_text _ c.ranges.v c.unsigned_abs.ensures.value c.if-v-lt0.true) (then c.put_byte.ensures c.put_natural.ensures)) in
    record { puts = p.0; short = p.1 }

pub returns : goal.returns
returns c =
    let p = put_short (numeral_64 _ c.ranges.v)
    (put_as (above_text _ c.ranges.v c.unsigned_abs-2.ensures.value c.if-v-lt0.false) c.put_natural-2.ensures) in
    record { puts = p.0; short = p.1 }
