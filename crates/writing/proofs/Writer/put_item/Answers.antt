-- put_item: a lone minus for absent, or the number
use mathlib.Core.Path.{sym, ap, ◌∙◌}
use Rattle.sheet.specs.Text.{bytes}
use Rattle.writing.specs.Numerals.{numeral, item}
use Rattle.writing.proofs.WriterLaws.{put_as, put_short}
use Rattle.cue.proofs.StandingLaws.{of_signed_absent, of_signed_number}
use Rattle.writing.proofs.SignedLaws.{item_32, wider_back}
use Rattle.writing.proofs.Writer.put_item.Goals as goal

pub returns-then-w-eq-ABSENT-clause-puts : goal.returns-then-w-eq-ABSENT-clause-puts
unfolding bytes
returns-then-w-eq-ABSENT-clause-puts c = put_as (ap item (sym (of_signed_absent _ c.ranges.w c.if-w-eq-ABSENT.true))) c.put_byte.ensures

pub returns : goal.returns
returns c =
    let f = c.ranges.w in
    let e = of_signed_number _ f c.if-w-eq-ABSENT.false in
    let p = put_short (item_32 _ f) (put_as (ap numeral (wider_back f) ∙ sym (ap item e)) (rw c.from.ensures at c.put_number.ensures.puts)) in
    record { puts = p.0; short = p.1 }
