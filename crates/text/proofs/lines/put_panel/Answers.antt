-- `text::lines::put_panel` meets its contract. Assumes nothing.
use native.Mathlib.Omega.{arith}
use Rattle.sheet.specs.Text.{bytes}
use Rattle.writing.proofs.WriterLaws.{then, put_as, put_short}
use Rattle.writing.proofs.NumeralLaws.{natural_8}
use Rattle.writing.proofs.TextLaws.{panel_text, panel_length}
use Rattle.text.proofs.lines.put_panel.Goals as goal

pub put_byte-requires : goal.put_byte-requires
put_byte-requires c = omega (arith, natural_8 c.from.result (rw c.from.ensures c.ranges.kept.fits))

pub put_natural-requires-2 : goal.put_natural-requires-2
put_natural-requires-2 c = omega (arith, natural_8 c.from.result (rw c.from.ensures c.ranges.kept.fits))

pub put_byte-requires-2 : goal.put_byte-requires-2
put_byte-requires-2 c = omega (arith, natural_8 c.from.result (rw c.from.ensures c.ranges.kept.fits), natural_8 c.from-2.result (rw c.from-2.ensures c.ranges.count.fits))

pub returns : goal.returns
unfolding bytes
returns c =
    let f = c.ranges in
    let kept = then c.put_bytes.ensures (rw c.from.ensures at c.put_natural.ensures) in
    let pair = then (then kept c.put_byte.ensures) (rw c.from-2.ensures at c.put_natural-2.ensures) in
    let p = put_short (panel_length _ _ (natural_8 _ f.kept.fits) (natural_8 _ f.count.fits))
    (put_as (panel_text _ _) (then pair c.put_byte-2.ensures)) in
    record { puts = p.0; short = p.1 }
