-- `text::lines::put_times` meets its contract. The loop's invariant: the first `j` times are put. Assumes nothing.
use mathlib.Core.Path.{ap}
use native.Mathlib.Omega.{arith}
use lib.IntN.{ℤ, pos}
use borrow.Author.Rules.{rules}
use lib.ListN.{get_or}
use mir.Facts.{to_z-of_z}
use mir.Syntax.{w64}
use mir.Val.{SFits}
use Rattle.writing.specs.Numerals.{numeral}
use Rattle.writing.proofs.WriterLaws.{then, put_as}
use Rattle.writing.proofs.TextLaws.{grown_none, grown_more, items_none, items_more}
use Rattle.text.proofs.lines.put_times.Goals as goal

pub loop-j-init : goal.loop-j-init
loop-j-init c = grown_none _ 21 _ (items_none _) (omega arith)

pub loop-j-preserved : goal.loop-j-preserved
loop-j-preserved c =
    let b = c.put_comma.ensures in
    let p = c.put_number.ensures in
    let l = c.loop-j in
    let time : ℤ = get_or c.args.times l.j (pos 0) in
    let f : SFits w64 time = search rules in
    grown_more _ 21 (items_more _ _) l.invariant (then b.puts (put_as (ap numeral (to_z-of_z f)) p.puts)) (omega (arith, b.short, p.short))
