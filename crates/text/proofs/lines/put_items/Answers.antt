-- `text::lines::put_items` meets its contract. The loop's invariant: the first `j` items are put. Assumes nothing.
use Prim.Native.Nat.{◌+◌}
use native.Mathlib.Omega.{arith}
use lib.IntN.{ℤ, pos}
use borrow.Author.Rules.{rules}
use lib.ListN.{get_or}
use mir.Syntax.{w32}
use mir.Val.{SFits}
use Rattle.trigger_sets.specs.Sets.{bit}
use Rattle.writing.proofs.WriterLaws.{then, put_as}
use Rattle.writing.proofs.SignedLaws.{item_back}
use Rattle.writing.proofs.TextLaws.{grown_none, grown_more, items_none, items_more, component_of}
use Rattle.text.proofs.lines.put_items.Goals as goal

pub loop-j-init : goal.loop-j-init
loop-j-init c = grown_none _ 12 _ (items_none _) (omega arith)

pub loop-j-preserved : goal.loop-j-preserved
loop-j-preserved c =
    let a = c.args in
    let b = c.put_comma.ensures in
    let p = c.put_component.ensures in
    let l = c.loop-j in
    let word : ℤ = get_or a.line.now (1 + l.j) (pos 0) in
    let f : SFits w32 word = search rules in
    let e = component_of a.n (bit a.spares) a.line.now 0 l.j c.loop-j-test.true c.has.ensures (item_back f) in
    grown_more _ 12 (items_more _ _) l.invariant (then b.puts (put_as e p.puts)) (omega (arith, b.short, p.short))
