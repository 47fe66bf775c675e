-- `lines::count::count_lines` meets its contract: `count` lines are not above `last`.
use mathlib.Core.Path.{refl}
use native.Mathlib.Omega.{arith}
use Rattle.lines.proofs.TurnLaws.{counted_start, counted_few, counted_end, counted_more}
use Rattle.lines.proofs.count.count_lines.Goals as goal

pub loop-buffer-init : goal.loop-buffer-init
loop-buffer-init c = (refl, counted_start)

pub overflow_add-count : goal.overflow_add-count
overflow_add-count c = omega (arith, counted_few c.gather.ensures c.loop-buffer.invariant.1 c.requires.1)

pub returns-then-buffer-lt-ROOM : goal.returns-then-buffer-lt-ROOM
returns-then-buffer-lt-ROOM c =
    λ P g.
    counted_end c.gather.ensures c.loop-buffer.invariant.1 c.if-buffer-lt-ROOM.true P g

pub loop-buffer-smaller : goal.loop-buffer-smaller
loop-buffer-smaller c = omega (arith, counted_few c.gather.ensures c.loop-buffer.invariant.1 c.requires.1)

pub loop-buffer-preserved : goal.loop-buffer-preserved
loop-buffer-preserved c =
    let (P, g) = c.requires in
    ((c.gather.ensures P g).stored.size, counted_more c.gather.ensures c.loop-buffer.invariant.1 g c.if-buffer-lt-ROOM.false)
