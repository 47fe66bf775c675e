-- `lines::write::write_lines` meets its contract: the lines that are not above `last` are written, `at` words of them.
use mathlib.Core.Path.{refl}
use native.Mathlib.Omega.{arith}
use Rattle.lines.proofs.ListingLaws.{held_close}
use Rattle.lines.proofs.TurnLaws.{writing_start, writing_room, writing_more, writing_end}
use Rattle.lines.proofs.write.write_lines.Goals as goal

pub loop-buffer-init : goal.loop-buffer-init
loop-buffer-init c = (refl, writing_start)

pub write_held-requires : goal.write_held-requires
write_held-requires c =
    let (P, g, h) = c.requires in let r = c.gather.ensures P g in
    let e = c.loop-buffer.invariant.1.size in
    (g.few, r.stored.few, r.stored.size, omega (arith, e, writing_room c.gather.ensures c.loop-buffer.invariant.1 g h), held_close g r)

pub returns-then-buffer-lt-ROOM : goal.returns-then-buffer-lt-ROOM
returns-then-buffer-lt-ROOM c =
    λ P g h.
    writing_end c.gather.ensures c.loop-buffer.invariant.1 g h c.write_held.ensures c.if-buffer-lt-ROOM.true

pub loop-buffer-smaller : goal.loop-buffer-smaller
loop-buffer-smaller c = let (P, g, h) = c.requires in omega (arith, writing_room c.gather.ensures c.loop-buffer.invariant.1 g h)

pub loop-buffer-preserved : goal.loop-buffer-preserved
loop-buffer-preserved c =
    let (P, g, h) = c.requires in
    let w = writing_more c.gather.ensures c.loop-buffer.invariant.1 g c.if-buffer-lt-ROOM.false in
    ((c.gather.ensures P g).stored.size, w c.write_held.auto.out c.write_held.ensures)
