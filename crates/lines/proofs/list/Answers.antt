-- `lines::list` meets its contract: the buffer holds the whole list, or it is counted and written by walking again.
use mathlib.Core.Path.{refl}
use native.Mathlib.Omega.{arith}
use Rattle.cue.specs.Method.{lines}
use Rattle.lines.proofs.ListingLaws.{held_close}
use Rattle.lines.proofs.TurnLaws.{answers_lines, answers_held, whole_count}
use Rattle.lines.proofs.list.Goals as goal

pub returns-then-room-buffer : goal.returns-then-room-buffer
returns-then-room-buffer c =
    λ P g.
    let e = whole_count c.gather.ensures c.if-buffer-lt-ROOM.true g in (e, omega (arith, c.if-room-buffer.true), refl)

pub write_held-requires : goal.write_held-requires
write_held-requires c =
    let (P, g) = c.requires.1 in
    let h = c.gather.ensures P g in (g.few, h.stored.few, h.stored.size, omega arith, held_close g h)

pub returns-then-buffer-lt-ROOM : goal.returns-then-buffer-lt-ROOM
returns-then-buffer-lt-ROOM c =
    λ P g.
    answers_held c.gather.ensures c.if-buffer-lt-ROOM.true g _ _ _ c.if-room-buffer.false c.write_held.ensures

pub returns : goal.returns
returns c =
    λ P g.
    let n = c.args.sources.marks.now.triggers in
    let e = c.count_lines-count.ensures P g in
    answers_lines n (lines n P) _ _ _ _ e c.if-room-count.false (c.write_lines.ensures P g (omega arith))
