-- `lines::write::write_held` meets its contract: the first `k` lines are laid.
use mathlib.Core.Path.{refl, sym, ◌∙◌}
use native.Mathlib.Omega.{arith}
use Rattle.buffer.specs.Buffer.{row}
use Rattle.buffer.proofs.SpaceLaws.{laid_none}
use Rattle.buffer.proofs.HeldLaws.{held_row, laid_none_held, laid_held}
use Rattle.lines.proofs.write.write_held.Goals as goal

pub loop-k-init : goal.loop-k-init
loop-k-init c =
    let a = c.args in
    (refl, laid_none a.out.now a.at ∙ sym (laid_none_held a.n a.buffer.now.rows a.out.now a.at))

pub write_line-requires : goal.write_line-requires
write_line-requires c =
    let a = c.args in let k = c.loop-k.k in
    let h = c.requires.4 (row a.buffer.now.rows k) (held_row a.n a.buffer.now.rows a.buffer.now.len k (omega arith) (omega arith)) in
    (c.requires.0, omega arith, h.0, h.1)

pub loop-k-preserved : goal.loop-k-preserved
loop-k-preserved c =
    let l = c.loop-k in
    let a = c.args in let w = c.write_line in (
      w.auto.out ∙ l.invariant.0,
      laid_held a.n a.buffer.now.rows a.out.now l.out w.new.out a.at l.k (omega arith) (omega arith) l.invariant.1 w.ensures,
    )
