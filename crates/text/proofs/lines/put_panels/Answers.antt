-- `text::lines::put_panels` meets its contract. The loop's invariant: the lines of the first `i` panels are put. Assumes nothing.
use native.Mathlib.Omega.{arith}
use Rattle.writing.proofs.TextLaws.{grown_none, grown_more, panels_none, panels_more}
use Rattle.text.proofs.lines.put_panels.Goals as goal

pub loop-i-init : goal.loop-i-init
loop-i-init c = grown_none _ 13 _ (panels_none _) (omega arith)

pub loop-i-preserved : goal.loop-i-preserved
loop-i-preserved c =
    let p = c.put_panel.ensures in
    grown_more _ 13 (panels_more _ _) c.loop-i.invariant p.puts p.short
