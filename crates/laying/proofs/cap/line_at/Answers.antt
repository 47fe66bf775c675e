-- `laying::cap::line_at` meets its contract: the entries of the first `j` components are written. Assumes nothing.
use mathlib.Core.Path.{ap, sym, ◌∙◌}
use native.Mathlib.Omega.{arith}
use borrow.Author.Rules.{rules}
use Rattle.maxplus.proofs.LineLaws.{at_line}
use Rattle.cue.specs.Standing.{of_signed, line_at}
use Rattle.tables.proofs.LineLaws.{written_more}
use Rattle.laying.proofs.LayLaws.{read_back}
use Rattle.laying.proofs.cap.line_at.Goals as goal

pub loop-j-preserved : goal.loop-j-preserved
unfolding line_at
loop-j-preserved c =
    let l = c.loop-j in
    written_more _ (omega arith) l.invariant
    (c.of_signed.ensures.is ∙ ap of_signed (read_back (search rules)) ∙ sym (at_line _ _ l.j (omega arith)))
    c.of_signed.ensures.close
