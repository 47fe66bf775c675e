-- `laying::lay::lay_line` meets its contract: the first `j` triggers have been looked at, and `k` of them are in use.
use borrow.Author.Rules.{rules}
use mathlib.Core.Path.{ap, sym, ◌∙◌}
use native.Mathlib.Omega.{arith}
use lib.ListN.{length-set}
use mir.Syntax.{w32}
use mir.Facts.{to_z_pos}
use Rattle.cue.specs.Written.{signed}
use Rattle.words.proofs.Laws.{entry_zero}
use Rattle.laying.proofs.LayLaws.{read_back, laying_none, laying_used, laying_spare, laying_all}
use Rattle.laying.proofs.lay.lay_line.Goals as goal
use Rattle.laying.proofs.lay.lay_line.Goals.{then-has, else-has}

pub loop-j-init : goal.loop-j-init
loop-j-init c = laying_none (rw (length-set _ _ _) c.requires.0)

pub loop-j-preserved : goal.loop-j-preserved
loop-j-preserved c =
    let e = sym c.has.ensures in
    elim c.if-has.branch [
      | then-has w ↦ rw (w.space-is, w.k-is) (laying_used (omega arith) c.loop-j.invariant (e ∙ w.if-has.true) (read_back (search rules)))
      | else-has w ↦ rw (w.space-is, w.k-is)
          (laying_spare (omega arith) c.loop-j.invariant (e ∙ w.if-has.false) (read_back (search rules) ∙ w.signed.ensures ∙ ap signed entry_zero))
    ]

pub returns : goal.returns
returns c =
    let (t, n, u) = c.requires.1 in
    let e = to_z_pos w32 {n = c.args.p.triggers} (omega (arith, u.few, u.triggers_are)) in
    laying_all c.args.space.now c.args.from _ c.requires.0 c.components-packed.ensures e (omega arith) c.loop-j.invariant
