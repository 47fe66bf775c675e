-- `comparing::same_lines` meets its contract: the lines passed are the same. Assumes nothing.
use native.Mathlib.Omega.{arith}
use Rattle.comparing.proofs.LineLaws.{none_differ, lines_more, line_same}
use Rattle.comparing.proofs.SameLaws.{said_yes, said_no}
use Rattle.comparing.proofs.same_lines.Goals as goal

pub loop-k-init : goal.loop-k-init
loop-k-init c = none_differ _ _ _ _

pub returns-then-not-same_words : goal.returns-then-not-same_words
returns-then-not-same_words c =
    λ e.
    let h = line_same _ _ _ _ c.args.count c.loop-k.k (omega arith) c.requires.0 c.requires.1 c.requires.2 c.requires.3 e in
    said_no c.if-not-same_words.true c.same_words.ensures h

pub loop-k-preserved : goal.loop-k-preserved
loop-k-preserved c =
    let k = c.loop-k in
    let h = said_yes c.if-not-same_words.false c.same_words.ensures in
    lines_more _ _ _ _ k.k k.invariant h
