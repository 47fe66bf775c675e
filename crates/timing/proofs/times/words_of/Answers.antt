-- `timing::times::words_of` meets its contract. The words of the components passed are written. Assumes nothing.
use mathlib.Core.Path.{ap, ◌∙◌}
use native.Mathlib.Omega.{arith}
use Rattle.maxplus.specs.Entry.{num}
use Rattle.words.specs.Words.{word}
use Rattle.tables.proofs.LineLaws.{written_more}
use Rattle.sheet.specs.Times.{beyond}
use Rattle.timing.specs.Times.{component}
use Rattle.timing.proofs.LimitLaws.{none_at, read_again}
use Rattle.sheet.proofs.Fits.{not_beyond}
use Rattle.timing.proofs.TimeLaws.{component_word}
use Rattle.timing.proofs.times.words_of.Goals as goal

pub of_number-requires : goal.of_number-requires
of_number-requires c =
    let j = c.loop-j.j in
    let x = component c.args.timing.at j in
    let h = not_beyond x (none_at beyond _ _ j c.requires.1 (omega arith)) in
    rw (read_again x (omega arith)) (omega (arith, h.0), omega (arith, h.1))

pub loop-j-preserved : goal.loop-j-preserved
loop-j-preserved c =
    let l = c.loop-j in
    let x = component c.args.timing.at l.j in
    let (e, k) = component_word x (none_at beyond _ _ l.j c.requires.1 (omega arith)) _
    (c.of_number.ensures ∙ ap (λ z. word (num z)) (read_again x (omega arith))) in
    written_more _ (omega arith) l.invariant e k
