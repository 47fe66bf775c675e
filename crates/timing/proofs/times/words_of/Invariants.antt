-- `timing::times::words_of` meets its contract. The words of the components passed are written. Assumes nothing.
use Rattle.cue.specs.Cue.{timing}
use Rattle.tables.specs.Lines.{WordsOf}
use Rattle.sheet.specs.Times.{far_limit}
use Rattle.timing.specs.Times.{component}
use Rattle.timing.proofs.times.words_of.Given as goal

abbrev pub invariant-loop-j : goal.invariant-loop-j
invariant-loop-j l = WordsOf l.j far_limit (timing (component l.timing.at)) l.r
