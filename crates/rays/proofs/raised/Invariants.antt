-- `rays::raised` meets its contract. The places passed are written.
use Rattle.words.specs.Words.{entry}
use Rattle.sheet.specs.Sizes.{starred_size}
use Rattle.tables.specs.Held.{meant, meant_v}
use Rattle.tables.specs.Lines.{WordsOf}
use Rattle.rays.specs.Rays.{joined_of}
use Rattle.rays.proofs.raised.Given as goal

abbrev pub invariant-loop-j : goal.invariant-loop-j
invariant-loop-j l = WordsOf l.j starred_size (joined_of (meant l.star) (meant_v l.x.at) (entry l.want) l.s) l.r
