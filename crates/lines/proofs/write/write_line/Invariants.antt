-- `lines::write::write_line` meets its contract: the count, then `j` of the components' words are written.
use mathlib.Core.Path.{◌≡◌}
use mathlib.Core.List.{List}
use Prim.Native.Nat.{◌+◌}
use lib.IntN.{ℤ}
use lib.ListN.{length}
use lib.Seq.{paste}
use Rattle.words.specs.declared.LineWords.{LineWords}
use Rattle.tables.specs.Lines.{line_of}
use Rattle.buffer.proofs.SpaceLaws.{component_words}
use Rattle.lines.proofs.write.write_line.Given as goal

abbrev words_of : LineWords → List ℤ
words_of line = component_words line.count (line_of line.count line.at)

abbrev pub invariant-loop-j : goal.invariant-loop-j
invariant-loop-j l =
    (length l.out ≡ length l.initial.out) × (l.out ≡ paste l.initial.out (l.at + 1) (words_of l.line) l.j)
