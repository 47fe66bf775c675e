-- `lines::write::write_line` meets its contract: the count, then `j` of the components' words are written.
use mathlib.Core.Path.{◌≡◌, ap, ◌∙◌}
use mathlib.Core.List.{List}
use Prim.Native.Nat.{◌+◌}
use native.Mathlib.Omega.{arith}
use lib.IntN.{ℤ}
use lib.ListN.{set, length-set}
use lib.Seq.{paste}
use mir.Syntax.{w32}
use mir.Facts.{to_z-of_z, to_z_pos}
use Rattle.words.specs.declared.LineWords.{LineWords}
use Rattle.tables.specs.Lines.{line_of}
use Rattle.buffer.proofs.SpaceLaws.{component_words, component_more, laid_line}
use Rattle.lines.proofs.write.write_line.Goals as goal

abbrev words_of : LineWords → List ℤ
words_of line = component_words line.count (line_of line.count line.at)

pub loop-j-preserved : goal.loop-j-preserved
loop-j-preserved c =
    let l = c.loop-j in
    let a = c.args in (
      length-set l.out _ _ ∙ l.invariant.0,
      rw l.invariant.1
          (component_more _ a.at a.line.count a.line.at l.j _ (simp length-set c.requires.1) (omega arith) c.requires.2
          (to_z-of_z {w = w32} (record { sfits = c.signed.type_inv }) ∙ c.signed.ensures)),
    )

pub returns : goal.returns
returns c =
    let l = c.loop-j in
    let a = c.args in
    let e : l.j ≡ 6 = omega arith in
    rw e at l.invariant.1 ∙ ap (λ z. paste (set a.out.now a.at z) (a.at + 1) (words_of a.line) 6)
    (to_z_pos w32 {n = a.line.count} (omega arith)) ∙ laid_line a.out.now a.at a.line.count (line_of a.line.count a.line.at) (omega arith)
