-- `answer_words::answers::write_kept` meets its contract. Assumes nothing.
use native.Mathlib.Omega.{arith}
use mir.Syntax.{w64}
use mir.Facts.{to_z_pos}
use Rattle.answer_words.proofs.Storing.{back, table_words, no_table}
use borrow.Author.Rules.{rules}
use Rattle.answer_words.proofs.answers.write_kept.Goals as goal

pub returns-in-Ok-clause-words : goal.returns-in-Ok-clause-words
returns-in-Ok-clause-words c =
    let few = rw c.in-Ok.is at c.requires in
    table_words _ c.in-Ok.is (search rules) c.put.ensures (back (search rules) c.from.ensures) c.put-in-Ok.ensures
    (back (search rules) c.from-in-Ok.ensures) c.put-in-Ok-2.ensures (to_z_pos w64 (omega (arith, few))) c.put-in-Ok-3.ensures c.put_panels.ensures

pub returns-in-Err-clause-words : goal.returns-in-Err-clause-words
returns-in-Err-clause-words c = no_table _ c.in-Err.is
