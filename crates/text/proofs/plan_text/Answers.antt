-- `text::plan_text` meets its contract. Assumes nothing.
use mathlib.Core.Path.{ap, ◌∙◌}
use mir.Facts.{to_z-of_z}
use Rattle.sheet.specs.Text.{bytes}
use Rattle.writing.specs.Numerals.{numeral}
use Rattle.writing.specs.Texts.{field}
use Rattle.writing.proofs.WriterLaws.{then, put_as, written}
use Rattle.writing.proofs.WordLaws.{plan_back}
use borrow.Author.Rules.{rules}
use Rattle.text.proofs.plan_text.Goals as goal

pub returns-clause-text : goal.returns-clause-text
unfolding bytes
returns-clause-text c =
    let first = put_as (ap (λ z. field (bytes "deviation=") (numeral z)) (to_z-of_z c.ranges.deviation)) c.put_field.ensures.puts in
    let fields = then (then (then first c.put_field-2.ensures.puts) c.put_field-3.ensures.puts) c.put_field-4.ensures.puts in
    let p = written c.new-plan.ensures.front (then fields c.put_lines.ensures) in
    λ caps L e stands.
    let text = p.text ∙ plan_back c.requires.1 _ _ _ _ caps L e stands in
    search rules
