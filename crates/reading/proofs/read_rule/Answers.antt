-- `reading::read_rule` meets its contract. Assumes nothing.
use native.Mathlib.Omega.{arith}
use Rattle.sheet.specs.Text.{bytes}
use Rattle.sheet.proofs.SectionLaws.{ruled_none, ruled_refused, ruled_two}
use Rattle.reading.proofs.read_rule.Goals as goal

pub returns-then-not-literal_at : goal.returns-then-not-literal_at
unfolding bytes
returns-then-not-literal_at c = (ruled_none _ _ c.if-not-literal_at.ensures, omega arith)

pub returns-then-literal_at : goal.returns-then-literal_at
unfolding bytes
returns-then-literal_at c =
    let there = c.if-literal_at.ensures in
    (ruled_two _ _ c.if-not-literal_at.ensures.0 _ there.0, there.1)

pub returns : goal.returns
unfolding bytes
returns c = ruled_refused _ _ c.if-not-literal_at.ensures.0 _ c.if-literal_at.ensures
