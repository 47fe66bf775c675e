-- `rows::literal_at` meets its contract. Assumes nothing.
use Rattle.rows.proofs.LiteralLaws.{literal_begins}
use Rattle.rows.proofs.literal_at.Goals as goal

pub returns : goal.returns
returns c = literal_begins _ _ _ c.starts_with.result c.requires c.starts_with.ensures.value
