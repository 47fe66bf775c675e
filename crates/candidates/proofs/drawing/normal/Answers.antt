-- `candidates::drawing::normal` meets its contract.
use Rattle.tables.proofs.LargestLaws.{close_largest}
use Rattle.candidates.proofs.DrawLaws.{shifted_normal}
use Rattle.candidates.proofs.drawing.normal.Goals as goal

pub shifted-requires : goal.shifted-requires
shifted-requires c = (c.requires.0, c.requires.1, close_largest _ c.requires.1 c.largest-top.ensures)

pub returns : goal.returns
returns c = shifted_normal _ _ c.largest-top.ensures c.shifted.ensures
