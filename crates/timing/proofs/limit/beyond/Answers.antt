-- `timing::limit::beyond` meets its contract. Assumes nothing.
use mathlib.Core.Path.{ap, ◌∙◌}
use lib.IntN.{pos}
use Rattle.std.proofs.lemmas.Iterator.{YieldsList-from_slice}
use Rattle.std.proofs.lemmas.Iterator.Search.{any_from_yields_List}
use Rattle.std.proofs.Common.{rules, tests, arith, take}
use Rattle.sheet.specs.Sheet.{any}
use Rattle.sheet.specs.Times.{beyond}
use Rattle.timing.proofs.LimitLaws.{any_listed, first_places}
use Rattle.timing.proofs.limit.beyond.Goals as goal

pub returns : goal.returns
returns c =
    let at = c.args.timing.at in
    any_from_yields_List beyond _ _ c.any.result c.any.ensures.ran (YieldsList-from_slice (take c.args.n at) cc) (λ x b q k. search (rules, tests)) ∙
    any_listed beyond _ ∙ ap (any beyond) (first_places at (pos 0) c.args.n (omega arith))
