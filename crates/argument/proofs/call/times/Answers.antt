-- `argument::call::times` meets its contract: no bytes give no times either. Assumes nothing.
use Rattle.std.proofs.Common.{[], refl}
use Rattle.sheet.specs.Sheet.{item}
use Rattle.argument.specs.Times.{number, numbers}
use Rattle.argument.proofs.call.times.Goals as goal

pub returns-then-count-ne1 : goal.returns-then-count-ne1
unfolding numbers number item
returns-then-count-ne1 g c = ([], refl)
