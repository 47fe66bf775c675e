-- `laying::lay::components` meets its contract: the six words are copied.
use mathlib.Core.Path.{◌∙◌}
use Rattle.laying.proofs.LayLaws.{six_copied}
use Rattle.laying.proofs.lay.components.Goals as goal

pub returns : goal.returns
returns c = c.copy_from_slice.ensures.after ∙ six_copied c.args.space.now c.args.from c.requires
