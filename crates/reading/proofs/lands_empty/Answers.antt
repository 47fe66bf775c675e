-- `reading::lands_empty` meets its contract. Assumes nothing.
use mathlib.Core.Path.{refl}
use Rattle.words.specs.Words.{entry}
use Rattle.reading.proofs.lands_empty.Goals as goal

pub returns-in-None : goal.returns-in-None
unfolding entry
returns-in-None c = rw c.in-None.is (λ j h. refl)
