-- `timing::times::numbers_of` meets its contract. The numbers of the words passed are written, 0 past them. Assumes nothing.
use mathlib.Core.Path.{◌∙◌}
use native.Mathlib.Omega.{arith}
use mir.Syntax.{w64}
use mir.Facts.{to_z-of_z}
use Rattle.timing.proofs.NumberLaws.{components_none, components_more, there, number_at}
use Rattle.timing.proofs.times.numbers_of.Goals as goal

pub loop-j-init : goal.loop-j-init
loop-j-init c = λ X H. components_none X

pub number-requires : goal.number-requires
number-requires c =
    let (X, H) = c.requires.1 in
    (there c.loop-j.j H (omega arith), c.requires.2.at c.loop-j.j (omega arith))

pub loop-j-preserved : goal.loop-j-preserved
loop-j-preserved c =
    let l = c.loop-j in
    λ X H. rw (l.invariant X H) (components_more X l.j _ (omega arith)
    (to_z-of_z {w = w64} (record { sfits = c.number.type_inv }) ∙ number_at l.j _ H (omega arith) c.number.ensures))
