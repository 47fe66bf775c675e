-- `below` and `each`, which call each other, meet their contracts: a level more, or the same level with fewer triggers.
use Rattle.std.proofs.Common.{◌+◌, ◌*◌, ◌-◌}
use Rattle.tally.proofs.+below_each.Given as goal

abbrev pub decreases-below : goal.decreases-below
decreases-below l = 65 * (l.panels - l.level)

abbrev pub decreases-each : goal.decreases-each
decreases-each l = 65 * (l.panels - (l.level + 1)) + (l.m + 1)
