-- `descending` and `trying`, which call each other, meet their contracts: each way on is a law of proofs/Walking.antt for what is given, and
-- one of proofs/RememberLaws.antt for what the state remembers.
use Rattle.std.proofs.Common.{◌+◌, ◌*◌, length}
use Rattle.walk.specs.State.{pending, fixed}
use Rattle.walk.proofs.+descending_trying.Given as goal

abbrev pub decreases-descending : goal.decreases-descending
decreases-descending l = 8 * length (fixed l.levels.now.kept.now l.levels.now.gains.now l.levels.now.count l.walk.now.place) + 7

abbrev pub decreases-trying : goal.decreases-trying
decreases-trying l =
    8 * length (pending l.levels.now.kept.now l.levels.now.gains.now l.levels.now.count l.walk.now.place) + l.walk.now.place.depth
