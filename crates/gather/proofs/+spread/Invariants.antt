-- `gather::spread`, which calls itself, meets its contract: one level more, or the same level with fewer rays left.
use Rattle.std.proofs.Common.{◌+◌, ◌*◌, ◌-◌}
use Rattle.rays.specs.Rays.{places}
use Rattle.gather.proofs.+spread.Given as goal

abbrev pub decreases-spread : goal.decreases-spread
decreases-spread l = (places + 1) * (l.sources.marks.now.levels - l.level) + (l.set.now.len - l.from)
