-- `rays::raise` meets its contract: the first `s` triggers have been looked at.
use Rattle.rays.specs.Rays.{RaisedAll}
use Rattle.rays.proofs.raise.Given as goal

abbrev pub invariant-loop-s : goal.invariant-loop-s
invariant-loop-s l = RaisedAll l.x.count l.x.at l.panel.mask l.panel.wants.now l.panel.star.now l.s l.initial.set.rows l.initial.set.len l.set.rows l.set.len
