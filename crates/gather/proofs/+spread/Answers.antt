-- `gather::spread`, which calls itself, meets its contract: one level more, or the same level with fewer rays left.
use Rattle.std.proofs.Common.{◌<◌, arith}
use Rattle.candidates.proofs.DrawableLaws.{levels_few, stars_close, needs_close}
use Rattle.tables.proofs.Loops.{says_true}
use Rattle.gather.proofs.SpreadLaws.{next_rows, rows_part, level_wants, spread_end, spread_none, spread_stay, spread_more}
use Rattle.gather.proofs.+spread.Goals as goal

pub returns-then-level-sources : goal.returns-then-level-sources
returns-then-level-sources t c =
    let (q, z, f, l, h, b) = c.requires in
    spread_end (omega (arith, f, l)) c.if-level-sources.true c.consider_rays.ensures

pub returns-then-set-from : goal.returns-then-set-from
returns-then-set-from t c = spread_none c.if-set-from.true

pub bounds-sources-level : goal.bounds-sources-level
bounds-sources-level t c = let (q, z, f, l, h, b) = c.requires in omega (arith, h, c.if-level-sources.false, levels_few q.2)

pub offset_bounds-sources-level : goal.offset_bounds-sources-level
offset_bounds-sources-level t c = let (q, z, f, l, h, b) = c.requires in omega (arith, h, c.if-level-sources.false, levels_few q.2)

pub bounds-sources-level-2 : goal.bounds-sources-level-2
bounds-sources-level-2 t c = let (q, z, f, l, h, b) = c.requires in omega (arith, h, c.if-level-sources.false, levels_few q.2)

pub overflow_add-level : goal.overflow_add-level
overflow_add-level t c = let (q, z, f, l, h, b) = c.requires in omega (arith, h, c.if-level-sources.false, levels_few q.2)

pub overflow_add-level-2 : goal.overflow_add-level-2
overflow_add-level-2 t c = let (q, z, f, l, h, b) = c.requires in omega (arith, h, c.if-level-sources.false, levels_few q.2)

pub returns-then-all_meet : goal.returns-then-all_meet
returns-then-all_meet t c =
    let (q, z, f, l, h, b) = c.requires in
    let v : c.args.level < c.args.sources.marks.now.levels = omega (arith, h, c.if-level-sources.false) in
    spread_stay v (says_true c.all_meet.result c.if-all_meet.true c.all_meet.ensures) c.spread.ensures

pub expand-to-requires : goal.expand-to-requires
expand-to-requires t c =
    let (q, z, f, l, h, b) = c.requires in
    let g = q.2 in
    let v : c.args.level < c.args.sources.marks.now.levels = omega (arith, h, c.if-level-sources.false) in
    (g.some, g.few, omega (arith, c.if-set-from.false), f, b, stars_close g, level_wants v (needs_close g))

pub spread-requires-2 : goal.spread-requires-2
spread-requires-2 t c =
    let (a, d, x) = c.expand-to.ensures in
    let (q, z, f, l, h, b) = c.requires in
    let v : c.args.level < c.args.sources.marks.now.levels = omega (arith, h, c.if-level-sources.false) in
    (omega (arith, c.decreases, v, x.few, a, d), (q, z, x.few, x.size, omega (arith, v), next_rows (rows_part d b) x))

pub returns : goal.returns
returns t c =
    let (a, d, x) = c.expand-to.ensures in
    let (q, z, f, l, h, b) = c.requires in
    let v : c.args.level < c.args.sources.marks.now.levels = omega (arith, h, c.if-level-sources.false) in
    spread_more v d x c.spread-2.ensures c.spread-3.ensures
