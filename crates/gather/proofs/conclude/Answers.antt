-- `gather::conclude` meets its contract: the least rays have all levels, or what comes of them is spread over the others.
use Rattle.std.proofs.Common.{arith}
use Rattle.gather.proofs.SpreadLaws.{whole_rows, whole_sure, considered_whole, considered_parts}
use Rattle.gather.proofs.conclude.Goals as goal

pub consider_rays-requires : goal.consider_rays-requires
consider_rays-requires c =
    let (q, z, v, h, f, l) = c.requires in
    let (P, C, p, g) = q in
    let (t, ht, w) = v in
    ((P, c.args.sources.needs.now, C, p, whole_sure ht p c.if-level-sources.true w, g), z, f, l, (whole_rows w).close)

pub returns-then-level-sources : goal.returns-then-level-sources
returns-then-level-sources c =
    λ t ht w.
    let (q, z, v, h, f, l) = c.requires in
    considered_whole ht (omega (arith, f, l)) c.if-level-sources.true w c.consider_rays.ensures

pub returns-else-level-sources : goal.returns-else-level-sources
returns-else-level-sources c = λ t ht w. considered_parts c.requires.3 w c.spread.ensures
