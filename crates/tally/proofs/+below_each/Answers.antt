-- `below` and `each`, which call each other, meet their contracts: a level more, or the same level with fewer triggers.
use Rattle.std.proofs.Common.{◌∙◌, ◌<◌, arith}
use Rattle.trigger_sets.proofs.MemberLaws.{low_in}
use Rattle.tally.proofs.WordLaws.{digit_small}
use Rattle.tally.proofs.CountLaws.{counted_whole, counted_level, counted_none, counted_more, steps_few, selections_fit}
use Rattle.tally.proofs.+below_each.Goals as goal

pub below-returns-then-level-panels : goal.below-returns-then-level-panels
below-returns-then-level-panels t c = counted_whole c.requires.0 _ c.if-level-panels.true

pub below-each-counts-requires : goal.below-each-counts-requires
below-each-counts-requires t c =
    let y = c.requires.0 in
    let l : c.args.level < c.args.panels = omega (arith, c.if-level-panels.false, c.requires.1) in
    let s : c.left_at.result < 64 = rw c.left_at.ensures (digit_small c.args.left 0) in
    (omega (arith, c.decreases), (y, l, s))

pub below-returns : goal.below-returns
below-returns t c =
    let l : c.args.level < c.args.panels = omega (arith, c.if-level-panels.false, c.requires.1) in
    counted_level _ c.requires.0.few l (rw c.left_at.ensures at c.each-counts.ensures)

pub each-returns-then-m-eq0 : goal.each-returns-then-m-eq0
each-returns-then-m-eq0 t c = let (y, h, s) = c.requires in rw c.if-m-eq0.true (counted_none _ y.few h y.remembered)

pub each-cut_below-cut-requires : goal.each-cut_below-cut-requires
each-cut_below-cut-requires t c =
    let (y, h, s) = c.requires in
    let z : 0 < c.args.m = omega (arith, c.if-m-eq0.false) in
    (omega (arith, h, y.few), omega (arith, c.from.ensures, c.low.ensures, low_in c.args.m z s))

pub each-overflow_add-result : goal.each-overflow_add-result
each-overflow_add-result t c =
    let (y, h, s) = c.requires in
    omega (
      arith,
      steps_few c.args.left y.few h (omega (arith, c.if-m-eq0.false)) s (c.from.ensures ∙ c.low.ensures) c.others-rest.ensures.is
          c.cut_below-cut.ensures c.below-first.ensures c.each-after.ensures,
    )

pub each-overflow_add-result-2 : goal.each-overflow_add-result-2
each-overflow_add-result-2 t c =
    let (y, h, s) = c.requires in
    omega (
      arith,
      steps_few c.args.left y.few h (omega (arith, c.if-m-eq0.false)) s (c.from.ensures ∙ c.low.ensures) c.others-rest.ensures.is
          c.cut_below-cut.ensures c.below-first.ensures c.each-after.ensures,
    )

pub each-overflow_add-result-3 : goal.each-overflow_add-result-3
each-overflow_add-result-3 t c =
    let (y, h, s) = c.requires in
    omega (
      arith,
      selections_fit c.args.left y.few h (omega (arith, c.if-m-eq0.false)) s (c.from.ensures ∙ c.low.ensures) c.others-rest.ensures.is
          c.cut_below-cut.ensures c.below-first.ensures c.each-after.ensures,
    )

pub each-returns : goal.each-returns
each-returns t c =
    let (y, h, s) = c.requires in
    counted_more c.args.left y.few h (omega (arith, c.if-m-eq0.false)) s (c.from.ensures ∙ c.low.ensures) c.others-rest.ensures.is
    c.cut_below-cut.ensures c.below-first.ensures c.each-after.ensures
