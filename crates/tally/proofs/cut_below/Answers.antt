-- `tally::cut_below` meets its contract: the levels from `k` on have been cut.
use Rattle.std.proofs.Common.{◌≡◌, ap, ◌∙◌, ◌+◌, ◌-◌, arith}
use Rattle.walk.specs.Trace.{cut, serves}
use Rattle.tally.specs.Counting.{behind}
use Rattle.tally.proofs.WordLaws.{behind_small, speaks_more, speaks_fits}
use Rattle.tally.proofs.cut_below.Goals as goal

pub overflow_mul-r : goal.overflow_mul-r
overflow_mul-r c = omega (arith, speaks_fits {l = c.loop-k.k} (omega arith) c.loop-k.invariant.0)

pub overflow_add-r : goal.overflow_add-r
overflow_add-r c =
    let a = c.args in
    let k = c.loop-k.k - 1 in
    let e : c.from.result ≡ behind a.gains.now a.level a.left a.j k =
    c.from.ensures ∙ c.cut_by.ensures ∙ ap (cut a.j (serves a.gains.now a.level a.j k)) c.left_at.ensures in
    omega (
      arith,
      e,
      behind_small a.gains.now a.level a.left a.j k c.requires.1,
      speaks_fits {l = c.loop-k.k} (omega arith) c.loop-k.invariant.0,
    )

pub loop-k-preserved : goal.loop-k-preserved
loop-k-preserved c =
    let a = c.args in
    let k = c.loop-k.k - 1 in
    let e : c.from.result ≡ behind a.gains.now a.level a.left a.j k =
    c.from.ensures ∙ c.cut_by.ensures ∙ ap (cut a.j (serves a.gains.now a.level a.j k)) c.left_at.ensures in
    let d : k + 1 ≡ c.loop-k.k = omega arith in
    (speaks_more (rw d c.loop-k.invariant.0) e (rw e (behind_small a.gains.now a.level a.left a.j k c.requires.1)), omega arith)

pub returns : goal.returns
returns c = let d : c.loop-k.k ≡ c.args.level + 1 = omega arith in rw d at c.loop-k.invariant.0
