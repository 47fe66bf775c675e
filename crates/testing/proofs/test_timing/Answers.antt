-- `testing::test_timing` meets its contract. Assumes nothing.
use mathlib.Core.Bool.{false}
use Rattle.sheet.proofs.AdmittedLaws.{admitted_as}
use Rattle.tables.proofs.Loops.{says_true, says_false}
use Rattle.timing.specs.Times.{component}
use Rattle.std.proofs.lemmas.Result.{err_from_is_err_and}
use Rattle.testing.proofs.SheetLaws.{tested_asks, answer_says}
use Rattle.testing.proofs.TestLaws.{testing_refused, testing_says}
use Rattle.testing.proofs.test_timing.Goals as goal

pub returns-in_err-prepared : goal.returns-in_err-prepared
returns-in_err-prepared c =
    let p = err_from_is_err_and c.from_residual.result c.from_residual.ensures.1 in
    rw (p.1, p.2) (testing_refused _ _ _ _ c.in_err-prepared.ensures)

pub words_of-times-requires : goal.words_of-times-requires
words_of-times-requires c =
    let (t, x, q, M) = c.in_ok-prepared.ensures in
    rw M.placed.triggers_are (M.good.triggers_few, (admitted_as _ _ _ t x q).near)

pub early-requires : goal.early-requires
early-requires c =
    let (t, x, q, M) = c.in_ok-prepared.ensures in
    (t, _, M.moments, M.good, rw M.placed.triggers_are at c.words_of-times.ensures)

pub returns-then-not-early : goal.returns-then-not-early
returns-then-not-early c =
    let (t, x, q, M) = c.in_ok-prepared.ensures in
    let v = rw M.placed.triggers_are at c.words_of-times.ensures in
    testing_says _ _ _ t x q false (λ h. says_false c.early.result c.if-not-early.true (c.early.ensures t _ M.moments M.good v) h.in_time)

pub tested-requires : goal.tested-requires
tested-requires c =
    let (t, x, q, M) = c.in_ok-prepared.ensures in
    tested_asks M (component c.args.timing.at) (c.times_in_use-x.ensures _ _ _ M.placed (rw M.placed.triggers_are at c.words_of-times.ensures))

pub returns : goal.returns
returns c =
    let (t, x, q, M) = c.in_ok-prepared.ensures in
    let v = rw M.placed.triggers_are at c.words_of-times.ensures in
    let early = says_true c.early.result c.if-not-early.false (c.early.ensures t _ M.moments M.good v) in
    testing_says _ _ _ t x q _ (answer_says M _ (c.times_in_use-x.ensures _ _ _ M.placed v) early _ c.tested.ensures)
