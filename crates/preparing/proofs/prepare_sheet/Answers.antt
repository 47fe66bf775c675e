-- `preparing::prepare_sheet` meets its contract. Assumes nothing.
use mathlib.Core.Path.{◌≡◌, subst}
use Prim.Native.Nat.{ℕ}
use Rattle.sheet.specs.Sheet as spec
use Rattle.maxplus.specs.Tables.{NoGain}
use Rattle.sheet.specs.Cue.{cue_of, cue_size, Orderly}
use Rattle.sheet.proofs.OrderedLaws.{ordered_8, ordered_got}
use Rattle.tables.proofs.Loops.{says_true, says_false}
use Rattle.preparing.proofs.Preparing.{readied}
use Rattle.preparing.proofs.prepare_sheet.Goals as goal

-- the order check is made with the cue's own number of triggers
by_size : (t : spec.Sheet) {n : ℕ} → n ≡ cue_size t → ¬ (NoGain n (cue_of t).order) → ¬ (Orderly t)
by_size t e = subst (λ n. ¬ (NoGain n (cue_of t).order)) e

kept-by-size : (t : spec.Sheet) {n : ℕ} → n ≡ cue_size t → NoGain n (cue_of t).order → Orderly t
kept-by-size t e = subst (λ n. NoGain n (cue_of t).order) e

pub closed_tables-requires : goal.closed_tables-requires
closed_tables-requires c = let (t, W) = c.requires in (cue_of t, (c.cue_of-cue.ensures t W).held)

pub returns-then-not-closed_tables : goal.returns-then-not-closed_tables
returns-then-not-closed_tables c =
    λ b t x r W.
    let F = c.cue_of-cue.ensures t W in
    ordered_8 b t x r (by_size t F.sized (says_false c.closed_tables.result c.if-not-closed_tables.true (c.closed_tables.ensures (cue_of t) F.held).order))

pub marks_of-marked-requires : goal.marks_of-marked-requires
marks_of-marked-requires c =
    let (t, W) = c.requires in
    let T = c.closed_tables.ensures (cue_of t) (c.cue_of-cue.ensures t W).held in
    (cue_of t, _, _, T.fit (says_true c.closed_tables.result c.if-not-closed_tables.false T.order))

pub returns : goal.returns
returns c =
    λ b t x r W.
    let F = c.cue_of-cue.ensures t W in
    let T = c.closed_tables.ensures (cue_of t) F.held in
    let np = says_true c.closed_tables.result c.if-not-closed_tables.false T.order in
    readied t x (ordered_got b t x r (kept-by-size t F.sized np)) F np (c.marks_of-marked.ensures (cue_of t) _ _ (T.fit np)) (c.moments_of.ensures t W)
    W.good
