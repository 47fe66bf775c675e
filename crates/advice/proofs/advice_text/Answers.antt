-- `advice::advice_text` meets its contract: a refusal's sentence is the one at its place. Assumes nothing.
use mathlib.Core.Path.{subst}
use Rattle.std.proofs.Common.{arith}
use Rattle.sheet.specs.Text.{bytes}
use Rattle.advice.specs.Advice.{sentences}
use Rattle.writing.specs.Writing.{Writes}
use Rattle.writing.proofs.PutLaws.{written}
use Rattle.advice.proofs.AdviceLaws.{now_at, spoken, unspoken}
use Rattle.advice.proofs.advice_text.Goals as goal

pub returns-then-place-ge15 : goal.returns-then-place-ge15
returns-then-place-ge15 c =
    record { within = omega arith; text = unspoken _ _ c.from-place.ensures c.if-place-ge15.true }

pub returns : goal.returns
unfolding sentences bytes
returns c =
    subst (Writes _ _) (rw now_at (spoken _ _ _ c.from-place.ensures c.if-place-ge15.false)) (written c.put_bytes.ensures)
