-- `reading::some_lag_missing` meets its contract. The loop's invariant: none of the triggers passed is without a lag and not spare. Assumes nothing.
use mathlib.Core.Path.{sym, ◌∙◌}
use native.Mathlib.Omega.{arith}
use Rattle.sheet.proofs.LineLaws.{place_any, place_none}
use Rattle.reading.proofs.some_lag_missing.Goals as goal

pub returns-then-lag_missing : goal.returns-then-lag_missing
returns-then-lag_missing c = sym (place_any _ _ c.loop-j.j c.loop-j-test.true (sym c.lag_missing.ensures ∙ c.if-lag_missing.true))

pub returns : goal.returns
returns c = sym (place_none _ _ (λ k h. c.loop-j.invariant k (omega arith)))
