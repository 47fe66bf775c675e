-- `moments::early` meets its contract. Assumes nothing.
use mathlib.Core.Path.{ap, ◌∙◌}
use native.Mathlib.Omega.{arith}
use Rattle.maxplus.specs.Entry.{◌⊗◌, inv}
use Rattle.maxplus.proofs.EntryLaws.{⊗_unit}
use Rattle.words.specs.Words.{entry}
use Rattle.words.proofs.Laws.{close_more, close_minus}
use Rattle.moments.proofs.MomentLaws.{zero_is, early_idle, early_latest, early_time}
use Rattle.moments.proofs.early.Goals as goal

pub returns-then-overrun-eq0-clause-is : goal.returns-then-overrun-eq0-clause-is
returns-then-overrun-eq0-clause-is c = early_idle c.args.x c.args.overrun (omega arith)

pub minus-latest-requires : goal.minus-latest-requires
minus-latest-requires c = (close_more (omega arith) (zero_is c.of_number.ensures).1, close_more (omega arith) c.requires.1)

pub returns-then-latest-x-clause-is : goal.returns-then-latest-x-clause-is
returns-then-latest-x-clause-is c = let a = c.args in λ z f. early_latest a.x a.overrun _ ((c.minus-latest.ensures ∙ ap (λ a. a ⊗ inv (entry c.args.overrun)) (zero_is c.of_number.ensures).0 ∙ ⊗_unit _)) (λ e. let x : ⊥ = omega arith in x) z f (omega arith)

pub returns-then-latest-x-clause-close : goal.returns-then-latest-x-clause-close
returns-then-latest-x-clause-close c = let a = c.args in close_more (omega arith) ((close_minus _ _ _ c.minus-latest.ensures (zero_is c.of_number.ensures).1 c.requires.1))

pub returns-else-latest-x-clause-is : goal.returns-else-latest-x-clause-is
returns-else-latest-x-clause-is c = let a = c.args in λ z f. early_time a.x a.overrun _ ((c.minus-latest.ensures ∙ ap (λ a. a ⊗ inv (entry c.args.overrun)) (zero_is c.of_number.ensures).0 ∙ ⊗_unit _)) (λ e. let x : ⊥ = omega arith in x) z f (omega arith)
