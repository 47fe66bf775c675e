-- `comparing::same_timings` meets its contract. Assumes nothing.
use mathlib.Core.Path.{refl, ap, sym, ◌∙◌}
use Rattle.std.specs.Prelude.{Err}
use Rattle.std.proofs.lemmas.Result.{err_from_is_err_and}
use Rattle.planning.proofs.PlanLaws.{err_named, ok_named}
use Rattle.comparing.specs.Comparing.{compare_answer}
use Rattle.comparing.specs.declared.Uncompared.TheVariants.{First, Second}
use Rattle.comparing.proofs.SameLaws.{none_refused, both_written, first_answer, second_answer}
use Rattle.comparing.proofs.same_timings.Goals as goal

pub returns-in_err-map_err-clause-answer : goal.returns-in_err-map_err-clause-answer
returns-in_err-map_err-clause-answer c =
    let (e, q, n) = err_named First _ c.map_err.ensures.cases c.in_err-map_err.was in
    let p = err_from_is_err_and c.from_residual.result c.from_residual.ensures.1 in
    ap compare_answer (p.1 ∙ ap Err (p.2 ∙ n)) ∙ (first_answer _ _ _ _ e (sym q ∙ c.refused.ensures _ refl)).0

pub returns-in_err-map_err-clause-left : goal.returns-in_err-map_err-clause-left
returns-in_err-map_err-clause-left c =
    let (e, q, n) = err_named First _ c.map_err.ensures.cases c.in_err-map_err.was in
    (first_answer _ _ _ _ e (sym q ∙ c.refused.ensures _ refl)).1.0

pub returns-in_err-map_err-clause-right : goal.returns-in_err-map_err-clause-right
returns-in_err-map_err-clause-right c =
    let (e, q, n) = err_named First _ c.map_err.ensures.cases c.in_err-map_err.was in
    (first_answer _ _ _ _ e (sym q ∙ c.refused.ensures _ refl)).1.1

pub returns-in_err-map_err-2-clause-answer : goal.returns-in_err-map_err-2-clause-answer
returns-in_err-map_err-2-clause-answer c =
    let (e, q, n) = err_named Second _ c.map_err-2.ensures.cases c.in_err-map_err-2.was in
    let p = err_from_is_err_and c.from_residual-in_err-map_err-2.result c.from_residual-in_err-map_err-2.ensures.1 in
    let z = sym (ok_named First _ c.map_err.ensures.cases c.in_ok-map_err.was) ∙ c.refused.ensures _ refl in
    ap compare_answer (p.1 ∙ ap Err (p.2 ∙ n)) ∙ (second_answer _ _ _ _ e z (sym q ∙ c.refused-2.ensures _ refl)).0

pub returns-in_err-map_err-2-clause-left : goal.returns-in_err-map_err-2-clause-left
returns-in_err-map_err-2-clause-left c =
    let (e, q, n) = err_named Second _ c.map_err-2.ensures.cases c.in_err-map_err-2.was in
    let z = sym (ok_named First _ c.map_err.ensures.cases c.in_ok-map_err.was) ∙ c.refused.ensures _ refl in
    (second_answer _ _ _ _ e z (sym q ∙ c.refused-2.ensures _ refl)).1.0

pub returns-in_err-map_err-2-clause-right : goal.returns-in_err-map_err-2-clause-right
returns-in_err-map_err-2-clause-right c =
    let (e, q, n) = err_named Second _ c.map_err-2.ensures.cases c.in_err-map_err-2.was in
    let z = sym (ok_named First _ c.map_err.ensures.cases c.in_ok-map_err.was) ∙ c.refused.ensures _ refl in
    (second_answer _ _ _ _ e z (sym q ∙ c.refused-2.ensures _ refl)).1.1

pub likened-requires : goal.likened-requires
likened-requires c = (
  none_refused _ (sym (ok_named First _ c.map_err.ensures.cases c.in_ok-map_err.was) ∙ c.refused.ensures _ refl),
  none_refused _ (sym (ok_named Second _ c.map_err-2.ensures.cases c.in_ok-map_err-2.was) ∙ c.refused-2.ensures _ refl),
)

pub returns-clause-left : goal.returns-clause-left
returns-clause-left c =
    c.likened.ensures.left ∙
    both_written _ _ _ (none_refused _ (sym (ok_named Second _ c.map_err-2.ensures.cases c.in_ok-map_err-2.was) ∙ c.refused-2.ensures _ refl))

pub returns-clause-right : goal.returns-clause-right
returns-clause-right c =
    c.likened.ensures.right ∙
    both_written _ _ _ (none_refused _ (sym (ok_named First _ c.map_err.ensures.cases c.in_ok-map_err.was) ∙ c.refused.ensures _ refl))
