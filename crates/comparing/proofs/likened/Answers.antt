-- `comparing::likened` meets its contract: by demand 3 the words of two lists are the same exactly when the same timings are tightest.
-- Assumes nothing.
use mathlib.Core.Path.{subst, sym, ◌∙◌}
use mathlib.Core.Logic.{inl, inr}
use native.Mathlib.Omega.{arith}
use Rattle.planning.specs.Planning.{plan_in}
use Rattle.comparing.proofs.LineLaws.{lines_inside}
use Rattle.comparing.proofs.SameLaws.{accepted, said_yes, said_no, Within, front_fits, unlike_answer, same_answer, different_answer}
use Rattle.comparing.proofs.likened.Goals.{then-p-q-via-then-p-q, then-p-q-via-else-p-q+then-p-q-2, else-p-q-3-via-then-p-q-3+else-same_lines, else-p-q-3-via-else-p-q-3}
use Rattle.comparing.proofs.likened.Goals as goal

pub unwrap-p-requires : goal.unwrap-p-requires
unwrap-p-requires c = accepted _ c.plan.ensures.answer c.requires.0

pub unwrap-q-requires : goal.unwrap-q-requires
unwrap-q-requires c = accepted _ c.plan-2.ensures.answer c.requires.1

pub returns-then-p-q-clause-answer : goal.returns-then-p-q-clause-answer
returns-then-p-q-clause-answer c =
    let p = sym c.unwrap-p.ensures ∙ c.plan.ensures.answer in
    let q = sym c.unwrap-q.ensures ∙ c.plan-2.ensures.answer in
    unlike_answer _ _ _ _ c.requires.0 c.requires.1 _ _ p q _ _ c.extent_of-a.ensures c.extent_of-b.ensures
    (elim c.then-p-q.branch [
      | then-p-q-via-then-p-q w ↦ inl w.if-p-q.true
      | then-p-q-via-else-p-q+then-p-q-2 w ↦ inr w.if-p-q-2.true
    ])

pub same_lines-requires : goal.same_lines-requires
same_lines-requires c =
    let p = sym c.unwrap-p.ensures ∙ c.plan.ensures.answer in
    let q = sym c.unwrap-q.ensures ∙ c.plan-2.ensures.answer in
    let (seven, left) = (subst (λ r. Within (plan_in r) c.args.left.now) (sym p) (front_fits _ _ c.requires.0)) in
    let (seven', right) = (subst (λ r. Within (plan_in r) c.args.right.now) (sym q) (front_fits _ _ c.requires.1)) in (
      omega arith,
      omega arith,
      lines_inside {wide = c.unwrap-p.result.width} _ (omega arith) (omega arith),
      lines_inside {wide = c.unwrap-q.result.width} _ (omega arith) (rw c.if-p-q-3.true (omega arith)),
    )

pub returns-then-same_lines-clause-answer : goal.returns-then-same_lines-clause-answer
returns-then-same_lines-clause-answer c =
    let p = sym c.unwrap-p.ensures ∙ c.plan.ensures.answer in
    let q = sym c.unwrap-q.ensures ∙ c.plan-2.ensures.answer in
    same_answer _ _ _ _ c.requires.0 c.requires.1 _ _ p q _ _ c.extent_of-a.ensures c.extent_of-b.ensures _ _ c.plan.ensures.written c.plan-2.ensures.written
    c.if-p-q.false c.if-p-q-2.false c.if-p-q-3.true (said_yes c.if-same_lines.true c.same_lines.ensures)

pub returns-clause-answer : goal.returns-clause-answer
returns-clause-answer c =
    let p = sym c.unwrap-p.ensures ∙ c.plan.ensures.answer in
    let q = sym c.unwrap-q.ensures ∙ c.plan-2.ensures.answer in
    different_answer _ _ _ _ c.requires.0 c.requires.1 _ _ p q _ _ c.extent_of-a.ensures c.extent_of-b.ensures _ _ c.plan.ensures.written c.plan-2.ensures.written
    c.if-p-q.false c.if-p-q-2.false
    (λ e. elim c.else-p-q-3.branch [
      | else-p-q-3-via-then-p-q-3+else-same_lines w ↦ said_no w.if-same_lines.false w.same_lines.ensures e.1
      | else-p-q-3-via-else-p-q-3 w ↦ w.if-p-q-3.false e.0
    ])
