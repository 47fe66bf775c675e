-- hired_text: the answer's texts are those of the outcome for the call as it is held
use Rattle.std.proofs.Common.{◌≡◌, length, ap, ◌∙◌, rules}
use Rattle.hiring.specs.Hiring.{bytes_after, hire_answer}
use Rattle.hire.proofs.OutputLaws.{good_texts, refused_texts, called}
use Rattle.hire.proofs.hired_text.Goals as goal

pub returns-in-Ok : goal.returns-in-Ok
returns-in-Ok c =
    λ w e.
    let room : length c.args.out.now ≡ 2048 = search rules in
    let o = called w c.later_state-state.result _ c.args.asked e room c.later_state-state.ensures in
    let lent = c.args.out.now in
    good_texts w (c.hire.ensures.returned ∙ ap hire_answer o) lent _ c.in-Ok.is (c.hire.ensures.written ∙ ap (λ o. bytes_after o lent) o)

pub returns-in-Err : goal.returns-in-Err
returns-in-Err c =
    λ w e.
    let room : length c.args.out.now ≡ 2048 = search rules in
    let o = called w c.later_state-state.result _ c.args.asked e room c.later_state-state.ensures in
    refused_texts w (c.hire.ensures.returned ∙ ap hire_answer o) _ c.in-Err.is
    (rw c.number-in-Err.ensures at c.refusal_text-refused.ensures) (rw c.number.ensures at c.advice_text-complaint.ensures)
