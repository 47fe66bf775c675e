-- call_of: the first argument that is wrong makes the call wrong; with none the numbers are held
use Rattle.std.proofs.Common.{◌∙◌}
use Rattle.hire.proofs.CallLaws.{panels_wrong, triggers_wrong, state_wrong, number_wrong, no_state, no_place, call_held}
use Rattle.hire.proofs.asking.call_of.Goals as goal

pub returns-in_err-m : goal.returns-in_err-m
returns-in_err-m c = c.from_residual.ensures ∙ panels_wrong _ _ _ _ c.in_err-m.ensures

pub returns-in_err-n : goal.returns-in_err-n
returns-in_err-n c = c.from_residual-in_err-n.ensures ∙ triggers_wrong _ _ _ _ c.in_err-n.ensures

pub returns-in_err-s : goal.returns-in_err-s
returns-in_err-s c = c.from_residual-in_err-s.ensures ∙ state_wrong _ _ _ _ c.in_err-s.ensures

pub returns-in_err-k : goal.returns-in_err-k
returns-in_err-k c = c.from_residual-in_err-k.ensures ∙ number_wrong _ _ _ _ c.in_err-k.ensures

pub returns-in_err-state : goal.returns-in_err-state
returns-in_err-state c = c.from_residual-in_err-state.ensures ∙ no_state _ _ _ _ _ c.in_ok-s.ensures c.in_err-state.ensures

pub returns-in_err-before : goal.returns-in_err-before
returns-in_err-before c = c.from_residual-in_err-before.ensures ∙ no_place _ _ _ _ _ c.in_ok-k.ensures c.in_err-before.ensures

pub returns : goal.returns
returns c =
    call_held _ _ _ _ _ _ _ _ c.size_of.ensures c.size_of-2.ensures c.in_ok-state.ensures c.in_ok-before.ensures
    _ _ _ _ c.in_ok-m.ensures c.in_ok-n.ensures c.in_ok-s.ensures c.in_ok-k.ensures
