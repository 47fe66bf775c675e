-- `hiring::chain::later_state` meets its contract. Assumes nothing.
use Rattle.std.proofs.Common.{◌∙◌, arith}
use Rattle.hiring.proofs.ChainLaws.{chained_at_once}
use Rattle.hiring.proofs.chain.later_state.Goals as goal

pub returns : goal.returns
returns c =
    λ k e few-m few-n.
    c.advanced.ensures ∙ chained_at_once _ _ c.args.state k _ _ (omega (arith, c.ranges.state)) (c.from.ensures ∙ e) c.draws_of.ensures.is
