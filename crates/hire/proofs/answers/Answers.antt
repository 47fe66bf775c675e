-- answers: the call is that of the arguments; a wrong one and a good one give their two texts
use Rattle.hire.proofs.AskedLaws.{wrong_out, good_out}
use Rattle.hire.proofs.answers.Goals as goal

pub returns-in_default : goal.returns-in_default
returns-in_default c =
    let (within, texts) = wrong_out _ _ _ _ c.args.out.now _ c.in_default.ensures c.usage_text-usage.ensures.writes in
    record { prefix_len = within; out_after = texts.0; prefix_len_2 = texts.1.0; errors_after = texts.1.1 }

pub returns : goal.returns
returns c =
    let (within, texts) = good_out _ _ _ _ _ _ _ c.in-Some.ensures c.hired_text.ensures in
    record { prefix_len = within; out_after = texts.0; prefix_len_2 = texts.1.0; errors_after = texts.1.1 }
