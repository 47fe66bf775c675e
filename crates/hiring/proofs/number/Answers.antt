-- number: the machine's difference is the difference
use Rattle.std.proofs.Common.{ap, ◌∙◌, arith}
use Rattle.std.proofs.lemmas.Int.{ints}
use Rattle.maxplus.specs.Entry.{num}
use Rattle.words.specs.Words.{word}
use Rattle.hiring.specs.Hiring.{drawn_number}
use Rattle.hiring.proofs.number.Goals as goal

pub returns : goal.returns
unfolding drawn_number
returns c = c.of_number.ensures ∙ ap (λ z. word (num z)) (omega (arith, ints))
