-- put_natural: a number is its tenth part's digits, then its last
use Rattle.std.proofs.Common.{sym, ◌/◌, arith}
use Rattle.writing.proofs.PutLaws.{then, put_as}
use Rattle.writing.proofs.NumeralLaws.{natural_small, natural_more, natural_length}
use Rattle.writing.proofs.+put_natural.Goals as goal

pub returns-then-v-lt10 : goal.returns-then-v-lt10
returns-then-v-lt10 t c = put_as (sym (natural_small _ c.if-v-lt10.true)) c.put_byte.ensures

pub put_byte-requires-2 : goal.put_byte-requires-2
put_byte-requires-2 t c = omega (arith, natural_length 18 (c.args.v / 10) (omega arith))

pub returns : goal.returns
returns t c = put_as (sym (natural_more _ c.if-v-lt10.false)) (then c.put_natural-end.ensures c.put_byte-2.ensures)
