-- a number below 2^64 has at most 20 digits
use Rattle.std.proofs.Common.{arith}
use Rattle.writing.proofs.NumeralLaws.{natural_64}
use Rattle.writing.proofs.U64Number.put.Goals as goal

pub returns-clause-short : goal.returns-clause-short
returns-clause-short c = omega (arith, c.put_natural.ensures.puts.end, natural_64 _ c.ranges.self.fits)
