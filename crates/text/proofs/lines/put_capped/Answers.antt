-- `text::lines::put_capped` meets its contract. Assumes nothing.
use mathlib.Core.Path.{ap}
use native.Mathlib.Omega.{arith}
use lib.IntN.{ℤ, pos}
use borrow.Author.Rules.{rules}
use lib.ListN.{get_or}
use mir.Syntax.{w32}
use mir.Val.{SFits}
use Rattle.cue.specs.Written.{line_size}
use Rattle.sheet.specs.Text.{bytes}
use Rattle.writing.specs.Numerals.{numeral}
use Rattle.writing.specs.Texts.{field}
use Rattle.writing.proofs.WriterLaws.{then, put_as, field_length}
use Rattle.writing.proofs.SignedLaws.{numeral_32, wider_back}
use Rattle.writing.proofs.TextLaws.{text_capped, text_alone}
use Rattle.text.proofs.lines.put_capped.Goals as goal

pub returns-then-line-eq-CAPPED_SIZE : goal.returns-then-line-eq-CAPPED_SIZE
unfolding bytes
returns-then-line-eq-CAPPED_SIZE c =
    let l = c.put_line.ensures in
    -- the word behind the line's seven
    let cap : ℤ = get_or c.args.line.now line_size (pos 0) in
    let f : SFits w32 cap = search rules in
    let p = put_as (ap (λ z. field (bytes "cap=") (numeral z)) (wider_back f)) (rw c.from.ensures at c.put_field.ensures.puts) in
    record {
      puts = put_as (text_capped _ _ _ _ _ c.if-line-eq-CAPPED_SIZE.true) (then l.puts p);
      short = omega (arith, l.short, p.puts.end, field_length (bytes "cap=") (numeral cap), numeral_32 cap f);
    }

pub returns-else-line-eq-CAPPED_SIZE-clause-puts : goal.returns-else-line-eq-CAPPED_SIZE-clause-puts
returns-else-line-eq-CAPPED_SIZE-clause-puts c = put_as (text_alone _ _ _ _ _ c.if-line-eq-CAPPED_SIZE.false) c.put_line.ensures.puts
