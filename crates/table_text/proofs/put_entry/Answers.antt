-- `table_text::put_entry` meets its contract. Assumes nothing.
use mathlib.Core.Path.{sym, ◌∙◌}
use Rattle.sheet.specs.Text.{bytes}
use Rattle.writing.proofs.WriterLaws.{put_as, put_short}
use Rattle.table_text.proofs.EntryLaws.{none_there, number_there, item_short, number_back}
use Rattle.table_text.proofs.put_entry.Goals as goal

pub returns-then-not-present-clause-puts : goal.returns-then-not-present-clause-puts
unfolding bytes
returns-then-not-present-clause-puts c = put_as (none_there _ (sym c.present.ensures ∙ c.if-not-present.true)) c.put_byte.ensures

pub number-requires : goal.number-requires
number-requires c = number_there _ (sym c.present.ensures ∙ c.if-not-present.false) c.requires.1

pub returns : goal.returns
returns c =
    let p = put_short (item_short _ c.requires.1) (put_as (number_back _ _ c.requires.1 c.number.ensures) c.put_number.ensures.puts) in
    record { puts = p.0; short = p.1 }
