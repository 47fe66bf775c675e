-- put_lines: the words of the drawn rows stand for the items, and are put as such
use Rattle.std.proofs.Common.{arith}
use Rattle.writing.proofs.WriterLaws.{put_as}
use Rattle.hiring.proofs.ItemLaws.{rows_close, drawn_text}
use Rattle.hiring.proofs.put_lines.Goals as goal

pub put_rows-requires : goal.put_rows-requires
put_rows-requires c = (omega arith, omega arith, omega arith, omega arith, rows_close c.draw_rows-next.ensures)

pub returns-clause-text : goal.returns-clause-text
returns-clause-text c = put_as (drawn_text c.draw_rows-next.ensures _) c.put_rows.ensures.puts
