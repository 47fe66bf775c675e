-- put_field: the key, the number and LF, one behind another
use Rattle.sheet.specs.Text.{bytes}
use Rattle.writing.proofs.WriterLaws.{put_field}
use Rattle.writing.proofs.Writer.put_field.Goals as goal

pub returns : goal.returns
unfolding bytes
returns g c =
    let p = put_field c.put_bytes.ensures c.put.ensures.puts c.put_byte.ensures c.put.ensures.short in
    record { puts = p.0; short = p.1 }
