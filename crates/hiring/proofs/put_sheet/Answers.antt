-- put_sheet: the parts, put one behind the other, are the sheet's text
use Rattle.sheet.specs.Text.{bytes}
use Rattle.hiring.proofs.SheetParts.{sheet_put}
use Rattle.hiring.proofs.put_sheet.Goals as goal

pub returns : goal.returns
unfolding bytes
returns c =
    let l = c.put_lines-past_lag.ensures in
    let m = c.put_marks-past_marks.ensures in
    let a = c.put_lines.ensures in
    let (p, e) = sheet_put _ _ _ c.put_sizes.ensures.puts l.text l.state m.text m.state a.text a.state in
    record { text = p; state = e }
