-- put_marks: the floor line, and the due line from the state that it left
use Rattle.std.proofs.Common.{arith}
use Rattle.sheet.specs.Text.{bytes}
use Rattle.hiring.proofs.SheetParts.{marks_put}
use Rattle.hiring.proofs.put_marks.Goals as goal

pub returns : goal.returns
unfolding bytes
returns c =
    let f = c.put_lines-past_floor.ensures in
    let d = c.put_lines.ensures in
    let (p, e) = marks_put _ _ _ f.text f.state d.text d.state in
    record { text = p; short = omega arith; state = e }
