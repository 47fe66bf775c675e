-- `laying::cap::add_cap` meets its contract: the cap is worked out from the line's entries, and the words are moved as they stand.
use mathlib.Core.Path.{◌∙◌}
use borrow.Author.Rules.{rules}
use Rattle.laying.proofs.LayLaws.{read_back}
use Rattle.laying.proofs.CapLaws.{cap_entry, cap_close, line_moved}
use Rattle.laying.proofs.cap.add_cap.Goals as goal

pub signed-requires : goal.signed-requires
signed-requires c =
    let (room, (d, z, l)) = c.requires in
    cap_close l _ (cap_entry l _ c.line_at-line.ensures.words.is c.cap-cap.ensures.is)

pub returns : goal.returns
returns c =
    λ d z l.
    let e = cap_entry l _ c.line_at-line.ensures.words.is c.cap-cap.ensures.is in
    line_moved l _ c.components-words.ensures (read_back (search rules) ∙ c.signed.ensures) e c.put_capped.ensures
