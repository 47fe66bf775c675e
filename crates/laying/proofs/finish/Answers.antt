-- `laying::finish` meets its contract: the cue's lines are laid out, and where the sheet has a last line each gets its cap.
use Rattle.laying.proofs.FinishLaws.{listing_room, caps_ready, finished_capped, finished_plain}
use Rattle.laying.proofs.finish.Goals as goal

pub lay_out-requires : goal.lay_out-requires
lay_out-requires c = let (t, before, l) = c.requires in (listing_room l, (_, _, l.placed))

pub add_caps-requires : goal.add_caps-requires
add_caps-requires c =
    let (t, before, l) = c.requires in
    caps_ready l c.lay_out.ensures l.placed.triggers_are c.in-Some.is

pub returns-in-Some : goal.returns-in-Some
returns-in-Some c =
    λ t before l.
    finished_capped l c.lay_out.ensures l.placed.triggers_are c.in-Some.is c.add_caps.ensures

pub returns-in-None : goal.returns-in-None
returns-in-None c =
    λ t before l.
    finished_plain l c.lay_out.ensures c.in-None.is
