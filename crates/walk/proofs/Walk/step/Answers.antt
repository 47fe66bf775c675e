-- `walk::Walk::step` meets its contract: where every panel is fixed, the last one gives up its trigger; then it says of the cycle's state what
-- the cycle says of it.
use Rattle.walk.proofs.ResumeLaws.{may_give_up, resume_ready, resume_taken}
use Rattle.walk.proofs.Walk.step.Goals as goal

pub resume-requires : goal.resume-requires
resume-requires c = may_give_up c.requires

pub trying-found-requires : goal.trying-found-requires
trying-found-requires c = resume_ready c.args.self c.requires c.resume.ensures

pub returns-then-found : goal.returns-then-found
returns-then-found c = resume_taken c.args.self c.requires c.resume.ensures (rw c.if-found.true at c.trying-found.ensures)

pub returns-else-found : goal.returns-else-found
returns-else-found c = resume_taken c.args.self c.requires c.resume.ensures (rw c.if-found.false at c.trying-found.ensures)
