-- `buffer::Buffer::insert` meets its contract: the lines from `k` on have moved.
use mathlib.Core.Path.{◌≡◌, refl, ◌∙◌}
use mathlib.Core.List.{[]}
use Prim.Native.Nat.{◌-◌}
use native.Mathlib.Omega.{arith}
use lib.ListN.{length-set}
use Rattle.buffer.specs.Buffer.{room}
use Rattle.buffer.proofs.BufferLaws.{moved_start, moved_more, moved_end}
use Rattle.buffer.proofs.Buffer.insert.Goals as goal

pub loop-k-init : goal.loop-k-init
loop-k-init c = let more = c.min-self.ensures in (omega arith, omega arith, refl, moved_start [] _ _)

pub loop-k-preserved : goal.loop-k-preserved
loop-k-preserved c =
    let (low, high, same, moved) = c.loop-k.invariant in
    (omega arith, omega arith, same, moved_more [] _ _ (c.loop-k.k - 1) _ (omega arith) (omega arith) moved)

pub returns : goal.returns
returns c =
    let b = c.args.self.now in let l = c.loop-k in let (low, high, same, moved) = l.invariant in let more = c.min-self.ensures in
    let e : l.k - 1 ≡ c.args.at = omega arith in
    record {
      size = length-set l.self.rows c.args.at c.args.line.at ∙ moved.size ∙ omega arith;
      few = omega arith;
      rows = moved_end [] room b.rows b.len c.args.at l.self.len l.self.rows c.args.line.at
          (omega arith) c.requires.0 c.requires.2 (omega arith) (omega arith) (rw e at moved);
    }
