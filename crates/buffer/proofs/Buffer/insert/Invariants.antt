-- `buffer::Buffer::insert` meets its contract: the lines from `k` on have moved.
use mathlib.Core.Path.{◌≡◌}
use mathlib.Core.List.{[]}
use Prim.Native.Nat.{◌-◌, ◌<◌, ◌≤◌}
use Rattle.buffer.proofs.BufferLaws.{Moved}
use Rattle.buffer.proofs.Buffer.insert.Given as goal

abbrev pub invariant-loop-k : goal.invariant-loop-k
invariant-loop-k l = (l.at < l.k) × (l.k ≤ l.self.len) × (l.self.len ≡ l.initial.self.len) ×
    Moved [] l.initial.self.rows (l.self.len - 1) (l.k - 1) l.self.rows
