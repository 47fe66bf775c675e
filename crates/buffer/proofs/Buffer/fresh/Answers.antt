-- `buffer::Buffer::fresh` meets its contract, by where the place is.
use mathlib.Core.Bool.{Bool, true, false}
use mathlib.Core.List.{List}
use Prim.Native.Nat.{ℕ, ◌<◌}
use native.Mathlib.Omega.{arith}
use Rattle.tables.specs.Held.{Says}
use Rattle.buffer.specs.Buffer.{room, row, Before, Fresh}
use Rattle.buffer.proofs.Buffer.fresh.Goals as goal

-- before the end, the comparison decides
inside : (buf : List (List ℕ)) (len at : ℕ) (w : List ℕ) (r : Bool) → at < room → at < len → Says (Before w (row buf at)) r →
    Says (Fresh buf len at w) r
inside buf len at w true h k s = (h, λ q. s)
inside buf len at w false h k s = λ t. s (t.1 k)

pub returns : goal.returns
returns c =
    let a = c.args in
    inside a.self.now.rows a.self.now.len a.at a.line.at c.below.result (omega arith) (omega arith) c.below.ensures
