-- A line that was shifted so that its greatest component is 0.
use Rattle.std.specs.Prelude.{◌≡◌, ℕ, ◌<◌}
use Rattle.maxplus.specs.Entry.{◌≼◌, unit}
use Rattle.maxplus.specs.Line.{Line, at}

-- "the greatest component is 0"
pub record Normal (n : ℕ) (c : Line n) : Type 0 where
  pub top : ℕ
  pub here : top < n
  pub zero_there : at n c top ≡ unit
  pub low : (i : ℕ) → i < n → at n c i ≼ unit
