-- The lent space: words from a place on, and the others as they were.
use Rattle.std.specs.Prelude.{List, ◌++◌, ℕ, ◌+◌, ℤ, length, take, drop}

unfoldable pub laid : List ℤ → ℕ → List ℤ → List ℤ
laid before at ws = take at before ++ ws ++ drop (at + length ws) before
