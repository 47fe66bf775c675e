-- The word of a component that is not beyond the limit.
use mathlib.Core.Path.{◌≡◌}
use mathlib.Core.Bool.{false}
use Prim.Native.Nat.{ℕ}
use native.Mathlib.Omega.{arith}
use lib.IntN.{ℤ}
use Rattle.maxplus.specs.Entry.{num}
use Rattle.words.specs.Words.{word, entry, Close}
use Rattle.words.proofs.Laws.{number_word}
use Rattle.sheet.proofs.Fits.{not_beyond}
use Rattle.sheet.specs.Times.{far_limit, beyond}

-- it stands for the component, and is not far from the word of 0
pub component_word : (x : ℤ) → beyond x ≡ false → (v : ℕ) → v ≡ word (num x) → (entry v ≡ num x) × Close far_limit v
component_word x b v e = let (h, k) = not_beyond x b in number_word far_limit x v (omega arith) h k e
