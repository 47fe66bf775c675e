-- Six words of a vector and six rows of a table, by their places.
use mathlib.Core.Path.{◌≡◌, ap}
use mathlib.Core.List.{[], ◌∷◌}
use Prim.Native.Nat.{ℕ, ◌<◌}
use lib.ListN.{get_or}
use Rattle.maxplus.specs.Tables.{Vec, Mat}
use Rattle.maxplus.proofs.EachLaws.{each_same, each_at}
use Rattle.words.specs.Words.{word}
use Rattle.rows.specs.Grid.{strip, strips}

pub strip_at : (v : Vec) (j : ℕ) → j < 6 → get_or (strip v) j 0 ≡ word (v j)
unfolding strip
strip_at v j h = each_at 6 j (λ j. word (v j)) 0 h

pub strips_at : (A : Mat) (i : ℕ) → i < 6 → get_or (strips A) i [] ≡ strip (A i)
unfolding strips
strips_at A i h = each_at 6 i (λ i. strip (A i)) [] h

pub strip_eq : (v w : Vec) → ((j : ℕ) → v j ≡ w j) → strip v ≡ strip w
unfolding strip
strip_eq v w h = each_same 6 _ _ (λ j q. ap (λ e. word e ∷ []) (h j))
