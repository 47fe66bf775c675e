-- What the functions that read an item promise.
use Rattle.std.specs.Prelude.{◌≡◌, List, ℕ, suc, ◌≤◌, min, length, drop, pos, negsuc, Option, Some, None}
use Rattle.maxplus.specs.Entry.{E, absent, num}
use Rattle.words.specs.Words.{word}
use Rattle.sheet.specs.Sheet.{Got, got, refused, value, behind}
use Rattle.items.specs.declared.Item.{Item}
use Rattle.items.specs.declared.Numeral.{Numeral}

-- a number that is further from 0 than the most asked for counts as the first one past it
abbrev pub clip : (most : ℕ) → E → E
clip most absent = absent
clip most (num (pos n)) = num (pos (min n (suc most)))
clip most (num (negsuc n)) = num (negsuc (min n most))

pub record NumeralAt (most : ℕ) (s : List ℕ) (from first : ℕ) (r : Numeral) : Type 0 where
  pub value_is : r.value ≡ min (value first (drop from s)) (suc most)
  pub within : r.next ≤ length s
  pub rest : drop r.next s ≡ behind (drop from s)

-- what f reads at the bytes s from `at` on, as an item: an entry e, clipped, and the place behind it; or a fault of kind 2
abbrev pub ItemIs : (most : ℕ) → (List ℕ → Got E) → List ℕ → ℕ → Option Item → Type 0
ItemIs most f s at (Some r) = (e : E) × (f (drop at s) ≡ got e (drop r.next s)) × (r.word ≡ word (clip most e)) × (r.next ≤ length s)
ItemIs most f s at None = f (drop at s) ≡ refused 2
