-- Laws of an entry's word as text: which words stand for a number, and how long an item is.
use mathlib.Core.Path.{◌≡◌, refl, ap, sym, ◌∙◌}
use mathlib.Core.Bool.{true, false}
use Prim.Native.Nat.{ℕ, zero, suc, ◌+◌, ◌≤◌, ◌<◌}
use native.Mathlib.Omega.{arith}
use lib.IntN.{ℤ, pos, negsuc}
use lib.ListN.{length}
use mir.Facts.{to_z-of_z}
use mir.Syntax.{w64}
use mir.Val.{SFits, to_z, of_z}
use Rattle.maxplus.specs.Whole.{up, dn}
use Rattle.maxplus.specs.Entry.{E, absent, num, present?}
use Rattle.words.specs.Words.{entry, Close, Near}
use Rattle.words.proofs.Laws.{close_more, of_close}
use Rattle.sheet.specs.Sheet.{limit}
use Rattle.sheet.specs.Text.{bytes}
use Rattle.sheet.proofs.LineLaws.{true_not_false}
use Rattle.writing.specs.Numerals.{item}
use Rattle.writing.proofs.NumeralLaws.{signed_length}

pub none_there : (w : ℕ) → present? (entry w) ≡ false → bytes "-" ≡ item (entry w)
none_there w h = go (entry w) h
  where
    go : (e : E) → present? e ≡ false → bytes "-" ≡ item e
    go absent h = refl
    go (num z) h = absurd (true_not_false h)

pub number_there : (w : ℕ) → present? (entry w) ≡ true → Close limit w → (0 < w) × Near w
unfolding entry
number_there zero h c = absurd (true_not_false (sym h))
number_there (suc w) h c = (omega arith, close_more (omega arith) c)

one : length (item absent) ≤ 7
unfolding bytes
one = omega arith

-- seven bytes, as of -100000
pub item_short : (w : ℕ) → Close limit w → length (item (entry w)) ≤ 7
item_short w c = go (entry w) (of_close limit w c)
  where
    go : (e : E) → ((z : ℤ) → e ≡ num z → (dn z ≤ limit + up z) × (up z ≤ limit + dn z)) → length (item e) ≤ 7
    go absent h = one
    go (num (pos v)) h = let k = h (pos v) refl in signed_length 5 (pos v) (omega arith)
    go (num (negsuc v)) h = let k = h (negsuc v) refl in signed_length 5 (negsuc v) (omega arith)

-- a number that is passed on is read back from its bits
small_fits : (z : ℤ) → (dn z ≤ limit + up z) × (up z ≤ limit + dn z) → SFits w64 z
small_fits (pos v) k = record { sfits = omega arith }
small_fits (negsuc v) k = record { sfits = omega arith }

pub number_back : (w : ℕ) (z : ℤ) → Close limit w → entry w ≡ num z → item (num (to_z w64 (of_z w64 z))) ≡ item (entry w)
number_back w z c e = ap (λ z. item (num z)) (to_z-of_z (small_fits z (of_close limit w c z e))) ∙ sym (ap item e)
