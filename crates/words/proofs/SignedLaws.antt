-- Laws of words and the machine's signed numbers: a number below 0 by its size, and an entry in 32 bits.
use mathlib.Core.Path.{◌≡◌, ap, sym, ◌∙◌}
use mathlib.Core.Bool.{true, false}
use Prim.Native.Nat.{ℕ, ◌+◌, ◌≤◌}
use native.Mathlib.Omega.{arith}
use lib.Dec.{leb-suc-zero}
use lib.IntN.{ℤ, pos, negsuc, nat_abs}
use lib.Signed.{lt_z}
use mir.Syntax.{w32, w64}
use mir.Val.{to_z, of_z, SFits}
use mir.Facts.{to_z-of_z, sfits_widen}
use Rattle.maxplus.specs.Whole.{up, dn, neg}
use Rattle.maxplus.specs.Entry.{num}
use Rattle.cue.specs.Written.{signed}
use Rattle.words.specs.Words.{word, entry, signed_far, Close}
use Rattle.words.proofs.Laws.{entry_zero, number_word, of_close}

clash : {A : Type 0} → true ≡ false → A
clash e = let z : ◌≡◌ {A = ℕ} 0 1 = cc in let x : ⊥ = omega arith in absurd x

-- ---- the word of a number below 0, made of its size
pub negative_word : (x : ℤ) (m r : ℕ) → lt_z x (pos 0) ≡ true → m ≡ nat_abs x → r ≡ word (num (neg (pos m))) → r ≡ word (num x)
unfolding neg
negative_word (pos n) m r h e k = clash (sym h ∙ leb-suc-zero n)
negative_word (negsuc n) m r h e k = rw e at k

-- ---- an entry as a signed word of 32 bits
pub signed_none : (w : ℕ) → w ≡ 0 → negsuc 0x7fff_ffff ≡ signed (entry w)
signed_none w e = rw (e, entry_zero)

pub signed_fits : (w : ℕ) (z : ℤ) → Close signed_far w → entry w ≡ num z → SFits w32 z
signed_fits w z h e = go z (of_close _ w h z e)
  where
    go : (z : ℤ) → (dn z ≤ signed_far + up z) × (up z ≤ signed_far + dn z) → SFits w32 z
    go (pos n) k = record { sfits = omega arith }
    go (negsuc n) k = record { sfits = omega arith }

pub signed_is : (w : ℕ) (z : ℤ) → Close signed_far w → entry w ≡ num z → to_z w32 (of_z w32 (to_z w64 (of_z w64 z))) ≡ signed (entry w)
signed_is w z h e =
    let f = signed_fits w z h e in
    rw e (ap (λ z. to_z w32 (of_z w32 z)) (to_z-of_z (sfits_widen {w' = w64} tt f)) ∙ to_z-of_z f)

-- ---- the entry of a signed word of 32 bits that is not the least one
small : (a : ℤ) → SFits w32 a → ¬ (of_z w32 a ≡ 0x8000_0000) → (up a ≤ signed_far) × (dn a ≤ signed_far)
small (pos v) f h = (omega (arith, f.sfits), omega arith)
small (negsuc v) f h = (omega arith, let x : ¬ (v ≡ 0x7fff_ffff) = λ e. h (omega arith) in omega (arith, f.sfits, x))

pub of_signed_word : (a x : ℤ) (w : ℕ) → SFits w32 a → ¬ (of_z w32 a ≡ 0x8000_0000) → x ≡ to_z w32 (of_z w32 a) →
    w ≡ word (num (to_z w64 (of_z w64 x))) → (entry w ≡ num a) × Close signed_far w
of_signed_word a x w f h e k =
    let (u, d) = small a f h in
    let is : to_z w64 (of_z w64 x) ≡ a = rw (e, to_z-of_z f) (to_z-of_z (sfits_widen {w' = w64} tt f)) in
    number_word signed_far a w (omega arith) u d (rw is at k)
