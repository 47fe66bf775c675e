-- Laws of the byte of those triggers for which a test is true: its bits, how many they are, that it is small, and how a loop builds it.
use mathlib.Core.Path.{◌≡◌, refl, ap, sym, ◌∙◌}
use mathlib.Core.Bool.{Bool, true, false, ◌&&◌}
use Prim.Native.Nat.{ℕ, zero, suc, ◌+◌, ◌*◌, ◌^◌, ◌%◌, ◌≤◌, ◌<◌}
use native.Mathlib.Omega.{arith}
use native.Mathlib.Decide.{ℕ_discrete, dec_lt}
use native.Mathlib.Nat.{add-zero, pow-suc, pow-le-pow_right}
use native.Mathlib.Numerals.{add-one}
use lib.Count.{ones, ones_in, ones_cat}
use lib.Dec.{ltb, lit<}
use borrow.Author.Tests.{lt-ltb, le-ltb, eq-eqb, ne_eqb}
use Rattle.maxplus.specs.Finite.{sum, count_if}
use Rattle.maxplus.specs.Finite.{byte_of}
use Rattle.maxplus.proofs.FiniteLaws.{sum_ext}
use Rattle.trigger_sets.specs.Sets.{bit}
use Rattle.trigger_sets.proofs.BitLaws.{bit_none, bit_added}

pub byte_ext : (n : ℕ) (a b : ℕ → Bool) → ((j : ℕ) → j < n → a j ≡ b j) → byte_of n a ≡ byte_of n b
unfolding byte_of
byte_ext n a b h = sum_ext n _ _ (λ j q. ap (λ t. count_if t (2 ^ j)) (h j q))

-- no trigger at all
pub byte_empty : (n : ℕ) (b : ℕ → Bool) → ((j : ℕ) → b j ≡ false) → byte_of n b ≡ 0
unfolding byte_of sum
byte_empty zero b h = refl
byte_empty (suc n) b h = rw (h n, byte_empty n b h)

pub byte_low : (n : ℕ) (b : ℕ → Bool) → byte_of n b < 2 ^ n
unfolding byte_of sum
byte_low zero b = lit< tt
byte_low (suc n) b = go (b n) (byte_low n b)
  where
    go : (t : Bool) → byte_of n b < 2 ^ n → byte_of n b + count_if t (2 ^ n) < 2 ^ suc n
    go true h = omega (arith, pow-suc 2 n)
    go false h = omega (arith, pow-suc 2 n)

pub byte_small : (n : ℕ) (b : ℕ → Bool) → n ≤ 6 → byte_of n b < 64
byte_small n b h = let l : 2 ^ n ≤ 2 ^ 6 = pow-le-pow_right (lit< tt) h in omega (arith, byte_low n b)

-- "the number of bits set"
pub byte_ones : (n : ℕ) (b : ℕ → Bool) → ones (byte_of n b) ≡ sum n (λ j. count_if (b j) 1)
unfolding byte_of sum ones ones_in
byte_ones zero b = refl
byte_ones (suc n) b = go (b n) (byte_ones n b) (byte_low n b)
  where
    go : (t : Bool) → ones (byte_of n b) ≡ sum n (λ j. count_if (b j) 1) → byte_of n b < 2 ^ n →
        ones (byte_of n b + count_if t (2 ^ n)) ≡ sum n (λ j. count_if (b j) 1) + count_if t 1
    go true e h = ap ones (let x : byte_of n b + 2 ^ n ≡ 1 * 2 ^ n + byte_of n b = omega arith in x) ∙
        ones_cat n 1 (byte_of n b) h ∙ ap (λ k. 1 + k) e ∙ omega arith
    go false e h = ap ones (let x : byte_of n b + 0 ≡ byte_of n b = omega arith in x) ∙ e ∙ omega arith

ltb_suc : (j n : ℕ) → ¬ (j ≡ n) → ltb j (suc n) ≡ ltb j n
ltb_suc j n h = elim (dec_lt j n) [
  | yes l ↦ lt-ltb j (suc n) (omega arith) ∙ sym (lt-ltb j n l)
  | no l ↦ le-ltb j (suc n) (omega arith) ∙ sym (le-ltb j n (omega arith))
]

-- the bits of those triggers, and no others
pub byte_bit : (n : ℕ) (b : ℕ → Bool) (j : ℕ) → n ≤ 6 → j < 6 → bit (byte_of n b) j ≡ ltb j n && b j
unfolding byte_of sum
byte_bit zero b j h k = rw (le-ltb j 0 (omega arith)) (bit_none j)
byte_bit (suc n) b j h k = go (b n) refl (ℕ_discrete j n) (byte_bit n b j (omega arith) k) (byte_low n b)
  where
    go : (t : Bool) → b n ≡ t → Dec (j ≡ n) → bit (byte_of n b) j ≡ ltb j n && b j → byte_of n b < 2 ^ n →
        bit (byte_of n b + count_if t (2 ^ n)) j ≡ ltb j (suc n) && b j
    go true e (yes q) r l = bit_added n _ j (omega arith) l k ∙ rw (eq-eqb j n q, lt-ltb j (suc n) (omega arith), q, e)
    go true e (no q) r l = bit_added n _ j (omega arith) l k ∙ rw (ne_eqb j n q, ltb_suc j n q) r
    go false e (yes q) r l = rw (add-zero, lt-ltb j (suc n) (omega arith)) (r ∙ rw (le-ltb j n (omega arith), q, e))
    go false e (no q) r l = rw (add-zero, ltb_suc j n q) r

-- and where it is one of the n
pub bit_at : (n : ℕ) (b : ℕ → Bool) (j : ℕ) → n ≤ 6 → j < n → bit (byte_of n b) j ≡ b j
bit_at n b j h q = byte_bit n b j h (omega arith) ∙ rw (lt-ltb j n q)

-- ---- a byte, bit by bit
pub byte_none : (b : ℕ → Bool) → 0 ≡ byte_of 0 b
unfolding byte_of sum
byte_none b = refl

pub byte_set : (b : ℕ → Bool) (j byte bit : ℕ) → byte ≡ byte_of j b → bit ≡ 2 ^ j → b j ≡ true → byte + bit ≡ byte_of (j + 1) b
unfolding byte_of sum
byte_set b j byte bit e f h = rw (add-one, h, e, f)

pub byte_clear : (b : ℕ → Bool) (j byte : ℕ) → byte ≡ byte_of j b → b j ≡ false → byte ≡ byte_of (j + 1) b
unfolding byte_of sum
byte_clear b j byte e h = rw (add-one, h) (omega arith)

pub bit_more : (j bit : ℕ) → bit ≡ 2 ^ j → bit + bit ≡ 2 ^ (j + 1)
bit_more j bit e = rw add-one (omega (arith, pow-suc 2 j))

pub bit_low : (j bit : ℕ) → bit ≡ 2 ^ j → j < 6 → bit ≤ 32
bit_low j bit e h = let k : j ≤ 5 = omega arith in let l : 2 ^ j ≤ 2 ^ 5 = pow-le-pow_right (lit< tt) k in omega arith

-- 1 shifted to a trigger's place in a byte
abbrev pub shifted : ℕ → ℕ
shifted j = (1 * 2 ^ j) % 256

pub bit_here : (j : ℕ) → j < 6 → shifted j ≡ 2 ^ j
bit_here j h = omega (arith, bit_low j _ refl h)

pub byte_room : (b : ℕ → Bool) (j byte : ℕ) → byte ≡ byte_of j b → j < 6 → byte + shifted j < 256
byte_room b j byte e h = omega (arith, bit_here j h, bit_low j _ refl h, byte_low j b)
