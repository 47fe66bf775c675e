-- Laws of the bits of a byte: of an intersection and of a union, of none and of one place, of one set inside another.
use mathlib.Core.Path.{◌≡◌, refl, ap, sym, ◌∙◌, subst}
use mathlib.Core.Logic.{◌⊎◌, ◌↔◌}
use mathlib.Core.Bool.{Bool, true, false, cond, ◌&&◌, ◌||◌}
use Prim.Native.Nat.{ℕ, zero, suc, ◌+◌, ◌*◌, ◌/◌, ◌%◌, ◌^◌, ◌≤◌, ◌<◌, min}
use native.Mathlib.Nat.{pow-suc, div-one, mul-mod_left, mul-div_cancel, min-eq_left}
use native.Mathlib.Decide.{ℕ_discrete}
use native.Mathlib.Numerals.{one-add}
use native.Mathlib.Omega.{arith}
use lib.Dec.{T, eqb, eqb→eq, eqb_refl, eqb-zero-suc, eqb-suc-zero, eqb-suc-suc}
use lib.Pow.{shr-shr}
use lib.Bits.{bit_and, bit_or, and_step, and_shr, and_mod, or_shr, or_mod}
use Rattle.maxplus.proofs.FiniteLaws.{both}
use Rattle.trigger_sets.specs.Sets.{bit, Has}
use Rattle.trigger_sets.proofs.Tests.{all, all_at, either}

-- ---- the bits of an intersection and of a union
digit_and : (x y : ℕ) → x < 2 → y < 2 → eqb (bit_and x y) 1 ≡ (eqb x 1 && eqb y 1)
digit_and zero y h k = refl
digit_and (suc zero) zero h k = refl
digit_and (suc zero) (suc zero) h k = refl
digit_and (suc zero) (suc (suc y)) h k = let e : ⊥ = omega arith in absurd e
digit_and (suc (suc x)) y h k = let e : ⊥ = omega arith in absurd e

digit_or : (x y : ℕ) → x < 2 → y < 2 → eqb (bit_or x y) 1 ≡ (eqb x 1 || eqb y 1)
digit_or zero y h k = refl
digit_or (suc zero) zero h k = refl
digit_or (suc zero) (suc zero) h k = refl
digit_or (suc zero) (suc (suc y)) h k = let e : ⊥ = omega arith in absurd e
digit_or (suc (suc x)) y h k = let e : ⊥ = omega arith in absurd e

bit_of_and : (a b j : ℕ) → bit (bit_and a b) j ≡ (bit a j && bit b j)
bit_of_and a b j = ap (λ m. eqb (m % 2) 1) (and_shr a b j) ∙ ap (λ m. eqb m 1) (and_mod (a / 2 ^ j) (b / 2 ^ j) 1) ∙
    digit_and (a / 2 ^ j % 2) (b / 2 ^ j % 2) (omega arith) (omega arith)

bit_of_or : (a b j : ℕ) → bit (bit_or a b) j ≡ (bit a j || bit b j)
bit_of_or a b j = ap (λ m. eqb (m % 2) 1) (or_shr a b j) ∙ ap (λ m. eqb m 1) (or_mod (a / 2 ^ j) (b / 2 ^ j) 1) ∙
    digit_or (a / 2 ^ j % 2) (b / 2 ^ j % 2) (omega arith) (omega arith)

pub has_and : (a b j : ℕ) → Has (bit_and a b) j ↔ (Has a j × Has b j)
has_and a b j = rw (bit_of_and a b j) (both (bit a j) (bit b j))

pub has_or : (a b j : ℕ) → Has (bit_or a b) j ↔ (Has a j ⊎ Has b j)
has_or a b j = rw (bit_of_or a b j) (either (bit a j) (bit b j))

-- ---- none, and one place
-- the first bit, and the bits past it, which are those of the half
bit_first : (m : ℕ) → bit m 0 ≡ eqb (m % 2) 1
bit_first m = ap (λ k. eqb (k % 2) 1) (div-one m)

bit_later : (m j : ℕ) → bit m (suc j) ≡ bit (m / 2) j
bit_later m j = ap (λ k. eqb (k % 2) 1) (ap (λ k. m / 2 ^ k) (sym (one-add j)) ∙ sym (shr-shr m 1 j))

has_first : (m : ℕ) → Has m 0 ↔ (m % 2 ≡ 1)
has_first m = (λ t. eqb→eq (m % 2) 1 (subst T (bit_first m) t), λ e. subst T (sym (bit_first m)) (rw e (eqb_refl 1)))

has_later : (m j : ℕ) → Has m (suc j) ↔ Has (m / 2) j
has_later m j = (subst T (bit_later m j), subst T (sym (bit_later m j)))

pub bit_none : (j : ℕ) → bit 0 j ≡ false
bit_none zero = refl
bit_none (suc j) = bit_later 0 j ∙ bit_none j

pub bit_one : (k j : ℕ) → bit (2 ^ k) j ≡ eqb j k
bit_one zero zero = refl
bit_one zero (suc j) = bit_later 1 j ∙ bit_none j ∙ sym (eqb-suc-zero j)
bit_one (suc k) zero = bit_first (2 ^ suc k) ∙ ap (λ m. eqb m 1) (ap (λ m. m % 2) (pow-suc 2 k) ∙ mul-mod_left (2 ^ k) 2) ∙ sym (eqb-zero-suc k)
bit_one (suc k) (suc j) = bit_later (2 ^ suc k) j ∙ ap (λ m. bit m j) (ap (λ m. m / 2) (pow-suc 2 k) ∙ mul-div_cancel (2 ^ k) (omega arith)) ∙
    bit_one k j ∙ sym (eqb-suc-suc j k)

-- a set that is not empty has a member
pub has_some : (k m : ℕ) → m < 2 ^ k → ¬ (m ≡ 0) → (j : ℕ) × (j < k) × Has m j
has_some zero m h n = absurd (n (omega arith))
has_some (suc k) m h n = go (ℕ_discrete (m % 2) 1) (has_some k (m / 2))
  where
    go : Dec (m % 2 ≡ 1) → (m / 2 < 2 ^ k → ¬ (m / 2 ≡ 0) → (j : ℕ) × (j < k) × Has (m / 2) j) → (j : ℕ) × (j < suc k) × Has m j
    go (yes e) ih = (0, omega arith, (has_first m).1 e)
    go (no e) ih = let (j, hj, t) = ih (omega (arith, pow-suc 2 k)) (λ z. n (omega arith)) in (suc j, omega arith, (has_later m j).1 t)

-- ---- one set inside another
pub inside_of : (k a b : ℕ) → a < 2 ^ k → ((j : ℕ) → j < k → Has a j → Has b j) → bit_and a b ≡ a
inside_of zero a b h f = let e : a ≡ 0 = omega arith in rw e refl
inside_of (suc k) a b h f =
    and_step a b ∙
    ap (λ m. m * 2 + min (a % 2) (b % 2)) (inside_of k (a / 2) (b / 2) (omega (arith, pow-suc 2 k)) later) ∙
    ap (λ m. a / 2 * 2 + m) (min-eq_left (low (ℕ_discrete (a % 2) 1))) ∙ omega arith
  where
    later : (j : ℕ) → j < k → Has (a / 2) j → Has (b / 2) j
    later j h t = (has_later b j).0 (f (suc j) (omega arith) ((has_later a j).1 t))

    low : Dec (a % 2 ≡ 1) → a % 2 ≤ b % 2
    low (yes e) = let t = (has_first b).0 (f 0 (omega arith) ((has_first a).1 e)) in omega arith
    low (no e) = omega arith

pub inside_has : (a b j : ℕ) → bit_and a b ≡ a → Has a j → Has b j
inside_has a b j e t = ((has_and a b j).0 (rw e t)).1

-- ---- a place put into a byte by the code
-- a one shifted to the place
pub one_shifted : (j : ℕ) → j < 6 → (1 * 2 ^ j) % 2 ^ 8 ≡ 2 ^ j
one_shifted j h = eqb→eq ((1 * 2 ^ j) % 2 ^ 8) (2 ^ j) (all_at (λ j. eqb ((1 * 2 ^ j) % 2 ^ 8) (2 ^ j)) 6 tt j h)

-- a place above all others: every byte by one computed test
abbrev added : ℕ → ℕ → ℕ → Bool
added n r j = eqb ((r + 2 ^ n) / 2 ^ j % 2) (cond (eqb j n) 1 (r / 2 ^ j % 2))

added_all : (n r j : ℕ) → n < 6 → r < 2 ^ n → j < 6 → T (added n r j)
added_all n r j hn hr hj =
    all_at (added n r) 6 (all_at (λ r. all (added n r) 6) (2 ^ n) (all_at (λ n. all (λ r. all (added n r) 6) (2 ^ n)) 6 tt n hn) r hr) j hj

pub bit_added : (n r j : ℕ) → n < 6 → r < 2 ^ n → j < 6 → bit (r + 2 ^ n) j ≡ cond (eqb j n) true (bit r j)
bit_added n r j hn hr hj =
    ap (λ x. eqb x 1) (eqb→eq ((r + 2 ^ n) / 2 ^ j % 2) (cond (eqb j n) 1 (r / 2 ^ j % 2)) (added_all n r j hn hr hj)) ∙
    go (eqb j n)
  where
    go : (t : Bool) → eqb (cond t 1 (r / 2 ^ j % 2)) 1 ≡ cond t true (bit r j)
    go true = refl
    go false = refl
