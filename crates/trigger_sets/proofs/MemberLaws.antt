-- The members of a set: the lowest, those of the rest, and how many there are at most. Facts of every set by one test that antt computes.
use mathlib.Core.Path.{◌≡◌, refl, ap₂}
use mathlib.Core.Bool.{Bool, true, false, cond, ◌&&◌}
use mathlib.Core.List.{List, [], ◌∷◌}
use Prim.Native.Nat.{ℕ, zero, suc, ◌-◌, ◌<◌, ◌≤◌}
use native.Mathlib.Nat.{not-suc-le-zero}
use native.Mathlib.Omega.{arith}
use lib.Dec.{T, eqb, ltb, eqb→eq, ltb→lt}
use lib.Count.{count_trailing_zeros}
use lib.Bits.{bit_and}
use lib.ListN.{length}
use Rattle.maxplus.proofs.FiniteLaws.{both}
use Rattle.trigger_sets.specs.Sets.{bit, Has, bits_from, members}
use Rattle.trigger_sets.proofs.Tests.{all_at}

abbrev same_list : List ℕ → List ℕ → Bool
same_list [] [] = true
same_list [] (b ∷ ys) = false
same_list (a ∷ xs) [] = false
same_list (a ∷ xs) (b ∷ ys) = eqb a b && same_list xs ys

same_list_eq : (xs ys : List ℕ) → T (same_list xs ys) → xs ≡ ys
same_list_eq [] [] t = refl
same_list_eq [] (b ∷ ys) t = absurd t
same_list_eq (a ∷ xs) [] t = absurd t
same_list_eq (a ∷ xs) (b ∷ ys) t =
    let (h, k) = (both (eqb a b) (same_list xs ys)).0 t in ap₂ ◌∷◌ (eqb→eq a b h) (same_list_eq xs ys k)

-- the least set bit first, then those of the rest
abbrev splits : ℕ → Bool
splits y = same_list (members (suc y)) (count_trailing_zeros 8 (suc y) ∷ members (bit_and (suc y) y))

splits_all : (y : ℕ) → y < 63 → T (splits y)
unfolding count_trailing_zeros members bits_from
splits_all y h = all_at splits 63 tt y h

pub members_split : (m : ℕ) → 0 < m → m < 64 → members m ≡ count_trailing_zeros 8 m ∷ members (bit_and m (m - 1))
members_split zero h k = absurd (not-suc-le-zero h)
members_split (suc y) h k =
    let e : suc y - 1 ≡ y = omega arith in
    rw e (same_list_eq (members (suc y)) (count_trailing_zeros 8 (suc y) ∷ members (bit_and (suc y) y)) (splits_all y (omega arith)))

abbrev low_below : ℕ → Bool
low_below y = ltb (count_trailing_zeros 8 (suc y)) 6

low_all : (y : ℕ) → y < 63 → T (low_below y)
unfolding count_trailing_zeros
low_all y h = all_at low_below 63 tt y h

pub low_in : (m : ℕ) → 0 < m → m < 64 → count_trailing_zeros 8 m < 6
low_in zero h k = absurd (not-suc-le-zero h)
low_in (suc y) h k = ltb→lt (count_trailing_zeros 8 (suc y)) 6 (low_all y (omega arith))

abbrev low_member : ℕ → Bool
low_member y = bit (suc y) (count_trailing_zeros 8 (suc y))

low_has_all : (y : ℕ) → y < 63 → T (low_member y)
unfolding count_trailing_zeros
low_has_all y h = all_at low_member 63 tt y h

pub low_has : (m : ℕ) → 0 < m → m < 64 → Has m (count_trailing_zeros 8 m)
low_has zero h k = absurd (not-suc-le-zero h)
low_has (suc y) h k = low_has_all y (omega arith)

pub members_none : members 0 ≡ []
unfolding members bits_from
members_none = refl

bits_few : (c j m : ℕ) → length (bits_from c j m) ≤ c
unfolding bits_from
bits_few zero j m = omega arith
bits_few (suc c) j m = go (bit m j) (bits_few c (suc j) m)
  where
    go : (b : Bool) → length (bits_from c (suc j) m) ≤ c → length (cond b (j ∷ bits_from c (suc j) m) (bits_from c (suc j) m)) ≤ suc c
    go true h = omega arith
    go false h = omega arith

pub members_few : (m : ℕ) → length (members m) ≤ 6
unfolding members
members_few m = bits_few 6 0 m
