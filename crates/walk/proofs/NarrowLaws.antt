-- What a cut leaves of a mask, and how the mask of a panel is narrowed, one fixing at a time.
use mathlib.Core.Path.{◌≡◌, refl, ap₂}
use mathlib.Core.Bool.{Bool, true, false, cond, ◌&&◌}
use mathlib.Core.List.{List}
use Prim.Native.Nat.{ℕ, ◌+◌, ◌^◌, ◌<◌}
use native.Mathlib.Omega.{arith}
use native.Mathlib.Numerals.{add-one}
use lib.Dec.{eqb}
use lib.Pow.{pow-lt}
use lib.ListN.{length, get_or, drop, drop_of_length-le}
use lib.Seq.{drop-cons}
use Rattle.trigger_sets.specs.Sets.{bit}
use Rattle.trigger_sets.proofs.BitLaws.{bit_one}
use Rattle.walk.specs.Trace.{cut, serves, narrow, mask_at}

-- what a cut leaves, by the two tests
pub cut_is : (j m : ℕ) (s a b : Bool) → bit m j ≡ a → s ≡ b → cut j s m ≡ cond a (cond b (2 ^ j) m) m
cut_is j m s a b p q = ap₂ (λ (a b : Bool). cond a (cond b (2 ^ j) m) m) p q

-- a cut mask stays small
pub cut_small : (j : ℕ) (s : Bool) (m : ℕ) → j < 6 → m < 64 → cut j s m < 64
cut_small j s m h l = go (bit m j) s
  where
    go : (a b : Bool) → cond a (cond b (2 ^ j) m) m < 64
    go true true = pow-lt h
    go true false = l
    go false b = l

-- a cut bit by bit
pub bit_cut : (j : ℕ) (s : Bool) (m l : ℕ) → bit (cut j s m) l ≡ cond (bit m j && s) (eqb l j) (bit m l)
bit_cut j s m l = go (bit m j) s
  where
    go : (a b : Bool) → bit (cond a (cond b (2 ^ j) m) m) l ≡ cond (a && b) (eqb l j) (bit m l)
    go true true = bit_one j l
    go true false = refl
    go false b = refl

-- level k after the picks q of the levels above it
module _ (gains : List (List ℕ)) (q : List ℕ) (k : ℕ) (l : length q ≡ k) where
  pub narrow_start : (kept : List ℕ) → mask_at kept gains q ≡ narrow gains k q 0 (get_or kept k 0)
  unfolding mask_at
  narrow_start kept = rw l

  pub narrow_next : (i m : ℕ) → i < k →
      narrow gains k (drop i q) i m ≡ narrow gains k (drop (i + 1) q) (i + 1) (cut (get_or q i 0) (serves gains i (get_or q i 0) k) m)
  unfolding narrow
  narrow_next i m h = rw (add-one i, drop-cons q i 0 (omega arith))

  pub narrow_end : (m : ℕ) → narrow gains k (drop k q) k m ≡ m
  unfolding narrow
  narrow_end m = rw (drop_of_length-le q {i = k} (omega arith))
