-- The picks of the open levels in a word: how many they are, each of them, and that they fit.
use mathlib.Core.Path.{◌≡◌, refl, sym, ap, ◌∙◌}
use mathlib.Core.List.{List, [], ◌∷◌, ◌++◌}
use Prim.Native.Nat.{ℕ, zero, suc, ◌+◌, ◌-◌, ◌*◌, ◌/◌, ◌%◌, ◌^◌, ◌<◌}
use native.Mathlib.Nat.{div-one, pow-suc}
use native.Mathlib.Decide.{ℕ_discrete}
use native.Mathlib.Omega.{arith}
use lib.Pow.{shr-shr}
use lib.ListN.{length, get_or, length-append}
use lib.Seq.{get_or_at}
use Rattle.walk.specs.State.{picked, Triggers}

get_or_left : (a b : List ℕ) (i : ℕ) → i < length a → get_or (a ++ b) i 0 ≡ get_or a i 0
get_or_left [] b i h = let e : ⊥ = omega arith in absurd e
get_or_left (x ∷ a) b zero h = refl
get_or_left (x ∷ a) b (suc i) h = get_or_left a b i (omega arith)

pub picked_length : (d p : ℕ) → length (picked d p) ≡ d
unfolding picked
picked_length zero p = refl
picked_length (suc d) p = omega (arith, length-append (picked d (p / 8)) (p % 8 ∷ []), picked_length d (p / 8))

-- where level i's pick stands among k
abbrev place : ℕ → ℕ → ℕ
place k i = 3 * (k - 1 - i)

shifted : (k p i : ℕ) → i < k → p / 2 ^ place (suc k) i ≡ p / 8 / 2 ^ place k i
shifted k p i h = let e : place (suc k) i ≡ 3 + place k i = omega arith in rw e (sym (shr-shr p 3 (place k i)))

last : (k p i : ℕ) → i ≡ k → p / 2 ^ place (suc k) i ≡ p
last k p i h = let e : place (suc k) i ≡ 0 = omega arith in rw e (div-one p)

pub picked_at : (k p i : ℕ) → i < k → get_or (picked k p) i 0 ≡ p / 2 ^ place k i % 8
unfolding picked
picked_at zero p i h = let e : ⊥ = omega arith in absurd e
picked_at (suc k) p i h = go (ℕ_discrete i k) (picked_at k (p / 8) i)
  where
    go : Dec (i ≡ k) → (i < k → get_or (picked k (p / 8)) i 0 ≡ p / 8 / 2 ^ place k i % 8) →
        get_or (picked k (p / 8) ++ p % 8 ∷ []) i 0 ≡ p / 2 ^ place (suc k) i % 8
    go (yes e) r = get_or_at (picked k (p / 8)) (p % 8) [] 0 i (picked_length k (p / 8) ∙ sym e) ∙ ap (λ x. x % 8) (sym (last k p i e))
    go (no e) r = let l : i < k = omega arith in
        get_or_left (picked k (p / 8)) (p % 8 ∷ []) i (rw (picked_length k (p / 8)) l) ∙ r l ∙ ap (λ x. x % 8) (sym (shifted k p i l))

pub trigger_at : (k p i : ℕ) → i < k → Triggers k p → p / 2 ^ place k i % 8 < 6
trigger_at zero p i h t = let e : ⊥ = omega arith in absurd e
trigger_at (suc k) p i h t = elim (ℕ_discrete i k) [
  | yes e ↦ rw (last k p i e) t.0
  | no e ↦ let l : i < k = omega arith in rw (shifted k p i l) (trigger_at k (p / 8) i l t.1)
]

pub triggers_fit : (k p : ℕ) → Triggers k p → p < 8 ^ k
triggers_fit zero p t = omega arith
triggers_fit (suc k) p t = omega (arith, pow-suc 8 k, triggers_fit k (p / 8) t.1)
