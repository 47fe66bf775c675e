-- Events put together from finitely many parts: with empty parts at the end, and over the members of a mask.
use mathlib.Core.Path.{◌≡◌, refl, sym, ap, ap₂, ◌∙◌}
use mathlib.Core.Bool.{Bool, true, false, cond, ◌&&◌}
use mathlib.Core.List.{List, [], ◌∷◌, ◌++◌, append_assoc, append-nil}
use Prim.Native.Nat.{ℕ, zero, suc, ◌+◌, ◌-◌, ◌<◌, ◌≤◌}
use native.Mathlib.Omega.{arith}
use borrow.Author.Tests.{lt-ltb, le-ltb}
use lib.Dec.{T, ltb}
use Rattle.maxplus.specs.Finite.{each, only_if, sum}
use Rattle.maxplus.proofs.EachLaws.{each_same}
use Rattle.trigger_sets.specs.Sets.{bit, bits_from, members}
use Rattle.walk.specs.Trace.{Event, for_each, selections, fixings}
use Rattle.walk.proofs.TraceLaws.{fixings_append, selections_append}
use Rattle.cue.specs.Sizes.{size_limit}

module _ {A : Type 0} where
  -- parts that are empty may be left out at the end
  each_longer : (n d : ℕ) (g : ℕ → List A) → ((k : ℕ) → n ≤ k → k < d + n → g k ≡ []) → each (d + n) g ≡ each n g
  unfolding each
  each_longer n zero g e = let z : 0 + n ≡ n = omega arith in rw z
  each_longer n (suc d) g e =
      let s : suc d + n ≡ suc (d + n) = omega arith in
      rw s (ap₂ ◌++◌ (each_longer n d g (λ k l h. e k l (omega arith))) (e (d + n) (omega arith) (omega arith)) ∙ append-nil (each n g))

-- ---- events
pub selections_each : (n : ℕ) (g : ℕ → List Event) → selections (each n g) ≡ each n (λ j. selections (g j))
unfolding each selections
selections_each zero g = refl
selections_each (suc n) g =
    selections_append (each n g) (g n) ∙ ap (λ (l : List (List ℕ)). l ++ selections (g n)) (selections_each n g)

pub fixings_each : (n : ℕ) (g : ℕ → List Event) → fixings (each n g) ≡ sum n (λ j. fixings (g j))
unfolding each sum fixings
fixings_each zero g = refl
fixings_each (suc n) g = fixings_append (each n g) (g n) ∙ ap (λ (k : ℕ). k + fixings (g n)) (fixings_each n g)

-- ---- over the members of a mask
-- part k is there where bit k is set
abbrev parts : ℕ → (ℕ → List Event) → ℕ → List Event
parts m g k = only_if (bit m k) (g k)

bits_each : (c j m : ℕ) (g : ℕ → List Event) → each (c + j) (parts m g) ≡ each j (parts m g) ++ for_each (bits_from c j m) g
unfolding each bits_from for_each
bits_each zero j m g = let z : 0 + j ≡ j = omega arith in rw z (sym (append-nil (each j (parts m g))))
bits_each (suc c) j m g =
    let e : suc c + j ≡ c + suc j = omega arith in
    rw e (bits_each c (suc j) m g) ∙ append_assoc (each j (parts m g)) (parts m g j) (for_each (bits_from c (suc j) m) g) ∙
    ap (λ (l : List Event). each j (parts m g) ++ l) (one (bit m j))
  where
    one : (b : Bool) →
        only_if b (g j) ++ for_each (bits_from c (suc j) m) g ≡ for_each (cond b (j ∷ bits_from c (suc j) m) (bits_from c (suc j) m)) g
    one true = refl
    one false = refl

members_parts : (m : ℕ) (g : ℕ → List Event) → each 6 (parts m g) ≡ for_each (members m) g
unfolding each members
members_parts m g = bits_each 6 0 m g

-- where the mask's bits are the triggers t below n
pub members_each : (n m : ℕ) (t : ℕ → Bool) (g h : ℕ → List Event) → n ≤ size_limit → ((j : ℕ) → j < 6 → bit m j ≡ (ltb j n && t j)) →
    ((j : ℕ) → j < n → T (t j) → g j ≡ h j) → for_each (members m) g ≡ each n (λ j. only_if (t j) (h j))
members_each n m t g h few e same =
    let s : (6 - n) + n ≡ 6 = omega arith in
    sym (members_parts m g) ∙ rw (← s) (each_longer n (6 - n) (parts m g) (λ k l u. above k l (omega arith))) ∙ each_same n _ _ below
  where
    above : (k : ℕ) → n ≤ k → k < 6 → only_if (bit m k) (g k) ≡ []
    above k l u = ap (λ (b : Bool). only_if b (g k)) (e k u ∙ ap (λ (b : Bool). b && t k) (le-ltb k n l))

    below : (k : ℕ) → k < n → only_if (bit m k) (g k) ≡ only_if (t k) (h k)
    below k l = ap (λ (b : Bool). only_if b (g k)) (e k (omega arith) ∙ ap (λ (b : Bool). b && t k) (lt-ltb k n l)) ∙ go (t k) refl
      where
        go : (b : Bool) → t k ≡ b → only_if b (g k) ≡ only_if b (h k)
        go true x = same k l (rw x tt)
        go false x = refl
