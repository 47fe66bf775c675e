-- The limit on a timing's components: some of the first places pass a test, and what the code compares of a signed word.
use mathlib.Core.Path.{◌≡◌, refl, ap, sym, ◌∙◌}
use mathlib.Core.List.{List, [], ◌∷◌, ◌++◌}
use mathlib.Core.Bool.{Bool, true, false, ◌||◌, or-true, or-false, or_assoc}
use Prim.Native.Nat.{ℕ, zero, suc, ◌≤◌, ◌<◌}
use native.Mathlib.Omega.{arith}
use native.Mathlib.Decide.{ℕ_discrete}
use lib.IntN.{ℤ}
use lib.Signed.{mag}
use lib.ListN.{length, get_or, take}
use lib.Seq.{take-suc}
use Rattle.std.specs.List.{list_any}
use mir.Syntax.{w64}
use mir.Val.{to_z, of_z}
use mir.Facts.{to_z-of_z}
use Rattle.maxplus.specs.Finite.{each}
use Rattle.sheet.specs.Sheet.{any}

-- ---- the first places of a list, and whether some of them pass a test
pub first_places : {A : Type 0} (l : List A) (d : A) (n : ℕ) → n ≤ length l → take n l ≡ each n (λ j. get_or l j d ∷ [])
unfolding each
first_places l d zero h = refl
first_places l d (suc n) h = take-suc l n d (omega arith) ∙ ap (λ k. k ++ (get_or l n d ∷ [])) (first_places l d n (omega arith))

pub any_listed : {A : Type 0} (f : A → Bool) (l : List A) → list_any f l ≡ any f l
unfolding any
any_listed f [] = refl
any_listed f (a ∷ l) = ap (λ b. f a || b) (any_listed f l)

module _ {A : Type 0} (f : A → Bool) where
  any_end : (l : List A) (a : A) → any f (l ++ (a ∷ [])) ≡ (any f l || f a)
  unfolding any
  any_end [] a = or-false (f a)
  any_end (b ∷ l) a = rw (any_end l a) (sym (or_assoc (f b) (any f l) (f a)))

  module _ (X : ℕ → A) where
    pub some_at : (n j : ℕ) → j < n → f (X j) ≡ true → any f (each n (λ j. X j ∷ [])) ≡ true
    unfolding each
    some_at zero j h e = let x : ⊥ = omega arith in absurd x
    some_at (suc n) j h e = elim (ℕ_discrete j n) [
      | yes q ↦ rw (any_end, (rw q at e)) (or-true (any f (each n (λ j. X j ∷ []))))
      | no q ↦ rw (any_end, some_at n j (omega arith) e) refl
    ]

    pub none_at : (n j : ℕ) → any f (each n (λ j. X j ∷ [])) ≡ false → j < n → f (X j) ≡ false
    none_at n j e h = go (f (X j)) refl
      where
        go : (b : Bool) → f (X j) ≡ b → b ≡ false
        go true q = let z = sym (some_at n j h q) ∙ e in cc
        go false q = refl

-- ---- a number as the code reads it out of its signed word
abbrev pub read : ℤ → ℤ
read x = to_z w64 (of_z w64 x)

pub read_again : (x : ℤ) → mag x < 0x8000_0000_0000_0000 → read x ≡ x
read_again x h = to_z-of_z {w = w64} (record { sfits = h })
