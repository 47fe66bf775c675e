-- Tests: one of two, and one at every small number, computed once.
use mathlib.Core.Path.{sym, subst}
use mathlib.Core.Logic.{◌⊎◌, inl, inr, ⊎_elim, ◌↔◌}
use mathlib.Core.Bool.{Bool, true, false, ◌&&◌, ◌||◌}
use Prim.Native.Nat.{ℕ, zero, suc, ◌<◌}
use native.Mathlib.Nat.{not-suc-le-zero, le_of_suc-le-suc, eq-or-lt_of_le}
use lib.Dec.{T}
use Rattle.maxplus.proofs.FiniteLaws.{both}

pub either : (p q : Bool) → T (p || q) ↔ (T p ⊎ T q)
either true q = (λ t. inl tt, λ t. tt)
either false q = (λ t. inr t, λ t. elim t [ inl x ↦ absurd x | inr x ↦ x ])

-- f at every number below n
abbrev pub all : (ℕ → Bool) → ℕ → Bool
all f zero = true
all f (suc n) = f n && all f n

pub all_at : (f : ℕ → Bool) (n : ℕ) → T (all f n) → (k : ℕ) → k < n → T (f k)
all_at f zero t k h = absurd (not-suc-le-zero h)
all_at f (suc n) t k h =
    let (a, b) = (both (f n) (all f n)).0 t in
    ⊎_elim (λ e. subst (λ (m : ℕ). T (f m)) (sym e) a) (λ l. all_at f n b k l) (eq-or-lt_of_le (le_of_suc-le-suc h))
