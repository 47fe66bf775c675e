-- The components of a timing written place by place, the others 0.
use mathlib.Core.Path.{◌≡◌, refl, sym, ap, ◌∙◌}
use mathlib.Core.List.{List, [], ◌∷◌}
use mathlib.Core.Bool.{cond}
use Prim.Native.Nat.{ℕ, zero, suc, ◌+◌, ◌≤◌, ◌<◌}
use native.Mathlib.Omega.{arith}
use native.Mathlib.Decide.{dec_lt}
use borrow.Author.Tests.{lt-ltb, le-ltb}
use lib.Dec.{ltb}
use lib.IntN.{ℤ, pos}
use lib.ListN.{get_or, set, replicate}
use Rattle.maxplus.specs.Entry.{num}
use Rattle.maxplus.specs.Finite.{each}
use Rattle.maxplus.proofs.EachLaws.{each_at, each_same, each_set}
use Rattle.maxplus.proofs.EntryLaws.{num_inj}
use Rattle.cue.specs.Cue.{timing}
use Rattle.cue.specs.Sizes.{six, size_limit}
use Rattle.words.specs.Words.{entry}
use Rattle.words.proofs.Laws.{entry_zero}
use Rattle.tables.specs.Held.{meant_v, HoldsV}
use Rattle.timing.specs.Times.{component, timing_of}

-- the first j components
abbrev pub first : ℕ → (ℕ → ℤ) → ℕ → ℤ
first j X i = cond (ltb i j) (X i) (pos 0)

first_at : {j i : ℕ} (X : ℕ → ℤ) → i < j → first j X i ≡ X i
first_at {j} {i} X h = rw (lt-ltb i j h) refl

first_next : (j i : ℕ) (X : ℕ → ℤ) → ¬ (i ≡ j) → first j X i ≡ first (j + 1) X i
first_next j i X f = elim (dec_lt i j) [
  | yes h ↦ first_at X h ∙ sym (first_at X (omega arith))
  | no h ↦ rw (le-ltb i j (omega arith), le-ltb i (j + 1) (omega arith)) refl
]

pub components_none : (X : ℕ → ℤ) → replicate 6 (pos 0) ≡ six (first 0 X)
unfolding each
components_none X = refl

pub components_more : (X : ℕ → ℤ) (j : ℕ) (z : ℤ) → j < 6 → z ≡ X j → set (six (first j X)) j z ≡ six (first (j + 1) X)
components_more X j z h e = each_set 6 j (first j X) (first (j + 1) X) z h (e ∙ sym (first_at X (omega arith))) (λ i k q. first_next j i X q)

-- only the first n are looked at
pub timing_same : (n : ℕ) (X Y : ℕ → ℤ) → ((j : ℕ) → j < n → X j ≡ Y j) → timing_of n X ≡ timing_of n Y
timing_same n X Y h = ap (λ at. record { count = n; at = at }) (each_same 6 _ _ (λ j q. ap (λ z. z ∷ []) (go j (dec_lt j n))))
  where
    go : (j : ℕ) → Dec (j < n) → first n X j ≡ first n Y j
    go j (yes p) = first_at X p ∙ h j p ∙ sym (first_at Y p)
    go j (no p) = rw (le-ltb j n (omega arith)) refl

-- those of a timing that is handed back
pub component_of : (n : ℕ) (X : ℕ → ℤ) (j : ℕ) → n ≤ size_limit → j < n → component (timing_of n X).at j ≡ X j
component_of n X j few h = each_at 6 j _ (pos 0) (omega arith) ∙ first_at X h

-- ---- a word that stands for a component
pub there : {n : ℕ} {X : ℕ → ℤ} {w : List ℕ} (j : ℕ) → HoldsV n (timing X) w → j < n → 0 < get_or w j 0
unfolding meant_v
there {n} {X} {w} j H h = go (get_or w j 0) refl
  where
    go : (v : ℕ) → get_or w j 0 ≡ v → 0 < v
    go zero e = let q = sym entry_zero ∙ ap entry (sym e) ∙ H.at j h in let z : ◌≡◌ {A = ℕ} 0 1 = cc in let x : ⊥ = omega arith in absurd x
    go (suc v) e = omega arith

pub number_at : {n : ℕ} {X : ℕ → ℤ} {w : List ℕ} (j : ℕ) (z : ℤ) → HoldsV n (timing X) w → j < n → entry (get_or w j 0) ≡ num z →
    z ≡ X j
unfolding meant_v
number_at j z H h e = num_inj (sym e ∙ H.at j h)
