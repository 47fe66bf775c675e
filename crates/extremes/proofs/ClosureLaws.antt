-- Laws of the sets of the test for extreme: of places, of tight panels, and closures.
use mathlib.Core.Path.{◌≡◌, refl, ap₂, sym, ◌∙◌}
use mathlib.Core.Logic.{inl, inr}
use mathlib.Core.Bool.{Bool, true, false}
use mathlib.Core.List.{List}
use Prim.Native.Nat.{ℕ, ◌*◌, ◌%◌, ◌^◌, ◌≤◌, ◌<◌}
use native.Mathlib.Nat.{pow-le-pow_right}
use lib.Dec.{lit<}
use native.Mathlib.Omega.{arith}
use lib.Bits.{bit_or}
use Rattle.maxplus.specs.Whole.{◌+z◌}
use Rattle.maxplus.specs.Entry.{E, num, ◌≼◌, ◌⊗◌, Present, present?}
use Rattle.maxplus.specs.Tables.{sup, Vec}
use Rattle.maxplus.proofs.EntryLaws.{◌▸◌, ≼_anti, ≼_of, ≼_back, num_⊗, present?_yes, present?_of}
use Rattle.maxplus.proofs.SupLaws.{sup_ub, sup_lub, sup_at}
use Rattle.words.specs.Words.{entry}
use Rattle.trigger_sets.specs.Sets.{SetOf}
use Rattle.candidates.specs.Rays.{ReachesTop, Tight, Reaching, Inside, Closed}
use Rattle.trigger_sets.proofs.SetLaws.{set_same, set_self, set_none, set_or, set_some, set_empty}
use Rattle.cue.specs.Sizes.{size_limit}

-- ---- tests
pub flag_present : (e : E) (r : Bool) → r ≡ present? e → r ≡ true → Present e
flag_present e r p q = present?_yes e (rw (← p, q) tt)

pub flag_absent : (e : E) (r : Bool) → r ≡ present? e → r ≡ false → ¬ (Present e)
flag_absent e r p q h = absurd (rw (← p, q) at (present?_of e h))

-- ---- the set of one place
pub bit_shifted : (j : ℕ) → j < 6 → 1 * 2 ^ j % 256 ≡ 2 ^ j
bit_shifted j h = let k : j ≤ 5 = omega arith in let l : 2 ^ j ≤ 2 ^ 5 = pow-le-pow_right (lit< tt) k in omega arith

-- ---- places that reach a, and none beyond
module _ (n : ℕ) (t : Vec) (a : E) where
  pub reached_all : {m : ℕ} → SetOf (λ j. (j < n) × (t j ≡ a)) m → ((k : ℕ) → k < n → t k ≼ a) → SetOf (λ j. ReachesTop n t a j) m
  reached_all p b = set_same (λ j h. (λ u. (u.0, u.1, b), λ u. (u.0, u.1))) p

  pub reached_none : (k : ℕ) → k < n → ¬ (t k ≼ a) → SetOf (λ j. ReachesTop n t a j) 0
  reached_none k h q = set_none (λ j i u. q (u.2 k h))

-- ---- tight panels
pub reaching_not : {n : ℕ} {t : Vec} {a o : E} → ¬ (Tight n t a o) → Reaching n t a o 64
reaching_not h = record { tight = λ p u. absurd (h u); never = λ u. refl }

-- s is the sum of what is asked and the lateness, m the set of the triggers that reach it
module _ {n : ℕ} {t : Vec} {a o : E} {m : ℕ} (s : ℕ) (es : entry s ≡ a ⊗ o) (p : SetOf (λ j. ReachesTop n t (entry s) j) m) where
  pub reaching_some : Present a → ¬ (m ≡ 0) → Reaching n t a o m
  reaching_some h e = let (j, k, (hj, q, b)) = set_some p e in
      let lands : entry s ≡ sup n t = ≼_anti (≼_back q ▸ sup_ub n t j hj) (sup_lub n t b) in record {
        tight = λ l u. set_same (λ i k. (λ u. (u.0, u.1 ∙ lands), λ u. (u.0, u.1 ∙ sym lands, b))) p;
        never = λ u. absurd (u (h, sym es ∙ lands));
      }

  -- the landing of a tight panel is a number, and some trigger reaches it
  pub reaching_none : n ≤ size_limit → m ≡ 0 → Reaching n t a o 64
  reaching_none few e = record { tight = λ l u. absurd (none l u.0 (es ∙ u.1)); never = λ u. refl }
    where
      none : Present o → Present a → entry s ≡ sup n t → ⊥
      none (y, ey) (x, ex) lands =
          let z : entry s ≡ num (x +z y) = es ∙ ap₂ ◌⊗◌ ex ey ∙ num_⊗ x y in
          let (j, hj, l) = sup_at n t (≼_back (sym lands ∙ z)) in
          set_empty p e j (omega arith)
          (hj, ≼_anti (sup_ub n t j hj ▸ ≼_back lands) (≼_of z ▸ l), λ k hk. sup_ub n t k hk ▸ ≼_back lands)

-- ---- closures
module _ (tight : List ℕ) (panels front held : ℕ) (hh : held < 64) where
  pub closed_fires : front < 64 → Inside tight panels held → SetOf (Closed tight panels front held) (bit_or held front)
  closed_fires hf i = set_same (λ j k. (
    λ u. elim u [ inl x ↦ inl x | inr x ↦ inr (i, x) ],
    λ u. elim u [ inl x ↦ inl x | inr x ↦ inr x.1 ],
  )) (set_or (set_self hh) (set_self hf))

  pub closed_rests : ¬ (Inside tight panels held) → SetOf (Closed tight panels front held) held
  closed_rests i = set_same (λ j k. (λ u. inl u, λ u. elim u [ inl x ↦ x | inr x ↦ absurd (i x.0) ])) (set_self hh)
