-- Laws of last moments in words: a column of lags beside the last moments, a time made early enough.
use mathlib.Core.Path.{◌≡◌, refl, ap, sym, ◌∙◌}
use mathlib.Core.Logic.{◌⊎◌, inl, inr}
use mathlib.Core.Bool.{not}
use mathlib.Core.List.{List}
use Prim.Native.Nat.{ℕ, ◌≤◌, ◌<◌}
use native.Mathlib.Omega.{arith}
use lib.Dec.{T}
use lib.IntN.{ℤ, pos}
use lib.ListN.{get_or}
use Rattle.maxplus.specs.Whole.{◌≤z◌, neg, leqz}
use Rattle.maxplus.specs.Entry.{E, absent, num, ◌≼◌, ◌⊗◌, inv, unit}
use Rattle.maxplus.proofs.WholeLaws.{z_anti, leqz_yes, leqz_of}
use Rattle.maxplus.proofs.EntryLaws.{◌▸◌, ≼_absent, ≼_of, ≼_back, inv_num}
use Rattle.maxplus.proofs.FiniteLaws.{test, cond_yes, cond_no}
use Rattle.maxplus.proofs.SupLaws.{sup_ext}
use Rattle.cue.specs.Cue.{overdue}
use Rattle.sheet.specs.Overruns.{lower}
use Rattle.words.specs.Words.{word, entry, Close}
use Rattle.words.proofs.Laws.{entry_zero, entry_mono, entry_reflects, number_word}
use Rattle.tables.specs.Held.{cell, meant, meant_v}

-- the word of the number 0
pub zero_is : {v : ℕ} → v ≡ word (num (pos 0)) → (entry v ≡ unit) × Close 0 v
zero_is {v} e = number_word 0 (pos 0) v (omega arith) (omega arith) (omega arith) e

-- the lags of one trigger
pub column_overdue : {m : ℕ} (last column : List ℕ) (lag : List (List ℕ)) (j : ℕ) → m ≤ 6 →
    ((i : ℕ) → i < 6 → get_or column i 0 ≡ cell lag i j) → overdue m (meant_v last) (meant_v column) ≡ overdue m (meant_v last) (λ i. meant lag i j)
unfolding overdue meant meant_v
column_overdue {m} last column lag j h e =
    sup_ext m (λ i hi. ap (λ w. entry w ⊗ inv (entry (get_or last i 0))) (e i (omega arith)))

-- ---- the lesser of a time and minus an overrun
lower_first : (z w : ℤ) → z ≤z neg w → lower z (num w) ≡ z
lower_first z w h = cond_yes (leqz z (neg w)) z (neg w) (leqz_of z (neg w) h)

lower_second : (z w : ℤ) → neg w ≤z z → lower z (num w) ≡ neg w
lower_second z w h = go (test (leqz z (neg w)))
  where
    go : T (leqz z (neg w)) ⊎ T (not (leqz z (neg w))) → lower z (num w) ≡ neg w
    go (inl t) = cond_yes (leqz z (neg w)) z (neg w) t ∙ z_anti (leqz_yes z (neg w) t) h
    go (inr t) = cond_no (leqz z (neg w)) z (neg w) t

-- a trigger that reaches no panel
pub early_idle : (x o : ℕ) → o ≡ 0 → (z : ℤ) → entry x ≡ num z → entry x ≡ num (lower z (entry o))
early_idle x o h z f = rw (h, entry_zero) f

module _ (x o v : ℕ) (e : entry v ≡ inv (entry o)) (there : ¬ (o ≡ 0)) (z : ℤ) (f : entry x ≡ num z) where
  -- an overrun that is there is a number
  overrun_is : (d : E) → entry o ≡ d → (w : ℤ) × (entry o ≡ num w)
  overrun_is absent g = absurd (there (let p = entry_reflects o 0 (rw (g, entry_zero) (≼_absent absent)) in omega arith))
  overrun_is (num w) g = (w, g)

  pub early_latest : v < x → entry v ≡ num (lower z (entry o))
  early_latest h = let (w, g) = overrun_is (entry o) refl in
      let l : entry v ≡ num (neg w) = e ∙ ap inv g ∙ inv_num w in
      let k : num (neg w) ≼ num z = ≼_back l ▸ entry_mono v x (omega arith) ▸ ≼_of f in
      l ∙ sym (ap num (ap (lower z) g ∙ lower_second z w k.un))

  pub early_time : x ≤ v → entry x ≡ num (lower z (entry o))
  early_time h = let (w, g) = overrun_is (entry o) refl in
      let l : entry v ≡ num (neg w) = e ∙ ap inv g ∙ inv_num w in
      let k : num z ≼ num (neg w) = ≼_back f ▸ entry_mono x v h ▸ ≼_of l in
      f ∙ sym (ap num (ap (lower z) g ∙ lower_first z w k.un))
