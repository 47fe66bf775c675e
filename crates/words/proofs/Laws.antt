-- Laws of words: the word of a number, the order of words, and each operation on words as one on entries.
use mathlib.Core.Path.{◌≡◌, refl, ap, sym, ◌∙◌}
use mathlib.Core.Logic.{inl, inr}
use mathlib.Core.Bool.{Bool, true, false, cond, not}
use mir.Syntax.{w64}
use mir.Val.{SFits, to_z, of_z}
use mir.Facts.{to_z_pos, to_z-of_z}
use lib.Signed.{mag}
use Prim.Native.Nat.{◌^◌, ℕ, zero, suc, ◌+◌, ◌-◌, ◌≤◌, ◌<◌, min, max}
use native.Mathlib.Omega.{arith}
use native.Mathlib.Decide.{dec_lt}
use lib.Dec.{ltb, leb, eqb, eqb-suc-zero}
use lib.IntN.{ℤ, pos, negsuc, sub_ℕ, ◌-ℤ◌}
use borrow.Author.Tests.{leb-true, leb-false}
use Rattle.maxplus.specs.Whole.{up, dn, ◌+z◌, neg}
use Rattle.maxplus.specs.Entry.{E, absent, num, ◌≼◌, leq_E, ◌⊗◌, ◌⊕◌, inv, present?, val}
use Rattle.maxplus.proofs.WholeLaws.{z_eq, up_sub, up_add, up_neg}
use Rattle.maxplus.proofs.EntryLaws.{◌▸◌, ≼_anti, ≼_of, ≼_back, ≼_absent, ⊕_l, ⊕_r, ⊕_lub, ⊕_or, ⊗_absent, ⊗_nothing}
use Rattle.maxplus.proofs.EntryLaws.{num_⊗, inv_num, num_inj, absent_not, leq_E_yes, leq_E_of}
use Rattle.words.specs.Words.{bias, word, entry, far, Close, Near}

-- ---- the word of a number, by its magnitude
pub word_pos : (m : ℕ) → bias + m ≡ word (num (pos m))
unfolding word
word_pos m = omega arith

pub word_neg : (m : ℕ) → bias - m ≡ word (num (neg (pos m)))
unfolding word neg
word_neg zero = omega arith
word_neg (suc m) = omega arith

-- ---- words and entries, one for one
abbrev away : ℕ → ℤ
away v = sub_ℕ v bias

pub word_entry : (v : ℕ) → word (entry v) ≡ v
unfolding word entry
word_entry zero = refl
word_entry (suc v) = omega (arith, up_sub (suc v) bias)

pub entry_word : (e : E) → ((z : ℤ) → e ≡ num z → dn z ≤ far + up z) → entry (word e) ≡ e
unfolding word entry
entry_word absent h = refl
entry_word (num z) h = go (bias + up z - dn z) (let k = h z refl in omega arith) refl
  where
    go : (v : ℕ) → 0 < v → bias + up z - dn z ≡ v → entry v ≡ num z
    go zero p e = let x : ⊥ = omega arith in absurd x
    go (suc v) p e = ap num (z_eq _ _ (let k = h z refl in omega (arith, up_sub (suc v) bias)))

pub entry_inj : {a b : ℕ} → entry a ≡ entry b → a ≡ b
entry_inj {a} {b} e = sym (word_entry a) ∙ ap word e ∙ word_entry b

pub entry_zero : entry 0 ≡ absent
unfolding entry
entry_zero = refl

-- ---- the order of words is the order of entries
pub entry_mono : (a b : ℕ) → a ≤ b → entry a ≼ entry b
unfolding entry
entry_mono zero b h = ≼_absent _
entry_mono (suc a) zero h = let e : ⊥ = omega arith in absurd e
entry_mono (suc a) (suc b) h = omega (arith, up_sub (suc a) bias, up_sub (suc b) bias)

pub entry_reflects : (a b : ℕ) → entry a ≼ entry b → a ≤ b
unfolding entry
entry_reflects zero b h = omega arith
entry_reflects (suc a) zero h = absurd h.un
entry_reflects (suc a) (suc b) h = omega (arith, up_sub (suc a) bias, up_sub (suc b) bias)

pub word_order : (a b : ℕ) → leb a b ≡ leq_E (entry a) (entry b)
word_order a b = go (leb a b) (leq_E (entry a) (entry b)) refl refl
  where
    go : (s t : Bool) → leb a b ≡ s → leq_E (entry a) (entry b) ≡ t → s ≡ t
    go true true e f = refl
    go false false e f = refl
    go true false e f = absurd (rw f at (leq_E_of _ _ (entry_mono a b (leb-true a b e))))
    go false true e f = let h = entry_reflects a b (leq_E_yes _ _ (rw f tt)) in let x : ⊥ = omega (arith, leb-false a b e) in absurd x

-- and of entries that are told by their words: s is the word of e
module _ {e : E} {s v : ℕ} (is : entry s ≡ e) where
  pub same_word : s ≡ v → e ≡ entry v
  same_word h = sym is ∙ ap entry h

  pub other_word : ¬ (s ≡ v) → ¬ (e ≡ entry v)
  other_word h k = h (entry_inj (is ∙ k))

  pub within_word : s ≤ v → e ≼ entry v
  within_word h = ≼_back is ▸ entry_mono s v h

  pub beyond_word : v < s → ¬ (e ≼ entry v)
  beyond_word h k = let l = entry_reflects s v (≼_of is ▸ k) in omega arith

pub word_present : (a : ℕ) → not (eqb a 0) ≡ present? (entry a)
unfolding entry
word_present zero = refl
word_present (suc a) = rw eqb-suc-zero refl

-- ---- how far a number is above and below 0
one_side : (z : ℤ) → min (up z) (dn z) ≡ 0
one_side (pos n) = omega arith
one_side (negsuc n) = omega arith

pub entry_above : (a : ℕ) → a - bias ≡ up (val (entry a))
unfolding entry val
entry_above zero = omega arith
entry_above (suc a) = omega (arith, up_sub (suc a) bias, one_side (away (suc a)))

pub entry_below : (a : ℕ) → 0 < a → bias - a ≡ dn (val (entry a))
unfolding entry val
entry_below zero h = let x : ⊥ = omega arith in absurd x
entry_below (suc a) h = omega (arith, up_sub (suc a) bias, one_side (away (suc a)))

pub none_below : (a : ℕ) → a ≡ 0 → 0 ≡ dn (val (entry a))
unfolding val
none_below a e = rw (e, entry_zero)

-- ---- the larger, the sum and the difference
pub larger_is : (a b : ℕ) → entry (max a b) ≡ entry a ⊕ entry b
larger_is a b = ≼_anti
    (elim (dec_lt a b) [
      | yes h ↦ let e : max a b ≡ b = omega arith in rw e (⊕_r _ _)
      | no h ↦ let e : max a b ≡ a = omega arith in rw e (⊕_l _ _)
    ])
    (⊕_lub (entry_mono a _ (omega arith)) (entry_mono b _ (omega arith)))

pub plus_none : (a b : ℕ) → a ≡ 0 → entry 0 ≡ entry a ⊗ entry b
plus_none a b e = rw (e, entry_zero, ⊗_nothing)

pub plus_none_r : (a b : ℕ) → b ≡ 0 → entry 0 ≡ entry a ⊗ entry b
plus_none_r a b e = rw (e, entry_zero, ⊗_absent)

pub plus_is : (a b : ℕ) → 0 < a → 0 < b → bias < a + b → entry (a + b - bias) ≡ entry a ⊗ entry b
unfolding entry
plus_is zero b p q h = let x : ⊥ = omega arith in absurd x
plus_is (suc a) zero p q h = let x : ⊥ = omega arith in absurd x
plus_is (suc a) (suc b) p q h = rw (num_⊗, (let e : suc a + suc b - bias ≡ suc (a + suc b - bias) = omega arith in e))
    (ap num (z_eq _ _ (omega (
      arith,
      up_add (away (suc a)) (away (suc b)),
      up_sub (suc a) bias,
      up_sub (suc b) bias,
      up_sub (suc (a + suc b - bias)) bias,
    ))))

pub minus_none : (a b : ℕ) → a ≡ 0 → entry 0 ≡ entry a ⊗ inv (entry b)
minus_none a b e = rw (e, entry_zero, ⊗_nothing)

pub minus_none_r : (a b : ℕ) → b ≡ 0 → entry 0 ≡ entry a ⊗ inv (entry b)
unfolding inv
minus_none_r a b e = rw (e, entry_zero, ⊗_absent)

pub minus_is : (a b : ℕ) → 0 < a → 0 < b → b < bias + a → entry (bias + a - b) ≡ entry a ⊗ inv (entry b)
unfolding entry
minus_is zero b p q h = let x : ⊥ = omega arith in absurd x
minus_is (suc a) zero p q h = let x : ⊥ = omega arith in absurd x
minus_is (suc a) (suc b) p q h = rw (inv_num, num_⊗, (let e : bias + suc a - suc b ≡ suc (bias + a - suc b) = omega arith in e))
    (ap num (z_eq _ _ (omega (
      arith,
      up_add (away (suc a)) (neg (away (suc b))),
      up_neg (away (suc b)),
      up_sub (suc a) bias,
      up_sub (suc b) bias,
      up_sub (suc (bias + a - suc b)) bias,
    ))))

-- ---- how far a word is from the word of 0
pub close_none : (c : ℕ) → Close c 0
close_none c = record { high = omega arith; low = λ h. let x : ⊥ = omega arith in absurd x }

pub close_more : {c d v : ℕ} → c ≤ d → Close c v → Close d v
close_more h k = record { high = let p = k.high in omega arith; low = λ q. let p = k.low q in omega arith }

-- a word is close exactly when its number is from −c to c
pub close_of : (c v : ℕ) → ((z : ℤ) → entry v ≡ num z → (dn z ≤ c + up z) × (up z ≤ c + dn z)) → Close c v
unfolding entry
close_of c zero h = close_none c
close_of c (suc v) h = let k = h (away (suc v)) refl in let s = up_sub (suc v) bias in record { high = omega arith; low = λ q. omega arith }

-- the word of a number no further from 0 than c
pub number_word : (c : ℕ) (a : ℤ) (v : ℕ) → c ≤ far → up a ≤ c → dn a ≤ c → v ≡ word (num a) → (entry v ≡ num a) × Close c v
number_word c a v f h k e =
    let is = ap entry e ∙ entry_word (num a) (λ z q. let p = ap dn (num_inj q) in omega arith) in
    (is, close_of c v (λ z q. let p = num_inj (sym is ∙ q) in rw (← p) (omega arith, omega arith)))

pub of_close : (c v : ℕ) → Close c v → (z : ℤ) → entry v ≡ num z → (dn z ≤ c + up z) × (up z ≤ c + dn z)
unfolding entry
of_close c zero h z e = absurd (absent_not e)
of_close c (suc v) h z e = rw (← num_inj e)
    (let s = up_sub (suc v) bias in let p = h.high in let q = h.low (omega arith) in (omega arith, omega arith))

pub close_larger : {c : ℕ} (a b r : ℕ) → entry r ≡ entry a ⊕ entry b → Close c a → Close c b → Close c r
close_larger a b r e h k = elim (⊕_or (entry a) (entry b)) [ inl f ↦ rw (entry_inj (e ∙ f)) h | inr f ↦ rw (entry_inj (e ∙ f)) k ]

pub close_plus : {c d : ℕ} (a b r : ℕ) → entry r ≡ entry a ⊗ entry b → Close c a → Close d b → Close (c + d) r
close_plus {c} {d} a b r e h k = close_of (c + d) r (λ z f. go z (entry a) (entry b) refl refl (sym e ∙ f))
  where
    go : (z : ℤ) (x y : E) → entry a ≡ x → entry b ≡ y → x ⊗ y ≡ num z → (dn z ≤ c + d + up z) × (up z ≤ c + d + dn z)
    go z absent y ea eb f = absurd (absent_not (sym (⊗_nothing y) ∙ f))
    go z (num x) absent ea eb f = absurd (absent_not (sym (⊗_absent (num x)) ∙ f))
    go z (num x) (num y) ea eb f = rw (num_inj (sym f ∙ num_⊗ x y))
        (let p = of_close c a h x ea in let q = of_close d b k y eb in let s = up_add x y in (omega arith, omega arith))

pub close_minus : {c d : ℕ} (a b r : ℕ) → entry r ≡ entry a ⊗ inv (entry b) → Close c a → Close d b → Close (c + d) r
close_minus {c} {d} a b r e h k = close_of (c + d) r (λ z f. go z (entry a) (entry b) refl refl (sym e ∙ f))
  where
    go : (z : ℤ) (x y : E) → entry a ≡ x → entry b ≡ y → x ⊗ inv y ≡ num z → (dn z ≤ c + d + up z) × (up z ≤ c + d + dn z)
    go z absent y ea eb f = absurd (absent_not (sym (⊗_nothing (inv y)) ∙ f))
    go z (num x) absent ea eb f = absurd (absent_not {z = z} (unfold inv ◌⊗◌ in f))
    go z (num x) (num y) ea eb f = rw (num_inj {y = x +z neg y} (sym f ∙ rw (inv_num, num_⊗)))
        (let p = of_close c a h x ea in let q = of_close d b k y eb in let s = up_add x (neg y) in let t = up_neg y in (omega arith, omega arith))

-- ---- words as signed numbers
sub_mag : (v k c : ℕ) → v < c → k < c → mag (sub_ℕ v k) < c
sub_mag v k c h g = go (ltb v k)
  where
    go : (b : Bool) → mag (cond b (negsuc (k - suc v)) (pos (v - k))) < c
    go true = omega arith
    go false = omega arith

signed_is : (a : ℕ) → Near a → to_z w64 a -ℤ pos bias ≡ sub_ℕ a bias
signed_is a h = let q = h.high in let e : to_z w64 a ≡ pos a = to_z_pos w64 {n = a} (omega arith) in ap (λ z. z -ℤ pos bias) e

pub number_fits : (a : ℕ) → Near a → SFits w64 (to_z w64 a -ℤ pos bias)
number_fits a h = let q = h.high in rw (signed_is a h) (record { sfits = sub_mag a bias (2 ^ 63) (omega arith) (omega arith) })

pub number_is : (a : ℕ) → 0 < a → Near a → entry a ≡ num (to_z w64 (of_z w64 (to_z w64 a -ℤ pos bias)))
unfolding entry
number_is zero p h = let x : ⊥ = omega arith in absurd x
number_is (suc a) p h = sym (ap num (to_z-of_z (number_fits (suc a) h) ∙ signed_is (suc a) h))
