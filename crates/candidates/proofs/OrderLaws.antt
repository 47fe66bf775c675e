-- The order of lines is the order of their words: by the first word that differs.
use mathlib.Core.Path.{◌≡◌, refl, ap, sym, ◌∙◌}
use mathlib.Core.Logic.{◌⊎◌, inl, inr, ◌↔◌}
use mathlib.Core.Bool.{Bool, true, false}
use mathlib.Core.List.{List, [], ◌∷◌}
use Prim.Native.Nat.{ℕ, zero, suc, ◌≤◌, ◌<◌}
use native.Mathlib.Omega.{arith}
use lib.ListN.{length}
use lib.Dec.{eqb, ltb, ltb→lt, nltb→le}
use borrow.Author.Tests.{eqb-true, eqb-false}
use Rattle.std.specs.Prelude.{Some, cond}
use Rattle.std.specs.Ordering.{nat_cmp, is_lt, partial_lt}
use Rattle.std.specs.Cmp.Lexicographic.{slice_partial_cmp}
use Rattle.std.proofs.lemmas.Cmp.{same_from_slice_cmp_tested}
use Rattle.std.proofs.lemmas.Bool.Decides.{nat_tests}
use Rattle.maxplus.specs.Tables.{Vec}
use Rattle.maxplus.specs.Line.{line, lt_E, lt_l}
use Rattle.maxplus.proofs.WholeLaws.{up_sub}
use Rattle.maxplus.proofs.LineLaws.{lt_l_irrefl}
use Rattle.words.specs.Words.{bias, entry}
use Rattle.tables.specs.Held.{meant_v, Says}
use Rattle.tables.specs.Lines.{line_of, Sized}
use Rattle.tables.proofs.LineLaws.{line_same}
use Rattle.cue.specs.Sizes.{size_limit}

word_less : (a b : ℕ) → a < b → lt_E (entry a) (entry b)
unfolding entry
word_less a zero h = let e : ⊥ = omega arith in absurd e
word_less zero (suc b) h = tt
word_less (suc a) (suc b) h = omega (arith, up_sub (suc a) bias, up_sub (suc b) bias)

word_not_less : (a b : ℕ) → b ≤ a → ¬ (lt_E (entry a) (entry b))
unfolding entry
word_not_less a zero h l = l
word_not_less zero (suc b) h l = let e : ⊥ = omega arith in e
word_not_less (suc a) (suc b) h l = omega (arith, up_sub (suc a) bias, up_sub (suc b) bias)

-- the first word that differs decides
abbrev pub earlier : List ℕ → List ℕ → Bool
earlier [] [] = false
earlier [] (y ∷ ys) = true
earlier (x ∷ xs) [] = false
earlier (x ∷ xs) (y ∷ ys) = cond (eqb x y) (earlier xs ys) (ltb x y)

-- as it does for arrays
array_less : (a b : List ℕ) (r : Bool) → r ≡ partial_lt (slice_partial_cmp (λ x y. Some (nat_cmp x y))) a b → r ≡ earlier a b
array_less = same_from_slice_cmp_tested nat_cmp is_lt earlier refl (λ _ _. refl) (λ _ _. refl) (λ x y xs ys o h. grind (arith, nat_tests))

-- as it does for entries, where the other words decide by R
module _ (x y : ℕ) (R : Type 0) where
  first_says : (same less rest : Bool) → eqb x y ≡ same → ltb x y ≡ less → Says R rest →
      Says (lt_E (entry x) (entry y) ⊎ ((entry x ≡ entry y) × R)) (cond same rest less)
  first_says true less true e f s = let h : x ≡ y = eqb-true x y e in inr (ap entry h, s)
  first_says true less false e f s =
      let h : x ≡ y = eqb-true x y e in
      λ u. elim u [ inl l ↦ word_not_less x y (omega arith) l | inr k ↦ s k.1 ]
  first_says false true rest e f s = inl (word_less x y (ltb→lt x y (rw f tt)))
  first_says false false rest e f s =
      let h : y ≤ x = nltb→le x y (rw f tt) in let d = eqb-false x y e in
      λ u. elim u [
        | inl l ↦ word_not_less x y h l
        | inr k ↦ word_not_less y y (omega arith) (rw k.0 at (word_less y x (omega (arith, d))))
      ]

earlier_says : (n : ℕ) (a b : List ℕ) → length a ≡ n → length b ≡ n → Says (lt_l n (line_of n a) (line_of n b)) (earlier a b)
unfolding line_of line meant_v
earlier_says zero [] [] p q = λ h. h
earlier_says zero [] (y ∷ b) p q = let e : ⊥ = omega arith in absurd e
earlier_says zero (x ∷ a) b p q = let e : ⊥ = omega arith in absurd e
earlier_says (suc n) [] b p q = let e : ⊥ = omega arith in absurd e
earlier_says (suc n) (x ∷ a) [] p q = let e : ⊥ = omega arith in absurd e
earlier_says (suc n) (x ∷ a) (y ∷ b) p q =
    first_says x y (lt_l n (line_of n a) (line_of n b)) (eqb x y) (ltb x y) (earlier a b) refl refl (earlier_says n a b (omega arith) (omega arith))

pub less_says : (a b : List ℕ) (r : Bool) → length a ≡ 6 → length b ≡ 6 → r ≡ partial_lt (slice_partial_cmp (λ x y. Some (nat_cmp x y))) a b →
    Says (lt_l 6 (line_of 6 a) (line_of 6 b)) r
less_says a b r p q e = rw (array_less a b r e) (earlier_says 6 a b p q)

-- ---- words past the last component are absent, and decide nothing
lt_l_cut : (m n : ℕ) (x y : Vec) → ((k : ℕ) → n ≤ k → x k ≡ y k) → n ≤ m → lt_l m (line m x) (line m y) ↔ lt_l n (line n x) (line n y)
unfolding line
lt_l_cut m zero x y e h = (λ l. lt_l_irrefl m (line m y) (rw (line_same {n = m} {x = x} {y = y} (λ k q. e k (omega arith))) at l), λ l. absurd l)
lt_l_cut zero (suc n) x y e h = let q : ⊥ = omega arith in absurd q
lt_l_cut (suc m) (suc n) x y e h =
    let ih = lt_l_cut m n (λ i. x (suc i)) (λ i. y (suc i)) (λ k q. e (suc k) (omega arith)) (omega arith) in (
      λ l. elim l [ inl q ↦ inl q | inr q ↦ inr (q.0, ih.0 q.1) ],
      λ l. elim l [ inl q ↦ inl q | inr q ↦ inr (q.0, ih.1 q.1) ],
    )

pub below_says : {n : ℕ} {a b : List ℕ} (r : Bool) → n ≤ size_limit → Sized n a → Sized n b → Says (lt_l 6 (line_of 6 a) (line_of 6 b)) r →
    Says (lt_l n (line_of n a) (line_of n b)) r
unfolding line_of meant_v
below_says {n} {a} {b} r h s t = go r
  where
    cut : lt_l 6 (line 6 (meant_v a)) (line 6 (meant_v b)) ↔ lt_l n (line n (meant_v a)) (line n (meant_v b))
    cut = lt_l_cut 6 n (meant_v a) (meant_v b) (λ k q. unfold meant_v in ap entry (s.past k q ∙ sym (t.past k q))) h

    go : (r : Bool) → Says (lt_l 6 (line 6 (meant_v a)) (line 6 (meant_v b))) r → Says (lt_l n (line n (meant_v a)) (line n (meant_v b))) r
    go true l = cut.0 l
    go false l = λ k. l (cut.1 k)
