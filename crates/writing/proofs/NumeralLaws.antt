-- Laws of numerals: a number's digits are those of its tenth part and the last one; how long they are.
use mathlib.Core.Path.{◌≡◌, refl, sym, ap, ◌∙◌}
use mathlib.Core.List.{[], ◌∷◌, ◌++◌}
use mathlib.Core.Bool.{Bool, true, false}
use Prim.Native.Nat.{ℕ, zero, suc, ◌+◌, ◌^◌, ◌/◌, ◌%◌, ◌≤◌, ◌<◌}
use native.Mathlib.Nat.{pow-succ'}
use native.Mathlib.Omega.{arith}
use borrow.Author.Tests.{ltb-true, ltb-false, lt-ltb, le-ltb}
use lib.Dec.{ltb}
use lib.IntN.{ℤ, pos, negsuc}
use lib.ListN.{length, length-append}
use lib.Signed.{mag}
use mir.Syntax.{w64}
use mir.Val.{SFits}
use Rattle.sheet.specs.Text.{bytes}
use Rattle.writing.specs.Numerals.{digits, natural, numeral}

digits_small : (k v : ℕ) → v < 10 → digits (suc k) v ≡ (48 + v) ∷ []
unfolding digits
digits_small k v h = rw (lt-ltb v 10 h)

digits_more : (k v : ℕ) → 10 ≤ v → digits (suc k) v ≡ digits k (v / 10) ++ (48 + v % 10) ∷ []
unfolding digits
digits_more k v h = rw (le-ltb v 10 h)

-- more steps than the number find no further digit
digits_enough : (k l v : ℕ) → v < k → v < l → digits k v ≡ digits l v
digits_enough zero l v h i = let e : ⊥ = omega arith in absurd e
digits_enough (suc k) zero v h i = let e : ⊥ = omega arith in absurd e
digits_enough (suc k) (suc l) v h i = go (digits_enough k l (v / 10)) (ltb v 10) refl
  where
    go : (v / 10 < k → v / 10 < l → digits k (v / 10) ≡ digits l (v / 10)) → (t : Bool) → ltb v 10 ≡ t → digits (suc k) v ≡ digits (suc l) v
    go ih true e = let s = ltb-true v 10 e in digits_small k v s ∙ sym (digits_small l v s)
    go ih false e = let s = ltb-false v 10 e in
        digits_more k v s ∙ ap (λ d. d ++ (48 + v % 10) ∷ []) (ih (omega arith) (omega arith)) ∙ sym (digits_more l v s)

pub natural_small : (v : ℕ) → v < 10 → natural v ≡ (48 + v) ∷ []
natural_small v h = digits_small v v h

pub natural_more : (v : ℕ) → 10 ≤ v → natural v ≡ natural (v / 10) ++ (48 + v % 10) ∷ []
natural_more v h =
    digits_more v v h ∙ ap (λ d. d ++ (48 + v % 10) ∷ []) (digits_enough v (suc (v / 10)) (v / 10) (omega arith) (omega arith))

-- ---- lengths
digits_length : (f k v : ℕ) → v < 10 ^ suc k → length (digits f v) ≤ suc k
unfolding digits
digits_length zero k v h = omega arith
digits_length (suc f) k v h = go k h (digits_length f) (ltb v 10) refl
  where
    go : (k : ℕ) → v < 10 ^ suc k → ((k v : ℕ) → v < 10 ^ suc k → length (digits f v) ≤ suc k) → (t : Bool) → ltb v 10 ≡ t →
        length (digits (suc f) v) ≤ suc k
    go k h ih true e = rw (digits_small f v (ltb-true v 10 e)) (omega arith)
    go zero h ih false e = let s = ltb-false v 10 e in let x : ⊥ = omega arith in absurd x
    go (suc k) h ih false e =
        let s = ltb-false v 10 e in
        let q = ih k (v / 10) (omega (arith, pow-succ' 10 (suc k))) in
        rw (digits_more f v s, length-append) (omega arith)

-- a number below 10 to the power k has at most k digits, k being 1 or more
pub natural_length : (k v : ℕ) → v < 10 ^ suc k → length (natural v) ≤ suc k
natural_length k v h = digits_length (suc v) k v h

pub natural_8 : (v : ℕ) → v < 2 ^ 8 → length (natural v) ≤ 3
natural_8 v h = natural_length 2 v (omega arith)

pub natural_64 : (v : ℕ) → v < 2 ^ 64 → length (natural v) ≤ 20
natural_64 v h = natural_length 19 v (omega arith)

pub signed_length : (k : ℕ) (z : ℤ) → mag z + 1 < 10 ^ suc k → length (numeral z) ≤ suc k + 1
unfolding bytes
signed_length k (pos v) h = let q = natural_length k v (omega arith) in omega arith
signed_length k (negsuc v) h = let q = natural_length k (suc v) (omega arith) in omega arith

pub numeral_64 : (z : ℤ) → SFits w64 z → length (numeral z) ≤ 20
numeral_64 z f = signed_length 18 z (omega (arith, f.sfits))
