-- An item that is written is read back: numerals, absent.
use mathlib.Core.Path.{◌≡◌, refl, ap, ◌∙◌}
use mathlib.Core.List.{List, [], ◌∷◌, ◌++◌, append_assoc}
use mathlib.Core.Bool.{Bool, true, false, cond}
use Prim.Native.Nat.{ℕ, zero, suc, ◌+◌, ◌-◌, ◌*◌, ◌/◌, ◌%◌, ◌≤◌, ◌<◌}
use native.Mathlib.Omega.{arith}
use borrow.Author.Tests.{ltb-true, ltb-false, le-leb, ne_eqb}
use lib.Dec.{ltb}
use lib.IntN.{pos, negsuc}
use Rattle.maxplus.specs.Whole.{neg}
use Rattle.maxplus.specs.Entry.{E, absent, num}
use Rattle.sheet.specs.Text.{bytes}
use Rattle.sheet.specs.Sheet.{got, literal, digit, leading, value, behind, signed, ending, ended}
use Rattle.sheet.specs.Sheet as sheet
use Rattle.writing.specs.Numerals.{digits, item}

-- ---- one byte
digit_of : (d : ℕ) → d < 10 → digit (48 + d) ≡ true
digit_of d h = rw (le-leb 48 (48 + d) (omega arith), le-leb (48 + d) 57 (omega arith))

leading_of : (d : ℕ) → 1 ≤ d → d < 10 → leading (48 + d) ≡ true
leading_of d g h = rw (le-leb 49 (48 + d) (omega arith), le-leb (48 + d) 57 (omega arith))

value_digit : (v d : ℕ) (s : List ℕ) → d < 10 → value v ((48 + d) ∷ s) ≡ value (v * 10 + d) s
unfolding value
value_digit v d s h = let e : 48 + d - 48 ≡ d = omega arith in rw (digit_of d h, e)

behind_digit : (d : ℕ) (s : List ℕ) → d < 10 → behind ((48 + d) ∷ s) ≡ behind s
unfolding behind
behind_digit d s h = rw (digit_of d h)

-- ---- the digits of a number from 1 on: a first one from 1 to 9, and others; whatever follows them is read on from the number
record Numeral (v : ℕ) (t : List ℕ) : Type 0 where
  first : ℕ
  others : List ℕ
  is : t ≡ (48 + first) ∷ others
  some : 1 ≤ first
  few : first < 10
  value_on : (s : List ℕ) → value first (others ++ s) ≡ value v s
  behind_on : (s : List ℕ) → behind (others ++ s) ≡ behind s

numeral_one : (v : ℕ) → 1 ≤ v → v < 10 → Numeral v ((48 + v) ∷ [])
numeral_one v g h = record { first = v; others = []; is = refl; some = g; few = h; value_on = λ s. refl; behind_on = λ s. refl }

-- with one more digit behind it
numeral_more : (v d : ℕ) (t : List ℕ) → d < 10 → Numeral v t → Numeral (v * 10 + d) (t ++ ((48 + d) ∷ []))
numeral_more v d t h N =
    record {
      first = N.first;
      others = N.others ++ ((48 + d) ∷ []);
      is = ap (λ t. t ++ ((48 + d) ∷ [])) N.is;
      some = N.some;
      few = N.few;
      value_on = λ s. ap (value N.first) (append_assoc N.others ((48 + d) ∷ []) s) ∙ N.value_on ((48 + d) ∷ s) ∙ value_digit v d s h;
      behind_on = λ s. ap behind (append_assoc N.others ((48 + d) ∷ []) s) ∙ N.behind_on ((48 + d) ∷ s) ∙ behind_digit d s h;
    }

-- By the steps that write the digits: a number below 10 is its one digit, any other the digits of its tenth part and the last one.
numeral_of : (k v : ℕ) → v < k → 1 ≤ v → Numeral v (digits k v)
unfolding digits
numeral_of zero v h g = let e : ⊥ = omega arith in absurd e
numeral_of (suc k) v h g = go (numeral_of k (v / 10)) (ltb v 10) refl
  where
    go : (v / 10 < k → 1 ≤ v / 10 → Numeral (v / 10) (digits k (v / 10))) → (t : Bool) → ltb v 10 ≡ t →
        Numeral v (cond (ltb v 10) ((48 + v) ∷ []) (digits k (v / 10) ++ (48 + v % 10) ∷ []))
    go ih true e = rw e (numeral_one v g (ltb-true v 10 e))
    go ih false e =
        let large = ltb-false v 10 e in
        let split : v / 10 * 10 + v % 10 ≡ v = omega arith in
        rw e (rw split at (numeral_more (v / 10) (v % 10) (digits k (v / 10)) (omega arith) (ih (omega arith) (omega arith))))

-- ---- one item, with a byte behind it that is no digit
module _ (b : ℕ) (s : List ℕ) (other : digit b ≡ false) (none : leading b ≡ false) where
  value_end : (v : ℕ) → value v (b ∷ s) ≡ v
  unfolding value
  value_end v = rw other

  behind_end : behind (b ∷ s) ≡ b ∷ s
  unfolding behind
  behind_end = rw other

  signed_numeral : {v : ℕ} {t : List ℕ} → Numeral v t → signed (t ++ b ∷ s) ≡ got (num (neg (pos v))) (b ∷ s)
  unfolding signed
  signed_numeral {v} N =
      let worth : 48 + N.first - 48 ≡ N.first = omega arith in
      rw (N.is, leading_of N.first N.some N.few, worth, N.value_on (b ∷ s), N.behind_on (b ∷ s), value_end v, behind_end)

  item_numeral : {v : ℕ} {t : List ℕ} → Numeral v t → sheet.item (t ++ b ∷ s) ≡ got (num (pos v)) (b ∷ s)
  unfolding sheet.item
  item_numeral {v} N =
      let worth : 48 + N.first - 48 ≡ N.first = omega arith in
      let no_zero = ne_eqb (48 + N.first) 0x30 (λ e. let x : ⊥ = omega (arith, N.some) in x) in
      let no_minus = ne_eqb (48 + N.first) 0x2D (λ e. let x : ⊥ = omega (arith, N.some) in x) in
      rw (N.is, no_zero, no_minus, leading_of N.first N.some N.few, worth, N.value_on (b ∷ s), N.behind_on (b ∷ s), value_end v, behind_end)

  signed_absent : signed (b ∷ s) ≡ got absent (b ∷ s)
  unfolding signed
  signed_absent = rw none

  -- "A number is 0, or an optional minus, a digit 1 to 9 and any digits. Absent is a lone minus"
  item_back : (e : E) → sheet.item (item e ++ b ∷ s) ≡ got e (b ∷ s)
  unfolding sheet.item bytes digits neg
  item_back absent = signed_absent
  item_back (num (pos zero)) = refl
  item_back (num (pos (suc v))) = item_numeral (numeral_of (suc (suc v)) (suc v) (omega arith) (omega arith))
  item_back (num (negsuc v)) = signed_numeral (numeral_of (suc (suc v)) (suc v) (omega arith) (omega arith))

-- an item that k more of its line follow, and the comma or LF behind it
pub ended_back : (k : ℕ) (e : E) (s : List ℕ) → ended k (item e ++ (ending k ++ s)) ≡ got e s
unfolding ended literal bytes
ended_back zero e s = rw (item_back 10 s refl refl e)
ended_back (suc k) e s = rw (item_back 44 s refl refl e)
