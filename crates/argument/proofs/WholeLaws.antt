-- Laws of reading one whole number: its remainder digit by digit, and what its item and its digits say of it.
use Rattle.std.proofs.Common.{Option, Some}
use mathlib.Core.Path.{◌≡◌, refl, ap, sym, subst, ◌∙◌}
use mathlib.Core.List.{List, [], ◌∷◌}
use mathlib.Core.Bool.{Bool, true, false, cond}
use Prim.Native.Nat.{ℕ, zero, suc, ◌+◌, ◌-◌, ◌*◌, ◌/◌, ◌%◌, ◌≤◌, ◌<◌, min}
use native.Mathlib.Nat.{mul-add-mod_self_right}
use native.Mathlib.Numerals.{add-one}
use native.Mathlib.Omega.{arith}
use borrow.Author.Tests.{eqb-true, lt-ltb, le-ltb, le-leb}
use lib.Dec.{eqb}
use lib.IntN.{ℤ, pos, negsuc}
use lib.ListN.{length, drop, get_or, drop_of_length-le}
use lib.Seq.{drop-cons}
use Rattle.maxplus.specs.Whole.{up, dn, neg}
use Rattle.maxplus.specs.Entry.{E, absent, num, present?, val}
use Rattle.words.specs.Words.{word, entry}
use Rattle.words.proofs.Laws.{number_word}
use Rattle.sheet.specs.Sheet.{Got, got, refused, digit, leading, value, behind, signed, item}
use Rattle.sheet.proofs.LineLaws.{true_not_false}
use Rattle.items.specs.Inner.{ItemIs, clip}
use Rattle.items.proofs.ItemLaws.{stands, Stop, stop_end, stop_other, range_bounds}
use Rattle.argument.specs.Times.{number}
use Rattle.argument.specs.Whole.{sole, magnitude, word_limit}
use Rattle.argument.specs.Inner.{whole_of}
use Rattle.argument.specs.declared.whole.Whole.{Whole}

-- ---- the remainder
cond_rest : (t : Bool) (a b x y : ℕ) → a % word_limit ≡ b % word_limit → x % word_limit ≡ y % word_limit →
    cond t a x % word_limit ≡ cond t b y % word_limit
cond_rest true a b x y p q = p
cond_rest false a b x y p q = q

-- the digits read so far count by their remainder alone
ten_rest : (x d : ℕ) → (x * 10 + d) % word_limit ≡ (x % word_limit * 10 + d) % word_limit
ten_rest x d =
    let e : x * 10 + d ≡ x / word_limit * 10 * word_limit + (x % word_limit * 10 + d) = omega arith in
    ap (λ n. n % word_limit) e ∙ mul-add-mod_self_right (x / word_limit * 10) word_limit (x % word_limit * 10 + d)

-- values with the same remainder keep it however many digits follow
value_rest : (x y : ℕ) (s : List ℕ) → x % word_limit ≡ y % word_limit → value x s % word_limit ≡ value y s % word_limit
unfolding value
value_rest x y [] h = h
value_rest x y (b ∷ s) h =
    let d = b - 48 in
    let e = ten_rest x d ∙ ap (λ n. (n * 10 + d) % word_limit) h ∙ sym (ten_rest y d) in
    cond_rest (digit b) _ _ _ _ (value_rest (x * 10 + d) (y * 10 + d) s e) h

-- part of the digits is read: what is left from `at` on, read on from v, has the remainder that all have
pub record RestTo (s : List ℕ) (from at v : ℕ) : Type 0 where
  pub small : v < word_limit
  pub value_on : value v (drop at s) % word_limit ≡ value 0 (drop from s) % word_limit

module _ {s : List ℕ} {from at v : ℕ} (r : RestTo s from at v) where
  pub rest_digit : (w : ℕ) → at < length s → digit (get_or s at 0) ≡ true → w ≡ (v * 10 + (get_or s at 0 - 48)) % word_limit →
      RestTo s from (at + 1) w
  unfolding value
  rest_digit w h d e =
      let step : value v (drop at s) ≡ value (v * 10 + (get_or s at 0 - 48)) (drop (at + 1) s) = rw (add-one, drop-cons s at 0 h, d) in
      record {
        small = omega arith;
        value_on =
            value_rest w (v * 10 + (get_or s at 0 - 48)) (drop (at + 1) s) (omega arith) ∙ ap (λ n. n % word_limit) (sym step) ∙ r.value_on;
      }

  rest_whole : Stop (drop at s) → v ≡ value 0 (drop from s) % word_limit
  rest_whole t =
      let small = r.small in
      let e : v ≡ v % word_limit = omega arith in
      e ∙ ap (λ n. n % word_limit) (sym (t.value_stays v)) ∙ r.value_on

  pub rest_end : length s ≤ at → v ≡ value 0 (drop from s) % word_limit
  rest_end h = rest_whole (stop_end s at h)

  pub rest_other : at < length s → digit (get_or s at 0) ≡ false → v ≡ value 0 (drop from s) % word_limit
  rest_other h e = rest_whole (stop_other s at h e)

-- ---- the digits of a number
-- what the bytes s say of a number that is read from them, where nothing stands behind it: its digits stand behind the minus of one below 0
abbrev Told : List ℕ → Got E → Type 0
Told s (got (num z) []) = (dn z ≡ 0 → value 0 s ≡ magnitude z) × (0 < dn z → value 0 (drop 1 s) ≡ magnitude z)
Told s (got (num z) (b ∷ r)) = Unit {0}
Told s (got absent r) = Unit {0}
Told s (refused k) = Unit {0}

leading_value : (b : ℕ) (s : List ℕ) → leading b ≡ true → value 0 (b ∷ s) ≡ value (b - 48) s
unfolding value
leading_value b s e =
    let (l, h) = range_bounds 49 b e in
    let d : digit b ≡ true = rw (le-leb 48 b (omega arith), le-leb b 57 h) in
    let first : 0 * 10 + (b - 48) ≡ b - 48 = omega arith in
    rw (d, first)

-- what a number's sign turned leaves of it
neg_parts : (n : ℕ) → (up (neg (pos n)) ≡ 0) × (dn (neg (pos n)) ≡ n)
unfolding neg
neg_parts zero = (refl, refl)
neg_parts (suc n) = (refl, refl)

told_zero : (b : ℕ) (s : List ℕ) → b ≡ 48 → Told (b ∷ s) (got (num (pos 0)) s)
unfolding value
told_zero b [] e = (λ h. rw e, λ h. let x : ⊥ = omega arith in absurd x)
told_zero b (c ∷ s) e = tt

module _ (b : ℕ) (s : List ℕ) (e : leading b ≡ true) where
  told_above : (r : List ℕ) → Told (b ∷ s) (got (num (pos (value (b - 48) s))) r)
  told_above [] = (λ h. let q = leading_value b s e in omega arith, λ h. let x : ⊥ = omega arith in absurd x)
  told_above (c ∷ r) = tt

  told_below : (m : ℕ) (r : List ℕ) → m ≡ 45 → Told (m ∷ b ∷ s) (got (num (neg (pos (value (b - 48) s)))) r)
  unfolding value
  told_below m [] k =
      let (u, d) = neg_parts (value (b - 48) s) in
      (λ h. rw k (omega arith), λ h. let q = leading_value b s e in omega arith)
  told_below m (c ∷ r) k = tt

told_signed : (m : ℕ) (s : List ℕ) → m ≡ 45 → Told (m ∷ s) (signed s)
unfolding signed
told_signed m [] k = tt
told_signed m (b ∷ s) k = go (leading b) refl
  where
    go : (t : Bool) → leading b ≡ t → Told (m ∷ b ∷ s) (cond t (got (num (neg (pos (value (b - 48) s)))) (behind s)) (got absent (b ∷ s)))
    go true e = told_below b s e m (behind s) k
    go false e = tt

told_item : (s : List ℕ) → Told s (item s)
unfolding item
told_item [] = tt
told_item (b ∷ s) = zero_or (eqb b 48) refl
  where
    digits_or : (t : Bool) → leading b ≡ t → Told (b ∷ s) (cond t (got (num (pos (value (b - 48) s))) (behind s)) (refused 2))
    digits_or true e = told_above b s e (behind s)
    digits_or false e = tt

    minus_or : (t : Bool) → eqb b 45 ≡ t →
        Told (b ∷ s) (cond t (signed s) (cond (leading b) (got (num (pos (value (b - 48) s))) (behind s)) (refused 2)))
    minus_or true e = told_signed b s (eqb-true b 45 e)
    minus_or false e = digits_or (leading b) refl

    zero_or : (t : Bool) → eqb b 48 ≡ t → Told (b ∷ s) (cond t (got (num (pos 0)) s)
        (cond (eqb b 45) (signed s) (cond (leading b) (got (num (pos (value (b - 48) s))) (behind s)) (refused 2))))
    zero_or true e = told_zero b s (eqb-true b 48 e)
    zero_or false e = minus_or (eqb b 45) refl

-- ---- the number's word
-- an item further than this from 0 is read as the first number past it
abbrev pub most : ℕ
most = word_limit - 1

clipped : (z : ℤ) (w : ℕ) → w ≡ word (clip most (num z)) →
    (y : ℤ) × (entry w ≡ num y) × (up y ≡ min (up z) word_limit) × (dn y ≡ min (dn z) word_limit)
clipped (pos n) w e =
    let is = number_word word_limit (pos (min n word_limit)) w (omega arith) (omega arith) (omega arith) e in
    (pos (min n word_limit), is.0, refl, omega arith)
clipped (negsuc n) w e =
    let is = number_word word_limit (negsuc (min n most)) w (omega arith) (omega arith) (omega arith) e in
    (negsuc (min n most), is.0, omega arith, omega arith)

-- an argument that is one number, as its word and its bytes give it
pub record Sole (s : List ℕ) (w : ℕ) : Type 0 where
  pub number_is : ℤ
  pub reads : sole s ≡ got number_is []
  pub above : up (val (entry w)) ≡ min (up number_is) word_limit
  pub below : dn (val (entry w)) ≡ min (dn number_is) word_limit
  pub told : Told s (got (num number_is) [])

module _ (s : List ℕ) {w next : ℕ} where
  pub lone : ItemIs most item s 0 (stands w next) → present? (entry w) ≡ true → next ≡ length s → Sole s w
  unfolding number word entry val sole
  lone (absent, q, e, k) p n = absurd (true_not_false (sym (rw e at p)))
  lone (num z, q, e, k) p n =
      let (y, is, u, d) = clipped z w e in
      let none : drop next s ≡ [] = drop_of_length-le s {i = next} (omega arith) in
      let whole : item s ≡ got (num z) [] = q ∙ ap (got (num z)) none in
      record {
        number_is = z;
        reads = rw whole;
        above = ap (λ x. up (val x)) is ∙ u;
        below = ap (λ x. dn (val x)) is ∙ d;
        told = subst (Told s) whole (told_item s);
      }

  -- a lone minus is no number
  pub lone_minus : ItemIs most item s 0 (stands w next) → present? (entry w) ≡ false → sole s ≡ refused 2
  unfolding number sole
  lone_minus (absent, q, e, k) p = rw q
  lone_minus (num z, q, e, k) p = let (y, is, _, _) = clipped z w e in absurd (true_not_false (sym (ap present? is) ∙ p))

  pub not_alone : ItemIs most item s 0 (stands w next) → ¬ (next ≡ length s) → sole s ≡ refused 2
  unfolding number sole
  not_alone (absent, q, e, k) n = rw q
  not_alone (num z, q, e, k) n = rw (q, drop-cons s next 0 (omega arith))

pub no_item : (s : List ℕ) → item (drop 0 s) ≡ refused 2 → sole s ≡ refused 2
unfolding sole number
no_item s e = rw e

-- ---- the answer
same_whole : {n m : Bool} {i j k l : ℕ} → n ≡ m → i ≡ j → k ≡ l →
    ◌≡◌ {A = Option Whole} (Some (record { negative = n; size = i; rest = k })) (Some (record { negative = m; size = j; rest = l }))
same_whole p q r = cc

one_side : (z : ℤ) → min (up z) (dn z) ≡ 0
one_side (pos n) = omega arith
one_side (negsuc n) = omega arith

module _ {s : List ℕ} {w : ℕ} (f : Sole s w) {below : ℕ} (b : below ≡ dn (val (entry w))) where
  pub whole_below : 0 < below → {rest : ℕ} → rest ≡ value 0 (drop 1 s) % word_limit →
      ◌≡◌ {A = Option Whole} (Some (record { negative = true; size = below; rest = rest })) (whole_of (sole s))
  whole_below h r =
      let z = f.number_is in
      let k = f.below in
      let below-zero : 0 < dn z = omega arith in
      let size : below ≡ min (magnitude z) word_limit = omega (arith, one_side z) in
      rw f.reads (same_whole (sym (lt-ltb 0 (dn z) below-zero)) size (r ∙ ap (λ n. n % word_limit) (f.told.1 below-zero)))

  pub whole_above : below ≤ 0 → {above : ℕ} → above ≡ up (val (entry w)) → {rest : ℕ} → rest ≡ value 0 s % word_limit →
      ◌≡◌ {A = Option Whole} (Some (record { negative = false; size = above; rest = rest })) (whole_of (sole s))
  whole_above h {above} a r =
      let z = f.number_is in
      let k = f.below in
      let l = f.above in
      let from_zero : dn z ≡ 0 = omega arith in
      let size : above ≡ min (magnitude z) word_limit = omega arith in
      rw f.reads (same_whole (sym (le-ltb 0 (dn z) (omega arith))) size (r ∙ ap (λ n. n % word_limit) (f.told.0 from_zero)))
