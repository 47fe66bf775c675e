-- The lines of two spaces compared line by line, caps left out.
use mathlib.Core.Path.{◌≡◌, refl, ap, ap₂, sym, ◌∙◌}
use mathlib.Core.List.{List, ◌++◌}
use Prim.Native.Nat.{ℕ, zero, suc, ◌+◌, ◌*◌, ◌≤◌, ◌<◌}
use native.Mathlib.Decide.{dec_lt}
use native.Mathlib.Nat.{mul-suc, mul-le-mul_left, mul-le-mul_right}
use native.Mathlib.Numerals.{add-one}
use native.Mathlib.Omega.{arith}
use lib.IntN.{ℤ}
use lib.ListN.{length, take, drop, length-append, length-drop}
use lib.Seq.{length-take-le, take_at, drop_at}
use Rattle.maxplus.specs.Finite.{each}
use Rattle.cue.specs.Written.{line_size, uncapped}

-- ---- of lines that take `wide` words each, every one lies within the words
pub line_inside : {wide k count len : ℕ} → line_size ≤ wide → k < count → wide * count ≤ len → wide * k + line_size ≤ len
line_inside {wide} {k} {count} h q room = omega (arith, mul-suc wide k, mul-le-mul_left wide q)

-- and so do all of them, or as many that take fewer
pub lines_inside : {step wide len : ℕ} (count : ℕ) → step ≤ wide → wide * count ≤ len → step * count ≤ len
lines_inside count h q = omega (arith, mul-le-mul_right count h)

-- the lines of a space as a list: seven words each, a line more behind the others
module _ (wide : ℕ) (ws : List ℤ) where
  abbrev line : ℕ → List ℤ
  line k = take line_size (drop (wide * k) ws)

  uncapped_more : (k : ℕ) → uncapped wide (suc k) ws ≡ uncapped wide k ws ++ line k
  unfolding uncapped each
  uncapped_more k = refl

  uncapped_length : (k : ℕ) → line_size ≤ wide → wide * k ≤ length ws → length (uncapped wide k ws) ≡ line_size * k
  uncapped_length zero h q = unfold uncapped in unfold each in refl
  uncapped_length (suc k) h q =
      let inside = line_inside {k = k} h (omega arith) q in
      ap length (uncapped_more k) ∙ length-append (uncapped wide k ws) (line k) ∙
      omega (
        arith,
        uncapped_length k h (omega arith),
        length-take-le line_size (drop (wide * k) ws) (omega (arith, length-drop (wide * k) ws)),
      )

-- two spaces, whose lines may take other numbers of words
module _ (wide broad : ℕ) (a b : List ℤ) where
  abbrev Same : ℕ → Type 0
  Same k = uncapped wide k a ≡ uncapped broad k b

  pub none_differ : Same 0
  unfolding uncapped each
  none_differ = refl

  pub lines_more : (k : ℕ) → Same k → line wide a k ≡ line broad b k → Same (k + 1)
  lines_more k e h = rw (add-one) (uncapped_more wide a k ∙ ap₂ ◌++◌ e h ∙ sym (uncapped_more broad b k))

  -- equal lists are equal line by line, since their parts are equally long
  pub line_same : (count k : ℕ) → k < count → line_size ≤ wide → line_size ≤ broad → wide * count ≤ length a → broad * count ≤ length b →
      Same count → line wide a k ≡ line broad b k
  line_same zero k h p q f g e = let x : ⊥ = omega arith in absurd x
  line_same (suc n) k h p q f g e = go (λ i. line_same n k i p q f' g') (dec_lt k n)
    where
      whole : uncapped wide n a ++ line wide a n ≡ uncapped broad n b ++ line broad b n
      whole = sym (uncapped_more wide a n) ∙ e ∙ uncapped_more broad b n

      f' : wide * n ≤ length a
      f' = omega (arith, mul-suc wide n)

      g' : broad * n ≤ length b
      g' = omega (arith, mul-suc broad n)

      l : length (uncapped wide n a) ≡ line_size * n
      l = uncapped_length wide a n p f'

      m : length (uncapped broad n b) ≡ line_size * n
      m = uncapped_length broad b n q g'

      go : (k < n → Same n → line wide a k ≡ line broad b k) → Dec (k < n) → line wide a k ≡ line broad b k
      go before (yes i) = before i (sym (take_at _ (line wide a n) _ l) ∙ ap (take (line_size * n)) whole ∙ take_at _ (line broad b n) _ m)
      go before (no i) =
          let s : k ≡ n = omega arith in
          rw s (sym (drop_at (uncapped wide n a) _ _ l) ∙ ap (drop (line_size * n)) whole ∙ drop_at (uncapped broad n b) _ _ m)
