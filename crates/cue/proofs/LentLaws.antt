-- Laws of a list's words with caps: seven or eight for each line, the seven alone where there are no caps, and with the caps left out always
-- the words of the list.
use mathlib.Core.Path.{◌≡◌, refl, ap, ap₂, sym, ◌∙◌}
use mathlib.Core.List.{List, [], ◌∷◌, ◌++◌, append_assoc, append-nil}
use mathlib.Core.Option.{Option, none, some}
use Prim.Native.Nat.{ℕ, zero, suc, ◌+◌, ◌*◌}
use native.Mathlib.Nat.{mul-zero, mul-suc}
use native.Mathlib.Omega.{arith}
use lib.IntN.{ℤ}
use lib.ListN.{length, take, drop, length-append}
use lib.Seq.{take_at, drop-append-add}
use Rattle.maxplus.specs.Finite.{each}
use Rattle.maxplus.specs.Line.{Line}
use Rattle.maxplus.proofs.EachLaws.{each_same}
use Rattle.cue.specs.Written.{line_size, width, line_words, list_words, cap_words, lent_words, uncapped}
use Rattle.cue.proofs.WrittenLaws.{line_words_length}

pub lent_none : (n : ℕ) (L : List (Line n)) → lent_words n none L ≡ list_words n L
unfolding lent_words list_words
lent_none n [] = refl
lent_none n (c ∷ L) = ap₂ ◌++◌ (append-nil (line_words n c)) (lent_none n L)

-- f 0, and then the others, each one place down
pub each_first : {A : Type 0} (k : ℕ) (f : ℕ → List A) → each (suc k) f ≡ f 0 ++ each k (λ i. f (suc i))
unfolding each
each_first zero f = sym (append-nil (f 0))
each_first (suc k) f = ap (λ l. l ++ f (suc k)) (each_first k f) ∙ append_assoc (f 0) (each k (λ i. f (suc i))) (f (suc k))

module _ (n : ℕ) (caps : Option (Line n → ℤ)) where
  cap_length : (o : Option (Line n → ℤ)) (c : Line n) → line_size + length (cap_words n o c) ≡ width o
  cap_length none c = refl
  cap_length (some w) c = refl

  -- the words of one line with its cap
  abbrev lent_line : Line n → List ℤ
  lent_line c = line_words n c ++ cap_words n caps c

  pub lent_line_length : (c : Line n) → length (line_words n c ++ cap_words n caps c) ≡ width caps
  lent_line_length c = length-append (line_words n c) (cap_words n caps c) ∙ omega (arith, line_words_length n c, cap_length caps c)

  pub lent_words_length : (L : List (Line n)) → length (lent_words n caps L) ≡ width caps * length L
  unfolding lent_words
  lent_words_length [] = omega arith
  lent_words_length (c ∷ L) = length-append (lent_line c) (lent_words n caps L) ∙
      omega (arith, lent_line_length c, lent_words_length L, mul-suc (width caps) (length L))

  -- "with their caps left out"
  pub uncapped_lent : (L : List (Line n)) (rest : List ℤ) → uncapped (width caps) (length L) (lent_words n caps L ++ rest) ≡ list_words n L
  unfolding lent_words list_words uncapped
  uncapped_lent [] rest = unfold each in refl
  uncapped_lent (c ∷ L) rest =
      each_first (length L) (λ k. take line_size (drop (width caps * k) whole)) ∙
      ap₂ ◌++◌ first (each_same (length L) _ _ (λ k h. ap (take line_size) (next k)) ∙ uncapped_lent L rest)
    where
      whole : List ℤ
      whole = lent_line c ++ lent_words n caps L ++ rest

      first : take line_size (drop (width caps * 0) whole) ≡ line_words n c
      first = ap (λ k. take line_size (drop k whole)) (mul-zero (width caps)) ∙ ap (λ l. take line_size l)
          (append_assoc (lent_line c) (lent_words n caps L) rest ∙ append_assoc (line_words n c) (cap_words n caps c) (lent_words n caps L ++ rest)) ∙
          take_at (line_words n c) (cap_words n caps c ++ (lent_words n caps L ++ rest)) line_size (line_words_length n c)

      next : (k : ℕ) → drop (width caps * suc k) whole ≡ drop (width caps * k) (lent_words n caps L ++ rest)
      next k =
          let e : width caps * suc k ≡ length (lent_line c) + width caps * k = omega (arith, mul-suc (width caps) k, lent_line_length c) in
          ap₂ drop e (append_assoc (lent_line c) (lent_words n caps L) rest) ∙
          drop-append-add (lent_line c) (lent_words n caps L ++ rest) (width caps * k)
