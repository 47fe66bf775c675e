-- Laws of a list's words: seven for each line, and unequal lines are unequal words.
use mathlib.Core.Path.{◌≡◌, refl, ap, ap₂, sym, ◌∙◌}
use mathlib.Core.Logic.{inl, inr}
use mathlib.Core.List.{List, [], ◌∷◌}
use Prim.Native.Nat.{ℕ, suc, ◌*◌, ◌≤◌, ◌<◌}
use native.Mathlib.Omega.{arith}
use lib.IntN.{ℤ, pos}
use lib.ListN.{length, take, drop, get_or, length-append}
use lib.Seq.{take_at, drop_at}
use Rattle.maxplus.specs.Whole.{dn}
use Rattle.maxplus.specs.Entry.{E, absent, num}
use Rattle.maxplus.specs.Line.{Line, at}
use Rattle.maxplus.proofs.EachLaws.{length_each, each_at}
use Rattle.maxplus.proofs.LineLaws.{line_ext}
use Rattle.cue.specs.Written.{line_size, signed, line_words, list_words}
use Rattle.cue.specs.Results.{Signed32, Fitting}
use Rattle.cue.specs.Sizes.{size_limit}

-- absent's word is no number that fits
no_absent : (z : ℤ) → Signed32 (num z) → ¬ (signed absent ≡ z)
no_absent z f e = let b = (f.fits z refl).1 in let d = ap dn e in let x : ⊥ = omega arith in x

signed_one : (a b : E) → Signed32 a → Signed32 b → signed a ≡ signed b → a ≡ b
signed_one absent absent f g e = refl
signed_one absent (num y) f g e = absurd (no_absent y g e)
signed_one (num x) absent f g e = absurd (no_absent x f (sym e))
signed_one (num x) (num y) f g e = ap num e

pub line_words_length : (n : ℕ) (c : Line n) → length (line_words n c) ≡ line_size
unfolding line_words
line_words_length n c = ap suc (length_each 6 (λ i. signed (at n c i)))

pub list_words_length : (n : ℕ) (L : List (Line n)) → length (list_words n L) ≡ line_size * length L
unfolding list_words
list_words_length n [] = refl
list_words_length n (c ∷ L) = length-append (line_words n c) (list_words n L) ∙
    (let a = line_words_length n c in let b = list_words_length n L in omega arith)

pub line_words_at : (n : ℕ) (c : Line n) (i : ℕ) → i < 6 → get_or (line_words n c) (suc i) (pos 0) ≡ signed (at n c i)
unfolding line_words
line_words_at n c i h = each_at 6 i (λ i. signed (at n c i)) (pos 0) h

line_words_one : (n : ℕ) → n ≤ size_limit → (c d : Line n) → ((i : ℕ) → i < n → Signed32 (at n c i)) →
    ((i : ℕ) → i < n → Signed32 (at n d i)) → line_words n c ≡ line_words n d → c ≡ d
line_words_one n six c d f g e = line_ext n c d (λ i h. signed_one _ _ (f i h) (g i h)
    (sym (line_words_at n c i (omega arith)) ∙ ap (λ w. get_or w (suc i) (pos 0)) e ∙ line_words_at n d i (omega arith)))

first_line : (n : ℕ) (c : Line n) (L : List (Line n)) → take line_size (list_words n (c ∷ L)) ≡ line_words n c
unfolding list_words
first_line n c L = take_at (line_words n c) (list_words n L) line_size (line_words_length n c)

other_lines : (n : ℕ) (c : Line n) (L : List (Line n)) → drop line_size (list_words n (c ∷ L)) ≡ list_words n L
unfolding list_words
other_lines n c L = drop_at (line_words n c) (list_words n L) line_size (line_words_length n c)

pub list_words_one : (n : ℕ) → n ≤ size_limit → (L M : List (Line n)) → Fitting n L → Fitting n M → list_words n L ≡ list_words n M → L ≡ M
list_words_one n six [] [] f g e = refl
list_words_one n six [] (d ∷ M) f g e = absurd (shorter (list_words_length n []) (list_words_length n (d ∷ M)) (ap length e))
  where
    shorter : {a b : ℕ} → a ≡ line_size * 0 → b ≡ line_size * suc (length M) → a ≡ b → ⊥
    shorter p q r = omega arith
list_words_one n six (c ∷ L) [] f g e = absurd (longer (list_words_length n (c ∷ L)) (list_words_length n []) (ap length e))
  where
    longer : {a b : ℕ} → a ≡ line_size * suc (length L) → b ≡ line_size * 0 → a ≡ b → ⊥
    longer p q r = omega arith
list_words_one n six (c ∷ L) (d ∷ M) f g e = ap₂ ◌∷◌
    (line_words_one n six c d (f c (inl refl)) (g d (inl refl)) (sym (first_line n c L) ∙ ap (take line_size) e ∙ first_line n d M))
    (list_words_one n six L M (λ a h. f a (inr h)) (λ a h. g a (inr h)) (sym (other_lines n c L) ∙ ap (drop line_size) e ∙ other_lines n d M))
