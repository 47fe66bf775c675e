-- Words of a lent space: absent is the least number and nothing else; what is read from a list's words, line by line; their lines are the list.
use mathlib.Core.Path.{◌≡◌, refl, sym, ap, ap₂, ◌∙◌}
use mathlib.Core.Logic.{inl, inr}
use mathlib.Core.List.{List, [], ◌∷◌, ◌++◌}
use mathlib.Core.Option.{Option, none}
use Prim.Native.Nat.{ℕ, suc, ◌+◌, ◌*◌, ◌≤◌, ◌<◌}
use native.Mathlib.Nat.{zero-add, add_assoc, mul-zero, mul-suc, mul-le-mul_left}
use native.Mathlib.Numerals.{one-add}
use native.Mathlib.Omega.{arith}
use borrow.Author.Tests.{eq-eqb, ne_eqb}
use lib.IntN.{ℤ, pos, negsuc}
use lib.ListN.{length, get_or, get_or-append}
use lib.Seq.{get_or-take, get_or-append-add}
use mir.Syntax.{w32}
use mir.Val.{SFits, of_z}
use Rattle.maxplus.specs.Entry.{E, absent, num}
use Rattle.maxplus.specs.Finite.{each}
use Rattle.maxplus.specs.Line.{Line, at}
use Rattle.maxplus.proofs.EachLaws.{each_same}
use Rattle.maxplus.proofs.LineLaws.{at_line, line_ext}
use Rattle.cue.specs.Written.{line_size, width, signed, line_words, cap_words, lent_words}
use Rattle.cue.specs.Results.{Signed32, Fitting}
use Rattle.cue.specs.Standing.{of_signed, line_at, lines_of, Stands, StandsWith}
use Rattle.cue.specs.Sizes.{size_limit}
use Rattle.cue.proofs.WrittenLaws.{line_words_length, line_words_at}
use Rattle.cue.proofs.LentLaws.{lent_none, each_first, lent_line_length}

-- ---- a component's word as the machine has it: absent where it is the least number, and nowhere else
pub of_signed_absent : (w : ℤ) → SFits w32 w → of_z w32 w ≡ 0x8000_0000 → of_signed w ≡ absent
unfolding of_signed
of_signed_absent (pos v) f e = let x : ⊥ = omega arith in absurd x
of_signed_absent (negsuc v) f e = rw (eq-eqb v 0x7fff_ffff (omega arith))

pub of_signed_number : (w : ℤ) → SFits w32 w → (of_z w32 w ≡ 0x8000_0000 → ⊥) → of_signed w ≡ num w
unfolding of_signed
of_signed_number (pos v) f n = refl
of_signed_number (negsuc v) f n = rw (ne_eqb v 0x7fff_ffff (λ e. n (omega arith)))

-- ---- lines
signed_back : (a : E) → Signed32 a → of_signed (signed a) ≡ a
unfolding of_signed
signed_back absent f = refl
signed_back (num (pos v)) f = refl
signed_back (num (negsuc v)) f = let b = (f.fits (negsuc v) refl).1 in rw (ne_eqb v 0x7fff_ffff (λ e. let x : ⊥ = omega arith in x))

-- a line's own words are the line
pub line_first : (n : ℕ) → n ≤ size_limit → (c : Line n) → ((i : ℕ) → i < n → Signed32 (at n c i)) → (rest : List ℤ) →
    line_at n (line_words n c ++ rest) 0 ≡ c
unfolding line_at
line_first n six c f rest = line_ext n _ c (λ i h.
    let here = get_or-append (line_words n c) rest (pos 0) (suc i) (omega (arith, line_words_length n c)) ∙ line_words_at n c i (omega arith) in
    at_line n _ i h ∙ rw (one-add i) (ap of_signed here) ∙ signed_back _ (f i h))

-- a line is read from its seven words alone
pub line_local : (n : ℕ) → n ≤ size_limit → (ws vs : List ℤ) (from to : ℕ) →
    ((i : ℕ) → i < line_size → get_or ws (from + i) (pos 0) ≡ get_or vs (to + i) (pos 0)) → line_at n ws from ≡ line_at n vs to
unfolding line_at
line_local n six ws vs from to e = line_ext n _ _ (λ i h. at_line n _ i h ∙ ap of_signed (word i (omega arith)) ∙ sym (at_line n _ i h))
  where
    word : (i : ℕ) → 1 + i < line_size → get_or ws (from + 1 + i) (pos 0) ≡ get_or vs (to + 1 + i) (pos 0)
    word i h = rw (add_assoc from 1 i, add_assoc to 1 i) (e (1 + i) h)

-- ---- a list's words read line by line: `part` looks at the words of one line and its cap alone, and these stand behind those of the lines
-- before; so what it reads, line by line, is T of the list, if T begins with what it reads from the first
module _ {B : Type 0} {n : ℕ} (caps : Option (Line n → ℤ)) (part : List ℤ → ℕ → List B) (T : List (Line n) → List B)
    (local : (ws vs : List ℤ) (from to : ℕ) → ((i : ℕ) → i < width caps → get_or ws (from + i) (pos 0) ≡ get_or vs (to + i) (pos 0)) →
    part ws from ≡ part vs to) (no_line : T [] ≡ []) (one_more : (c : Line n) (L : List (Line n)) →
    ((i : ℕ) → i < n → Signed32 (at n c i)) → part (line_words n c ++ cap_words n caps c) 0 ++ T L ≡ T (c ∷ L)) where
  words_read : (L : List (Line n)) → Fitting n L → each (length L) (λ k. part (lent_words n caps L) (width caps * k)) ≡ T L
  unfolding lent_words
  words_read [] f = unfold each in sym no_line
  words_read (c ∷ L) f =
      each_first (length L) (λ k. part whole (width caps * k)) ∙
      ap₂ ◌++◌ (local whole first (width caps * 0) 0 here)
      (each_same (length L) _ _ (λ k h. local whole (lent_words n caps L) _ _ (next k)) ∙ words_read L (λ a m. f a (inr m))) ∙
      one_more c L (f c (inl refl))
    where
      first : List ℤ
      first = line_words n c ++ cap_words n caps c

      whole : List ℤ
      whole = first ++ lent_words n caps L

      here : (i : ℕ) → i < width caps → get_or whole (width caps * 0 + i) (pos 0) ≡ get_or first (0 + i) (pos 0)
      here i h = rw (mul-zero (width caps), zero-add i) (get_or-append first (lent_words n caps L) (pos 0) i (omega (arith, lent_line_length n caps c)))

      next : (k i : ℕ) → i < width caps → get_or whole (width caps * suc k + i) (pos 0) ≡ get_or (lent_words n caps L) (width caps * k + i) (pos 0)
      next k i h =
          let e : width caps * suc k + i ≡ length first + (width caps * k + i) = omega (arith, mul-suc (width caps) k, lent_line_length n caps c) in
          ap (λ p. get_or whole p (pos 0)) e ∙ get_or-append-add first (lent_words n caps L) (width caps * k + i) (pos 0)

  pub stands_read : {count : ℕ} {ws : List ℤ} {L : List (Line n)} → StandsWith n count ws caps L → each count (λ k. part ws (width caps * k)) ≡ T L
  stands_read {count} {ws} {L} s =
      each_same count _ _ (λ k h. local ws (lent_words n caps L) _ _ (λ i q. word (width caps * k + i) (inside k i h q))) ∙
      ap (λ m. each m (λ k. part (lent_words n caps L) (width caps * k))) (sym s.many) ∙ words_read L s.fitting
    where
      word : (p : ℕ) → p < width caps * count → get_or ws p (pos 0) ≡ get_or (lent_words n caps L) p (pos 0)
      word p h = sym (get_or-take (width caps * count) ws p (pos 0) h) ∙ ap (λ l. get_or l p (pos 0)) s.words

      inside : (k i : ℕ) → k < count → i < width caps → width caps * k + i < width caps * count
      inside k i h q = omega (arith, mul-suc (width caps) k, mul-le-mul_left (width caps) h)

pub lines_back : {n count : ℕ} {ws : List ℤ} {L : List (Line n)} → n ≤ size_limit → Stands n count ws L → lines_of n count ws ≡ L
unfolding lines_of
lines_back {n} {count} {ws} {L} six s =
    stands_read none (λ ws from. line_at n ws from ∷ []) (λ L. L) (λ ws vs from to e. ap (λ c. c ∷ []) (line_local n six ws vs from to e)) refl
    (λ c L f. ap (λ c. c ∷ L) (line_first n six c f [])) (record { many = s.many; words = s.words ∙ sym (lent_none n L); fitting = s.fitting })
