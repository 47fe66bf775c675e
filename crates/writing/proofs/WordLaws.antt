-- A plan's text from the words that hold its lines and, where there are any, their caps.
use mathlib.Core.Path.{◌≡◌, refl, ap, ap₂}
use mathlib.Core.List.{List, [], ◌∷◌, ◌++◌}
use mathlib.Core.Bool.{Bool}
use mathlib.Core.Option.{Option, none, some}
use Prim.Native.Nat.{ℕ, ◌≤◌, ◌<◌}
use native.Mathlib.Omega.{arith}
use lib.IntN.{ℤ, pos}
use lib.Seq.{get_or_at}
use Rattle.maxplus.specs.Line.{Line, at}
use Rattle.cue.specs.Results.{Signed32}
use Rattle.cue.specs.Sizes.{size_limit}
use Rattle.cue.specs.Written.{line_size, width, line_words, cap_words}
use Rattle.cue.specs.Standing.{StandsWith}
use Rattle.cue.proofs.WrittenLaws.{line_words_length}
use Rattle.cue.proofs.StandingLaws.{line_first, stands_read}
use Rattle.sheet.specs.Text.{bytes}
use Rattle.writing.specs.Numerals.{natural, numeral}
use Rattle.writing.specs.Texts.{field, line_text, cap_text, line_texts, plan_text}
use Rattle.writing.specs.Writing.{text_at, texts_of}
use Rattle.writing.proofs.LineLaws.{text_local}

width_enough : (n : ℕ) (caps : Option (Line n → ℤ)) → line_size ≤ width caps
width_enough n none = omega arith
width_enough n (some w) = omega arith

module _ {n : ℕ} (six : n ≤ size_limit) (spare : ℕ → Bool) where
  -- what is read from a line's words is its text
  text_first : (caps : Option (Line n → ℤ)) (c : Line n) → ((i : ℕ) → i < n → Signed32 (at n c i)) →
      text_at n spare (width caps) (line_words n c ++ cap_words n caps c) 0 ≡ line_text n spare c ++ cap_text n caps c
  unfolding text_at
  text_first none c f = ap (λ c. line_text n spare c ++ []) (line_first n six c f [])
  text_first (some w) c f =
      ap₂ (λ c z. line_text n spare c ++ field (bytes "cap=") (numeral z)) (line_first n six c f (w c ∷ []))
      (get_or_at (line_words n c) (w c) [] (pos 0) line_size (line_words_length n c))

  texts_back : {count : ℕ} {ws : List ℤ} {caps : Option (Line n → ℤ)} {L : List (Line n)} → StandsWith n count ws caps L →
      texts_of n spare (width caps) count ws ≡ line_texts n spare caps L
  unfolding texts_of line_texts
  texts_back {caps = caps} s =
      stands_read caps (text_at n spare (width caps)) (line_texts n spare caps) (text_local n six spare (width_enough n caps)) refl
      (λ c L f. ap (λ t. t ++ line_texts n spare caps L) (text_first caps c f)) s

  pub plan_back : {count wide : ℕ} {ws : List ℤ} (D : ℤ) (k l : ℕ) (caps : Option (Line n → ℤ)) (L : List (Line n)) → wide ≡ width caps →
      StandsWith n count ws caps L →
      field (bytes "deviation=") (numeral D) ++ field (bytes "steps=") (natural k) ++ field (bytes "selections=") (natural l) ++
      field (bytes "count=") (natural count) ++ texts_of n spare wide count ws ≡ plan_text n spare D k l caps L
  unfolding plan_text
  plan_back D k l caps L e s = rw (e, texts_back s, s.many)
