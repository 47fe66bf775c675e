-- What the functions of this crate promise: what stands in the lent bytes afterwards.
use Rattle.std.specs.Prelude.{◌≡◌, List, [], ◌∷◌, ◌++◌, Bool, ℕ, zero, suc, ◌+◌, ◌*◌, ◌≤◌, eqb, ℤ, pos, length, take, drop, get_or}
use Rattle.maxplus.specs.Finite.{each, only_if}
use Rattle.maxplus.specs.Line.{Line}
use Rattle.cue.specs.Written.{line_size, capped_size}
use Rattle.cue.specs.Standing.{line_at}
use Rattle.sheet.specs.Text.{bytes}
use Rattle.writing.specs.Numerals.{numeral}
use Rattle.writing.specs.declared.Writer.{Writer}
use Rattle.writing.specs.Texts.{field, joined, component_text, line_text}

-- The text t is put at `from`, up to r: what stood before it and behind it is kept, and so is the length.
pub record Puts (before after : List ℕ) (from r : ℕ) (t : List ℕ) : Type 0 where
  pub same_length : length after ≡ length before
  pub within : r ≤ length after
  pub end : r ≡ from + length t
  pub text : take r after ≡ take from before ++ t
  pub rest : drop r after ≡ drop r before

-- The text t is put at a writer's place, which is behind it afterwards; the writer holds the same bytes.
pub record Put (before after : Writer) (t : List ℕ) : Type 0 where
  pub same : after.out.ghost_name ≡ before.out.ghost_name
  pub puts : Puts before.out.now after.out.now before.at after.at t

-- The text t is all that stands before r.
pub record Writes (after : List ℕ) (r : ℕ) (t : List ℕ) : Type 0 where
  pub within : r ≤ length after
  pub text : take r after ≡ t

-- what stands before the j-th item, counted from 0: a comma, unless it is the first
abbrev pub comma : ℕ → List ℕ
comma zero = []
comma (suc j) = bytes ","

-- the items of a line, as line-text has them
abbrev pub items : (n : ℕ) → (ℕ → Bool) → Line n → List ℕ
items n spare c = joined (each n (λ j. component_text n spare c j ∷ []))

-- the text of the line whose words begin at a place, and of its cap, if a line takes eight
unfoldable pub text_at : (n : ℕ) → (ℕ → Bool) → (wide : ℕ) → List ℤ → ℕ → List ℕ
text_at n spare wide ws from =
    line_text n spare (line_at n ws from) ++
    only_if (eqb wide capped_size) (field (bytes "cap=") (numeral (get_or ws (from + line_size) (pos 0))))

-- those of the first lines
unfoldable pub texts_of : (n : ℕ) → (ℕ → Bool) → (wide count : ℕ) → List ℤ → List ℕ
texts_of n spare wide count ws = each count (λ k. text_at n spare wide ws (wide * k))
