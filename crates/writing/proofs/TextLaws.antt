-- Laws of lines: how a loop over items, lines or panels makes its text grow, part by part; which spare triggers a plan's text asks about.
use mathlib.Core.Path.{◌≡◌, refl, sym, ap, ap₂, subst, ◌∙◌}
use mathlib.Core.List.{List, [], ◌∷◌, ◌++◌, append-nil, append_assoc}
use mathlib.Core.Bool.{Bool, true, cond}
use mathlib.Core.Option.{Option}
use Prim.Native.Nat.{ℕ, zero, suc, ◌+◌, ◌*◌, ◌≤◌, ◌<◌}
use native.Mathlib.Nat.{mul-suc, mul-le-mul_left, mul-le-mul_right}
use native.Mathlib.Numerals.{add-one}
use native.Mathlib.Omega.{arith}
use borrow.Author.Tests.{eq-eqb, ne_eqb}
use lib.ListN.{length, get_or, take, length-append, length-take}
use lib.IntN.{ℤ, pos}
use Rattle.maxplus.specs.Finite.{each}
use Rattle.maxplus.specs.Line.{Line, at}
use Rattle.maxplus.proofs.EachLaws.{length_each, each_same}
use Rattle.maxplus.proofs.LineLaws.{at_line}
use Rattle.sheet.specs.Text.{bytes}
use Rattle.writing.specs.Numerals.{natural, numeral, item}
use Rattle.writing.specs.Texts.{field, joined, component_text, line_text, cap_text, line_texts, plan_text, panel_texts}
use Rattle.cue.specs.Standing.{of_signed, line_at}
use Rattle.writing.specs.Writing.{Put, comma, items, text_at, texts_of}
use Rattle.writing.specs.declared.Writer.{Writer}
use Rattle.writing.proofs.WriterLaws.{put_nothing, then, put_as}
use Rattle.cue.specs.Written.{line_size, capped_size}

-- ---- k parts are put, of at most `size` bytes each: a loop's invariant
pub record Grown (T : ℕ → List ℕ) (size : ℕ) (before after : Writer) (k : ℕ) : Type 0 where
  pub short : after.at ≤ before.at + size * k
  pub puts : Put before after (T k)

module _ (T : ℕ → List ℕ) (size : ℕ) where
  pub grown_none : (w : Writer) → T 0 ≡ [] → w.at ≤ length w.out.now → Grown T size w w 0
  grown_none w e h = record { short = omega arith; puts = put_as (sym e) (put_nothing w h) }

  pub grown_more : {a b c : Writer} {k : ℕ} {t : List ℕ} → T (suc k) ≡ T k ++ t → Grown T size a b k → Put b c t → c.at ≤ b.at + size →
      Grown T size a c (k + 1)
  grown_more {k = k} e g p h =
      record {
        short = omega (arith, g.short);
        puts = put_as (sym (ap T (add-one k) ∙ e)) (then g.puts p);
      }

  pub grown_as : {a b : Writer} {k j : ℕ} → k ≡ j → Grown T size a b k → Grown T size a b j
  grown_as {a} {b} e g = subst (λ k. Grown T size a b k) e g

-- ---- items
abbrev pub first_items : (n : ℕ) → (ℕ → Bool) → Line n → ℕ → List ℕ
first_items n spare c k = joined (each k (λ i. component_text n spare c i ∷ []))

joined_last : (v w : List ℕ) (l : List (List ℕ)) → joined (v ∷ l ++ w ∷ []) ≡ joined (v ∷ l) ++ (bytes "," ++ w)
unfolding joined
joined_last v w [] = append_assoc v (bytes ",") w
joined_last v w (x ∷ l) = ap (λ t. v ++ bytes "," ++ t) (joined_last x w l) ∙ sym (append_assoc (v ++ bytes ",") (joined (x ∷ l)) (bytes "," ++ w))

joined_more : (w : List ℕ) (l : List (List ℕ)) → 0 < length l → joined (l ++ w ∷ []) ≡ joined l ++ (bytes "," ++ w)
joined_more w [] h = let e : ⊥ = omega arith in absurd e
joined_more w (v ∷ l) h = joined_last v w l

module _ (f : ℕ → List ℕ) where
  pub items_none : joined (each 0 (λ i. f i ∷ [])) ≡ []
  unfolding joined each
  items_none = refl

  pub items_more : (j : ℕ) → joined (each (suc j) (λ i. f i ∷ [])) ≡ joined (each j (λ i. f i ∷ [])) ++ (comma j ++ f j)
  unfolding joined each
  items_more zero = refl
  items_more (suc j) = joined_more (f (suc j)) (each (suc j) (λ i. f i ∷ [])) (let e = length_each (suc j) f in omega arith)

pub comma_first : (j : ℕ) → j ≡ 0 → [] ≡ comma j
comma_first zero e = refl
comma_first (suc j) e = let x : ⊥ = omega arith in absurd x

pub comma_behind : (j : ℕ) → ¬ (j ≡ 0) → bytes "," ≡ comma j
comma_behind zero n = absurd (n refl)
comma_behind (suc j) n = refl

pub spare_component : {b : Bool} (t : List ℕ) → b ≡ true → bytes "s" ≡ cond b (bytes "s") t
spare_component t e = sym (ap (λ b. cond b (bytes "s") t) e)

-- the i-th item of a line is its word's
item_of : (n : ℕ) (ws : List ℤ) (from i : ℕ) → i < n → item (of_signed (get_or ws (from + 1 + i) (pos 0))) ≡ item (at n (line_at n ws from) i)
unfolding line_at
item_of n ws from i h = ap item (sym (at_line n (λ j. of_signed (get_or ws (from + 1 + j) (pos 0))) i h))

-- the i-th component is `s` or that item t, as the answer b to whether trigger i is spare has it
pub component_of : (n : ℕ) (spare : ℕ → Bool) (ws : List ℤ) (from i : ℕ) → i < n → {b : Bool} {t : List ℕ} → b ≡ spare i →
    t ≡ item (of_signed (get_or ws (from + 1 + i) (pos 0))) → cond b (bytes "s") t ≡ component_text n spare (line_at n ws from) i
component_of n spare ws from i h e f = ap₂ (λ b t. cond b (bytes "s") t) e (f ∙ item_of n ws from i h)

-- ---- lines
pub texts_none : (n : ℕ) (spare : ℕ → Bool) (wide : ℕ) (ws : List ℤ) → texts_of n spare wide 0 ws ≡ []
unfolding texts_of each
texts_none n spare wide ws = refl

pub texts_more : (n : ℕ) (spare : ℕ → Bool) (wide : ℕ) (ws : List ℤ) (k : ℕ) →
    texts_of n spare wide (suc k) ws ≡ texts_of n spare wide k ws ++ text_at n spare wide ws (wide * k)
unfolding texts_of each
texts_more n spare wide ws k = refl

-- of lines that take `wide` words each, read no further apart, every one lies within the words
pub line_inside : {step wide k count len : ℕ} → step ≤ wide → k < count → wide * count ≤ len → step * k + wide ≤ len
line_inside {step} {wide} {k} {count} h q room = omega (arith, mul-le-mul_right k h, mul-suc wide k, mul-le-mul_left wide q)

-- a line with a cap behind it where a line takes eight words, and alone where it doesn't
module _ (n : ℕ) (spare : ℕ → Bool) (wide : ℕ) (ws : List ℤ) (from : ℕ) where
  pub text_capped : wide ≡ capped_size →
      line_text n spare (line_at n ws from) ++ field (bytes "cap=") (numeral (get_or ws (from + line_size) (pos 0))) ≡ text_at n spare wide ws from
  unfolding text_at
  text_capped e = rw (eq-eqb wide capped_size e)

  pub text_alone : ¬ (wide ≡ capped_size) → line_text n spare (line_at n ws from) ≡ text_at n spare wide ws from
  unfolding text_at
  text_alone e = rw (ne_eqb wide capped_size e) (sym (append-nil _))

-- ---- of the spare triggers only those below n are asked about
module _ (n : ℕ) (s u : ℕ → Bool) (same : (j : ℕ) → j < n → s j ≡ u j) where
  items_same : (c : Line n) → items n s c ≡ items n u c
  items_same c = ap joined (each_same n _ _ (λ j h. ap (λ b. cond b (bytes "s") (item (at n c j)) ∷ []) (same j h)))

  line_texts_same : (caps : Option (Line n → ℤ)) (L : List (Line n)) → line_texts n s caps L ≡ line_texts n u caps L
  unfolding line_texts
  line_texts_same caps [] = refl
  line_texts_same caps (c ∷ L) = ap₂ (λ t l. field (bytes "line=") t ++ cap_text n caps c ++ l) (items_same c) (line_texts_same caps L)

  pub plan_text_same : (D : ℤ) (k l : ℕ) (caps : Option (Line n → ℤ)) (L : List (Line n)) →
      plan_text n s D k l caps L ≡ plan_text n u D k l caps L
  unfolding plan_text
  plan_text_same D k l caps L =
      ap (λ t. field (bytes "deviation=") (numeral D) ++ field (bytes "steps=") (natural k) ++ field (bytes "selections=") (natural l) ++
      field (bytes "count=") (natural (length L)) ++ t) (line_texts_same caps L)

-- ---- panels
pub panel_text : (b c : ℕ) → bytes "kept=" ++ natural b ++ bytes "," ++ natural c ++ bytes "\n" ≡ panel_texts ((b, c) ∷ [])
unfolding panel_texts joined
panel_text b c = simp (append_assoc, append-nil)

pub panel_length : (b c : ℕ) → length (natural b) ≤ 3 → length (natural c) ≤ 3 → length (panel_texts ((b, c) ∷ [])) ≤ 13
unfolding panel_texts joined bytes
panel_length b c h i = simp length-append (omega arith)

panels_append : (P Q : List (ℕ × ℕ)) → panel_texts (P ++ Q) ≡ panel_texts P ++ panel_texts Q
unfolding panel_texts
panels_append [] Q = refl
panels_append (p ∷ P) Q =
    let first : List ℕ = field (bytes "kept=") (joined (natural p.0 ∷ natural p.1 ∷ [])) in
    ap (λ t. first ++ t) (panels_append P Q) ∙ sym (append_assoc first (panel_texts P) (panel_texts Q))

pub panels_none : (f : ℕ → ℕ × ℕ) → panel_texts (each 0 (λ i. f i ∷ [])) ≡ []
unfolding panel_texts each
panels_none f = refl

pub panels_more : (f : ℕ → ℕ × ℕ) (k : ℕ) →
    panel_texts (each (suc k) (λ i. f i ∷ [])) ≡ panel_texts (each k (λ i. f i ∷ [])) ++ panel_texts (f k ∷ [])
unfolding each
panels_more f k = panels_append (each k (λ i. f i ∷ [])) (f k ∷ [])

-- ---- the part up to r has r bytes, where there are as many
pub counted : (r : ℕ) (xs : List ℕ) → r ≤ length xs → (r ≤ length xs) × (r ≡ length (take r xs))
counted r xs h = (h, simp length-take (omega arith))
