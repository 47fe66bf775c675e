-- The texts that the programs write (document 01, "Whole case"): of a plan, of a kept table, of a timing, of a refusal.
use Rattle.std.specs.Prelude.{List, [], ◌∷◌, ◌++◌, Bool, cond, ℕ, ℤ, length}
use Rattle.std.proofs.Math.Option.{Option, none, some}
use Rattle.maxplus.specs.Finite.{each}
use Rattle.maxplus.specs.Line.{Line, at}
use Rattle.sheet.specs.Text.{bytes}
use Rattle.writing.specs.Numerals.{natural, numeral, item}

-- a key, what stands behind it, LF
abbrev pub field : List ℕ → List ℕ → List ℕ
field key v = key ++ v ++ bytes "\n"

-- "items split by one comma"
unfoldable pub joined : List (List ℕ) → List ℕ
joined [] = []
joined (v ∷ []) = v
joined (v ∷ w ∷ l) = v ++ bytes "," ++ joined (w ∷ l)

-- "a spare component is written `s` in every line" (document 02, No. 4)
abbrev pub component_text : (n : ℕ) → (ℕ → Bool) → Line n → ℕ → List ℕ
component_text n spare c j = cond (spare j) (bytes "s") (item (at n c j))

abbrev pub line_text : (n : ℕ) → (ℕ → Bool) → Line n → List ℕ
line_text n spare c = field (bytes "line=") (joined (each n (λ j. component_text n spare c j ∷ [])))

-- "Each line of the plan then gains its own following line `cap=`" (document 02, No. 5)
abbrev pub cap_text : (n : ℕ) → Option (Line n → ℤ) → Line n → List ℕ
cap_text n none c = []
cap_text n (some w) c = field (bytes "cap=") (numeral (w c))

unfoldable pub line_texts : (n : ℕ) → (ℕ → Bool) → Option (Line n → ℤ) → List (Line n) → List ℕ
line_texts n spare caps [] = []
line_texts n spare caps (c ∷ L) = line_text n spare c ++ cap_text n caps c ++ line_texts n spare caps L

-- "The fields are Δ, the walk's fixings, its selections, the number of lines, then each line, trigger 1 first."
unfoldable pub plan_text : (n : ℕ) → (ℕ → Bool) → ℤ → ℕ → ℕ → Option (Line n → ℤ) → List (Line n) → List ℕ
plan_text n spare D k l caps L =
    field (bytes "deviation=") (numeral D) ++ field (bytes "steps=") (natural k) ++ field (bytes "selections=") (natural l) ++
    field (bytes "count=") (natural (length L)) ++ line_texts n spare caps L

-- a line for each panel: its byte and its bit count
unfoldable pub panel_texts : List (ℕ × ℕ) → List ℕ
panel_texts [] = []
panel_texts (p ∷ P) = field (bytes "kept=") (joined (natural p.0 ∷ natural p.1 ∷ [])) ++ panel_texts P

-- "It gives Δ, each panel's byte and bit count …, steps and selections."
unfoldable pub kept_text : ℤ → List (ℕ × ℕ) → ℕ → ℕ → List ℕ
kept_text D P k l =
    field (bytes "deviation=") (numeral D) ++ panel_texts P ++ field (bytes "steps=") (natural k) ++ field (bytes "selections=") (natural l)

-- of the n times of a timing, such as `latest=0,1` (document 02, No. 1)
unfoldable pub latest_text : ℕ → (ℕ → ℤ) → List ℕ
latest_text n X = field (bytes "latest=") (joined (each n (λ j. numeral (X j) ∷ [])))

-- "A refusal is written `refused=` and its number, LF"
unfoldable pub refusal_text : ℕ → List ℕ
refusal_text k = field (bytes "refused=") (natural k)

-- 9's count needed is "written `count=` on the next line"
unfoldable pub full_text : ℕ → List ℕ
full_text k = refusal_text 9 ++ field (bytes "count=") (natural k)
