-- What is written is read back: the text of a sound sheet's tables is read as these tables, as they stand within the sizes.
use mathlib.Core.Path.{◌≡◌, refl, ap, ap₂, ◌∙◌}
use mathlib.Core.List.{List, [], ◌∷◌, ◌++◌, append_assoc, append-nil}
use mathlib.Core.Bool.{◌&&◌}
use mathlib.Core.Option.{Option, none, some}
use Prim.Native.Nat.{ℕ, ◌<◌}
use native.Mathlib.Omega.{arith}
use lib.IntN.{ℤ}
use Rattle.maxplus.specs.Entry.{E, val, Present}
use Rattle.maxplus.specs.Finite.{each}
use Rattle.maxplus.specs.Tables.{Mat}
use Rattle.sheet.specs.Text.{bytes}
use Rattle.sheet.specs.Sheet.{got, refused, literal, table, ruled, sizes, mark_lines, tables, land_kind, last_kind, Measure, by_marks, by_spread, by_spread?}
use Rattle.sheet.specs.Sheet.{own_floor, own_due, Sheet, moments, measure_of, sheet_of, some_lag_missing, sized}
use Rattle.sheet.proofs.SectionLaws.{sized_read, finished_good, headed_sized, read_headed}
use Rattle.sheet.proofs.Longest.{longest_is}
use Rattle.sheet_text.specs.SheetText.{rows_text, sections_text, optional_text, one_line, number_line, rule_text, if_given, sheet_text, trimmed}
use Rattle.sheet_text.specs.SheetText.{first_rows, first_numbers, first_marks, Floored, Sound, IsReadBack}
use Rattle.sheet_text.proofs.LineBack.{section_rows, sections_rows, sections_back, optional_back}
use Rattle.sheet_text.proofs.SoundFits.{size_tables, entry_tables, sizes_fit, tables_fit, land_fits, last_fits, text_short}
use Rattle.sheet_text.proofs.TableBack.{table_back, numbers_back, rows_there, none_missing}

-- ---- the parts of the text, one after the other
abbrev pub sizes_text : Sheet → List ℕ
sizes_text t = sections_text sizes (size_tables t)

abbrev pub tables_text : Sheet → List ℕ
tables_text t = sections_text (tables (by_spread? t.measure) t.panels t.triggers) (entry_tables t)

abbrev land_text : Sheet → List ℕ
land_text t = optional_text (land_kind t.panels t.triggers) t.land

abbrev last_text : Sheet → List ℕ
last_text t = optional_text (last_kind t.panels) (if_given number_line t.last)

-- what stands behind the sizes
abbrev pub rest_text : Sheet → List ℕ
rest_text t = tables_text t ++ (land_text t ++ (last_text t ++ []))

pub text_parts : (t : Sheet) → sheet_text t ≡ rule_text t.measure ++ (sizes_text t ++ rest_text t)
unfolding sheet_text
text_parts t = five (rule_text t.measure) (sizes_text t) (tables_text t) (land_text t) (last_text t)
  where
    five : (a b c d e : List ℕ) → a ++ b ++ c ++ d ++ e ≡ a ++ (b ++ (c ++ (d ++ (e ++ []))))
    five a b c d e = simp (append_assoc, append-nil)

-- the line of a rule is read back; where there is none, the line of panels does not begin as one
ruled_back : (M : Measure) (t : Sheet) (s : List ℕ) → ruled (rule_text M ++ (sizes_text t ++ s)) ≡ got (by_spread? M) (sizes_text t ++ s)
unfolding ruled literal rows_text each bytes
ruled_back (by_marks p q) t s = refl
ruled_back by_spread t s = refl

-- neither a last line nor the end of the bytes begins with the key of a land line
no_land : (m n : ℕ) (o : Option Mat) → literal (land_kind m n).key (optional_text (last_kind m) o ++ []) ≡ refused 2
unfolding literal rows_text each bytes
no_land m n none = refl
no_land m n (some A) = refl

no_last : (m : ℕ) → literal (last_kind m).key [] ≡ refused 2
unfolding literal bytes
no_last m = refl

-- ---- the tables that are read
given_back : (m n : ℕ) (o : Option Mat) → if_given (λ A. table (section_rows (land_kind m n) A)) o ≡ if_given (first_rows n m) o
given_back m n none = refl
given_back m n (some A) = ap some (table_back n m A)

moments_back : (m : ℕ) (o : Option (ℕ → ℤ)) →
    moments (if_given (λ A. table (section_rows (last_kind m) A)) (if_given number_line o)) ≡ if_given (first_numbers m) o
moments_back m none = refl
moments_back m (some b) = ap some (numbers_back m b)

module _ (t : Sheet) where
  abbrev rows_read : List (List (List E))
  rows_read = sections_rows (tables (by_spread? t.measure) t.panels t.triggers) (entry_tables t)

  abbrev land_read : Option Mat
  land_read = if_given (λ A. table (section_rows (land_kind t.panels t.triggers) A)) t.land

  abbrev last_read : Option Mat
  last_read = if_given (λ A. table (section_rows (last_kind t.panels) A)) (if_given number_line t.last)

  measure_back : measure_of (by_spread? t.measure) rows_read ≡ first_marks t.panels t.triggers t.measure
  measure_back = go t.measure
    where
      go : (M : Measure) → measure_of (by_spread? M) (sections_rows (tables (by_spread? M) t.panels t.triggers)
          (t.lag ∷ one_line (own_floor M) ∷ one_line (own_due M) ∷ t.after ∷ [])) ≡ first_marks t.panels t.triggers M
      go (by_marks p q) = ap₂ by_marks (ap (λ (A : Mat). A 0) (table_back 1 t.panels (one_line p))) (numbers_back t.triggers q)
      go by_spread = refl

  sheet_back : sheet_of (by_spread? t.measure) t.panels t.triggers rows_read land_read last_read ≡ trimmed t
  sheet_back =
      let m = t.panels in
      let n = t.triggers in
      λ i. record {
        panels = m;
        triggers = n;
        lag = table_back m n t.lag i;
        measure = measure_back i;
        after = table_back n n t.after i;
        land = given_back m n t.land i;
        last = moments_back m t.last i;
      }

  -- kind by kind, each kind's law hands the bytes behind its lines to the next, and nothing is left
  sized_back : Sound t → sized (by_spread? t.measure) t.panels t.triggers (rest_text t) ≡ got (trimmed t) []
  sized_back S =
      let m = t.panels in
      let n = t.triggers in
      let two = by_spread? t.measure in
      sized_read two m n _ rows_read _ (sections_back (tables two m n) (entry_tables t) (land_text t ++ (last_text t ++ [])) (tables_fit t S))
      land_read _ (optional_back (land_kind m n) t.land (last_text t ++ []) (land_fits t S) (λ e. no_land m n (if_given number_line t.last)))
      last_read [] (optional_back (last_kind m) (if_given number_line t.last) [] (last_fits t S) (λ e. no_last m))
      ∙ finished_good two m n rows_read land_read last_read [] refl (rows_there m n t.lag S.lagged)
      (rows_there (mark_lines two) m (one_line (own_floor t.measure)) (floor_there t.measure S.floored))
      (ap (λ u. two && some_lag_missing u) sheet_back ∙ none_missing t t.measure S.measured) ∙ ap (λ u. got u []) sheet_back
    where
      floor_there : (M : Measure) → Floored t M → (i : ℕ) → i < mark_lines (by_spread? M) → (j : ℕ) × (j < t.panels) × Present (own_floor M j)
      floor_there (by_marks p q) there i h = there
      floor_there by_spread there i h = absurd (let x : ⊥ = omega arith in x)

-- The text is short enough; behind any line of a rule its first two lines give the sizes, and the rest is read with them.
pub read_back : IsReadBack
unfolding each val
read_back t S =
    read_headed (sheet_text t) (omega (arith, text_short t S, longest_is)) (by_spread? t.measure) (sizes_text t ++ rest_text t)
    (ap ruled (text_parts t) ∙ ruled_back t.measure t (rest_text t))
    ∙ headed_sized (by_spread? t.measure) _ (sections_rows sizes (size_tables t)) (rest_text t)
    (sections_back sizes (size_tables t) (rest_text t) (sizes_fit t S)) ∙ sized_back t S
