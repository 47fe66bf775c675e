-- The tables of a sound sheet fit the kinds of its lines, so that its text is no longer than the longest sheet that is read.
use mathlib.Core.Path.{◌≡◌, refl}
use mathlib.Core.List.{List, [], ◌∷◌, ◌++◌}
use mathlib.Core.Bool.{false}
use mathlib.Core.Option.{Option, none, some}
use Prim.Native.Nat.{ℕ, suc, ◌+◌, ◌≤◌, ◌<◌}
use Prim.Native.String.{String}
use native.Mathlib.Nat.{mul-le-mul}
use native.Mathlib.Omega.{arith}
use borrow.Author.Tests.{le-ltb, ne_eqb}
use lib.IntN.{ℤ, pos, negsuc}
use lib.ListN.{length, length-append}
use Rattle.maxplus.specs.Entry.{E, absent, num}
use Rattle.maxplus.specs.Tables.{Mat}
use Rattle.cue.specs.Results.{Within}
use Rattle.cue.specs.Sizes.{size_limit}
use Rattle.sheet.specs.Text.{bytes}
use Rattle.sheet.specs.Sheet.{size, entry, mark, limit, out_of_range, no_size, absent?, kind, mark_lines, sizes, tables, land_kind, last_kind}
use Rattle.sheet.specs.Sheet.{Measure, by_marks, by_spread, by_spread?, own_floor, own_due, Sheet, given_table}
use Rattle.sheet.proofs.Longest.{longest, rule_most, tables_most}
use Rattle.sheet_text.specs.SheetText.{rule_text, sections_text, optional_text, size_line, one_line, number_line, if_given, sheet_text, Sound}
use Rattle.sheet_text.proofs.LineBack.{Fits, AllFit, MayFit}
use Rattle.sheet_text.proofs.TextShort.{sections_short, optional_short}

-- ---- entries
within_near : (e : E) → Within limit limit e → out_of_range e ≡ false
within_near absent w = refl
within_near (num (pos v)) w = let h = w.high.below (pos v) refl in rw (le-ltb limit v (omega arith))
within_near (num (negsuc v)) w = let h = w.low.above (negsuc v) refl in le-ltb limit (suc v) (omega arith)

size_right : (k : ℕ) → 1 ≤ k → k ≤ size_limit → no_size (num (pos k)) ≡ false
size_right k more few = rw (le-ltb 6 k few, ne_eqb k 0 (λ e. let x : ⊥ = omega arith in x))

-- ---- the sheet's tables
abbrev pub size_tables : Sheet → List Mat
size_tables t = size_line t.panels ∷ size_line t.triggers ∷ []

abbrev pub entry_tables : Sheet → List Mat
entry_tables t = t.lag ∷ one_line (own_floor t.measure) ∷ one_line (own_due t.measure) ∷ t.after ∷ []

module _ (t : Sheet) (S : Sound t) where
  pub sizes_fit : AllFit sizes (size_tables t)
  sizes_fit =
      (size_fits "panels=" t.panels S.panels_some S.panels_few, (size_fits "triggers=" t.triggers S.triggers_some S.triggers_few, tt))
    where
      size_fits : (key : String) (k : ℕ) → 1 ≤ k → k ≤ size_limit → Fits (kind key size 1 1) (size_line k)
      size_fits key k h g = record { items_some = omega arith; allowed = λ i j p q. (refl, size_right k h g) }

  lag_fits : Fits (kind "lag=" entry t.panels t.triggers) t.lag
  lag_fits = record { items_some = S.triggers_some; allowed = λ i j h q. within_near (t.lag i j) (S.lags i j h q) }

  floor_fits : Fits (kind "floor=" entry (mark_lines (by_spread? t.measure)) t.panels) (one_line (own_floor t.measure))
  floor_fits = record { items_some = S.panels_some; allowed = λ i j h q. within_near _ (S.floors j q) }

  -- a due mark that stands on the sheet is there
  due_fits : Fits (kind "due=" mark (mark_lines (by_spread? t.measure)) t.triggers) (one_line (own_due t.measure))
  due_fits = record { items_some = S.triggers_some; allowed = λ i j h q. (within_near _ (S.dues j q), due_there t.measure i j h) }
    where
      due_there : (M : Measure) (i j : ℕ) → i < mark_lines (by_spread? M) → absent? (own_due M j) ≡ false
      due_there (by_marks p q) i j h = refl
      due_there by_spread i j h = absurd (let x : ⊥ = omega arith in x)

  after_fits : Fits (kind "after=" entry t.triggers t.triggers) t.after
  after_fits = record { items_some = S.triggers_some; allowed = λ i j h q. within_near (t.after i j) (S.afters i j h q) }

  pub tables_fit : AllFit (tables (by_spread? t.measure) t.panels t.triggers) (entry_tables t)
  tables_fit = (lag_fits, (floor_fits, (due_fits, (after_fits, tt))))

  pub land_fits : MayFit (land_kind t.panels t.triggers) t.land
  land_fits = go t.land S.lands
    where
      go : (o : Option Mat) → ((i j : ℕ) → i < t.triggers → j < t.panels → Within limit limit (given_table o i j)) →
          MayFit (land_kind t.panels t.triggers) o
      go none w = tt
      go (some c) w = (S.triggers_some, record { items_some = S.panels_some; allowed = λ i j h q. within_near (c i j) (w i j h q) })

  pub last_fits : MayFit (last_kind t.panels) (if_given number_line t.last)
  last_fits = go t.last S.lasts
    where
      go : (o : Option (ℕ → ℤ)) → ((b : ℕ → ℤ) → o ≡ some b → (i : ℕ) → i < t.panels → Within limit limit (num (b i))) →
          MayFit (last_kind t.panels) (if_given number_line o)
      go none w = tt
      go (some b) w = (omega arith, record { items_some = S.panels_some; allowed = λ i j h q. (within_near (num (b j)) (w b refl j q), refl) })

  -- no longer than the longest sheet that is read
  pub text_short : length (sheet_text t) ≤ longest
  unfolding sheet_text bytes
  text_short =
      let m = t.panels in
      let n = t.triggers in
      let two = by_spread? t.measure in
      omega (
        arith,
        five_long (rule_text t.measure) (sections_text sizes (size_tables t)) (sections_text (tables two m n) (entry_tables t))
            (optional_text (land_kind m n) t.land) (optional_text (last_kind m) (if_given number_line t.last)),
        rule_short t.measure,
        sections_short sizes (size_tables t) sizes_fit,
        sections_short (tables two m n) (entry_tables t) tables_fit,
        tables_most two m n S.panels_few S.triggers_few,
        optional_short (land_kind m n) t.land land_fits,
        optional_short (last_kind m) (if_given number_line t.last) last_fits,
        S.panels_few,
        S.triggers_few,
        mul-le-mul S.panels_few S.triggers_few,
      )
    where
      five_long : (a b c d e : List ℕ) → length (a ++ b ++ c ++ d ++ e) ≡ length a + length b + length c + length d + length e
      five_long a b c d e = simp length-append (omega arith)

      rule_short : (M : Measure) → length (rule_text M) ≤ rule_most (by_spread? M)
      rule_short (by_marks p q) = omega arith
      rule_short by_spread = omega arith
