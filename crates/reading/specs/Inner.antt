-- What the inner functions of reading promise. Nothing public is stated here.
use Rattle.std.specs.Prelude.{◌≡◌, List, [], ◌∷◌, Bool, true, false, cond, not, ◌&&◌, ℕ, ◌≤◌, ◌<◌, length, drop, get_or, Option, Some, None, Result, Ok, Err}
use Rattle.std.proofs.Math.Option as maybe
use Rattle.maxplus.specs.Entry.{E, present?}
use Rattle.maxplus.specs.Finite.{each}
use Rattle.maxplus.specs.Tables.{Mat}
use Rattle.words.specs.Words.{entry}
use Rattle.refusals.specs.Numbers.{number}
use Rattle.refusals.specs.declared.Refusal.{Refusal}
use Rattle.sheet.specs.Sheet as sheet
use Rattle.sheet.specs.Sheet.{Got, got, refused, any, all, absent?, table, sections, optional, land_kind, last_kind, ruled, tables, none_present, sheet_of, finished}
use Rattle.sheet.specs.Good.{RowsOf}
use Rattle.rows.specs.Grid.{strips}
use Rattle.reading.specs.Reading.{sheet_words}
use Rattle.reading.specs.declared.Measure.{Measure}
use Rattle.reading.specs.declared.Measure.TheVariants.{Marks, Spread}
use Rattle.reading.specs.declared.SheetWords.{SheetWords}
use Rattle.cue.specs.Sizes.{size_limit}

-- whether rule 2 holds, and the place behind its line
abbrev pub RuleIs : List ℕ → Result (Bool × ℕ) Refusal → Type 0
RuleIs s (Ok (two, next)) = (ruled s ≡ got two (drop next s)) × (next ≤ length s)
RuleIs s (Err e) = ruled s ≡ refused (number e)

-- the marks from the rows that were read
abbrev pub measure_from : Bool → List ℕ → List ℕ → Measure
measure_from two p q = cond two Spread (Marks p q)

-- the rows of all kinds, as they were read
pub record Kinds (two : Bool) (m n : ℕ) (ts : List (List (List E))) (land last : maybe.Option Mat) : Type 0 where
  pub start : List ℕ
  pub behind : List ℕ
  pub past_land : List ℕ
  pub past_last : List ℕ
  pub of_tables : sections (tables two m n) start ≡ got ts behind
  pub of_land : optional (land_kind m n) behind ≡ got land past_land
  pub of_last : optional (last_kind m) past_land ≡ got last past_last

-- what is said of a sheet that was read, with so many bytes left behind it
abbrev pub Verdict : Got sheet.Sheet → sheet.Sheet → Result (Unit {0}) Refusal → Type 0
Verdict g t (Ok u) = g ≡ got t []
Verdict g t (Err e) = g ≡ refused (number e)

abbrev pub FinishedIs : SheetWords → ℕ → Result (Unit {0}) Refusal → Type 0
FinishedIs w left r = (two : Bool) (m n : ℕ) (ts : List (List (List E))) (land last : maybe.Option Mat) (y : List ℕ) → m ≤ size_limit → n ≤ size_limit →
    Kinds two m n ts land last → w ≡ sheet_words (sheet_of two m n ts land last) → length y ≡ left →
    Verdict (finished two m n ts land last y) (sheet_of two m n ts land last) r

-- some of the rows that were read has no entry
abbrev pub EmptyRow : List (List ℕ) → ℕ → Bool → Type 0
EmptyRow rs lines b = (n : ℕ) (t : List (List E)) → n ≤ size_limit → RowsOf sheet.entry lines n t → rs ≡ strips (table t) →
    b ≡ any (all absent?) t

-- none of six words stands for a number
abbrev pub EmptyWords : List ℕ → Bool → Type 0
EmptyWords ws true = (j : ℕ) → j < 6 → present? (entry (get_or ws j 0)) ≡ false
EmptyWords ws false = (j : ℕ) × (j < 6) × (present? (entry (get_or ws j 0)) ≡ true)

-- there are floors, and none of them is a number
abbrev pub FloorIs : Measure → Bool → Type 0
FloorIs (Marks p q) b = EmptyWords p b
FloorIs Spread b = b ≡ false

-- ---- triggers without a lag
-- the table that rows of words stand for; the words of rows that may be missing
abbrev pub meant : List (List ℕ) → Mat
meant ws i j = entry (get_or (get_or ws i []) j 0)

abbrev pub table_words : Option (List (List ℕ)) → List (List ℕ)
table_words None = []
table_words (Some ws) = ws

-- not spare and without a lag: from whether its lags, the row and the column of its after rules and the row of its land rules are empty
unfoldable pub lag_missing_by : (lags row column lands : Bool) → Bool
lag_missing_by a b c d = not (a && b && c && d) && a

-- so is trigger j, by the words of these; so is some trigger
module _ (w : SheetWords) where
  abbrev pub lag_missing_at : ℕ → Bool
  lag_missing_at j = lag_missing_by (none_present w.panels (λ i. meant w.lag i j)) (none_present size_limit (meant w.after j))
      (none_present w.triggers (λ k. meant w.after k j)) (none_present size_limit (meant (table_words w.land) j))

  abbrev pub some_lag_missing_at : Bool
  some_lag_missing_at = any lag_missing_at (each w.triggers (λ j. j ∷ []))

-- 14, from the words
abbrev pub spread? : Measure → Bool
spread? (Marks p q) = false
spread? Spread = true

abbrev pub unmeasured_at : SheetWords → Bool
unmeasured_at w = spread? w.measure && some_lag_missing_at w
