-- A sheet's tables as text (document 01, "The sheet"; document 02): the lines of each kind, from what stands within the sizes.
use Rattle.std.specs.Prelude.{◌≡◌, List, [], ◌∷◌, ◌++◌, cond, ℕ, ◌≤◌, ◌<◌, ltb, ℤ, pos}
use Rattle.std.proofs.Math.Option.{Option, none, some}
use Rattle.maxplus.specs.Entry.{absent, num, Present}
use Rattle.maxplus.specs.Finite.{each}
use Rattle.maxplus.specs.Tables.{Vec, Mat}
use Rattle.cue.specs.Results.{Within}
use Rattle.cue.specs.Sizes.{size_limit}
use Rattle.sheet.specs.Text.{bytes}
use Rattle.sheet.specs.Sheet.{got, limit, Section, sizes, tables, land_kind, last_kind, Measure, by_marks, by_spread, by_spread?, own_floor, own_due}
use Rattle.sheet.specs.Sheet.{Sheet, given_table, read}
use Rattle.sheet.specs.Good.{Measured}
use Rattle.writing.specs.Numerals.{item}
use Rattle.writing.specs.Texts.{field, joined}

-- ---- the text
-- "the key bytes exactly as shown, items split by one comma", "LF after every line"
abbrev pub row_items : ℕ → Vec → List ℕ
row_items items v = joined (each items (λ j. item (v j) ∷ []))

abbrev pub row_text : (key : List ℕ) (items : ℕ) → Vec → List ℕ
row_text key items v = field key (row_items items v)

-- "the i-th lag or after line is row i"
unfoldable pub rows_text : (key : List ℕ) (lines items : ℕ) → Mat → List ℕ
rows_text key lines items A = each lines (λ i. row_text key items (A i))

-- the lines of a kind, from its table; of one kind after the other; of a kind that a sheet may have or not
abbrev pub section_text : Section → Mat → List ℕ
section_text k A = rows_text k.key k.lines k.items A

abbrev pub sections_text : List Section → List Mat → List ℕ
sections_text [] As = []
sections_text (k ∷ ks) [] = []
sections_text (k ∷ ks) (A ∷ As) = section_text k A ++ sections_text ks As

abbrev pub optional_text : Section → Option Mat → List ℕ
optional_text k none = []
optional_text k (some A) = section_text k A

-- a size; one line of entries; one line of numbers; what a sheet may have or not
abbrev pub size_line : ℕ → Mat
size_line k i j = num (pos k)

abbrev pub one_line : Vec → Mat
one_line v i = v

abbrev pub number_line : (ℕ → ℤ) → Mat
number_line f i j = num (f j)

-- the line of a rule: "A sheet may begin with rule=2" (document 02, No. 7)
abbrev pub rule_text : Measure → List ℕ
rule_text (by_marks p q) = []
rule_text by_spread = bytes "rule=2\n"

abbrev pub if_given : {A B : Type 0} → (A → B) → Option A → Option B
if_given f none = none
if_given f (some a) = some (f a)

-- "Lines in order: panels, triggers, m lines lag, floor, due, n lines after", behind any line of a rule, under which there are no floor and due
-- lines; then any land lines and the last line
unfoldable pub sheet_text : Sheet → List ℕ
sheet_text t =
    let m = t.panels in
    let n = t.triggers in
    rule_text t.measure ++ sections_text sizes (size_line m ∷ size_line n ∷ []) ++
    sections_text (tables (by_spread? t.measure) m n)
    (t.lag ∷ one_line (own_floor t.measure) ∷ one_line (own_due t.measure) ∷ t.after ∷ []) ++
    optional_text (land_kind m n) t.land ++ optional_text (last_kind m) (if_given number_line t.last)

-- ---- what stands within the sizes, which is all that a text holds: outside them reading gives absent, and 0 for a number
abbrev pub first_entries : ℕ → Vec → Vec
first_entries k v j = cond (ltb j k) (v j) absent

abbrev pub first_rows : (lines items : ℕ) → Mat → Mat
first_rows lines items A i j = first_entries lines (λ i. first_entries items (A i) j) i

abbrev pub first_numbers : ℕ → (ℕ → ℤ) → ℕ → ℤ
first_numbers k f j = cond (ltb j k) (f j) (pos 0)

abbrev pub first_marks : (m n : ℕ) → Measure → Measure
first_marks m n (by_marks p q) = by_marks (first_entries m p) (first_numbers n q)
first_marks m n by_spread = by_spread

abbrev pub trimmed : Sheet → Sheet
trimmed t =
    let m = t.panels in
    let n = t.triggers in
    record {
      panels = m;
      triggers = n;
      lag = first_rows m n t.lag;
      measure = first_marks m n t.measure;
      after = first_rows n n t.after;
      land = if_given (first_rows n m) t.land;
      last = if_given (first_numbers m) t.last;
    }

-- ---- the tables of a sheet that is read: sizes 1 to 6, every entry within the limit, a lag for each panel; by the marks a floor, and under rule
-- 2 a lag for each trigger that is not spare
abbrev pub Floored : Sheet → Measure → Type 0
Floored t (by_marks p q) = (i : ℕ) × (i < t.panels) × Present (p i)
Floored t by_spread = Unit {0}

pub record Sound (t : Sheet) : Type 0 where
  pub panels_some : 1 ≤ t.panels
  pub panels_few : t.panels ≤ size_limit
  pub triggers_some : 1 ≤ t.triggers
  pub triggers_few : t.triggers ≤ size_limit
  pub lags : (i j : ℕ) → i < t.panels → j < t.triggers → Within limit limit (t.lag i j)
  pub floors : (i : ℕ) → i < t.panels → Within limit limit (own_floor t.measure i)
  pub dues : (j : ℕ) → j < t.triggers → Within limit limit (own_due t.measure j)
  pub afters : (i j : ℕ) → i < t.triggers → j < t.triggers → Within limit limit (t.after i j)
  pub lands : (i j : ℕ) → i < t.triggers → j < t.panels → Within limit limit (given_table t.land i j)
  pub lasts : (b : ℕ → ℤ) → t.last ≡ some b → (i : ℕ) → i < t.panels → Within limit limit (num (b i))
  pub lagged : (i : ℕ) → i < t.panels → (j : ℕ) × (j < t.triggers) × Present (t.lag i j)
  pub floored : Floored t t.measure
  pub measured : Measured t t.measure

-- ---- what is written is read back
-- the text of such tables is a sheet, and reading it gives them as they stand within the sizes
abbrev pub IsReadBack : Type 0
IsReadBack = (t : Sheet) → Sound t → read (sheet_text t) ≡ got (trimmed t) []

-- the tables of a sheet that is read are such, and nothing stands outside the sizes; their text is the bytes that were read, so that no other
-- sheet has the same tables
pub record Back (s : List ℕ) (t : Sheet) : Type 0 where
  pub sound : Sound t
  pub whole : trimmed t ≡ t
  pub text : sheet_text t ≡ s
  pub again : read (sheet_text t) ≡ got t []

abbrev pub IsWrittenBack : Type 0
IsWrittenBack = (s : List ℕ) (t : Sheet) (r : List ℕ) → read s ≡ got t r → Back s t
