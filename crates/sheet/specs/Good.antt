-- What is true of every sheet that reading gives: of the rows of each kind of line; of its sizes, that each panel has a lag and some panel a
-- floor, and that every entry is within its limit.
use Rattle.std.specs.Prelude.{◌≡◌, false, not, List, ℕ, ◌≤◌, ◌<◌, length, ℤ, T}
use Rattle.std.proofs.Math.Option.{some}
use Rattle.maxplus.specs.Entry.{E, num, Present}
use Rattle.maxplus.specs.Finite.{In}
use Rattle.cue.specs.Vectors.{Readable}
use Rattle.cue.specs.Results.{Within, Limited}
use Rattle.sheet.specs.Sheet.{Content, size, entry, mark, limit, absent?, no_size, out_of_range, any, Sheet, Measure, by_marks, by_spread}
use Rattle.sheet.specs.Sheet.{own_due, given_table, spare}
use Rattle.sheet.specs.Sizes.{order_limit}
use Rattle.sheet.specs.Cue.{cue_size, cue_of}
use Rattle.cue.specs.Sizes.{size_limit}

-- entries that their line allows
abbrev pub Passes : Content → List E → Type 0
Passes size es = (any absent? es ≡ false) × (any no_size es ≡ false)
Passes entry es = any out_of_range es ≡ false
Passes mark es = (any out_of_range es ≡ false) × (any absent? es ≡ false)

-- the rows of one kind of line
pub record RowsOf (r : Content) (lines items : ℕ) (t : List (List E)) : Type 0 where
  pub many : length t ≡ lines
  pub long : (es : List E) → In es t → length es ≡ items
  pub good : (es : List E) → In es t → Passes r es

-- 14: under rule 2 each trigger that is not spare has a lag; the marks of a sheet ask nothing of its triggers
abbrev pub Measured : Sheet → Measure → Type 0
Measured t (by_marks p q) = Unit {0}
Measured t by_spread = (j : ℕ) → j < t.triggers → T (not (spare t j)) → (i : ℕ) × (i < t.panels) × Present (t.lag i j)

pub record Good (t : Sheet) : Type 0 where
  pub panels_few : t.panels ≤ size_limit
  pub triggers_some : 1 ≤ t.triggers
  pub triggers_few : t.triggers ≤ size_limit
  pub few : cue_size t ≤ size_limit
  pub readable : Readable (cue_size t) (cue_of t)
  pub lags : (i j : ℕ) → i < t.panels → j < t.triggers → Within limit limit (t.lag i j)
  pub measured : Measured t t.measure
  pub dues : (j : ℕ) → j < t.triggers → Within limit limit (own_due t.measure j)
  pub afters : (i j : ℕ) → i < t.triggers → j < t.triggers → Within limit limit (t.after i j)
  pub lands : (i j : ℕ) → i < t.triggers → j < t.panels → Within limit limit (given_table t.land i j)
  pub lasts : (b : ℕ → ℤ) → t.last ≡ some b → (i : ℕ) → i < t.panels → Within limit limit (num (b i))
  pub limited : Limited (cue_size t) limit order_limit (cue_of t)
