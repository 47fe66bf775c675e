-- "All finite results fit signed 32 bits; this is proved": of every sheet that is read, from its bytes.
use Rattle.std.specs.Prelude.{◌≡◌, false, List, ℕ, ◌^◌, ◌≤◌, ◌<◌, length, ℤ}
use Rattle.std.proofs.Math.Option.{some}
use Rattle.maxplus.specs.Entry.{num}
use Rattle.maxplus.specs.Finite.{In}
use Rattle.maxplus.specs.Line.{Line}
use Rattle.maxplus.specs.Tables.{power}
use Rattle.cue.specs.Results.{Within, Signed32, Results}
use Rattle.sheet.specs.Sheet.{got, Sheet, limit, read}
use Rattle.sheet.specs.Sizes.{order_limit, cap_down, cap_up}
use Rattle.sheet.specs.Meaning.{Timing, landing}
use Rattle.sheet.specs.Meaning as meaning
use Rattle.sheet.specs.Times.{some_beyond}
use Rattle.sheet.specs.Cue.{cue_size, cue_of, Orderly, sheet_steps, sheet_selections, sheet_lines, cap, most_steps}

pub record Fits (t : Sheet) : Type 0 where
  -- the powers that say whether the order can be kept; where it can, the results of steps 1 to 7
  pub powers : (k i j : ℕ) → k ≤ cue_size t → i < cue_size t → j < cue_size t → Signed32 (power (cue_size t) (cue_of t).order k i j)
  pub results : Orderly t → Results limit order_limit (λ k l. Signed32) (cue_size t) (cue_of t)
  -- how far from 0 the entries of the order table and these results are, each by the name of its size
  pub orders : (i j : ℕ) → i < cue_size t → j < cue_size t → Within order_limit order_limit ((cue_of t).order i j)
  pub sizes : Orderly t → Results limit order_limit Within (cue_size t) (cue_of t)
  -- the walk's numbers and the number of lines
  pub steps_most : sheet_steps t ≤ most_steps t
  pub steps : sheet_steps t < 2 ^ 31
  pub selections : sheet_selections t < 2 ^ 31
  pub count : length (sheet_lines t) < 2 ^ 31
  -- the caps of its lines
  pub caps : Orderly t → (b : ℕ → ℤ) → t.last ≡ some b → (c : Line t.triggers) → In c (sheet_lines t) → Signed32 (num (cap t b c))
  pub cap_sizes : Orderly t → (b : ℕ → ℤ) → t.last ≡ some b → (c : Line t.triggers) → In c (sheet_lines t) →
      Within cap_down cap_up (num (cap t b c))
  -- the landings and the deviation of a timing that is tested
  pub landings : (X : Timing) → some_beyond t.triggers X ≡ false → (i : ℕ) → i < t.panels → Signed32 (landing t X i)
  pub deviation : (X : Timing) → some_beyond t.triggers X ≡ false → Signed32 (meaning.deviation t X)

abbrev pub AllResultsFit : Type 0
AllResultsFit = (s : List ℕ) (t : Sheet) (r : List ℕ) → read s ≡ got t r → Fits t
