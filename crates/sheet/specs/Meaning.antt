-- What a sheet means (document 01, "One cue in one house", and document 02). Nothing here knows of star, selections or lines.
use Rattle.std.specs.Prelude.{◌↔◌, ◌≡◌, cond, not, List, ℕ, ◌<◌, T, ℤ}
use Rattle.std.proofs.Math.Option.{some}
use Rattle.maxplus.specs.Whole.{◌≤z◌, neg}
use Rattle.maxplus.specs.Entry.{E, absent, num, ◌≼◌, ◌⊗◌, inv}
use Rattle.maxplus.specs.Finite.{In}
use Rattle.maxplus.specs.Tables.{sup, sup_l, Vec, mv}
use Rattle.maxplus.specs.Line.{Line, at}
use Rattle.maxplus.specs.Latest.{LatestOf}
use Rattle.sheet.specs.Sheet.{Sheet, Measure, by_marks, by_spread, given_table, spare}

-- "A timing is n whole numbers x, milliseconds, of any size": X 0 … X (n − 1), whatever stands past them
abbrev pub Timing : Type 0
Timing = ℕ → ℤ

module _ (S : Sheet) where
  open S use {panels, triggers, lag, measure, after, land, last}

  -- "Landing y(i) is the largest a(i,j) + x(j)."
  unfoldable pub landing : Timing → Vec
  landing X = mv triggers lag (λ j. num (X j))

  -- "A timing keeps the order when it keeps every after rule", x(i) ≥ b(i,j) + x(j), and every rule c(i,j) of the land lines, "x(i) ≥
  -- c(i,j) + y(j)": "From then on 'keeps the order' includes landings" (document 02, No. 2)
  pub record Keeps (X : Timing) : Type 0 where
    pub after_rules : (i j : ℕ) → i < triggers → j < triggers → after i j ⊗ num (X j) ≼ num (X i)
    pub land_rules : (i j : ℕ) → i < triggers → j < panels → given_table land i j ⊗ landing X j ≼ num (X i)

  -- "The largest x(j) − q(j) is taken over triggers that are not spare" (document 02, No. 4): an absent one adds nothing to a largest
  unfoldable pub overdue : (q : ℕ → ℤ) → Timing → E
  overdue q X = sup triggers (λ j. cond (spare S j) absent (num (X j) ⊗ num (neg (q j))))

  -- "the largest p(i) − y(i) over panels with a floor": an absent floor adds nothing to a largest
  unfoldable pub shortfall : (p : Vec) → Timing → E
  shortfall p X = sup panels (λ i. p i ⊗ inv (landing X i))

  -- "the spread of landings, latest less earliest" (document 02, No. 7); the earliest is the least: minus the largest of minus a landing
  unfoldable pub latest_landing : Timing → E
  latest_landing X = sup panels (λ i. landing X i)

  unfoldable pub earliest_landing : Timing → E
  earliest_landing X = inv (sup panels (λ i. inv (landing X i)))

  unfoldable pub spread : Timing → E
  spread X = latest_landing X ⊗ inv (earliest_landing X)

  -- "Deviation is the largest x(j) − q(j) plus the largest p(i) − y(i) over panels with a floor"; "Houses now measure a cue by the spread"
  abbrev pub deviation_by : Measure → Timing → E
  deviation_by (by_marks p q) X = overdue q X ⊗ shortfall p X
  deviation_by by_spread X = spread X

  unfoldable pub deviation : Timing → E
  deviation X = deviation_by measure X

  -- "It is tightest when it keeps the order and no timing that does has a smaller deviation."
  pub record Tightest (X : Timing) : Type 0 where
    pub keeps : Keeps X
    pub least : (Y : Timing) → Keeps Y → deviation X ≼ deviation Y

  -- "meets every last moment" (document 02, No. 5): no landing is later than the sheet allows, if it has a last line
  abbrev pub InTime : Timing → Type 0
  InTime X = (b : ℕ → ℤ) → last ≡ some b → (i : ℕ) → i < panels → landing X i ≼ num (b i)

  -- "testing and No. 1 include them"
  pub record TightestInTime (X : Timing) : Type 0 where
    pub tightest : Tightest X
    pub in_time : InTime X

  -- "the tightest timing none of whose components exceeds the given one and which is at least as late, component by component, as every
  -- other such timing" (document 02, No. 1): X, where G is given
  abbrev pub Latest : Timing → Timing → Type 0
  Latest G X = LatestOf triggers TightestInTime G X

  -- "A max-plus combination of lines adds a weight to each line and takes the largest, component by component", with whole-number weights, one
  -- for each line; "Every statement on combinations … is about the components that are not spare"
  pub record Weighed (L : List (Line triggers)) (X : Timing) : Type 0 where
    pub weight : Line triggers → ℤ
    pub is : (j : ℕ) → j < triggers → T (not (spare S j)) → num (X j) ≡ sup_l L (λ c. num (weight c) ⊗ at triggers c j)

  -- the landings of a line: absent at a panel that it does not reach
  unfoldable pub line_landing : Line triggers → Vec
  line_landing c = mv triggers lag (at triggers c)

  -- "the largest weight for which no landing of that line is later than allowed", where b are the last moments
  module _ (b : ℕ → ℤ) (c : Line triggers) where
    abbrev pub Allowed : ℤ → Type 0
    Allowed w = (i : ℕ) → i < panels → num w ⊗ line_landing c i ≼ num (b i)

    pub record Cap (w : ℤ) : Type 0 where
      pub allowed : Allowed w
      pub largest : (v : ℤ) → Allowed v → v ≤z w

  -- "combines all the lines with whole-number weights no greater than their caps"
  pub record Capped (L : List (Line triggers)) (X : Timing) : Type 0 where
    pub weighed : Weighed L X
    pub within : (b : ℕ → ℤ) → last ≡ some b → (c : Line triggers) → In c L → (w : ℤ) → Cap b c w → weighed.weight c ≤z w

-- "the same triggers are spare"
abbrev pub SameSpares : Sheet → Sheet → Type 0
SameSpares t u = (j : ℕ) → j < t.triggers → spare t j ≡ spare u j

-- "every timing is tightest on both sheets or on neither" (demand 3), "with the last moments left out"
abbrev pub SameTimings : Sheet → Sheet → Type 0
SameTimings t u = (X : Timing) → Tightest t X ↔ Tightest u X
