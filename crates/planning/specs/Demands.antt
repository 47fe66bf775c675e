-- Demands 2 and 3, stated about what planning returns and leaves: from the bytes of each sheet to the words at the front of the space.
use Rattle.std.specs.Prelude.{◌≡◌, ◌↔◌, List, ℕ, ◌*◌, ◌≤◌, ◌<◌, T, ℤ, pos, length, take}
use Rattle.std.proofs.Math.Option.{none, some}
use Rattle.maxplus.specs.Whole.{◌≤z◌}
use Rattle.maxplus.specs.Entry.{absent, num, ◌≼◌, Present}
use Rattle.maxplus.specs.Finite.{In, byte_of}
use Rattle.maxplus.specs.Line.{Line, at}
use Rattle.cue.specs.Written.{lent_words, uncapped}
use Rattle.sheet.specs.Sheet.{got, Sheet, by_spread, read, spare}
use Rattle.sheet.specs.Meaning.{Timing, Keeps, deviation, InTime, Weighed, line_landing, Cap, Capped, SameSpares, SameTimings}
use Rattle.sheet.specs.Cue.{sheet_lines, cap, sheet_caps, most_steps}
use Rattle.planning.specs.Planning.{PlanOutcome, planned, full, refused, planning, space_after, plan_answer, plan_in, extent_of}

-- planned without refusal; the deviation, the number of lines and how many words a line takes, as they are returned
abbrev pub Planned : PlanOutcome → Type 0
Planned (planned n s D k l caps L) = Unit {0}
Planned (full w k) = ⊥
Planned (refused k) = ⊥

abbrev pub deviation_of : PlanOutcome → ℤ
deviation_of o = (plan_in (plan_answer o)).deviation

abbrev pub count_of : PlanOutcome → ℕ
count_of o = (extent_of (plan_answer o)).count

abbrev pub width_of : PlanOutcome → ℕ
width_of o = (extent_of (plan_answer o)).width

-- the words of the list at the front of the space
abbrev pub written : PlanOutcome → List ℤ → List ℤ
written o space = take (width_of o * count_of o) (space_after o space)

-- ---- demand 2: whatever the space held, a planning without refusal gives the least deviation of the times that keep the order, and
-- writes step 7's lines, from which, with whole-number weights, one for each line, exactly the times that keep the order and reach it are made,
-- in "the components that are not spare"; which these are, the byte returned says
pub record Least (t : Sheet) (space : List ℤ) (o : PlanOutcome) : Type 0 where
  pub spares : (plan_in (plan_answer o)).spares ≡ byte_of t.triggers (spare t)
  -- in the list exactly the spare triggers are absent from every line
  pub shown : (j : ℕ) → j < t.triggers → T (spare t j) ↔ ((c : Line t.triggers) → In c (sheet_lines t) → at t.triggers c j ≡ absent)
  pub counted : count_of o ≡ length (sheet_lines t)
  pub front : written o space ≡ lent_words t.triggers (sheet_caps t) (sheet_lines t)
  pub at_least : (X : Timing) → Keeps t X → num (deviation_of o) ≼ deviation t X
  pub reached : (X : Timing) × Keeps t X × (deviation t X ≡ num (deviation_of o))
  pub combined : (X : Timing) → (Keeps t X × (deviation t X ≡ num (deviation_of o))) ↔ Weighed t (sheet_lines t) X
  -- "Every line reaches some panel, so a cap always exists", and the caps written are these; "A timing keeps the order, has the least deviation
  -- and meets every last moment exactly when it combines all the lines with whole-number weights no greater than their caps" (document 02, No. 5)
  pub reaches : (c : Line t.triggers) → In c (sheet_lines t) → (i : ℕ) × (i < t.panels) × Present (line_landing t c i)
  pub caps : (b : ℕ → ℤ) → t.last ≡ some b → (c : Line t.triggers) → In c (sheet_lines t) → Cap t b c (cap t b c)
  pub in_time : (X : Timing) → (Keeps t X × (deviation t X ≡ num (deviation_of o)) × InTime t X) ↔ Capped t (sheet_lines t) X

abbrev pub Demand2 : Type 0
Demand2 = (s : List ℕ) (t : Sheet) (r : List ℕ) (space : List ℤ) → read s ≡ got t r → Planned (planning s space) →
    Least t space (planning s space)

-- "8 exactly when no times keep the order"
abbrev pub Demand8 : Type 0
Demand8 = (s : List ℕ) (t : Sheet) (r : List ℕ) (space : List ℤ) → read s ≡ got t r →
    (planning s space ≡ refused 8) ↔ ¬ ((X : Timing) × Keeps t X)

-- the words of the lines, without the caps
abbrev pub lines_written : PlanOutcome → List ℤ → List ℤ
lines_written o space = uncapped (width_of o) (count_of o) (space_after o space)

-- ---- demand 3: two sheets with equal numbers of triggers, each planned without refusal, whatever the spaces held and however large each was;
-- "compared sheets may follow different rules" (document 02, No. 7)
pub record TwoPlans (s₁ s₂ : List ℕ) (t₁ t₂ : Sheet) (space₁ space₂ : List ℤ) : Type 0 where
  pub rest₁ : List ℕ
  pub rest₂ : List ℕ
  pub read₁ : read s₁ ≡ got t₁ rest₁
  pub read₂ : read s₂ ≡ got t₂ rest₂
  pub same_size : t₁.triggers ≡ t₂.triggers
  pub planned₁ : Planned (planning s₁ space₁)
  pub planned₂ : Planned (planning s₂ space₂)

-- the counts and the words at the front are the same, "with their caps left out", "also between a sheet with a last line and one without"
abbrev pub SameWritten : (s₁ s₂ : List ℕ) (space₁ space₂ : List ℤ) → Type 0
SameWritten s₁ s₂ space₁ space₂ = (count_of (planning s₁ space₁) ≡ count_of (planning s₂ space₂)) ×
    (lines_written (planning s₁ space₁) space₁ ≡ lines_written (planning s₂ space₂) space₂)

-- "only where the same triggers are spare": exactly when every timing is tightest on both or on neither
abbrev pub Demand3 : Type 0
Demand3 = (s₁ s₂ : List ℕ) (t₁ t₂ : Sheet) (space₁ space₂ : List ℤ) → TwoPlans s₁ s₂ t₁ t₂ space₁ space₂ →
    SameSpares t₁ t₂ → SameWritten s₁ s₂ space₁ space₂ ↔ SameTimings t₁ t₂

-- and without that condition: where the words are the same, so are the spares
abbrev pub Demand3Whole : Type 0
Demand3Whole = (s₁ s₂ : List ℕ) (t₁ t₂ : Sheet) (space₁ space₂ : List ℤ) → TwoPlans s₁ s₂ t₁ t₂ space₁ space₂ →
    SameWritten s₁ s₂ space₁ space₂ ↔ (SameSpares t₁ t₂ × SameTimings t₁ t₂)

-- ---- "Deviation and lines ignore the last moments" (document 02, No. 5): two sheets that are the same but for their last lines
abbrev pub without_last : Sheet → Sheet
without_last t =
    record {
      panels = t.panels;
      triggers = t.triggers;
      lag = t.lag;
      measure = t.measure;
      after = t.after;
      land = t.land;
      last = none;
    }

abbrev pub LastIgnored : Type 0
LastIgnored = (s₁ s₂ : List ℕ) (t₁ t₂ : Sheet) (space₁ space₂ : List ℤ) → TwoPlans s₁ s₂ t₁ t₂ space₁ space₂ →
    without_last t₁ ≡ without_last t₂ →
    let p = plan_in (plan_answer (planning s₁ space₁)) in
    let q = plan_in (plan_answer (planning s₂ space₂)) in
    (p.deviation ≡ q.deviation) × (p.steps ≡ q.steps) × (p.selections ≡ q.selections) × SameWritten s₁ s₂ space₁ space₂

-- ---- the spread of landings is never below 0, and neither is a deviation that is returned under rule 2 (document 02, No. 7)
abbrev pub NeverNegative : Type 0
NeverNegative = (s : List ℕ) (t : Sheet) (r : List ℕ) (space : List ℤ) → read s ≡ got t r → t.measure ≡ by_spread →
    Planned (planning s space) → pos 0 ≤z deviation_of (planning s space)

-- ---- "With f panels that have a floor, steps is at most n + n² + ... + n to the power f": the number that is returned
abbrev pub StepsAtMost : Type 0
StepsAtMost = (s : List ℕ) (t : Sheet) (r : List ℕ) (space : List ℤ) → read s ≡ got t r →
    (plan_in (plan_answer (planning s space))).steps ≤ most_steps t
