-- What is shown of rule 2 (document 02, No. 7), for every sheet that is read.
use Rattle.std.specs.Prelude.{◌≡◌, List, ℕ, ◌<◌, pos}
use Rattle.maxplus.specs.Entry.{num, ◌≼◌, ◌⊗◌}
use Rattle.sheet.specs.Sheet.{got, Sheet, by_spread, read}
use Rattle.sheet.specs.Meaning.{Timing, landing, overdue, shortfall, latest_landing, earliest_landing, spread, deviation}
use Rattle.sheet.specs.Cue.{floor_by, due_by}

module _ (t : Sheet) (X : Timing) where
  -- "latest less earliest": some panel lands then, and none later; some then, and none earlier
  pub record Bounds : Type 0 where
    pub latest : (i : ℕ) × (i < t.panels) × (landing t X i ≡ latest_landing t X)
    pub none_later : (i : ℕ) → i < t.panels → landing t X i ≼ latest_landing t X
    pub earliest : (i : ℕ) × (i < t.panels) × (landing t X i ≡ earliest_landing t X)
    pub none_earlier : (i : ℕ) → i < t.panels → earliest_landing t X ≼ landing t X i

  -- under rule 2 the deviation, which is the spread, is what the marks measure where "every floor counts as 0 and due j as minus the largest lag of
  -- trigger j"; it is never below 0
  pub record ByRule2 : Type 0 where
    pub bounds : Bounds
    pub measured : deviation t X ≡ spread t X
    pub as_marks : spread t X ≡ overdue t (due_by t.panels t.lag by_spread) X ⊗ shortfall t (floor_by by_spread) X
    pub not_negative : num (pos 0) ≼ deviation t X

abbrev pub Rule2 : Type 0
Rule2 = (s : List ℕ) (t : Sheet) (r : List ℕ) → read s ≡ got t r → t.measure ≡ by_spread → (X : Timing) → ByRule2 t X
