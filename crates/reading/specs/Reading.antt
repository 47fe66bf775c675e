-- What reading answers: the tables of a good sheet as words, or the refusal.
use Rattle.std.specs.Prelude.{cond, ℕ, List, ltb, ℤ, Option, Some, None, Result, Ok, Err}
use Rattle.std.proofs.Math.Option as maybe
use Rattle.maxplus.specs.Entry.{absent, num}
use Rattle.maxplus.specs.Tables.{Vec}
use Rattle.refusals.specs.Numbers.{refusal_of}
use Rattle.refusals.specs.declared.Refusal.{Refusal}
use Rattle.sheet.specs.Sheet as sheet
use Rattle.sheet.specs.Sheet.{Got, got, refused, by_marks, by_spread, Sheet}
use Rattle.rows.specs.Grid.{strip, strips, strips_given}
use Rattle.reading.specs.declared.Measure.{Measure}
use Rattle.reading.specs.declared.Measure.TheVariants.{Marks, Spread}
use Rattle.reading.specs.declared.SheetWords.{SheetWords}

-- the first k numbers as entries, absent past them
abbrev pub numbers : ℕ → (ℕ → ℤ) → Vec
numbers k f j = cond (ltb j k) (num (f j)) absent

-- the words of the marks, where the sheet has any; of the last moments likewise
abbrev pub measure_words : ℕ → sheet.Measure → Measure
measure_words n (by_marks p q) = Marks (strip p) (strip (numbers n q))
measure_words n by_spread = Spread

abbrev pub last_words : ℕ → maybe.Option (ℕ → ℤ) → Option (List ℕ)
last_words m maybe.none = None
last_words m (maybe.some b) = Some (strip (numbers m b))

abbrev pub sheet_words : Sheet → SheetWords
sheet_words t =
    record {
      panels = t.panels;
      triggers = t.triggers;
      lag = strips t.lag;
      measure = measure_words t.triggers t.measure;
      after = strips t.after;
      land = strips_given t.land;
      last = last_words t.panels t.last;
    }

-- "A refusal returns its number and no other result"
abbrev pub answer : Got Sheet → Result SheetWords Refusal
answer (got t s) = Ok (sheet_words t)
answer (refused k) = Err (refusal_of k)
