-- What kept table and walk return (document 01, "What each operation may refuse").
use Rattle.std.specs.Prelude.{◌≡◌, List, [], ◌∷◌, ℕ, ◌≤◌, ℤ, pos, length, get_or, replicate, Result, Ok, Err}
use Rattle.std.specs.Int.Count.{ones}
use Rattle.maxplus.specs.Finite.{each}
use Rattle.cue.specs.Sizes.{six}
use Rattle.sheet.specs.Sheet.{Got, got, Sheet, read}
use Rattle.sheet.specs.Cue.{sheet_least, sheet_byte, sheet_count, sheet_steps, sheet_selections, most_steps}
use Rattle.sheet.specs.Ordered.{ordered}
use Rattle.refusals.specs.Numbers.{refusal_of}
use Rattle.refusals.specs.declared.Refusal.{Refusal}
use Rattle.keeping.specs.declared.KeptTable.{KeptTable}
use Rattle.sheet.specs.Sheet as sheet

-- "It gives Δ, each panel's byte and bit count (0 and 0 without a floor), steps and selections."
pub data KeptOutcome : Type 0 where
  kept : (deviation : ℤ) (bytes-and-counts : List (ℕ × ℕ)) (steps selections : ℕ) → KeptOutcome
  refused : ℕ → KeptOutcome

abbrev pub kept_of : Got Sheet → KeptOutcome
kept_of (sheet.refused k) = refused k
kept_of (got t r) =
    kept (sheet_least t) (each t.panels (λ i. (sheet_byte t i, sheet_count t i) ∷ [])) (sheet_steps t) (sheet_selections t)

unfoldable pub keeping : List ℕ → KeptOutcome
keeping s = kept_of (ordered s)

-- the number of bits of each of six bytes
abbrev pub six_counts : List ℕ → List ℕ
six_counts bytes = six (λ i. ones (get_or bytes i 0))

-- the answer in a program: the outcome's numbers and values, or the refusal
abbrev pub kept_answer : KeptOutcome → Result KeptTable Refusal
kept_answer (kept D panels k l) =
    Ok (record {
      deviation = D;
      panels = length panels;
      kept = six (λ i. (get_or panels i (0, 0)).0);
      counts = six (λ i. (get_or panels i (0, 0)).1);
      steps = k;
      selections = l;
    })
kept_answer (refused k) = Err (refusal_of k)

-- the table that is returned; all 0 where there is none
abbrev pub table_in : Result KeptTable Refusal → KeptTable
table_in (Ok t) = t
table_in (Err r) = record { deviation = pos 0; panels = 0; kept = replicate 6 0; counts = replicate 6 0; steps = 0; selections = 0 }

-- "With f panels that have a floor, steps is at most n + n² + ... + n to the power f": the number that is returned
abbrev pub StepsAtMost : Type 0
StepsAtMost = (s : List ℕ) (t : Sheet) (r : List ℕ) → read s ≡ got t r → (table_in (kept_answer (keeping s))).steps ≤ most_steps t
