-- The one place where what a sheet says becomes the tables of the method (cue/specs/Method).
use Rattle.std.specs.Prelude.{Bool, false, not, ◌&&◌, List, ℕ, ltb, ℤ, pos, length}
use Rattle.std.proofs.Math.Option.{Option, none, some}
use Rattle.maxplus.specs.Finite.{sum, count_if, byte_of, map_l}
use Rattle.maxplus.specs.Line.{Line}
use Rattle.maxplus.specs.Packing.{rank, place, filled, layout}
use Rattle.maxplus.specs.Whole.{neg}
use Rattle.maxplus.specs.Entry.{num, ◌⊗◌, ◌⊕◌, val}
use Rattle.maxplus.specs.Tables.{sup, Vec, Mat, mm, NoGain}
use Rattle.maxplus.proofs.StarLaws.{no_gain?}
use Rattle.cue.specs.Cue.{Cue}
use Rattle.cue.specs.Method.{least, floor_panels, kept, steps, selections, lines}
use Rattle.cue.specs.Sizes.{geometric}
use Rattle.sheet.specs.Sheet.{Sheet, Measure, by_marks, by_spread, given_table, spare}
use Rattle.sheet.specs.Meaning.{line_landing}

-- "Plans are worked out over the others" (document 02, No. 4): the triggers of the sheet that are not spare, in sheet order
unfoldable pub used : Sheet → ℕ → Bool
used t j = ltb j t.triggers && not (spare t j)

-- how many these are, and which is the k-th, counted from 0
abbrev pub cue_size : Sheet → ℕ
cue_size t = rank (used t) t.triggers

abbrev pub trigger_at : Sheet → ℕ → ℕ
trigger_at t k = place (used t) t.triggers k

-- "The order table of document 01 becomes the larger of the after table and land times lag" (document 02, No. 2).
unfoldable pub order_table : Sheet → Mat
order_table t i j = t.after i j ⊕ mm t.panels (given_table t.land) t.lag i j

-- the marks that the method goes by: the sheet's, or those of rule 2, "every floor counts as 0 and due j as minus the largest lag of trigger j"
-- (document 02, No. 7)
abbrev pub floor_by : Measure → Vec
floor_by (by_marks p q) = p
floor_by by_spread = λ i. num (pos 0)

abbrev pub due_by : (panels : ℕ) (lag : Mat) → Measure → ℕ → ℤ
due_by m A (by_marks p q) = q
due_by m A by_spread = λ j. neg (val (sup m (λ i. A i j)))

-- the tables of all triggers, spare ones too
abbrev pub whole_cue : Sheet → Cue
whole_cue t = record { panels = t.panels; lag = t.lag; floor = floor_by t.measure; due = due_by t.panels t.lag t.measure; order = order_table t }

-- those of the triggers at ι 0, ι 1 and so on alone
abbrev pub only : (ℕ → ℕ) → Cue → Cue
only ι P =
    record {
      panels = P.panels;
      lag = λ i k. P.lag i (ι k);
      floor = P.floor;
      due = λ k. P.due (ι k);
      order = λ k l. P.order (ι k) (ι l);
    }

abbrev pub cue_of : Sheet → Cue
cue_of t = only (trigger_at t) (whole_cue t)

-- step 1: "no diagonal entry of powers 1 to n is above 0"
abbrev pub Orderly : Sheet → Type 0
Orderly t = NoGain (cue_size t) (cue_of t).order

unfoldable pub orderly? : (t : Sheet) → Dec (Orderly t)
orderly? t = no_gain? (cue_size t) (cue_of t).order

-- what steps 3, 4, 5 and 7 give for a sheet: Δ, each panel's kept triggers, the walk's fixings and its selections, the list
abbrev pub sheet_least : Sheet → ℤ
sheet_least t = least (cue_size t) (cue_of t)

-- each trigger has its own bit, and a spare one is not kept; "the number of bits set is reported with it"
unfoldable pub sheet_kept : Sheet → ℕ → ℕ → Bool
sheet_kept t i = filled (used t) (λ j. false) (kept (cue_size t) (cue_of t) (sheet_least t) i)

unfoldable pub sheet_byte : Sheet → ℕ → ℕ
sheet_byte t i = byte_of t.triggers (sheet_kept t i)

unfoldable pub sheet_count : Sheet → ℕ → ℕ
sheet_count t i = sum t.triggers (λ j. count_if (sheet_kept t i j) 1)

abbrev pub sheet_steps : Sheet → ℕ
sheet_steps t = steps (cue_size t) (cue_of t) (sheet_least t)

abbrev pub sheet_selections : Sheet → ℕ
sheet_selections t = length (selections (cue_size t) (cue_of t) (sheet_least t))

-- each component at its own trigger: "In the lent space a spare component is absent"
unfoldable pub sheet_lines : (t : Sheet) → List (Line t.triggers)
sheet_lines t = map_l (layout (used t) (cue_size t) t.triggers) (lines (cue_size t) (cue_of t))

-- a line's cap (document 02, No. 5), where b are the last moments: the least b(i) − y(i) over the panels that it reaches, which is minus the
-- largest y(i) − b(i)
unfoldable pub cap : (t : Sheet) → (ℕ → ℤ) → Line t.triggers → ℤ
cap t b c = neg (val (sup t.panels (λ i. line_landing t c i ⊗ num (neg (b i)))))

-- "Each line of the plan then gains its own": where the sheet has a last line
abbrev pub caps_by : (t : Sheet) → Option (ℕ → ℤ) → Option (Line t.triggers → ℤ)
caps_by t none = none
caps_by t (some b) = some (cap t b)

abbrev pub sheet_caps : (t : Sheet) → Option (Line t.triggers → ℤ)
sheet_caps t = caps_by t t.last

-- "n + n² + ... + n to the power f", for the f panels that have a floor
abbrev pub most_steps : Sheet → ℕ
most_steps t = geometric t.triggers (length (floor_panels (cue_size t) (cue_of t)))
