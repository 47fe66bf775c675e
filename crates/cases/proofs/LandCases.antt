-- Cases of document 02's No. 2.
use mathlib.Core.Path.{refl, ap}
use mathlib.Core.Bool.{decide}
use mathlib.Core.Option.{none, some}
use mathlib.Core.List.{List, [], ◌∷◌, ◌++◌}
use Prim.Native.Nat.{ℕ, ◌-◌, ◌<◌}
use Prim.Native.Nat as nat
use native.Mathlib.Omega.{arith}
use lib.Dec.{lit<}
use Prim.Native.String.{String}
use Prim.Native.String as string
use native.Mathlib.Decide.{dec_le}
use lib.IntN.{ℤ, pos, negsuc}
use Rattle.maxplus.specs.Whole.{◌+z◌, neg, maxz}
use Rattle.maxplus.specs.Entry.{absent, num, ◌⊗◌, ◌⊕◌, inv, val, Present}
use Rattle.maxplus.specs.Finite.{each, map_l, sum, byte_of}
use Rattle.maxplus.specs.Packing.{rank, place, filled, layout}
use Rattle.maxplus.specs.Tables.{sup, sup_l, mv, mm, idm, power, star, normal}
use Rattle.maxplus.specs.Line.{at, line}
use Rattle.maxplus.specs.Sorted.{put, sift}
use Rattle.maxplus.proofs.WholeLaws.{z_dec}
use Rattle.maxplus.proofs.EntryLaws.{≼_dec, present_dec, same_entry?}
use Rattle.maxplus.proofs.FiniteLaws.{all_or, all_dec, any_dec, dec_×, dec_¬, dec_→, decide_yes}
use Rattle.maxplus.proofs.LineLaws.{lt_E_cmp, lt_l_cmp, strict, same?}
use Rattle.maxplus.proofs.CombinationLaws.{under_dec, met?, asked?, combination?}
use Rattle.maxplus.proofs.StarLaws.{gain_or, no_gain?}
use Rattle.cue.specs.Minimal.{others, needed?, minimal}
use Rattle.cue.specs.Cue.{overdue, shortfall}
use Rattle.cue.specs.Vectors.{Keeps, deviation, Readable}
use Rattle.cue.specs.Method.{through, pull_E, pull, least_E, least, floor_panels, serves_as_well, cut, walk, fixings, kept}
use Rattle.cue.specs.Method.{selections, steps, need, seed, ray, candidate, candidates, lines}
use Rattle.cue.proofs.Order.{keeps?}
use Rattle.cue.proofs.Deviation.{tightest?}
use Rattle.sheet.specs.Text.{bytes}
use Rattle.sheet.specs.Sheet.{literal, value, behind, signed, item, ended, items, any, checked, rows, row, table, sections, optional, read}
use Rattle.sheet.specs.Sheet.{Sheet, by_marks, spare}
use Rattle.sheet.specs.Cue.{used, cue_size, order_table, cue_of, Orderly, orderly?, sheet_kept, sheet_byte, sheet_count, sheet_lines}
use Rattle.sheet.specs.Overruns.{lowered}
use Rattle.sheet.proofs.Spares.{cue_readable}
use Rattle.sheet.specs.Sheet as sheet
use Rattle.cue.specs.Written.{line_words, lent_words}
use Rattle.sheet.specs.Ordered.{ordered}
use Rattle.sheet.specs.Admitted.{admitted}
use Rattle.sheet.proofs.Latest.{latest_on, latest_exists}
use Rattle.cue.specs.Latest.{fit, made, latest}
use Rattle.planning.specs.Planning.{planning, space_after}
use Rattle.keeping.specs.Keeping.{keeping}
use Rattle.testing.specs.Testing.{testing}
use Rattle.reaching.specs.Reaching.{reaching, reached_space}
use Rattle.timing.specs.Times.{component}
use Rattle.reaching.specs.Reaching.{reach_answer}
use Rattle.reaching.proofs.ReachLaws.{reaching_of}
use Rattle.cases.proofs.Case.{Yes, No, Case, Computed, CaseHolds, Every, planned, no_plan, reached, kept_triggers, old, one, two}
use Rattle.cases.proofs.Case.{three, all_hold, times, done, ◌then◌, plans, keeps, tests, reaches, says_yes, says_no}

-- the paper's Example 6, with marks for its rule
abbrev example_6 : String
example_6 =
    string.◌++◌ "panels=3\ntriggers=3\nlag=3,-1,-\nlag=-2,2,0\nlag=-1,-,4\nfloor=0,0,0\ndue=-3,-2,-4\n"
    "after=-,-,-3\nafter=2,-,-\nafter=1,-2,-\nland=-,-,-\nland=0,-,-3\nland=-1,-,-\n"

abbrev example_6_lines : List ℤ
example_6_lines = three (negsuc 4) (pos 0) (negsuc 1) ++ three (negsuc 2) (pos 0) (negsuc 0)

-- more triggers than panels: the second waits 2 ms for the panel that the first changes
abbrev house_lights : String
house_lights = "panels=1\ntriggers=2\nlag=0,-\nfloor=0\ndue=0,0\nafter=-,-\nafter=-,-\nland=-\nland=2\n"

-- more panels than triggers: the one trigger waits for the second panel, which it changes itself
abbrev second_panel : String → String
second_panel wait = string.◌++◌ "panels=2\ntriggers=1\nlag=0\nlag=3\nfloor=0,-\ndue=0\nafter=-\nland=-," (string.◌++◌ wait "\n")

-- the paper's example, other numbers of panels than of triggers, a rule that can just be kept and one that can't, lines all absent, one too few
abbrev pub land_cases : List Case
land_cases =
    plans example_6 (old 15) (planned 3 (pos 3) 6 2 2) (example_6_lines ++ old 1) ∷
    keeps example_6 (kept_triggers (pos 3) 6 2 (3 ∷ 7 ∷ 7 ∷ []) (2 ∷ 3 ∷ 3 ∷ [])) ∷
    reaches example_6 (pos 0 ∷ pos 1 ∷ pos 0 ∷ []) (old 14) (reached 2 (negsuc 1 ∷ pos 1 ∷ pos 0 ∷ [])) example_6_lines ∷
    plans house_lights (old 7) (planned 2 (pos 2) 1 1 1) (two (negsuc 1) (pos 0)) ∷
    tests house_lights (pos 0 ∷ pos 2 ∷ []) Yes ∷
    tests house_lights (pos 0 ∷ pos 1 ∷ []) No ∷
    plans (second_panel "-3") (old 7) (planned 1 (pos 0) 1 1 1) (one (pos 0)) ∷
    plans (second_panel "-2") (old 7) (no_plan 8) (old 7) ∷
    plans (second_panel "-") (old 7) (planned 1 (pos 0) 1 1 1) (one (pos 0)) ∷
    plans (string.◌++◌ "panels=1\ntriggers=2\nlag=0,0\nfloor=0\ndue=0,0\nafter=-,-\nafter=1,-\n" "land=-\n") (old 7) (no_plan 2) (old 7) ∷
    []

-- ---- house lights that fire 1 ms too early break a land rule and no other
abbrev lights : Sheet
lights =
    record {
      panels = 1;
      triggers = 2;
      lag = table ((num (pos 0) ∷ absent ∷ []) ∷ []);
      measure = by_marks (row (num (pos 0) ∷ [])) (λ j. val (row (num (pos 0) ∷ num (pos 0) ∷ []) j));
      after = table ((absent ∷ absent ∷ []) ∷ (absent ∷ absent ∷ []) ∷ []);
      land = some (table ((absent ∷ []) ∷ (num (pos 2) ∷ []) ∷ []));
      last = none;
    }

lights_readable : Readable (cue_size lights) (cue_of lights)
lights_readable = cue_readable lights (0, lit< tt, (pos 0, refl)) lagged
  where
    lagged : (i : ℕ) → i < 1 → (j : ℕ) × (j < 2) × Present (lights.lag i j)
    lagged nat.zero h = (0, lit< tt, (pos 0, refl))
    lagged (nat.suc i) h = absurd (let e : ⊥ = omega arith in e)

lights_ordered : Orderly lights
unfolding orderly? order_table spare used rank place sum no_gain? gain_or mm mv power idm sup sup_l ◌⊗◌ ◌⊕◌ ≼_dec all_or all_dec decide
lights_ordered = decide_yes (orderly? lights) tt

-- ---- a latest timing of the paper's example, by the sheet that is read
abbrev example : Sheet
example =
    record {
      panels = 3;
      triggers = 3;
      lag = table
          ((num (pos 3) ∷ num (negsuc 0) ∷ absent ∷ []) ∷ (num (negsuc 1) ∷ num (pos 2) ∷ num (pos 0) ∷ []) ∷
          (num (negsuc 0) ∷ absent ∷ num (pos 4) ∷ []) ∷ []);
      measure = by_marks (row (num (pos 0) ∷ num (pos 0) ∷ num (pos 0) ∷ []))
          (λ j. val (row (num (negsuc 2) ∷ num (negsuc 1) ∷ num (negsuc 3) ∷ []) j));
      after = table
          ((absent ∷ absent ∷ num (negsuc 2) ∷ []) ∷ (num (pos 2) ∷ absent ∷ absent ∷ []) ∷
          (num (pos 1) ∷ num (negsuc 1) ∷ absent ∷ []) ∷ []);
      land = some (table
          ((absent ∷ absent ∷ absent ∷ []) ∷ (num (pos 0) ∷ absent ∷ num (negsuc 2) ∷ []) ∷
          (num (negsuc 0) ∷ absent ∷ absent ∷ []) ∷ []));
      last = none;
    }

example_reached : Computed (reaches example_6 (pos 0 ∷ pos 1 ∷ pos 0 ∷ []) (old 14) (reached 2 (negsuc 1 ∷ pos 1 ∷ pos 0 ∷ [])) example_6_lines)
unfolding reaching reached_space admitted latest_exists latest_on lowered latest made fit planning space_after keeping sheet_byte sheet_count sheet_kept
    byte_of sheet_lines spare used rank place filled layout
    testing tightest? keeps? Keeps same_entry? deviation shortfall ordered orderly? order_table line_words
    lent_words read sheet.lines sheet.ruled sheet.line rows sections optional checked any ended items item signed value behind literal bytes least least_E steps
    selections lines minimal needed? others combination? asked? met? under_dec fixings walk kept cut serves_as_well floor_panels through pull pull_E
    overdue need seed ray candidate candidates no_gain? gain_or mm mv star power idm normal sup sup_l at line put sift each map_l sum val inv ◌⊗◌
    ◌⊕◌ maxz ◌+z◌ neg dec_le z_dec ≼_dec present_dec all_or all_dec any_dec dec_× dec_¬ dec_→ lt_E_cmp lt_l_cmp strict same? decide
example_reached rest =
    let q = reaching_of (bytes example_6) 3 (component (pos 0 ∷ pos 1 ∷ pos 0 ∷ rest)) (old 14) {g = sheet.got example []} refl in
    (ap reach_answer q, ap (λ o. reached_space o (old 14)) q)

-- ---- the whole table
pub land_cases_hold : Every CaseHolds land_cases
unfolding reaching reached_space admitted latest_exists latest_on lowered latest made fit planning space_after keeping sheet_byte sheet_count sheet_kept
    byte_of sheet_lines spare used rank place filled layout
    testing tightest? keeps? Keeps same_entry? deviation shortfall ordered orderly? order_table line_words
    lent_words read sheet.lines sheet.ruled sheet.line rows sections optional checked any ended items item signed value behind literal bytes least least_E steps
    selections lines minimal needed? others combination? asked? met? under_dec fixings walk kept cut serves_as_well floor_panels through pull pull_E
    overdue need seed ray candidate candidates no_gain? gain_or mm mv star power idm normal sup sup_l at line put sift each map_l sum val inv ◌⊗◌
    ◌⊕◌ maxz ◌+z◌ neg dec_le z_dec ≼_dec present_dec all_or all_dec any_dec dec_× dec_¬ dec_→ lt_E_cmp lt_l_cmp strict same? decide
land_cases_hold =
    all_hold
    ((refl, refl) then refl then example_reached then
    (refl, refl) then
    (λ rest. says_yes house_lights lights refl lights_readable lights_ordered (times 0 2 rest) refl tt tt) then
    (λ rest. says_no house_lights lights refl lights_readable lights_ordered (times 0 1 rest) refl (λ h. h)) then
    (refl, refl) then (refl, refl) then (refl, refl) then (refl, refl) then
    done)
