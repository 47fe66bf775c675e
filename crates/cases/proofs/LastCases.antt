-- Cases of document 02's No. 5.
use mathlib.Core.Path.{refl}
use mathlib.Core.Bool.{decide}
use mathlib.Core.Option.{none, some}
use mathlib.Core.List.{List, [], ◌∷◌, ◌++◌}
use Prim.Native.Nat.{ℕ, ◌-◌, ◌<◌}
use Prim.Native.Nat as nat
use native.Mathlib.Omega.{arith}
use lib.Dec.{lit<}
use Prim.Native.String.{String}
use Prim.Native.String as string
use native.Mathlib.Decide.{dec_le}
use lib.IntN.{ℤ, pos, negsuc}
use Rattle.maxplus.specs.Whole.{◌+z◌, neg, maxz}
use Rattle.maxplus.specs.Entry.{absent, num, ◌⊗◌, ◌⊕◌, inv, val, Present}
use Rattle.maxplus.specs.Finite.{each, map_l, sum, byte_of}
use Rattle.maxplus.specs.Packing.{rank, place, filled, layout}
use Rattle.maxplus.specs.Tables.{sup, sup_l, mv, mm, idm, power, star, normal}
use Rattle.maxplus.specs.Line.{at, line}
use Rattle.maxplus.specs.Sorted.{put, sift}
use Rattle.maxplus.proofs.WholeLaws.{z_dec}
use Rattle.maxplus.proofs.EntryLaws.{≼_dec, present_dec, same_entry?}
use Rattle.maxplus.proofs.FiniteLaws.{all_or, all_dec, any_dec, dec_×, dec_¬, dec_→, decide_yes}
use Rattle.maxplus.proofs.LineLaws.{lt_E_cmp, lt_l_cmp, strict, same?}
use Rattle.maxplus.proofs.CombinationLaws.{under_dec, met?, asked?, combination?}
use Rattle.maxplus.proofs.StarLaws.{gain_or, no_gain?}
use Rattle.cue.specs.Minimal.{others, needed?, minimal}
use Rattle.cue.specs.Cue.{overdue, shortfall}
use Rattle.cue.specs.Vectors.{Keeps, deviation, Readable}
use Rattle.cue.specs.Method.{through, pull_E, pull, least_E, least, floor_panels, serves_as_well, cut, walk, fixings, kept}
use Rattle.cue.specs.Method.{selections, steps, need, seed, ray, candidate, candidates, lines}
use Rattle.cue.proofs.Order.{keeps?}
use Rattle.cue.proofs.Deviation.{tightest?}
use Rattle.sheet.specs.Text.{bytes}
use Rattle.sheet.specs.Sheet.{literal, value, behind, signed, item, ended, items, any, checked, rows, row, table, sections, optional, read}
use Rattle.sheet.specs.Sheet.{Sheet, by_marks, spare}
use Rattle.sheet.specs.Meaning.{line_landing}
use Rattle.sheet.specs.Cue.{used, cue_size, order_table, cue_of, Orderly, orderly?, sheet_kept, sheet_byte, sheet_count, sheet_lines, cap}
use Rattle.sheet.specs.Overruns.{overrun, lowered}
use Rattle.sheet.proofs.Spares.{cue_readable}
use Rattle.sheet.specs.Sheet as sheet
use Rattle.cue.specs.Written.{line_words, lent_words}
use Rattle.sheet.specs.Ordered.{ordered}
use Rattle.sheet.specs.Admitted.{admitted}
use Rattle.sheet.proofs.Latest.{latest_on, latest_exists}
use Rattle.cue.specs.Latest.{fit, made, latest}
use Rattle.planning.specs.Planning.{planning, space_after}
use Rattle.keeping.specs.Keeping.{keeping}
use Rattle.testing.specs.Testing.{testing}
use Rattle.reaching.specs.Reaching.{reaching, reached_space}
use Rattle.cases.proofs.Case.{Yes, No, Case, CaseHolds, Every, lined, full_by, no_plan, reached_by, no_room_by, kept_triggers, absent_word, old}
use Rattle.cases.proofs.Case.{two, three, all_hold, times, done, ◌then◌, plans, keeps, tests, reaches, says_yes, says_no, says_late}

-- the words of a line with its cap
abbrev capped : List ℤ → ℤ → List ℤ
capped line cap = line ++ (cap ∷ [])

-- the whole case, with these last moments
abbrev whole_by : String → String
whole_by moments = string.◌++◌ "panels=2\ntriggers=2\nlag=2,0\nlag=4,1\nfloor=5,2\ndue=1,2\nafter=-,-\nafter=-,-\n" moments

-- its lines with caps
abbrev whole_lines : ℤ → ℤ → List ℤ
whole_lines a b = capped (two (negsuc 0) (pos 0)) a ++ capped (two (pos 0) absent_word) b

-- the paper's Example 6, with marks for its rule
abbrev example_6 : String
example_6 =
    string.◌++◌ "panels=3\ntriggers=3\nlag=3,-1,-\nlag=-2,2,0\nlag=-1,-,4\nfloor=0,0,0\ndue=-3,-2,-4\n"
    "after=-,-,-3\nafter=2,-,-\nafter=1,-2,-\nland=-,-,-\nland=0,-,-3\nland=-1,-,-\nlast=7,7,7\n"

abbrev example_6_lines : List ℤ
example_6_lines = capped (three (negsuc 4) (pos 0) (negsuc 1)) (pos 5) ++ capped (three (negsuc 2) (pos 0) (negsuc 0)) (pos 4)

-- two panels, each with its own trigger, and a floor on the first alone: one line does not reach the second
abbrev side_panel : String
side_panel = "panels=2\ntriggers=2\nlag=0,-\nlag=-,0\nfloor=0,-\ndue=0,0\nafter=-,-\nafter=-,-\nlast=5,3\n"

-- the whole case without a floor on its second panel, which alone keeps the caps low
abbrev no_second_floor : String
no_second_floor = "panels=2\ntriggers=2\nlag=2,0\nlag=4,1\nfloor=5,-\ndue=1,2\nafter=-,-\nafter=-,-\nlast=100,4\n"

-- a spare trigger, and a last moment for the one panel
abbrev idle : String
idle = "panels=1\ntriggers=2\nlag=0,-\nfloor=0\ndue=0,-7\nafter=-,-\nafter=-,-\nlast=4\n"

-- caps of the whole case and of the paper's example, below 0, by a panel that a line does not reach and by one without a floor, beside a spare
-- trigger; 9 by eight words a line; what the last line may be and where it stands; tests and latest timings that a last moment decides
abbrev pub last_cases : List Case
last_cases =
    plans (whole_by "last=2,4\n") (old 17) (lined 8 2 0 (pos 2) 2 1 2) (whole_lines (pos 1) (pos 0) ++ old 1) ∷
    plans (whole_by "last=-2,100000\n") (old 16) (lined 8 2 0 (pos 2) 2 1 2) (whole_lines (negsuc 2) (negsuc 3)) ∷
    plans example_6 (old 16) (lined 8 3 0 (pos 3) 6 2 2) example_6_lines ∷
    plans side_panel (old 16) (lined 8 2 0 (pos 0) 1 1 2) (capped (two (pos 0) absent_word) (pos 5) ++ capped (two (pos 0) (pos 0)) (pos 3)) ∷
    plans no_second_floor (old 16) (lined 8 2 0 (pos 2) 1 1 2) (whole_lines (pos 1) (pos 0)) ∷
    plans idle (old 8) (lined 8 2 2 (pos 0) 1 1 1) (capped (two (pos 0) absent_word) (pos 4)) ∷
    plans (whole_by "last=2,4\n") (old 15) (full_by 8 2) (old 15) ∷
    plans (whole_by "last=2,-\n") (old 16) (no_plan 5) (old 16) ∷
    plans (whole_by "last=-,100001\n") (old 16) (no_plan 4) (old 16) ∷
    plans (whole_by "last=-,100001,\n") (old 16) (no_plan 2) (old 16) ∷
    plans (whole_by "last=2,4\nlast=2,4\n") (old 16) (no_plan 2) (old 16) ∷
    plans (whole_by "last=2,4\nland=-,-\nland=-,-\n") (old 16) (no_plan 2) (old 16) ∷
    keeps (whole_by "last=2,4\n") (kept_triggers (pos 2) 2 1 (1 ∷ 3 ∷ []) (1 ∷ 2 ∷ [])) ∷
    tests (whole_by "last=2,4\n") (pos 0 ∷ pos 1 ∷ []) Yes ∷
    tests (whole_by "last=2,4\n") (pos 1 ∷ pos 2 ∷ []) No ∷
    tests (whole_by "last=2,4\n") (pos 0 ∷ pos 2 ∷ []) No ∷
    reaches (whole_by "last=2,4\n") (pos 5 ∷ pos 5 ∷ []) (old 17) (reached_by 8 2 (pos 0 ∷ pos 1 ∷ [])) (whole_lines (pos 1) (pos 0) ++ old 1) ∷
    reaches (whole_by "last=2,4\n") (pos 5 ∷ pos 5 ∷ []) (old 15) (no_room_by 8 2) (old 15) ∷
    reaches idle (pos 9 ∷ pos 5 ∷ []) (old 8) (reached_by 8 1 (pos 4 ∷ pos 5 ∷ [])) (capped (two (pos 0) absent_word) (pos 4)) ∷
    []

abbrev timed : Sheet
timed =
    record {
      panels = 2;
      triggers = 2;
      lag = table ((num (pos 2) ∷ num (pos 0) ∷ []) ∷ (num (pos 4) ∷ num (pos 1) ∷ []) ∷ []);
      measure = by_marks (row (num (pos 5) ∷ num (pos 2) ∷ [])) (λ j. val (row (num (pos 1) ∷ num (pos 2) ∷ []) j));
      after = table ((absent ∷ absent ∷ []) ∷ (absent ∷ absent ∷ []) ∷ []);
      land = none;
      last = some (λ i. val (row (num (pos 2) ∷ num (pos 4) ∷ []) i));
    }

timed_readable : Readable (cue_size timed) (cue_of timed)
timed_readable = cue_readable timed (0, lit< tt, (pos 5, refl)) lagged
  where
    lagged : (i : ℕ) → i < 2 → (j : ℕ) × (j < 2) × Present (timed.lag i j)
    lagged nat.zero h = (0, lit< tt, (pos 2, refl))
    lagged (nat.suc nat.zero) h = (0, lit< tt, (pos 4, refl))
    lagged (nat.suc (nat.suc i)) h = absurd (let e : ⊥ = omega arith in e)

timed_ordered : Orderly timed
unfolding orderly? order_table spare used rank place sum no_gain? gain_or mm mv power idm sup sup_l ◌⊗◌ ◌⊕◌ ≼_dec all_or all_dec decide
timed_ordered = decide_yes (orderly? timed) tt

-- ---- the whole table
pub last_cases_hold : Every CaseHolds last_cases
unfolding reaching reached_space admitted latest_exists latest_on lowered overrun cap line_landing latest made fit planning space_after keeping
    sheet_byte sheet_count sheet_kept byte_of sheet_lines spare used rank place filled layout
    testing tightest? keeps? Keeps same_entry? deviation shortfall ordered orderly? order_table line_words
    lent_words read sheet.lines sheet.ruled sheet.line rows sections optional checked any ended items item signed value behind literal bytes least least_E steps
    selections lines minimal needed? others combination? asked? met? under_dec fixings walk kept cut serves_as_well floor_panels through pull pull_E
    overdue need seed ray candidate candidates no_gain? gain_or mm mv star power idm normal sup sup_l at line put sift each map_l sum val inv ◌⊗◌
    ◌⊕◌ maxz ◌+z◌ neg dec_le z_dec ≼_dec present_dec all_or all_dec any_dec dec_× dec_¬ dec_→ lt_E_cmp lt_l_cmp strict same? decide
last_cases_hold =
    all_hold
    ((refl, refl) then (refl, refl) then (refl, refl) then (refl, refl) then (refl, refl) then
    (refl, refl) then (refl, refl) then (refl, refl) then (refl, refl) then (refl, refl) then
    (refl, refl) then (refl, refl) then refl then
    (λ rest. says_yes (whole_by "last=2,4\n") timed refl timed_readable timed_ordered (times 0 1 rest) refl tt tt) then
    (λ rest. says_late (whole_by "last=2,4\n") timed refl timed_readable timed_ordered (times 1 2 rest) refl (λ h. h)) then
    (λ rest. says_no (whole_by "last=2,4\n") timed refl timed_readable timed_ordered (times 0 2 rest) refl (λ h. h)) then
    (λ rest. (refl, refl)) then (λ rest. (refl, refl)) then (λ rest. (refl, refl)) then
    done)
