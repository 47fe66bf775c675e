-- Cases of document 02's No. 7.
use mathlib.Core.Path.{refl}
use mathlib.Core.Bool.{decide}
use mathlib.Core.Option.{none}
use mathlib.Core.List.{List, [], ◌∷◌, ◌++◌}
use Prim.Native.Nat.{ℕ, ◌-◌, ◌<◌}
use Prim.Native.Nat as nat
use native.Mathlib.Omega.{arith}
use lib.Dec.{lit<}
use Prim.Native.String.{String}
use Prim.Native.String as string
use native.Mathlib.Decide.{dec_le}
use lib.IntN.{ℤ, pos, negsuc}
use Rattle.maxplus.specs.Whole.{◌+z◌, neg, maxz}
use Rattle.maxplus.specs.Entry.{absent, num, ◌⊗◌, ◌⊕◌, inv, val, Present}
use Rattle.maxplus.specs.Finite.{each, map_l, sum, byte_of}
use Rattle.maxplus.specs.Packing.{rank, place, filled, layout}
use Rattle.maxplus.specs.Tables.{sup, sup_l, mv, mm, idm, power, star, normal}
use Rattle.maxplus.specs.Line.{at, line}
use Rattle.maxplus.specs.Sorted.{put, sift}
use Rattle.maxplus.proofs.WholeLaws.{z_dec}
use Rattle.maxplus.proofs.EntryLaws.{≼_dec, present_dec, same_entry?}
use Rattle.maxplus.proofs.FiniteLaws.{all_or, all_dec, any_dec, dec_×, dec_¬, dec_→, decide_yes}
use Rattle.maxplus.proofs.LineLaws.{lt_E_cmp, lt_l_cmp, strict, same?}
use Rattle.maxplus.proofs.CombinationLaws.{under_dec, met?, asked?, combination?}
use Rattle.maxplus.proofs.StarLaws.{gain_or, no_gain?}
use Rattle.cue.specs.Minimal.{others, needed?, minimal}
use Rattle.cue.specs.Cue.{overdue, shortfall}
use Rattle.cue.specs.Vectors.{Keeps, deviation, Readable}
use Rattle.cue.specs.Method.{through, pull_E, pull, least_E, least, floor_panels, serves_as_well, cut, walk, fixings, kept}
use Rattle.cue.specs.Method.{selections, steps, need, seed, ray, candidate, candidates, lines}
use Rattle.cue.proofs.Order.{keeps?}
use Rattle.cue.proofs.Deviation.{tightest?}
use Rattle.sheet.specs.Text.{bytes}
use Rattle.sheet.specs.Sheet.{literal, value, behind, signed, item, ended, items, any, checked, rows, table, sections, optional, read}
use Rattle.sheet.specs.Sheet.{Sheet, row, by_marks, by_spread, spare}
use Rattle.sheet.specs.Meaning.{line_landing, SameTimings}
use Rattle.sheet.specs.Cue.{used, cue_size, order_table, cue_of, Orderly, orderly?, sheet_kept, sheet_byte, sheet_count, sheet_lines, cap}
use Rattle.sheet.specs.Overruns.{overrun, lowered}
use Rattle.sheet.proofs.Spares.{cue_readable}
use Rattle.sheet.specs.Sheet as sheet
use Rattle.cue.specs.Written.{line_words, lent_words}
use Rattle.sheet.specs.Ordered.{ordered}
use Rattle.sheet.specs.Admitted.{admitted}
use Rattle.sheet.proofs.Latest.{latest_on, latest_exists}
use Rattle.cue.specs.Latest.{fit, made, latest}
use Rattle.planning.specs.Planning.{planning, space_after}
use Rattle.planning.proofs.Demands.{demand_3}
use Rattle.keeping.specs.Keeping.{keeping}
use Rattle.testing.specs.Testing.{testing}
use Rattle.reaching.specs.Reaching.{reaching, reached_space}
use Rattle.refusals.specs.Numbers.{refusal_of}
use Rattle.cases.proofs.Case.{Yes, No, not_tested, Case, CaseHolds, Every, lined, planned, spared, no_plan, reached, not_reached, kept_triggers, no_table}
use Rattle.cases.proofs.Case.{absent_word, old, one, two, three, all_hold, times, done, ◌then◌, plans, keeps, tests, reaches, says_yes, says_no}

-- the whole case's lags under rule 2, between these lines
abbrev ruled_by : String → String
ruled_by behind = string.◌++◌ "rule=2\npanels=2\ntriggers=2\nlag=2,0\nlag=4,1\n" behind

-- the same under the marks rule: floors of 5, and due marks that are 1 too early for the spread
abbrev marked_so : String
marked_so = "panels=2\ntriggers=2\nlag=2,0\nlag=4,1\nfloor=5,5\ndue=0,3\nafter=-,-\nafter=-,-\n"

-- the lines of both
abbrev ruled_lines : List ℤ
ruled_lines = two absent_word (pos 0) ++ two (negsuc 2) (pos 0)

-- the paper's Example 6, from its own rule
abbrev example_6 : String
example_6 =
    string.◌++◌ "rule=2\npanels=3\ntriggers=3\nlag=3,-1,-\nlag=-2,2,0\nlag=-1,-,4\nafter=-,-,-3\nafter=2,-,-\nafter=1,-2,-\n"
    "land=-,-,-\nland=0,-,-3\nland=-1,-,-\nlast=7,7,7\n"

abbrev example_6_lines : List ℤ
example_6_lines = (three (negsuc 4) (pos 0) (negsuc 1) ++ pos 5 ∷ []) ++ (three (negsuc 2) (pos 0) (negsuc 0) ++ pos 4 ∷ [])

-- one panel, which the first of two triggers alone reaches
abbrev second_by : String → String
second_by behind = string.◌++◌ "rule=2\npanels=1\ntriggers=2\nlag=0,-\n" behind

-- the paper's example, a sheet of each rule with the same lines, a spare trigger; 14 by a row, a column, a land line and a rule for itself, before 8
-- and behind 6; what the line of a rule may be and where it stands, and lines that are there under the other rule; tests and a latest timing
abbrev pub rule_cases : List Case
rule_cases =
    plans example_6 (old 17) (lined 8 3 0 (pos 3) 6 2 2) (example_6_lines ++ old 1) ∷
    plans (ruled_by "after=-,-\nafter=-,-\n") (old 14) (planned 2 (pos 1) 2 1 2) ruled_lines ∷
    plans marked_so (old 14) (planned 2 (pos 2) 2 1 2) ruled_lines ∷
    plans "rule=2\npanels=1\ntriggers=1\nlag=-7\nafter=-\n" (old 7) (planned 1 (pos 0) 1 1 1) (one (pos 0)) ∷
    plans (second_by "after=-,-\nafter=-,-\n") (old 7) (spared 2 2 (pos 0) 1 1 1) (two (pos 0) absent_word) ∷
    plans (second_by "after=-,-\nafter=-5,-\n") (old 7) (no_plan 14) (old 7) ∷
    plans (second_by "after=-,-5\nafter=-,-\n") (old 7) (no_plan 14) (old 7) ∷
    plans (second_by "after=-,-\nafter=-,-\nland=-\nland=0\n") (old 7) (no_plan 14) (old 7) ∷
    plans (second_by "after=-,-\nafter=-,1\n") (old 7) (no_plan 14) (old 7) ∷
    plans "rule=2\npanels=1\ntriggers=2\nlag=-,-\nafter=-,-\nafter=0,-\n" (old 7) (no_plan 6) (old 7) ∷
    plans "rule=1\npanels=1\ntriggers=1\nlag=0\nafter=-\n" (old 7) (no_plan 2) (old 7) ∷
    plans "rule=02\npanels=1\ntriggers=1\nlag=0\nafter=-\n" (old 7) (no_plan 2) (old 7) ∷
    plans "rule=2\nrule=2\npanels=1\ntriggers=1\nlag=0\nafter=-\n" (old 7) (no_plan 2) (old 7) ∷
    plans "panels=1\nrule=2\ntriggers=1\nlag=0\nafter=-\n" (old 7) (no_plan 2) (old 7) ∷
    plans "rule=2\npanels=1\ntriggers=1\nlag=0\nfloor=0\ndue=0\nafter=-\n" (old 7) (no_plan 2) (old 7) ∷
    plans "panels=1\ntriggers=1\nlag=0\nafter=-\n" (old 7) (no_plan 2) (old 7) ∷
    keeps (ruled_by "after=-,-\nafter=-,-\n") (kept_triggers (pos 1) 2 1 (2 ∷ 3 ∷ []) (1 ∷ 2 ∷ [])) ∷
    keeps (second_by "after=-,-\nafter=0,-\n") (no_table 14) ∷
    tests (ruled_by "after=-,-\nafter=-,-\n") (pos 0 ∷ pos 3 ∷ []) Yes ∷
    tests (ruled_by "after=-,-\nafter=-,-\n") (pos 0 ∷ pos 2 ∷ []) No ∷
    tests (second_by "after=-,-\nafter=0,-\n") (pos 0 ∷ []) (not_tested 14) ∷
    reaches (ruled_by "after=-,-\nafter=-,-\n") (pos 5 ∷ pos 5 ∷ []) (old 14) (reached 2 (pos 2 ∷ pos 5 ∷ [])) ruled_lines ∷
    reaches (second_by "after=-,-\nafter=0,-\n") (pos 0 ∷ []) (old 7) (not_reached 14) (old 7) ∷
    []

abbrev ruled : Sheet
ruled =
    record {
      panels = 2;
      triggers = 2;
      lag = table ((num (pos 2) ∷ num (pos 0) ∷ []) ∷ (num (pos 4) ∷ num (pos 1) ∷ []) ∷ []);
      measure = by_spread;
      after = table ((absent ∷ absent ∷ []) ∷ (absent ∷ absent ∷ []) ∷ []);
      land = none;
      last = none;
    }

ruled_readable : Readable (cue_size ruled) (cue_of ruled)
ruled_readable = cue_readable ruled (0, lit< tt, (pos 0, refl)) lagged
  where
    lagged : (i : ℕ) → i < 2 → (j : ℕ) × (j < 2) × Present (ruled.lag i j)
    lagged nat.zero h = (0, lit< tt, (pos 2, refl))
    lagged (nat.suc nat.zero) h = (0, lit< tt, (pos 4, refl))
    lagged (nat.suc (nat.suc i)) h = absurd (let e : ⊥ = omega arith in e)

ruled_ordered : Orderly ruled
unfolding orderly? order_table spare used rank place sum no_gain? gain_or mm mv power idm sup sup_l ◌⊗◌ ◌⊕◌ ≼_dec all_or all_dec decide
ruled_ordered = decide_yes (orderly? ruled) tt

-- ---- the same lists, so the same tightest timings, whichever rule (demand 3)
abbrev marked : Sheet
marked =
    record {
      panels = 2;
      triggers = 2;
      lag = ruled.lag;
      measure = by_marks (row (num (pos 5) ∷ num (pos 5) ∷ [])) (λ j. val (row (num (pos 0) ∷ num (pos 3) ∷ []) j));
      after = ruled.after;
      land = none;
      last = none;
    }

pub rules_alike : SameTimings ruled marked
unfolding planning space_after sheet_byte sheet_count sheet_kept byte_of sheet_lines spare used rank place filled layout ordered orderly?
    order_table line_words lent_words read sheet.lines sheet.ruled sheet.line rows sections optional checked any ended items item signed value behind
    literal bytes least least_E shortfall steps selections lines minimal needed? others combination? asked? met? under_dec fixings walk kept cut
    serves_as_well floor_panels through pull pull_E overdue need seed ray candidate candidates no_gain? gain_or mm mv star power idm normal sup sup_l at
    line put sift each map_l sum val inv ◌⊗◌ ◌⊕◌ maxz ◌+z◌ neg dec_le z_dec ≼_dec present_dec all_or all_dec any_dec dec_× dec_¬ dec_→ lt_E_cmp lt_l_cmp
    strict same? decide
rules_alike = (demand_3 (bytes (ruled_by "after=-,-\nafter=-,-\n")) (bytes marked_so) ruled marked (old 14) (old 14)
    (record { rest₁ = []; rest₂ = []; read₁ = refl; read₂ = refl; same_size = refl; planned₁ = tt; planned₂ = tt }) (λ j h. refl)).0 (refl, refl)

-- ---- the whole table
pub rule_cases_hold : Every CaseHolds rule_cases
unfolding refusal_of reaching reached_space admitted latest_exists latest_on lowered overrun cap line_landing latest made fit planning space_after keeping
    sheet_byte sheet_count sheet_kept byte_of sheet_lines spare used rank place filled layout
    testing tightest? keeps? Keeps same_entry? deviation shortfall ordered orderly? order_table line_words
    lent_words read sheet.lines sheet.ruled sheet.line rows sections optional checked any ended items item signed value behind literal bytes least
    least_E steps selections lines minimal needed? others combination? asked? met? under_dec fixings walk kept cut serves_as_well floor_panels through
    pull pull_E overdue need seed ray candidate candidates no_gain? gain_or mm mv star power idm normal sup sup_l at line put sift each map_l sum val
    inv ◌⊗◌ ◌⊕◌ maxz ◌+z◌ neg dec_le z_dec ≼_dec present_dec all_or all_dec any_dec dec_× dec_¬ dec_→ lt_E_cmp lt_l_cmp strict same? decide
rule_cases_hold =
    all_hold
    ((refl, refl) then (refl, refl) then (refl, refl) then (refl, refl) then (refl, refl) then
    (refl, refl) then (refl, refl) then (refl, refl) then (refl, refl) then (refl, refl) then
    (refl, refl) then (refl, refl) then (refl, refl) then (refl, refl) then (refl, refl) then (refl, refl) then
    refl then refl then
    (λ rest. says_yes (ruled_by "after=-,-\nafter=-,-\n") ruled refl ruled_readable ruled_ordered (times 0 3 rest) refl tt tt) then
    (λ rest. says_no (ruled_by "after=-,-\nafter=-,-\n") ruled refl ruled_readable ruled_ordered (times 0 2 rest) refl (λ h. h)) then
    (λ rest. refl) then (λ rest. (refl, refl)) then (λ rest. (refl, refl)) then
    done)
