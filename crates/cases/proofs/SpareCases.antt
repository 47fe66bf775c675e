-- Cases of document 02's No. 4.
use mathlib.Core.Path.{refl}
use mathlib.Core.Bool.{decide}
use mathlib.Core.Option.{none}
use mathlib.Core.List.{List, [], ◌∷◌, ◌++◌}
use Prim.Native.Nat.{ℕ, ◌-◌, ◌<◌}
use Prim.Native.Nat as nat
use native.Mathlib.Omega.{arith}
use lib.Dec.{lit<}
use Prim.Native.String.{String}
use Prim.Native.String as string
use native.Mathlib.Decide.{dec_le}
use lib.IntN.{ℤ, pos, negsuc}
use Rattle.maxplus.specs.Whole.{◌+z◌, neg, maxz}
use Rattle.maxplus.specs.Entry.{absent, num, ◌⊗◌, ◌⊕◌, inv, val, Present}
use Rattle.maxplus.specs.Finite.{each, map_l, sum, byte_of}
use Rattle.maxplus.specs.Packing.{rank, place, filled, layout}
use Rattle.maxplus.specs.Tables.{sup, sup_l, mv, mm, idm, power, star, normal}
use Rattle.maxplus.specs.Line.{at, line}
use Rattle.maxplus.specs.Sorted.{put, sift}
use Rattle.maxplus.proofs.WholeLaws.{z_dec}
use Rattle.maxplus.proofs.EntryLaws.{≼_dec, present_dec, same_entry?}
use Rattle.maxplus.proofs.FiniteLaws.{all_or, all_dec, any_dec, dec_×, dec_¬, dec_→, decide_yes}
use Rattle.maxplus.proofs.LineLaws.{lt_E_cmp, lt_l_cmp, strict, same?}
use Rattle.maxplus.proofs.CombinationLaws.{under_dec, met?, asked?, combination?}
use Rattle.maxplus.proofs.StarLaws.{gain_or, no_gain?}
use Rattle.cue.specs.Minimal.{others, needed?, minimal}
use Rattle.cue.specs.Cue.{overdue, shortfall}
use Rattle.cue.specs.Vectors.{Keeps, deviation, Readable}
use Rattle.cue.specs.Method.{through, pull_E, pull, least_E, least, floor_panels, serves_as_well, cut, walk, fixings, kept}
use Rattle.cue.specs.Method.{selections, steps, need, seed, ray, candidate, candidates, lines}
use Rattle.cue.proofs.Order.{keeps?}
use Rattle.cue.proofs.Deviation.{tightest?}
use Rattle.sheet.specs.Text.{bytes}
use Rattle.sheet.specs.Sheet.{literal, value, behind, signed, item, ended, items, any, checked, rows, row, table, sections, optional, read}
use Rattle.sheet.specs.Sheet.{Sheet, by_marks, spare}
use Rattle.sheet.specs.Cue.{used, cue_size, order_table, cue_of, Orderly, orderly?, sheet_kept, sheet_byte, sheet_count, sheet_lines}
use Rattle.sheet.specs.Overruns.{lowered}
use Rattle.sheet.proofs.Spares.{cue_readable}
use Rattle.sheet.specs.Sheet as sheet
use Rattle.cue.specs.Written.{line_words, lent_words}
use Rattle.sheet.specs.Ordered.{ordered}
use Rattle.sheet.specs.Admitted.{admitted}
use Rattle.sheet.proofs.Latest.{latest_on, latest_exists}
use Rattle.cue.specs.Latest.{fit, made, latest}
use Rattle.planning.specs.Planning.{planning, space_after}
use Rattle.keeping.specs.Keeping.{keeping}
use Rattle.testing.specs.Testing.{testing}
use Rattle.reaching.specs.Reaching.{reaching, reached_space}
use Rattle.timing.specs.Times.{component}
use lib.ListN.{replicate}
use Rattle.sheet.specs.Meaning as sheets
use Rattle.cases.proofs.Case.{Yes, No, Case, spared, full, not_reached, absent_word, CaseHolds, Every, planned, reached, kept_triggers, old}
use Rattle.cases.proofs.Case.{two, three, all_hold, done, ◌then◌, plans, keeps, tests, reaches, says_yes, says_no}

-- one panel, two triggers, the second without a lag, and these after lines
abbrev idle : String → String
idle rules = string.◌++◌ "panels=1\ntriggers=2\nlag=0,-\nfloor=0\ndue=0,-7\n" rules

abbrev no_rules : String
no_rules = "after=-,-\nafter=-,-\n"

-- the first trigger idle, and five of six
abbrev idle_first : String
idle_first = "panels=1\ntriggers=2\nlag=-,0\nfloor=0\ndue=-7,0\nafter=-,-\nafter=-,-\n"

abbrev five_idle : String
five_idle =
    string.◌++◌ "panels=1\ntriggers=6\nlag=-,-,0,-,-,-\nfloor=3\ndue=9,9,0,9,9,9\n"
    "after=-,-,-,-,-,-\nafter=-,-,-,-,-,-\nafter=-,-,-,-,-,-\nafter=-,-,-,-,-,-\nafter=-,-,-,-,-,-\nafter=-,-,-,-,-,-\n"

-- the whole case with an idle trigger between its two
abbrev between : String
between = "panels=2\ntriggers=3\nlag=2,-,0\nlag=4,-,1\nfloor=5,2\ndue=1,-50,2\nafter=-,-,-\nafter=-,-,-\nafter=-,-,-\n"

abbrev between_lines : List ℤ
between_lines = three (negsuc 0) absent_word (pos 0) ++ three (pos 0) absent_word absent_word

abbrev six_words : ℤ → List ℤ
six_words a = pos 6 ∷ absent_word ∷ absent_word ∷ a ∷ replicate 3 absent_word

-- a spare trigger last, first and between, five of six; a diagonal entry of 0, an entry in its row or in its column alone and a land entry make
-- a trigger not spare, land lines all absent do not; any number may be tested at a spare trigger, and it is handed back
abbrev pub spare_cases : List Case
spare_cases =
    plans (idle no_rules) (old 8) (spared 2 2 (pos 0) 1 1 1) (two (pos 0) absent_word ++ old 1) ∷
    plans (idle "after=-,-\nafter=-,0\n") (old 14) (planned 2 (pos 0) 1 1 2) (two (pos 0) absent_word ++ two (pos 0) (negsuc 6)) ∷
    plans (idle "after=-,0\nafter=-,-\n") (old 14) (planned 2 (pos 0) 1 1 2) (two (pos 0) absent_word ++ two (pos 0) (negsuc 6)) ∷
    plans (idle "after=-,-\nafter=0,-\n") (old 7) (planned 2 (pos 7) 1 1 1) (two (pos 0) (pos 0)) ∷
    plans (idle (string.◌++◌ no_rules "land=-\nland=0\n")) (old 7) (planned 2 (pos 7) 1 1 1) (two (pos 0) (pos 0)) ∷
    plans (idle (string.◌++◌ no_rules "land=-\nland=-\n")) (old 7) (spared 2 2 (pos 0) 1 1 1) (two (pos 0) absent_word) ∷
    plans (idle no_rules) (old 6) (full 1) (old 6) ∷
    plans idle_first (old 7) (spared 2 1 (pos 0) 1 1 1) (two absent_word (pos 0)) ∷
    plans five_idle (old 7) (spared 6 59 (pos 3) 1 1 1) (six_words (pos 0)) ∷
    plans between (old 14) (spared 3 2 (pos 2) 2 1 2) between_lines ∷
    keeps idle_first (kept_triggers (pos 0) 1 1 (2 ∷ []) (1 ∷ [])) ∷
    keeps between (kept_triggers (pos 2) 2 1 (1 ∷ 5 ∷ []) (1 ∷ 2 ∷ [])) ∷
    tests between (pos 0 ∷ negsuc 999_999_999 ∷ pos 1 ∷ []) Yes ∷
    tests between (pos 0 ∷ pos 0 ∷ pos 2 ∷ []) No ∷
    reaches (idle no_rules) (pos 3 ∷ pos 5 ∷ []) (old 7) (reached 1 (pos 3 ∷ pos 5 ∷ [])) (two (pos 0) absent_word) ∷
    reaches between (pos 0 ∷ negsuc 4 ∷ pos 2 ∷ []) (old 15) (reached 2 (pos 0 ∷ negsuc 4 ∷ pos 1 ∷ [])) (between_lines ++ old 1) ∷
    reaches between (pos 0 ∷ pos 1_000_000_001 ∷ pos 2 ∷ []) (old 14) (not_reached 11) (old 14) ∷
    []

abbrev between_sheet : Sheet
between_sheet =
    record {
      panels = 2;
      triggers = 3;
      lag = table ((num (pos 2) ∷ absent ∷ num (pos 0) ∷ []) ∷ (num (pos 4) ∷ absent ∷ num (pos 1) ∷ []) ∷ []);
      measure = by_marks (row (num (pos 5) ∷ num (pos 2) ∷ [])) (λ j. val (row (num (pos 1) ∷ num (negsuc 49) ∷ num (pos 2) ∷ []) j));
      after = table ((absent ∷ absent ∷ absent ∷ []) ∷ (absent ∷ absent ∷ absent ∷ []) ∷ (absent ∷ absent ∷ absent ∷ []) ∷ []);
      land = none;
      last = none;
    }

between_readable : Readable (cue_size between_sheet) (cue_of between_sheet)
between_readable = cue_readable between_sheet (0, lit< tt, (pos 5, refl)) lagged
  where
    lagged : (i : ℕ) → i < 2 → (j : ℕ) × (j < 3) × Present (between_sheet.lag i j)
    lagged nat.zero h = (0, lit< tt, (pos 2, refl))
    lagged (nat.suc nat.zero) h = (0, lit< tt, (pos 4, refl))
    lagged (nat.suc (nat.suc i)) h = absurd (let e : ⊥ = omega arith in e)

between_ordered : Orderly between_sheet
unfolding orderly? order_table spare used rank place sum no_gain? gain_or mm mv power idm sup sup_l ◌⊗◌ ◌⊕◌ ≼_dec all_or all_dec decide
between_ordered = decide_yes (orderly? between_sheet) tt

-- three times, whatever follows
abbrev three_times : ℤ → ℤ → ℤ → List ℤ → sheets.Timing
three_times a b c rest = component (a ∷ b ∷ c ∷ rest)

-- ---- the whole table
pub spare_cases_hold : Every CaseHolds spare_cases
unfolding reaching reached_space admitted latest_exists latest_on lowered latest made fit planning space_after keeping sheet_byte sheet_count sheet_kept
    byte_of sheet_lines spare used rank place filled layout
    testing tightest? keeps? Keeps same_entry? deviation shortfall ordered orderly? order_table line_words
    lent_words read sheet.lines sheet.ruled sheet.line rows sections optional checked any ended items item signed value behind literal bytes least least_E steps
    selections lines minimal needed? others combination? asked? met? under_dec fixings walk kept cut serves_as_well floor_panels through pull pull_E
    overdue need seed ray candidate candidates no_gain? gain_or mm mv star power idm normal sup sup_l at line put sift each map_l sum val inv ◌⊗◌
    ◌⊕◌ maxz ◌+z◌ neg dec_le z_dec ≼_dec present_dec all_or all_dec any_dec dec_× dec_¬ dec_→ lt_E_cmp lt_l_cmp strict same? decide
spare_cases_hold =
    all_hold
    ((refl, refl) then (refl, refl) then (refl, refl) then (refl, refl) then (refl, refl) then
    (refl, refl) then (refl, refl) then (refl, refl) then (refl, refl) then (refl, refl) then
    refl then refl then
    (λ rest. says_yes between between_sheet refl between_readable between_ordered (three_times (pos 0) (negsuc 999_999_999) (pos 1) rest) refl tt tt) then
    (λ rest. says_no between between_sheet refl between_readable between_ordered (three_times (pos 0) (pos 0) (pos 2) rest) refl (λ h. h)) then
    (λ rest. (refl, refl)) then (λ rest. (refl, refl)) then (λ rest. (refl, refl)) then
    done)
