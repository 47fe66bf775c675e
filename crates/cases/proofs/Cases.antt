-- Document 01's cases marked P, and cases of document 02's No. 1.
use mathlib.Core.Path.{refl}
use mathlib.Core.Bool.{decide}
use mathlib.Core.Option.{none}
use mathlib.Core.List.{List, [], ◌∷◌, ◌++◌}
use Prim.Native.Nat.{ℕ, ◌-◌, ◌<◌}
use Prim.Native.Nat as nat
use native.Mathlib.Omega.{arith}
use lib.Dec.{lit<}
use Prim.Native.String.{String}
use Prim.Native.String as string
use native.Mathlib.Decide.{dec_le}
use lib.IntN.{ℤ, pos, negsuc}
use Rattle.maxplus.specs.Whole.{◌+z◌, neg, maxz}
use Rattle.maxplus.specs.Entry.{absent, num, ◌⊗◌, ◌⊕◌, inv, val, Present}
use Rattle.maxplus.specs.Finite.{each, map_l, sum, byte_of}
use Rattle.maxplus.specs.Packing.{rank, place, filled, layout}
use Rattle.maxplus.specs.Tables.{sup, sup_l, mv, mm, idm, power, star, normal}
use Rattle.maxplus.specs.Line.{at, line}
use Rattle.maxplus.specs.Sorted.{put, sift}
use Rattle.maxplus.proofs.WholeLaws.{z_dec}
use Rattle.maxplus.proofs.EntryLaws.{≼_dec, present_dec, same_entry?}
use Rattle.maxplus.proofs.FiniteLaws.{all_or, all_dec, any_dec, dec_×, dec_¬, dec_→, decide_yes}
use Rattle.maxplus.proofs.LineLaws.{lt_E_cmp, lt_l_cmp, strict, same?}
use Rattle.maxplus.proofs.CombinationLaws.{under_dec, met?, asked?, combination?}
use Rattle.maxplus.proofs.StarLaws.{gain_or, no_gain?}
use Rattle.cue.specs.Minimal.{others, needed?, minimal}
use Rattle.cue.specs.Cue.{overdue, shortfall}
use Rattle.cue.specs.Vectors.{Keeps, deviation, Readable}
use Rattle.cue.specs.Method.{through, pull_E, pull, least_E, least, floor_panels, serves_as_well, cut, walk, fixings, kept}
use Rattle.cue.specs.Method.{selections, steps, need, seed, ray, candidate, candidates, lines}
use Rattle.cue.proofs.Order.{keeps?}
use Rattle.cue.proofs.Deviation.{tightest?}
use Rattle.sheet.specs.Text.{bytes}
use Rattle.sheet.specs.Sheet.{literal, value, behind, signed, item, ended, items, any, checked, rows, row, table, sections, optional, read}
use Rattle.sheet.specs.Sheet.{Sheet, by_marks, spare}
use Rattle.sheet.specs.Cue.{used, cue_size, order_table, cue_of, Orderly, orderly?, sheet_kept, sheet_byte, sheet_count, sheet_lines}
use Rattle.sheet.specs.Overruns.{lowered}
use Rattle.sheet.proofs.Spares.{cue_readable}
use Rattle.sheet.specs.Sheet as sheet
use Rattle.cue.specs.Written.{line_words, lent_words}
use Rattle.sheet.specs.Ordered.{ordered}
use Rattle.sheet.specs.Admitted.{admitted}
use Rattle.sheet.proofs.Latest.{latest_on, latest_exists}
use Rattle.cue.specs.Latest.{fit, made, latest}
use Rattle.planning.specs.Planning.{planning, space_after}
use Rattle.keeping.specs.Keeping.{keeping}
use Rattle.testing.specs.Testing.{testing}
use Rattle.reaching.specs.Reaching.{reaching, reached_space}
use Rattle.cases.proofs.Case.{Yes, No, Case, CaseHolds, Every, planned, full, no_plan, reached, no_room, not_reached, kept_triggers, no_table, absent_word}
use Rattle.cases.proofs.Case.{old, one, two, all_hold, times, done, ◌then◌, plans, keeps, tests, reaches, says_yes, says_no}

-- "sheets of one panel and one trigger, lag 5, floor 0, due 0"
abbrev one_by_one : String → String
one_by_one after = string.◌++◌ "panels=1\ntriggers=1\nlag=5\nfloor=0\ndue=0\nafter=" (string.◌++◌ after "\n")

abbrev ordered_by : String
ordered_by = "panels=1\ntriggers=2\nlag=0,0\nfloor=0\ndue=0,0\nafter=-,-\nafter=1,-\n"

abbrev one_floor : String
one_floor = "panels=2\ntriggers=2\nlag=0,-\nlag=-,0\nfloor=0,-\ndue=0,0\nafter=-,-\nafter=-,-\n"

abbrev whole_case : String
whole_case = "panels=2\ntriggers=2\nlag=2,0\nlag=4,1\nfloor=5,2\ndue=1,2\nafter=-,-\nafter=-,-\n"

abbrev whole_lines : List ℤ
whole_lines = two (negsuc 0) (pos 0) ++ two (pos 0) absent_word

-- what document 01 gives of a case, and the definition's value where it gives none; of reaching, the README's wishes, a timing below the
-- limit on wishes, and each refusal before the next
abbrev pub cases : List Case
cases =
    plans (one_by_one "-") (old 9) (planned 1 (negsuc 4) 1 1 1) (one (pos 0) ++ old 2) ∷
    plans (one_by_one "0") (old 7) (planned 1 (negsuc 4) 1 1 1) (one (pos 0)) ∷
    plans (one_by_one "1") (old 7) (no_plan 8) (old 7) ∷
    plans (one_by_one "-1") (old 7) (planned 1 (negsuc 4) 1 1 1) (one (pos 0)) ∷
    plans ordered_by (old 14) (planned 2 (pos 0) 2 2 2) (two absent_word (pos 0) ++ two (negsuc 0) (pos 0)) ∷
    plans one_floor (old 15) (planned 2 (pos 0) 1 1 2) (two (pos 0) absent_word ++ two (pos 0) (pos 0) ++ old 1) ∷
    plans whole_case (old 14) (planned 2 (pos 2) 2 1 2) whole_lines ∷
    plans whole_case (old 7) (full 2) (old 7) ∷
    plans whole_case (old 13) (full 2) (old 13) ∷
    keeps (one_by_one "-") (kept_triggers (negsuc 4) 1 1 (1 ∷ []) (1 ∷ [])) ∷
    keeps (one_by_one "0") (kept_triggers (negsuc 4) 1 1 (1 ∷ []) (1 ∷ [])) ∷
    keeps (one_by_one "1") (no_table 8) ∷
    keeps (one_by_one "-1") (kept_triggers (negsuc 4) 1 1 (1 ∷ []) (1 ∷ [])) ∷
    keeps ordered_by (kept_triggers (pos 0) 2 2 (3 ∷ []) (2 ∷ [])) ∷
    keeps one_floor (kept_triggers (pos 0) 1 1 (1 ∷ 0 ∷ []) (1 ∷ 0 ∷ [])) ∷
    keeps whole_case (kept_triggers (pos 2) 2 1 (1 ∷ 3 ∷ []) (1 ∷ 2 ∷ [])) ∷
    tests whole_case (pos 0 ∷ pos 0 ∷ []) Yes ∷
    tests whole_case (pos 0 ∷ pos 1 ∷ []) Yes ∷
    tests whole_case (pos 0 ∷ pos 2 ∷ []) No ∷
    reaches whole_case (pos 0 ∷ pos 2 ∷ []) (old 15) (reached 2 (pos 0 ∷ pos 1 ∷ [])) (whole_lines ++ old 1) ∷
    reaches whole_case (pos 1 ∷ pos 2 ∷ []) (old 14) (reached 2 (pos 1 ∷ pos 2 ∷ [])) whole_lines ∷
    reaches ordered_by (negsuc 999_999_999 ∷ negsuc 999_999_999 ∷ []) (old 14) (reached 2 (negsuc 1_000_000_000 ∷ negsuc 999_999_999 ∷ []))
    (two absent_word (pos 0) ++ two (negsuc 0) (pos 0)) ∷
    reaches whole_case (pos 0 ∷ pos 2 ∷ []) (old 13) (no_room 2) (old 13) ∷
    reaches (one_by_one "1") (pos 0 ∷ []) [] (not_reached 8) [] ∷
    reaches (one_by_one "1") (pos 1_000_000_001 ∷ []) (old 7) (not_reached 11) (old 7) ∷
    reaches whole_case (pos 1_000_000_001 ∷ []) (old 7) (not_reached 10) (old 7) ∷
    reaches "panels=7\n" (pos 0 ∷ []) (old 7) (not_reached 3) (old 7) ∷
    []

-- ---- "in the whole case, times 0,0 and 0,1 are tightest; 0,2 is not"
abbrev whole : Sheet
whole =
    record {
      panels = 2;
      triggers = 2;
      lag = table ((num (pos 2) ∷ num (pos 0) ∷ []) ∷ (num (pos 4) ∷ num (pos 1) ∷ []) ∷ []);
      measure = by_marks (row (num (pos 5) ∷ num (pos 2) ∷ [])) (λ j. val (row (num (pos 1) ∷ num (pos 2) ∷ []) j));
      after = table ((absent ∷ absent ∷ []) ∷ (absent ∷ absent ∷ []) ∷ []);
      land = none;
      last = none;
    }

whole_readable : Readable (cue_size whole) (cue_of whole)
whole_readable = cue_readable whole (0, lit< tt, (pos 5, refl)) lagged
  where
    lagged : (i : ℕ) → i < 2 → (j : ℕ) × (j < 2) × Present (whole.lag i j)
    lagged nat.zero h = (0, lit< tt, (pos 2, refl))
    lagged (nat.suc nat.zero) h = (0, lit< tt, (pos 4, refl))
    lagged (nat.suc (nat.suc i)) h = absurd (let e : ⊥ = omega arith in e)

whole_ordered : Orderly whole
unfolding orderly? order_table spare used rank place sum no_gain? gain_or mm mv power idm sup sup_l ◌⊗◌ ◌⊕◌ ≼_dec all_or all_dec decide
whole_ordered = decide_yes (orderly? whole) tt

-- ---- the whole table
pub cases_hold : Every CaseHolds cases
unfolding reaching reached_space admitted latest_exists latest_on lowered latest made fit planning space_after keeping sheet_byte sheet_count sheet_kept
    byte_of sheet_lines spare used rank place filled layout
    testing tightest? keeps? Keeps same_entry? deviation shortfall ordered orderly? order_table line_words
    lent_words read sheet.lines sheet.ruled sheet.line rows sections optional checked any ended items item signed value behind literal bytes least least_E steps
    selections lines minimal needed? others combination? asked? met? under_dec fixings walk kept cut serves_as_well floor_panels through pull pull_E
    overdue need seed ray candidate candidates no_gain? gain_or mm mv star power idm normal sup sup_l at line put sift each map_l sum val inv ◌⊗◌
    ◌⊕◌ maxz ◌+z◌ neg dec_le z_dec ≼_dec present_dec all_or all_dec any_dec dec_× dec_¬ dec_→ lt_E_cmp lt_l_cmp strict same? decide
cases_hold =
    all_hold
    ((refl, refl) then (refl, refl) then (refl, refl) then
    (refl, refl) then (refl, refl) then (refl, refl) then
    (refl, refl) then (refl, refl) then (refl, refl) then
    refl then refl then refl then refl then refl then refl then refl then
    (λ rest. says_yes whole_case whole refl whole_readable whole_ordered (times 0 0 rest) refl tt tt) then
    (λ rest. says_yes whole_case whole refl whole_readable whole_ordered (times 0 1 rest) refl tt tt) then
    (λ rest. says_no whole_case whole refl whole_readable whole_ordered (times 0 2 rest) refl (λ h. h)) then
    (λ rest. (refl, refl)) then (λ rest. (refl, refl)) then (λ rest. (refl, refl)) then (λ rest. (refl, refl)) then
    (λ rest. (refl, refl)) then (λ rest. (refl, refl)) then (λ rest. (refl, refl)) then (λ rest. (refl, refl)) then
    done)
