-- What the program writes for document 01's whole case with the times 0,2 and 1,2, and with last moments; and for too few times, for a time
-- beyond the limit, for a sheet whose order cannot be kept, for no sheet, and for 9. By the value of the definitions.
use mathlib.Core.Path.{◌≡◌, refl}
use mathlib.Core.List.{List, [], ◌∷◌}
use Prim.Native.Nat.{ℕ, zero, suc}
use native.Mathlib.Decide.{dec_le}
use lib.IntN.{ℤ, pos}
use Rattle.maxplus.specs.Whole.{◌+z◌, neg, maxz}
use Rattle.maxplus.specs.Entry.{◌⊗◌, ◌⊕◌, inv, val}
use Rattle.maxplus.specs.Finite.{each, map_l, sum}
use Rattle.maxplus.specs.Packing.{rank, place, filled, layout}
use Rattle.maxplus.specs.Tables.{sup, sup_l, mv, mm, idm, power, star, normal}
use Rattle.maxplus.specs.Line.{at, line}
use Rattle.maxplus.specs.Sorted.{put, sift}
use Rattle.maxplus.proofs.WholeLaws.{z_dec}
use Rattle.maxplus.proofs.EntryLaws.{≼_dec, present_dec}
use Rattle.maxplus.proofs.FiniteLaws.{all_or, all_dec, any_dec, dec_×, dec_¬, dec_→}
use Rattle.maxplus.proofs.LineLaws.{lt_E_cmp, lt_l_cmp, strict, same?}
use Rattle.maxplus.proofs.CombinationLaws.{under_dec, met?, asked?, combination?}
use Rattle.maxplus.proofs.StarLaws.{gain_or, no_gain?}
use Rattle.cue.specs.Minimal.{others, needed?, minimal}
use Rattle.cue.specs.Cue.{overdue, shortfall}
use Rattle.cue.specs.Latest.{made, fit, latest}
use Rattle.cue.specs.Method.{through, pull_E, pull, least_E, least, floor_panels, serves_as_well, cut, walk, fixings, kept}
use Rattle.cue.specs.Method.{selections, need, seed, ray, candidate, candidates, lines}
use Rattle.sheet.specs.Text.{bytes}
use Rattle.sheet.specs.Sheet.{literal, value, behind, signed, item, ended, items, any, checked, rows, sections, optional, read, spare}
use Rattle.sheet.specs.Sheet as sheet
use Rattle.sheet.specs.Cue.{used, order_table, orderly?, sheet_lines}
use Rattle.sheet.specs.Overruns.{overrun, lowered}
use Rattle.sheet.specs.Ordered.{ordered}
use Rattle.sheet.specs.Admitted.{admitted}
use Rattle.sheet.specs.Meaning.{Timing}
use Rattle.sheet.proofs.Latest.{latest_on, latest_exists}
use Rattle.writing.specs.Numerals.{digits}
use Rattle.writing.specs.Texts.{joined, latest_text, refusal_text, full_text}
use Rattle.reaching.specs.Reaching.{full}
use Rattle.latest.specs.Output.{reached_text, program_text}

abbrev whole : List ℕ
whole = bytes "panels=2\ntriggers=2\nlag=2,0\nlag=4,1\nfloor=5,2\ndue=1,2\nafter=-,-\nafter=-,-\n"

abbrev circle : List ℕ
circle = bytes "panels=1\ntriggers=1\nlag=5\nfloor=0\ndue=0\nafter=1\n"

-- with last moments that leave trigger 1 until 0 and trigger 2 until 2
abbrev timed : List ℕ
timed = bytes "panels=2\ntriggers=2\nlag=2,0\nlag=4,1\nfloor=5,2\ndue=1,2\nafter=-,-\nafter=-,-\nlast=2,4\n"

-- two times
abbrev times : ℤ → ℤ → Timing
times a b zero = a
times a b (suc j) = b

pub texts_hold : program_text whole 2 (times (pos 0) (pos 2)) ∷ program_text whole 2 (times (pos 1) (pos 2)) ∷
    program_text whole 1 (times (pos 0) (pos 2)) ∷ program_text whole 2 (times (pos 0) (pos 1_000_000_001)) ∷
    program_text circle 1 (times (pos 0) (pos 0)) ∷ program_text (bytes "") 1 (times (pos 0) (pos 0)) ∷
    reached_text (full 7 2) ∷ program_text timed 2 (times (pos 5) (pos 5)) ∷ [] ≡
    bytes "latest=0,1\n" ∷ bytes "latest=1,2\n" ∷ bytes "refused=10\n" ∷ bytes "refused=11\n" ∷ bytes "refused=8\n" ∷ bytes "refused=2\n" ∷
    bytes "refused=9\ncount=2\n" ∷ bytes "latest=0,1\n" ∷ []
unfolding program_text latest_text refusal_text full_text joined digits admitted ordered order_table orderly? read sheet.lines sheet.ruled sheet.line rows
    latest_exists latest_on lowered overrun sheet_lines spare used rank place filled layout sum latest fit made
    sections optional checked any ended items item signed value behind literal bytes least least_E shortfall selections
    lines minimal needed? others combination? asked? met? under_dec fixings walk kept cut serves_as_well floor_panels through pull pull_E overdue need
    seed ray candidate candidates no_gain? gain_or mm mv star power idm normal sup sup_l at line put sift each map_l val inv ◌⊗◌ ◌⊕◌ maxz ◌+z◌ neg
    dec_le z_dec ≼_dec present_dec all_or all_dec any_dec dec_× dec_¬ dec_→ lt_E_cmp lt_l_cmp strict same?
texts_hold = refl
