-- "The planning program, given [the whole case] on standard input, writes" document 01's text; and what it writes for the paper's Example 6 with
-- marks, for the same with a last line, for the whole case with a spare trigger between its two, for a sheet whose order cannot be kept, for no
-- sheet, and for 9. By the value of the definitions.
use mathlib.Core.Path.{◌≡◌, refl}
use mathlib.Core.List.{List, [], ◌∷◌, ◌++◌}
use Prim.Native.Nat.{ℕ}
use native.Mathlib.Decide.{dec_le}
use Rattle.maxplus.specs.Whole.{◌+z◌, neg, maxz}
use Rattle.maxplus.specs.Entry.{◌⊗◌, ◌⊕◌, inv, val}
use Rattle.maxplus.specs.Finite.{each, map_l, sum}
use Rattle.maxplus.specs.Tables.{sup, sup_l, mv, mm, idm, power, star, normal}
use Rattle.maxplus.specs.Line.{at, line}
use Rattle.maxplus.specs.Sorted.{put, sift}
use Rattle.maxplus.specs.Packing.{rank, place, filled, layout}
use Rattle.maxplus.proofs.WholeLaws.{z_dec}
use Rattle.maxplus.proofs.EntryLaws.{≼_dec, present_dec}
use Rattle.maxplus.proofs.FiniteLaws.{all_or, all_dec, any_dec, dec_×, dec_¬, dec_→}
use Rattle.maxplus.proofs.LineLaws.{lt_E_cmp, lt_l_cmp, strict, same?}
use Rattle.maxplus.proofs.CombinationLaws.{under_dec, met?, asked?, combination?}
use Rattle.maxplus.proofs.StarLaws.{gain_or, no_gain?}
use Rattle.cue.specs.Minimal.{others, needed?, minimal}
use Rattle.cue.specs.Cue.{overdue, shortfall}
use Rattle.cue.specs.Method.{through, pull_E, pull, least_E, least, floor_panels, serves_as_well, cut, walk, fixings, kept}
use Rattle.cue.specs.Method.{selections, steps, need, seed, ray, candidate, candidates, lines}
use Rattle.sheet.specs.Text.{bytes}
use Rattle.sheet.specs.Sheet.{literal, value, behind, signed, item, ended, items, any, checked, rows, sections, optional, read, spare}
use Rattle.sheet.specs.Sheet as sheet
use Rattle.sheet.specs.Meaning.{line_landing}
use Rattle.sheet.specs.Cue.{used, order_table, orderly?, sheet_lines, cap}
use Rattle.sheet.specs.Ordered.{ordered}
use Rattle.writing.specs.Numerals.{digits}
use Rattle.writing.specs.Texts.{joined, line_texts, plan_text, refusal_text, full_text}
use Rattle.planning.specs.Planning.{full}
use Rattle.plan.specs.Output.{text, program_text}

abbrev example : List ℕ
example =
    bytes "panels=3\ntriggers=3\nlag=3,-1,-\nlag=-2,2,0\nlag=-1,-,4\nfloor=0,0,0\ndue=-3,-2,-4\n" ++
    bytes "after=-,-,-3\nafter=2,-,-\nafter=1,-2,-\nland=-,-,-\nland=0,-,-3\nland=-1,-,-\n"

abbrev sheets : List (List ℕ)
sheets =
    bytes "panels=2\ntriggers=2\nlag=2,0\nlag=4,1\nfloor=5,2\ndue=1,2\nafter=-,-\nafter=-,-\n" ∷ example ∷ (example ++ bytes "last=7,7,7\n") ∷
    bytes "panels=2\ntriggers=3\nlag=2,-,0\nlag=4,-,1\nfloor=5,2\ndue=1,-9,2\nafter=-,-,-\nafter=-,-,-\nafter=-,-,-\n" ∷
    bytes "panels=1\ntriggers=1\nlag=5\nfloor=0\ndue=0\nafter=1\n" ∷ bytes "" ∷ []

pub texts_hold : map_l program_text sheets ++ text (full 7 2) ∷ [] ≡
    bytes "deviation=2\nsteps=2\nselections=1\ncount=2\nline=-1,0\nline=0,-\n" ∷
    bytes "deviation=3\nsteps=6\nselections=2\ncount=2\nline=-5,0,-2\nline=-3,0,-1\n" ∷
    bytes "deviation=3\nsteps=6\nselections=2\ncount=2\nline=-5,0,-2\ncap=5\nline=-3,0,-1\ncap=4\n" ∷
    bytes "deviation=2\nsteps=2\nselections=1\ncount=2\nline=-1,s,0\nline=0,s,-\n" ∷ bytes "refused=8\n" ∷ bytes "refused=2\n" ∷
    bytes "refused=9\ncount=2\n" ∷ []
unfolding program_text text plan_text refusal_text full_text line_texts joined digits ordered used spare order_table orderly? sheet_lines cap
    line_landing read sheet.lines sheet.ruled sheet.line rows sections optional checked any ended items item signed value behind literal bytes least least_E
    shortfall steps selections lines minimal needed? others combination? asked? met? under_dec fixings walk kept cut serves_as_well floor_panels
    through pull pull_E overdue need seed ray candidate candidates no_gain? gain_or mm mv star power idm normal sup sup_l at line rank place filled
    layout put sift each map_l sum val inv ◌⊗◌ ◌⊕◌ maxz ◌+z◌ neg dec_le z_dec ≼_dec present_dec all_or all_dec any_dec dec_× dec_¬ dec_→
    lt_E_cmp lt_l_cmp strict same?
texts_hold = refl
