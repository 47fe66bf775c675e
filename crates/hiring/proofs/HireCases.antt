-- Sheets worked out by hand, and the edges of 12 and 13, by the value of the definitions.
use Rattle.std.proofs.Common.{◌≡◌, [], ◌∷◌, refl}
use Rattle.maxplus.specs.Entry.{val}
use Rattle.maxplus.specs.Finite.{each}
use Rattle.sheet.specs.Text.{bytes}
use Rattle.writing.specs.Numerals.{digits}
use Rattle.writing.specs.Texts.{joined}
use Rattle.sheet_text.specs.SheetText.{rows_text, sheet_text}
use Rattle.hiring.specs.Hiring.{drawn, drawn_number, drawn_item, absence, drawn_items, sheet_from, chained, hired, refused, hiring}

-- Two panels and two triggers from state 1. Each state is 2,654,435,769 more than the one before, less 2^32 where it exceeds that; u is its
-- quotient by 65,536; then the remainders of u by 7 and, less 1,000, by 2,001:
--
--     state          u      by 7   number   item
--     2654435770   40503      1     -517    first lag of panel 1, never absent
--     1013904243   15470      0      463    second lag: absent by 7
--     3668340012   55974      2      947    first lag of panel 2
--     2027808485   30941      1      -74    its second
--      387276958    5909      1      907    first floor, never absent
--     3041712727   46412      2     -611    second floor
--     1401181200   21380      2      370    first due mark
--     4055616969   61883      3      853    second
--     2415085442   36851      3     -167    after(1,1): on the diagonal, always absent
--      774553915   11818      2      813    after(1,2): above it
--     3428989684   52322      4     -704    after(2,1): below it
--     1788458157   27289      3      276    after(2,2): on it
--
-- One panel and one trigger from state 0: the second draw leaves 0 by 7, but the first floor is never absent.
pub hire_cases_hold :
    hiring 2 2 1 93 ∷ hiring 2 2 1 92 ∷ hiring 1 1 0 55 ∷ hiring 1 1 0 54 ∷ hiring 1 1 4_294_967_295 55 ∷ hiring 2 3 7 200 ∷
    hiring 0 1 0 200 ∷ hiring 1 0 0 200 ∷ hiring 7 1 0 200 ∷ hiring 1 7 0 200 ∷ hiring 0 1 0 0 ∷ hiring 1 7 0 0 ∷ hiring 6 6 0 0 ∷ [] ≡
    hired (bytes "panels=2\ntriggers=2\nlag=-517,-\nlag=947,-74\nfloor=907,-611\ndue=370,853\nafter=-,-\nafter=-704,-\n") 1_788_458_157 ∷
    refused 13 ∷
    hired (bytes "panels=1\ntriggers=1\nlag=-517\nfloor=463\ndue=947\nafter=-\n") 2_027_808_484 ∷
    refused 13 ∷
    hired (bytes "panels=1\ntriggers=1\nlag=-517\nfloor=463\ndue=947\nafter=-\n") 2_027_808_483 ∷
    hired
    (bytes "panels=2\ntriggers=3\nlag=-517,-,947\nlag=-74,907,-611\nfloor=370,853\ndue=-167,813,-704\nafter=-,-,-\nafter=720,-,-\nafter=-838,-354,-\n")
    1_549_107_835 ∷
    refused 12 ∷ refused 12 ∷ refused 12 ∷ refused 12 ∷ refused 12 ∷ refused 12 ∷ refused 13 ∷ []
unfolding hiring sheet_from drawn_items absence drawn_item drawn_number drawn sheet_text rows_text joined digits bytes each val
hire_cases_hold = refl

-- the state behind two sheets of one by one, of four draws each, is that behind eight draws
pub chain_holds : chained 1 1 0 2 ≡ drawn 0 8
unfolding chained drawn
chain_holds = refl
