-- The sentences that the programs write for a person who reads a refusal: what its number means and what to look at (document 01, "What each
-- operation may refuse"; document 02).
use Rattle.std.specs.Prelude.{List, [], ◌∷◌, ◌++◌, ℕ, get_or}
use Rattle.sheet.specs.Text.{bytes}

-- those of 1 to 14, in order
unfoldable pub sentences : List (List ℕ)
sentences =
    bytes "The sheet has more than 2048 bytes, and no right sheet is so long: look whether it is the right file.\n" ∷
    (bytes "A line is missing or has a wrong key, number of items, numeral or line end: the lines are rule=2 or none, panels=, triggers=, lag= for " ++
    bytes "each panel, floor= and due= where there is no rule=2, after= for each trigger, then land= for each trigger or none, then last= or none, " ++
    bytes "in this order, with no spaces, LF after every line and nothing more.\n") ∷
    bytes "The number of panels or of triggers is not from 1 to 6: look at panels= and triggers=.\n" ∷
    bytes "A number is outside -100000 to 100000: look at the lag=, floor=, due=, after=, land= and last= lines.\n" ∷
    bytes "A due mark or a last moment is absent: the due= line needs a number for each trigger, the last= line one for each panel.\n" ∷
    bytes "A panel has no lag: each lag= line needs at least one number.\n" ∷
    bytes "No panel has a floor: the floor= line needs at least one number.\n" ∷
    (bytes "No times keep the order: rules of the after= and land= lines, with the lags to panels waited for, form a circle that adds up to " ++
    bytes "more than 0, so that a trigger would have to come later than itself.\n") ∷
    bytes "The list has more lines than there is space for: count= on standard output says how many it has.\n" ∷
    bytes "There are not as many times as triggers: give one for each trigger of the sheet, in order, split by commas.\n" ∷
    bytes "A time is outside -1000000000 to 1000000000 milliseconds: look at the times given.\n" ∷
    bytes "The number of panels or of triggers asked for is not from 1 to 6: look at the first two numbers given.\n" ∷
    bytes "The sheet asked for is longer than the space lent for it: 1133 bytes are always enough.\n" ∷
    (bytes "A trigger that is not spare has no lag, and under rule=2 each needs one: look at its place in the lag= lines, or take it out of the " ++
    bytes "after= and land= lines.\n") ∷
    []

-- a refusal's sentence; nothing for a number that is no refusal's
unfoldable pub advice : ℕ → List ℕ
advice k = get_or ([] ∷ sentences) k []
