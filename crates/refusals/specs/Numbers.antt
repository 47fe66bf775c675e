-- "1: over 2,048 bytes" and so on: the refusals and their numbers (document 01, "Reading" and "What each operation may refuse"; document 02).
use Rattle.std.specs.Prelude.{ℕ, cond, ◌==◌}
use Rattle.refusals.specs.declared.Refusal.{Refusal}
use Rattle.refusals.specs.declared.Refusal.TheVariants as refusal

abbrev pub number : Refusal → ℕ
number refusal.SheetTooLong = 1
number refusal.WrongForm = 2
number refusal.NoSize = 3
number refusal.OutOfRange = 4
number refusal.MarkAbsent = 5
number refusal.PanelWithoutLag = 6
number refusal.NoFloor = 7
number refusal.NoTimes = 8
number refusal.WrongCount = 10
number refusal.TimeTooFar = 11
number refusal.NoLoadSize = 12
number refusal.SpaceTooShort = 13
number refusal.TriggerWithoutLag = 14

-- the refusal of a number: of each number above the refusal that has it
unfoldable pub refusal_of : ℕ → Refusal
refusal_of k =
    cond (k == 1) refusal.SheetTooLong
    (cond (k == 2) refusal.WrongForm
    (cond (k == 3) refusal.NoSize
    (cond (k == 4) refusal.OutOfRange
    (cond (k == 5) refusal.MarkAbsent
    (cond (k == 6) refusal.PanelWithoutLag
    (cond (k == 7) refusal.NoFloor
    (cond (k == 8) refusal.NoTimes
    (cond (k == 10) refusal.WrongCount
    (cond (k == 11) refusal.TimeTooFar
    (cond (k == 12) refusal.NoLoadSize
    (cond (k == 13) refusal.SpaceTooShort refusal.TriggerWithoutLag)))))))))))
