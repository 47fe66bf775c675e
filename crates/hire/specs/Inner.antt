-- What the program's inner functions promise. Nothing public is stated here.
use Rattle.std.specs.Prelude.{ℕ, ◌-◌, ◌%◌, min, cond, ℤ, Option, Some, None}
use Rattle.maxplus.specs.Whole.{up}
use Rattle.sheet.specs.Sheet.{Got, got, refused}
use Rattle.argument.specs.Whole.{word_limit}
use Rattle.hire.specs.Call.{Wanted, state?, place?}
use Rattle.hire.specs.declared.asking.Call.{Call}

-- a number as a state, if it is one
abbrev pub state_of : ℤ → Option ℕ
state_of z = cond (state? z) (Some (up z)) None

-- how many sheets go before a place, if the number is one: only the remainder counts
abbrev pub before_of : ℤ → Option ℕ
before_of z = cond (place? z) (Some ((up z - 1) % word_limit)) None

-- a call as the program holds it: no size is as far as 2^32, and of the sheets before only the remainder counts
abbrev pub call : Wanted → Call
call w =
    record {
      panels = min w.panels word_limit;
      triggers = min w.triggers word_limit;
      state = w.state;
      before = w.before % word_limit;
    }

abbrev pub held : Got Wanted → Option Call
held (got w s) = Some (call w)
held (refused k) = None
