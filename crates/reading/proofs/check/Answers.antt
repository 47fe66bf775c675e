-- `reading::check` meets its contract. Assumes nothing.
use mathlib.Core.Path.{sym, ◌∙◌}
use native.Mathlib.Omega.{arith}
use Rattle.sheet.proofs.SectionLaws.{finished_left, finished_no_lag, finished_no_floor, finished_missing, finished_good}
use Rattle.reading.proofs.MissingLaws.{missing_words}
use Rattle.reading.proofs.CheckLaws.{lag_said, floor_said}
use Rattle.reading.proofs.check.Goals as goal

pub returns-then-left-ne0 : goal.returns-then-left-ne0
returns-then-left-ne0 c =
    λ two m n ts land last y few-m few-n K e l. let some = c.if-left-ne0.true in finished_left two m n ts land last y (λ z. some (sym l ∙ z))

pub returns-then-no_lag : goal.returns-then-no_lag
returns-then-no_lag c =
    λ two m n ts land last y few-m few-n K e l.
    let none = c.if-left-ne0.false in
    finished_no_lag two m n ts land last y (omega arith) (sym (lag_said few-m few-n K (rw e at c.empty_row-no_lag.ensures)) ∙ c.if-no_lag.true)

pub returns-then-no_floor : goal.returns-then-no_floor
returns-then-no_floor c =
    λ two m n ts land last y few-m few-n K e l.
    let none = c.if-left-ne0.false in
    finished_no_floor two m n ts land last y (omega arith) (sym (lag_said few-m few-n K (rw e at c.empty_row-no_lag.ensures)) ∙ c.if-no_lag.false)
    (sym (floor_said few-m K (rw e at c.without_floor-no_floor.ensures)) ∙ c.if-no_floor.true)

pub returns-then-no_mark : goal.returns-then-no_mark
returns-then-no_mark c =
    λ two m n ts land last y few-m few-n K e l.
    let none = c.if-left-ne0.false in
    finished_missing two m n ts land last y (omega arith) (sym (lag_said few-m few-n K (rw e at c.empty_row-no_lag.ensures)) ∙ c.if-no_lag.false)
    (sym (floor_said few-m K (rw e at c.without_floor-no_floor.ensures)) ∙ c.if-no_floor.false)
    (sym (rw e at c.unmeasured-no_mark.ensures ∙ missing_words few-m few-n K) ∙ c.if-no_mark.true)

pub returns : goal.returns
returns c =
    λ two m n ts land last y few-m few-n K e l.
    let none = c.if-left-ne0.false in
    finished_good two m n ts land last y (omega arith) (sym (lag_said few-m few-n K (rw e at c.empty_row-no_lag.ensures)) ∙ c.if-no_lag.false)
    (sym (floor_said few-m K (rw e at c.without_floor-no_floor.ensures)) ∙ c.if-no_floor.false)
    (sym (rw e at c.unmeasured-no_mark.ensures ∙ missing_words few-m few-n K) ∙ c.if-no_mark.false)
