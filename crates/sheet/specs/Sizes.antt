-- How large each result is for the sheets that are read: cue's sizes at the limits on a sheet's entries.
use Rattle.std.specs.Prelude.{ℕ, ◌+◌, ◌*◌}
use Rattle.cue.specs.Sizes as sizes
use Rattle.sheet.specs.Sheet.{limit}

-- an entry of the order table is one of an after line, or one of a land line and a lag
abbrev pub order_limit : ℕ
order_limit = 2 * limit

-- M*; d
abbrev pub star_size : ℕ
star_size = sizes.star_size limit order_limit

abbrev pub through_size : ℕ
through_size = sizes.through_size limit order_limit

-- r as a due mark, turned as a pull; Δ; w; a line
abbrev pub mark_down : ℕ
mark_down = sizes.mark_down limit order_limit

abbrev pub least_up : ℕ
least_up = sizes.least_up limit order_limit

abbrev pub need_down : ℕ
need_down = sizes.need_down limit order_limit

abbrev pub line_down : ℕ
line_down = sizes.line_down limit order_limit

-- a cap: a landing is at most a lag, so that it is two limits below 0 at the least; a line's landing is at least its lowest component and a lag
abbrev pub cap_down : ℕ
cap_down = 2 * limit

abbrev pub cap_up : ℕ
cap_up = line_down + 2 * limit

-- words on the way: p(i) − Δ; a ray, made of M* and what panels want, before and after the shift; its lateness
abbrev pub ask_size : ℕ
ask_size = sizes.ask_size limit order_limit

abbrev pub starred_size : ℕ
starred_size = sizes.starred_size limit order_limit

abbrev pub shifted_size : ℕ
shifted_size = sizes.shifted_size limit order_limit

abbrev pub late_size : ℕ
late_size = sizes.late_size limit order_limit
