-- How many words a line takes, and room for so many lines.
use mathlib.Core.Path.{◌≡◌, refl, ap, sym}
use mathlib.Core.Bool.{true, false, true≢false}
use mathlib.Core.Option.{Option, none, some}
use Prim.Native.Nat.{ℕ, ◌*◌, ◌/◌, ◌≤◌, ◌<◌}
use native.Mathlib.Omega.{arith}
use lib.IntN.{ℤ}
use Rattle.cue.specs.Written.{line_size, capped_size, width}
use Rattle.sheet.specs.Sheet.{Sheet, given}
use Rattle.sheet.specs.Cue.{caps_by, sheet_caps}

-- the lines of a sheet with a last line have caps, others have none
capped_by : (t : Sheet) (last : Option (ℕ → ℤ)) → given last ≡ true → capped_size ≡ width (caps_by t last)
capped_by t none e = absurd (true≢false (sym e))
capped_by t (some b) e = refl

plain_by : (t : Sheet) (last : Option (ℕ → ℤ)) → given last ≡ false → line_size ≡ width (caps_by t last)
plain_by t none e = refl
plain_by t (some b) e = absurd (true≢false e)

pub width_capped : (t : Sheet) → given t.last ≡ true → capped_size ≡ width (sheet_caps t)
width_capped t = capped_by t t.last

pub width_plain : (t : Sheet) → given t.last ≡ false → line_size ≡ width (sheet_caps t)
width_plain t = plain_by t t.last

-- so many lines of so many words have room
pub width_room : {A : Type 0} (o : Option A) (k l : ℕ) → k ≤ l / width o → width o * k ≤ l
width_room none k l h = omega arith
width_room (some a) k l h = omega arith

-- and what a caller divides by
pub wide_there : {A : Type 0} (o : Option A) {w : ℕ} → w ≡ width o → 0 < w
wide_there none e = omega arith
wide_there (some a) e = omega arith

pub room_fits : {A : Type 0} (o : Option A) {w : ℕ} (l : ℕ) → w ≡ width o → line_size * (l / w) ≤ l
room_fits none l e = rw e (omega arith)
room_fits (some a) l e = rw e (omega arith)

pub room_same : (l : ℕ) {w v : ℕ} → w ≡ v → l / w ≡ l / v
room_same l e = ap (λ w. l / w) e
