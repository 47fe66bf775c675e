-- "Every sheet so made is accepted and its order can be kept" (document 02, No. 6): of the bytes that the generator writes.
use Rattle.std.specs.Prelude.{◌≡◌, ℕ, ◌/◌, ◌≤◌, true, List, [], length, take, ℤ}
use Rattle.cue.specs.Written.{width}
use Rattle.sheet.specs.Sheet.{got, Sheet, read}
use Rattle.sheet.specs.Meaning.{Timing, Keeps}
use Rattle.sheet.specs.Cue.{sheet_caps, sheet_lines}
use Rattle.sheet_text.specs.SheetText.{sheet_text, trimmed}
use Rattle.planning.specs.Planning.{planning}
use Rattle.planning.specs.Demands.{Planned}
use Rattle.hiring.specs.Hiring.{drawn, sheet_from, draws, HireOutcome, hired, size?, hiring, bytes_after, hire_answer, hired_in}

-- the bytes of the sheet: as many as were written, at the front of those lent
abbrev pub front : HireOutcome → List ℕ → List ℕ
front o lent = take (hired_in (hire_answer o)).length (bytes_after o lent)

-- reading gives the tables t; some times keep the order; planning with room for the lines is no refusal
pub record Accepted (t : Sheet) (sheet : List ℕ) : Type 0 where
  pub tables : read sheet ≡ got t []
  pub kept : (X : Timing) × Keeps t X
  pub planned : (space : List ℤ) → length (sheet_lines t) ≤ length space / width (sheet_caps t) → Planned (planning sheet space)

-- the tables drawn, which hold nothing outside the sizes
abbrev pub EveryAccepted : Type 0
EveryAccepted = (m n s : ℕ) (lent text : List ℕ) (state : ℕ) → hiring m n s (length lent) ≡ hired text state →
    Accepted (trimmed (sheet_from m n s)) (front (hiring m n s (length lent)) lent)

-- 13 has no part where 1,133 bytes are lent, as many as the longest good sheet has
abbrev pub RoomEnough : Type 0
RoomEnough = (m n s room : ℕ) → size? m ≡ true → size? n ≡ true → 1133 ≤ room →
    hiring m n s room ≡ hired (sheet_text (sheet_from m n s)) (drawn s (draws m n))
