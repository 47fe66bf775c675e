-- A load that the hire shop can repeat (document 02, No. 6): the sheet that m, n and a state make, the next state, and what the generator returns and
-- leaves in the lent bytes.
use Rattle.std.specs.Prelude.{ℕ, zero, suc, ◌+◌, ◌*◌, ◌/◌, ◌%◌, ◌^◌, Bool, cond, ◌&&◌, List, ◌++◌, length, drop, ℤ, pos, ◌-ℤ◌, ◌==◌, nat_le, nat_lt, Result, Ok, Err}
use Rattle.std.proofs.Math.Option.{none}
use Rattle.maxplus.specs.Entry.{E, absent, num, val}
use Rattle.maxplus.specs.Tables.{Mat}
use Rattle.cue.specs.Sizes.{size_limit}
use Rattle.sheet.specs.Sheet.{Sheet, by_marks}
use Rattle.sheet_text.specs.SheetText.{sheet_text}
use Rattle.refusals.specs.Numbers.{refusal_of}
use Rattle.refusals.specs.declared.Refusal.{Refusal}
use Rattle.hiring.specs.declared.Hired.{Hired}

-- ---- draws
-- "A draw adds 2,654,435,769 to s, discarding what exceeds 32 bits, then takes u, the upper 16 bits."
abbrev pub stride : ℕ
stride = 2_654_435_769

abbrev pub next : ℕ → ℕ
next s = (s + stride) % 2 ^ 32

abbrev pub upper : ℕ → ℕ
upper s = s / 2 ^ 16

-- the state after k draws
unfoldable pub drawn : ℕ → ℕ → ℕ
drawn s zero = s
drawn s (suc k) = next (drawn s k)

-- ---- one item
-- "the remainder of u by 2,001, less 1,000"
unfoldable pub drawn_number : ℕ → ℤ
drawn_number u = pos (u % 2001) -ℤ pos 1000

-- "The item is absent if u leaves remainder 0 by 7, otherwise it is" that number; or it is "never absent", or "always"
pub data Absence : Type 0 where
  by_sevens : Absence
  never : Absence
  always : Absence

unfoldable pub drawn_item : Absence → ℕ → E
drawn_item by_sevens u = cond (u % 7 == 0) absent (num (drawn_number u))
drawn_item never u = num (drawn_number u)
drawn_item always u = absent

-- "the first lag of each panel, the first floor and every due mark are never absent; after items on and above the diagonal always are": by the kind of
-- line, for the j-th item of the i-th line, both counted from 0
pub data Kind : Type 0 where
  first_there : Kind
  all_there : Kind
  below_diagonal : Kind

unfoldable pub absence : Kind → ℕ → ℕ → Absence
absence first_there i j = cond (j == 0) never by_sevens
absence all_there i j = never
absence below_diagonal i j = cond (nat_lt j i) by_sevens always

-- ---- one sheet
-- "A draw is spent on every lag, floor, due and after item in sheet order": the lines of a kind, of n items each, drawn from state s on
unfoldable pub drawn_items : Kind → ℕ → ℕ → Mat
drawn_items k n s i j = drawn_item (absence k i j) (upper (drawn s (suc (i * n + j))))

unfoldable pub sheet_from : ℕ → ℕ → ℕ → Sheet
sheet_from m n s =
    record {
      panels = m;
      triggers = n;
      lag = drawn_items first_there n s;
      measure = by_marks (drawn_items first_there m (drawn s (m * n)) 0) (λ j. val (drawn_items all_there n (drawn s (m * n + m)) 0 j));
      after = drawn_items below_diagonal n (drawn s (m * n + m + n));
      land = none;
      last = none;
    }

-- all draws of a sheet
abbrev pub draws : ℕ → ℕ → ℕ
draws m n = m * n + m + n + n * n

-- a chain of sheets, in which each starts from the state that the one before returned: the state from which one starts that k others precede
unfoldable pub chained : (m n s k : ℕ) → ℕ
chained m n s zero = s
chained m n s (suc k) = drawn (chained m n s k) (draws m n)

-- ---- what the generator does
-- "a generator writes one sheet …, and returns the next state"
pub data HireOutcome : Type 0 where
  hired : (text : List ℕ) (state : ℕ) → HireOutcome
  refused : ℕ → HireOutcome

abbrev pub size? : ℕ → Bool
size? k = nat_le 1 k && nat_le k size_limit

-- "It refuses sizes outside 1 to 6 as 12, then too little space as 13", where so many bytes are lent
unfoldable pub hiring : (m n s room : ℕ) → HireOutcome
hiring m n s room =
    let t = sheet_text (sheet_from m n s) in
    cond (size? m && size? n) (cond (nat_le (length t) room) (hired t (drawn s (draws m n))) (refused 13)) (refused 12)

-- "Any later operation that writes also writes at the front … and leaves the rest." "A refusal … changes no lent byte or word."
abbrev pub bytes_after : HireOutcome → List ℕ → List ℕ
bytes_after (hired t x) lent = t ++ drop (length t) lent
bytes_after (refused k) lent = lent

-- the answer in a program: how much was written and the next state, or the refusal
abbrev pub hire_answer : HireOutcome → Result Hired Refusal
hire_answer (hired t x) = Ok (record { length = length t; state = x })
hire_answer (refused k) = Err (refusal_of k)

-- what is returned of a sheet; 0 for both where there is none
abbrev pub hired_in : Result Hired Refusal → Hired
hired_in (Ok r) = r
hired_in (Err e) = record { length = 0; state = 0 }
