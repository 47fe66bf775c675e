-- From a sheet's bytes to its tables, or to the refusal of the first fault met (document 01, "The sheet" and "Reading"; document 02).
use Rattle.std.specs.Prelude.{List, [], ◌∷◌, Bool, true, false, cond, not, ◌&&◌, ◌||◌, ℕ, zero, suc, ◌+◌, ◌-◌, ◌*◌, leb, ltb, eqb, length, get_or, ℤ, pos}
use Rattle.std.proofs.Math.Option
use Rattle.std.proofs.Math.Option.{Option, none, some}
use Prim.Native.String.{String}
use Rattle.maxplus.specs.Whole.{up, dn, neg}
use Rattle.maxplus.specs.Entry.{E, absent, num, val, present?}
use Rattle.maxplus.specs.Finite.{each}
use Rattle.maxplus.specs.Tables.{sup, Vec, Mat}
use Rattle.sheet.specs.Text.{bytes}

-- What a part of the sheet gives: a value and the bytes behind it, or a refusal's number.
pub data Got (A : Type 0) : Type 0 where
  got : A → List ℕ → Got A
  refused : ℕ → Got A

-- "The first fault met ends the reading."
infixr 10 ◌>>=◌
abbrev pub ◌>>=◌ : {A B : Type 0} → Got A → (A → List ℕ → Got B) → Got B
got a s >>= f = f a s
refused k >>= f = refused k

-- whether something was read
abbrev pub got? : {A : Type 0} → Got A → Bool
got? (got a s) = true
got? (refused k) = false

-- "the key bytes exactly as shown", and likewise a comma or LF; anything else is 2
unfoldable pub literal : List ℕ → List ℕ → Got (Unit {0})
literal [] s = got tt s
literal (b ∷ k) [] = refused 2
literal (b ∷ k) (c ∷ s) = cond (eqb c b) (literal k s) (refused 2)

-- digits 0 to 9, and 1 to 9
abbrev pub digit : ℕ → Bool
digit b = leb 48 b && leb b 57

abbrev pub leading : ℕ → Bool
leading b = leb 49 b && leb b 57

-- the value of the digits at the front, read on from v, and what stands behind them
unfoldable pub value : ℕ → List ℕ → ℕ
value v [] = v
value v (b ∷ s) = cond (digit b) (value (v * 10 + (b - 48)) s) v

unfoldable pub behind : List ℕ → List ℕ
behind [] = []
behind (b ∷ s) = cond (digit b) (behind s) (b ∷ s)

-- "A number is 0, or an optional minus, a digit 1 to 9 and any digits. Absent is a lone minus (byte 2D hexadecimal)."
unfoldable pub signed : List ℕ → Got E
signed [] = got absent []
signed (b ∷ s) = cond (leading b) (got (num (neg (pos (value (b - 48) s)))) (behind s)) (got absent (b ∷ s))

unfoldable pub item : List ℕ → Got E
item [] = refused 2
item (b ∷ s) =
    cond (eqb b 0x30) (got (num (pos 0)) s)
    (cond (eqb b 0x2D) (signed s)
    (cond (leading b) (got (num (pos (value (b - 48) s))) (behind s)) (refused 2)))

-- "items split by one comma", "LF after every line"
abbrev pub ending : ℕ → List ℕ
ending zero = bytes "\n"
ending (suc k) = bytes ","

-- an item that k more of its line follow, with the byte behind it
unfoldable pub ended : ℕ → List ℕ → Got E
ended k s = item s >>= λ e s. literal (ending k) s >>= λ _ s. got e s

unfoldable pub items : ℕ → List ℕ → Got (List E)
items zero s = got [] s
items (suc k) s = ended k s >>= λ e s. items k s >>= λ es s. got (e ∷ es) s

-- what a line's entries may be: a size, an entry of a table or of the floor line, a due mark
pub data Content : Type 0 where
  size : Content
  entry : Content
  mark : Content

-- "decimal whole numbers from −100,000 to 100,000"
abbrev pub limit : ℕ
limit = 100000

abbrev pub out_of_range : E → Bool
out_of_range absent = false
out_of_range (num z) = ltb limit (up z) || ltb limit (dn z)

-- "a size not 1 to 6"
abbrev pub no_size : E → Bool
no_size absent = false
no_size (num z) = ltb 6 (up z) || eqb (up z) 0

abbrev pub absent? : E → Bool
absent? e = not (present? e)

-- some member of a list passes a test; all do
module _ {A : Type 0} where
  unfoldable pub any : (A → Bool) → List A → Bool
  any f [] = false
  any f (a ∷ l) = f a || any f l

  abbrev pub all : (A → Bool) → List A → Bool
  all f l = not (any (λ a. not (f a)) l)

-- "in one line 2 before 3 before 4 before 5. 2: … an absent size. 3: a size not 1 to 6. 4: an entry out of range. 5: an absent due mark."
unfoldable pub checked : Content → List E → List ℕ → Got (List E)
checked size es s = cond (any absent? es) (refused 2) (cond (any no_size es) (refused 3) (got es s))
checked entry es s = cond (any out_of_range es) (refused 4) (got es s)
checked mark es s = cond (any out_of_range es) (refused 4) (cond (any absent? es) (refused 5) (got es s))

-- a line of k items, and several lines with one key, in rows
unfoldable pub line : List ℕ → Content → ℕ → List ℕ → Got (List E)
line key r k s = literal key s >>= λ _ s. items k s >>= λ es s. checked r es s

unfoldable pub rows : List ℕ → Content → ℕ → ℕ → List ℕ → Got (List (List E))
rows key r zero k s = got [] s
rows key r (suc i) k s = line key r k s >>= λ es s. rows key r i k s >>= λ t s. got (es ∷ t) s

-- the i-th of a list of entries, counted from 0, absent past the last; "the i-th lag or after line is row i"
abbrev pub row : List E → Vec
row es j = get_or es j absent

abbrev pub table : List (List E) → Mat
table t i = row (get_or t i [])

-- A kind of line: its key, what its items may be, how many lines, how many items in each.
pub record Section : Type 0 where
  pub key : List ℕ
  pub content : Content
  pub lines : ℕ
  pub items : ℕ

abbrev pub kind : String → Content → ℕ → ℕ → Section
kind key r lines items = record { key = bytes key; content = r; lines = lines; items = items }

-- "A sheet may begin with rule=2; without it the old rule holds, and any other value there is refused as 2" (document 02, No. 7): whether
-- rule 2 holds
unfoldable pub ruled : List ℕ → Got Bool
ruled s = cond (got? (literal (bytes "rule=") s)) (literal (bytes "rule=2\n") s >>= λ _ s. got true s) (got false s)

-- "Lines in order: panels, triggers, m lines lag, floor, due, n lines after. A lag, due or after line has n items, the floor line m, a size
-- line one"; "Under rule 2 the floor and due lines are left out"
abbrev pub sizes : List Section
sizes = kind "panels=" size 1 1 ∷ kind "triggers=" size 1 1 ∷ []

abbrev pub mark_lines : Bool → ℕ
mark_lines two = cond two 0 1

abbrev pub tables : Bool → ℕ → ℕ → List Section
tables two m n =
    kind "lag=" entry m n ∷ kind "floor=" entry (mark_lines two) m ∷ kind "due=" mark (mark_lines two) n ∷ kind "after=" entry n n ∷ []

-- their places, counted from 0
abbrev pub panels_line : ℕ
panels_line = 0

abbrev pub triggers_line : ℕ
triggers_line = 1

abbrev pub lag_lines : ℕ
lag_lines = 0

abbrev pub floor_line : ℕ
floor_line = 1

abbrev pub due_line : ℕ
due_line = 2

abbrev pub after_lines : ℕ
after_lines = 3

-- the lines of one kind, as rows; of one kind after the other
abbrev pub section : Section → List ℕ → Got (List (List E))
section k s = rows k.key k.content k.lines k.items s

unfoldable pub sections : List Section → List ℕ → Got (List (List (List E)))
sections [] s = got [] s
sections (k ∷ ks) s = section k s >>= λ t s. sections ks s >>= λ ts s. got (t ∷ ts) s

-- the table of lines that a sheet may have or not: "either all n lines are there or none" (document 02, No. 2); the key that comes next decides
unfoldable pub optional : Section → List ℕ → Got (Option Mat)
optional k s = cond (got? (literal k.key s)) (section k s >>= λ t s. got (some (table t)) s) (got none s)

-- "A sheet may end with n more lines land= of m items"
abbrev pub land_kind : ℕ → ℕ → Section
land_kind m n = kind "land=" entry n m

-- "A sheet may end with a line last= of m present numbers, after any land lines; an absent one is 5" (document 02, No. 5)
abbrev pub last_kind : ℕ → Section
last_kind m = kind "last=" mark 1 m

-- the rows of the k-th kind, none past the last
abbrev pub part : List (List (List E)) → ℕ → List (List E)
part ts k = get_or ts k []

-- "Houses now measure a cue by the spread of landings … while old contracts keep the marks": floors and due marks
pub data Measure : Type 0 where
  by_marks : (floor : Vec) (due : ℕ → ℤ) → Measure
  by_spread : Measure

abbrev pub by_spread? : Measure → Bool
by_spread? (by_marks p q) = false
by_spread? by_spread = true

-- the marks that stand on the sheet itself: none under rule 2
abbrev pub own_floor : Measure → Vec
own_floor (by_marks p q) = p
own_floor by_spread = λ i. absent

abbrev pub own_due : Measure → Vec
own_due (by_marks p q) = λ j. num (q j)
own_due by_spread = λ j. absent

pub record Sheet : Type 0 where
  pub panels : ℕ
  pub triggers : ℕ
  pub lag : Mat
  pub measure : Measure
  pub after : Mat
  pub land : Option Mat
  pub last : Option (ℕ → ℤ)

-- whether such lines are there; their table: "or none, which reads as all absent"
abbrev pub given : {A : Type 0} → Option A → Bool
given none = false
given (some c) = true

abbrev pub given_table : Option Mat → Mat
given_table c = Option.get_or c (λ i j. absent)

-- a size line's one number
abbrev pub count : List (List E) → ℕ
count t = up (val (table t 0 0))

-- the numbers of one line, where it is there
abbrev pub moments : Option Mat → Option (ℕ → ℤ)
moments none = none
moments (some c) = some (λ i. val (c 0 i))

-- The tables of a sheet. The rows of a kind are used here and in the refusals below, nowhere else.
abbrev pub measure_of : Bool → List (List (List E)) → Measure
measure_of true ts = by_spread
measure_of false ts = by_marks (table (part ts floor_line) 0) (λ j. val (table (part ts due_line) 0 j))

abbrev pub sheet_of : Bool → ℕ → ℕ → List (List (List E)) → (land last : Option Mat) → Sheet
sheet_of two m n ts land last =
    record {
      panels = m;
      triggers = n;
      lag = table (part ts lag_lines);
      measure = measure_of two ts;
      after = table (part ts after_lines);
      land = land;
      last = moments last;
    }

-- none of f 0 … f (n − 1) is present: the largest of them is absent
abbrev pub none_present : ℕ → Vec → Bool
none_present n f = not (present? (sup n f))

module _ (S : Sheet) where
  open S use {panels, triggers, lag, after, land}

  -- "no lag to any panel"
  abbrev pub lagless : ℕ → Bool
  lagless j = none_present panels (λ i. lag i j)

  -- "A trigger is now spare if it has no lag to any panel, no present after entry in its row or column, and no present land entry in its row"
  -- (document 02, No. 4)
  unfoldable pub spare : ℕ → Bool
  spare j =
      lagless j && none_present triggers (λ k. after j k) && none_present triggers (λ k. after k j) &&
      none_present panels (λ i. given_table land j i)

  -- "a trigger that is not spare and has no lag" (document 02, No. 7)
  abbrev pub some_lag_missing : Bool
  some_lag_missing = any (λ j. not (spare j) && lagless j) (each triggers (λ j. j ∷ []))

-- "After the lines: bytes left over are 2; then 6: a panel with no lag; then 7: no floor at all"; "under rule 2, as 14, after 7"
abbrev pub finished : Bool → ℕ → ℕ → List (List (List E)) → (land last : Option Mat) → List ℕ → Got Sheet
finished two m n ts land last (b ∷ s) = refused 2
finished two m n ts land last [] =
    cond (any (all absent?) (part ts lag_lines)) (refused 6)
    (cond (any (all absent?) (part ts floor_line)) (refused 7)
    (cond (two && some_lag_missing (sheet_of two m n ts land last)) (refused 14)
    (got (sheet_of two m n ts land last) [])))

-- the rest of a sheet with m panels and n triggers
abbrev pub sized : Bool → ℕ → ℕ → List ℕ → Got Sheet
sized two m n s = sections (tables two m n) s >>= λ ts s. optional (land_kind m n) s >>= λ land s. optional (last_kind m) s >>= λ last s.
    finished two m n ts land last s

-- the lines behind that of a rule
abbrev pub headed : Bool → List ℕ → Got Sheet
headed two s = sections sizes s >>= λ ps s. sized two (count (part ps panels_line)) (count (part ps triggers_line)) s

unfoldable pub lines : List ℕ → Got Sheet
lines s = ruled s >>= headed

-- "1: over 2,048 bytes. Then line by line"
unfoldable pub read : List ℕ → Got Sheet
read s = cond (ltb 2048 (length s)) (refused 1) (lines s)
