-- What the functions that read lines of items promise.
use Rattle.std.specs.Prelude.{◌≡◌, List, [], ◌∷◌, Bool, true, false, ℕ, ◌+◌, ◌≤◌, length, drop, Option, Some, None, Result, Ok, Err}
use Rattle.maxplus.specs.Entry.{E}
use Rattle.maxplus.specs.Finite.{map_l}
use Rattle.sheet.specs.Sheet as sheet
use Rattle.sheet.specs.Sheet.{Got, got, refused, limit, literal, absent?, no_size, out_of_range, checked, row, table, optional}
use Rattle.refusals.specs.Numbers.{number}
use Rattle.refusals.specs.declared.Refusal.{Refusal}
use Rattle.rows.specs.Grid.{strip, strips, strips_given}
use Rattle.rows.specs.declared.Items.{Items}
use Rattle.rows.specs.declared.Items.TheVariants as content
use Rattle.rows.specs.declared.Fault.{Fault}
use Rattle.rows.specs.declared.Fault.TheVariants as fault
use Rattle.items.specs.Inner as items

-- a number out of range counts as the first one past the limit
abbrev pub clip : E → E
clip = items.clip limit

abbrev pub LiteralAt : List ℕ → ℕ → List ℕ → Bool → Type 0
LiteralAt s at key true = (literal key (drop at s) ≡ got tt (drop (at + length key) s)) × (at + length key ≤ length s)
LiteralAt s at key false = literal key (drop at s) ≡ refused 2

abbrev pub content_of : Items → sheet.Content
content_of content.Size = sheet.size
content_of content.Entry = sheet.entry
content_of content.Mark = sheet.mark

-- the words of a line's entries, clipped
abbrev pub words_of : List E → List ℕ
words_of es = strip (row (map_l clip es))

-- the kinds of fault that a line's entries can have, in order
abbrev pub faults : sheet.Content → List Fault
faults sheet.size = fault.AbsentSize ∷ fault.NoSize ∷ []
faults sheet.entry = fault.OutOfRange ∷ []
faults sheet.mark = fault.OutOfRange ∷ fault.AbsentMark ∷ []

-- the number of its refusal; an entry has it
abbrev pub fault_number : Fault → ℕ
fault_number fault.AbsentSize = 2
fault_number fault.NoSize = 3
fault_number fault.OutOfRange = 4
fault_number fault.AbsentMark = 5

abbrev pub has_fault : Fault → E → Bool
has_fault fault.AbsentSize e = absent? e
has_fault fault.NoSize e = no_size e
has_fault fault.OutOfRange e = out_of_range e
has_fault fault.AbsentMark e = absent? e

-- what was read, or the refusal of a fault
abbrev pub verdict : {A : Type 0} → Option Fault → A → List ℕ → Got A
verdict None a s = got a s
verdict (Some f) a s = refused (fault_number f)

-- f is the first fault of a line of n words, where r is what they may be, for whatever entries the words stand
pub record FaultIs (r : sheet.Content) (ws : List ℕ) (n : ℕ) (f : Option Fault) : Type 0 where
  pub checks : (es : List E) (s : List ℕ) → length es ≡ n → ws ≡ words_of es → checked r es s ≡ verdict f es s

-- What a function that reads the bytes s gives for a part of the sheet: the place behind it, and the part in words; or its refusal.
module _ {A W : Type 0} (Holds : A → W → Type 0) (part : Got A) (s : List ℕ) where
  pub record Found (next : ℕ) (held : W) : Type 0 where
    pub value : A
    pub is : part ≡ got value (drop next s)
    pub within : next ≤ length s
    pub words : Holds value held

  abbrev pub Reads : Result ℕ Refusal → W → Type 0
  Reads (Ok next) held = Found next held
  Reads (Err r) held = part ≡ refused (number r)

abbrev pub RowsAre : Got (List (List E)) → List ℕ → Result ℕ Refusal → List (List ℕ) → Type 0
RowsAre g s r held = Reads (λ t ws. ws ≡ strips (table t)) g s r held

-- lines that may be missing
abbrev pub OptionalIs : List ℕ → sheet.Content → ℕ → ℕ → List ℕ → ℕ → Result (Option (List (List ℕ)) × ℕ) Refusal → Type 0
OptionalIs key r lines n s from (Ok (held, next)) =
    Found (λ c ws. ws ≡ strips_given c) (optional (record { key = key; content = r; lines = lines; items = n }) (drop from s)) s next held
OptionalIs key r lines n s from (Err e) =
    optional (record { key = key; content = r; lines = lines; items = n }) (drop from s) ≡ refused (number e)
