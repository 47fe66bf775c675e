-- What a sheet that was read may still be refused for, from its words: 6 by the rows of the lag lines, 7 by the floors, 14 by the triggers.
use mathlib.Core.Path.{◌≡◌, refl, ap, sym, ◌∙◌}
use mathlib.Core.List.{List}
use mathlib.Core.Bool.{Bool, true, false}
use mathlib.Core.Option as maybe
use Prim.Native.Nat.{ℕ, ◌≤◌}
use native.Mathlib.Omega.{arith}
use Rattle.maxplus.specs.Entry.{E}
use Rattle.maxplus.specs.Tables.{Mat}
use Rattle.sheet.specs.Good.{RowsOf}
use Rattle.sheet.specs.Sheet as sheet
use Rattle.sheet.specs.Sheet.{any, all, absent?, table, tables, part, lag_lines, floor_line, measure_of}
use Rattle.sheet.proofs.SectionLaws.{sections_of}
use Rattle.rows.specs.Grid.{strip, strips}
use Rattle.rows.proofs.PlaceLaws.{strips_at}
use Rattle.reading.specs.Reading.{measure_words}
use Rattle.reading.specs.Inner.{Kinds, EmptyRow, EmptyWords, FloorIs}
use Rattle.reading.proofs.EmptyLaws.{empty_found, empty_none}
use Rattle.reading.proofs.WordsLaws.{no_rows}
use Rattle.cue.specs.Sizes.{size_limit}

-- a table of one row
one_row : {n : ℕ} {t : List (List E)} → n ≤ size_limit → RowsOf sheet.entry 1 n t → (b : Bool) → EmptyWords (strip (table t 0)) b →
    b ≡ any (all absent?) t
one_row {n} {t} few R true h = sym (empty_found (strips (table t)) 1 n t (omega arith) few R refl 0 (omega arith) (rw (strips_at (table t) 0 (omega arith)) h))
one_row {n} {t} few R false h =
    sym (empty_none (strips (table t)) 1 n t (omega arith) few R refl (λ k q. let z : k ≡ 0 = omega arith in rw (z, strips_at (table t) 0 (omega arith)) h))

module _ {two : Bool} {m n : ℕ} {ts : List (List (List E))} {land last : maybe.Option Mat} (few-m : m ≤ size_limit) (few-n : n ≤ size_limit)
    (K : Kinds two m n ts land last) where
  pub lag_said : {b : Bool} → EmptyRow (strips (table (part ts lag_lines))) m b → b ≡ any (all absent?) (part ts lag_lines)
  lag_said e = e n (part ts lag_lines) few-n (sections_of (tables two m n) K.start K.of_tables lag_lines refl) refl

pub floor_said : {two : Bool} {m n : ℕ} {ts : List (List (List E))} {land last : maybe.Option Mat} → m ≤ size_limit →
    Kinds two m n ts land last → {b : Bool} → FloorIs (measure_words n (measure_of two ts)) b → b ≡ any (all absent?) (part ts floor_line)
unfolding any
floor_said {two = true} {m} {n} few K e =
    e ∙ sym (ap (any (all absent?)) (no_rows (sections_of (tables true m n) K.start K.of_tables floor_line refl)))
floor_said {two = false} {m} {n} few K {b = b} e = one_row few (sections_of (tables false m n) K.start K.of_tables floor_line refl) b e
