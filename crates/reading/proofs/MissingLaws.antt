-- 14, from the words of the tables: a trigger's lags, after rules and land rules are there exactly where their words are.
use mathlib.Core.Path.{◌≡◌, refl, ap₂, sym, ◌∙◌}
use mathlib.Core.List.{List, []}
use mathlib.Core.Bool.{Bool, true, false, not, ◌&&◌}
use mathlib.Core.Option as maybe
use Prim.Native.Nat.{ℕ, ◌≤◌, ◌<◌}
use native.Mathlib.Omega.{arith}
use lib.ListN.{get_or, get_or-eq_default}
use Rattle.maxplus.specs.Entry.{E, absent}
use Rattle.maxplus.specs.Tables.{Mat}
use Rattle.words.specs.Words.{entry}
use Rattle.sheet.specs.Good.{RowsOf}
use Rattle.sheet.specs.Sheet as sheet
use Rattle.sheet.specs.Sheet.{got, table, optional, land_kind, tables, part, lag_lines, after_lines, given_table, none_present, lagless, spare, sheet_of, measure_of}
use Rattle.sheet.specs.Sheet.{some_lag_missing}
use Rattle.sheet.proofs.LineLaws.{true_not_false, place_same}
use Rattle.sheet.proofs.SectionLaws.{row_long, sections_of, optional_of}
use Rattle.sheet.proofs.Idle.{none_yes, none_no, none_same, none_past}
use Rattle.rows.specs.Grid.{strips, strips_given}
use Rattle.reading.specs.Reading.{measure_words, sheet_words}
use Rattle.reading.specs.declared.SheetWords.{SheetWords}
use Rattle.reading.specs.Inner.{EmptyWords, Kinds, meant, table_words, lag_missing_by, lag_missing_at, spread?, unmeasured_at}
use Rattle.reading.proofs.EmptyLaws.{entry_there}
use Rattle.cue.specs.Sizes.{size_limit}

-- six words without an entry, and with one
pub empty_is : (ws : List ℕ) (b : Bool) → EmptyWords ws b → b ≡ none_present size_limit (λ j. entry (get_or ws j 0))
empty_is ws true e = sym (none_yes size_limit (λ j. entry (get_or ws j 0)) e)
empty_is ws false (j, h, e) = sym (none_no size_limit (λ j. entry (get_or ws j 0)) j h e)

-- ---- one trigger, test by test: what each of the four came to decides, or leaves it to the next
module _ {a A : Bool} (lags_are : a ≡ A) where
  pub lag_decides : (B C D : Bool) → not a ≡ true → false ≡ lag_missing_by A B C D
  unfolding lag_missing_by
  lag_decides B C D h = rw (← lags_are) (go a h)
    where
      go : (a : Bool) → not a ≡ true → false ≡ (not (a && B && C && D) && a)
      go true h = absurd (true_not_false (sym h))
      go false h = refl

  module _ (none : not a ≡ false) {b B : Bool} (row_is : b ≡ B) where
    pub row_decides : (C D : Bool) → not b ≡ true → true ≡ lag_missing_by A B C D
    unfolding lag_missing_by
    row_decides C D h = rw (← lags_are, ← row_is) (go a b none h)
      where
        go : (a b : Bool) → not a ≡ false → not b ≡ true → true ≡ (not (a && b && C && D) && a)
        go true false g h = refl
        go true true g h = absurd (true_not_false (sym h))
        go false b g h = absurd (true_not_false g)

    module _ (no_row : not b ≡ false) {c C : Bool} (column-is : c ≡ C) where
      pub column_decides : (D : Bool) → not c ≡ true → true ≡ lag_missing_by A B C D
      unfolding lag_missing_by
      column_decides D h = rw (← lags_are, ← row_is, ← column-is) (go a b c none no_row h)
        where
          go : (a b c : Bool) → not a ≡ false → not b ≡ false → not c ≡ true → true ≡ (not (a && b && c && D) && a)
          go true true false g f h = refl
          go true true true g f h = absurd (true_not_false (sym h))
          go true false c g f h = absurd (true_not_false f)
          go false b c g f h = absurd (true_not_false g)

      pub land_decides : {d D : Bool} → not c ≡ false → d ≡ D → not d ≡ lag_missing_by A B C D
      unfolding lag_missing_by
      land_decides {d} no_column land-is = rw (← lags_are, ← row_is, ← column-is, ← land-is) (go a b c none no_row no_column)
        where
          go : (a b c : Bool) → not a ≡ false → not b ≡ false → not c ≡ false → not d ≡ (not (a && b && c && d) && a)
          go true true true g f h = last d
            where
              last : (d : Bool) → not d ≡ (not d && true)
              last true = refl
              last false = refl
          go true true false g f h = absurd (true_not_false h)
          go true false c g f h = absurd (true_not_false f)
          go false b c g f h = absurd (true_not_false g)

-- ---- the words of a table's rows
module _ (ws : List (List ℕ)) (lines n : ℕ) (t : List (List E)) (six : lines ≤ size_limit) (few : n ≤ size_limit) (R : RowsOf sheet.entry lines n t)
    (w : ws ≡ strips (table t)) where
  column_none : (j : ℕ) → j < n → none_present lines (λ i. meant ws i j) ≡ none_present lines (λ i. table t i j)
  column_none j h = none_same lines _ _ (λ i q. entry_there ws lines n t six few R w i j q (omega arith))

  row_none : (i : ℕ) → i < lines → none_present size_limit (meant ws i) ≡ none_present n (table t i)
  row_none i h = none_same size_limit _ _ (λ j q. entry_there ws lines n t six few R w i j h q) ∙
      none_past size_limit n (table t i) few (λ k q. get_or-eq_default (get_or t i []) absent (let l = row_long R i h in omega arith))

-- the land lines, which may be missing
land_none : (m n : ℕ) (s : List ℕ) (land : maybe.Option Mat) {x : List ℕ} → m ≤ size_limit → n ≤ size_limit →
    optional (land_kind m n) s ≡ got land x → (j : ℕ) → j < n →
    none_present size_limit (meant (table_words (strips_given land)) j) ≡ none_present m (λ i. given_table land j i)
unfolding entry
land_none m n s (maybe.some c) few-m few-n e j h =
    let (t, R, same) = optional_of (land_kind m n) s e in
    rw (← same) (row_none (strips (table t)) n m t few-n few-m R refl j h)
land_none m n s maybe.none few-m few-n e j h = none_yes size_limit (meant [] j) (λ k q. refl) ∙ sym (none_yes m (λ i. absent) (λ k q. refl))

-- ---- the triggers that make 14
module _ {two : Bool} {m n : ℕ} (few-m : m ≤ size_limit) (few-n : n ≤ size_limit) {ts : List (List (List E))} {land last : maybe.Option Mat}
    (K : Kinds two m n ts land last) where
  abbrev read_words : SheetWords
  read_words = sheet_words (sheet_of two m n ts land last)

  missing_same : (j : ℕ) → j < n →
      let t = sheet_of two m n ts land last in
      lag_missing_at read_words j ≡ (not (spare t j) && lagless t j)
  unfolding spare lag_missing_by
  missing_same j h =
      let R = sections_of (tables two m n) K.start K.of_tables lag_lines refl in
      let S = sections_of (tables two m n) K.start K.of_tables after_lines refl in
      four (column_none _ m n (part ts lag_lines) few-m few-n R refl j h)
      (row_none _ n n (part ts after_lines) few-n few-n S refl j h)
      (column_none _ n n (part ts after_lines) few-n few-n S refl j h)
      (land_none m n K.behind land few-m few-n K.of_land j h)
    where
      four : {a b c d p q r s : Bool} → a ≡ p → b ≡ q → c ≡ r → d ≡ s → lag_missing_by a b c d ≡ lag_missing_by p q r s
      four e f g h = rw (e, f, g, h)

  measured : (two : Bool) → spread? (measure_words n (measure_of two ts)) ≡ two
  measured true = refl
  measured false = refl

  pub missing_words : unmeasured_at read_words ≡ two && some_lag_missing (sheet_of two m n ts land last)
  missing_words = ap₂ ◌&&◌ (measured two) (place_same n (lag_missing_at read_words) _ missing_same)
