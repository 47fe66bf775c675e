-- The words of a sheet are those of the rows that were read of each kind; a size's word stands for its number.
use mathlib.Core.Path.{◌≡◌, refl, ap, ap₂, sym, ◌∙◌}
use mathlib.Core.List.{List, [], ◌∷◌}
use mathlib.Core.Bool.{Bool, true, false}
use mathlib.Core.Option as maybe
use Rattle.std.specs.Prelude.{Option, Some, option_map}
use Prim.Native.Nat.{ℕ, ◌≤◌, ◌<◌}
use native.Mathlib.Decide.{dec_lt}
use native.Mathlib.Omega.{arith}
use borrow.Author.Tests.{lt-ltb, le-ltb}
use lib.ListN.{get_or, get_or-eq_default}
use Rattle.maxplus.specs.Whole.{up}
use Rattle.maxplus.specs.Entry.{E, absent, val}
use Rattle.maxplus.specs.Tables.{Mat}
use Rattle.maxplus.proofs.EntryLaws.{num_inj}
use Rattle.words.specs.Words.{entry}
use Rattle.words.proofs.Laws.{entry_word}
use Rattle.sheet.specs.Good.{RowsOf}
use Rattle.sheet.specs.Sheet.{got, Content, mark, size, absent?, table, sections, optional, last_kind, part, mark_lines, tables, count, measure_of}
use Rattle.sheet.specs.Sheet.{lag_lines, floor_line, due_line, after_lines, moments, sheet_of}
use Rattle.sheet.proofs.LineLaws.{none_at, there}
use Rattle.sheet.proofs.SectionLaws.{row_long, row_passes, sections_of, optional_of, size_read}
use Rattle.rows.specs.Grid.{strip, strips, strips_given}
use Rattle.rows.proofs.PlaceLaws.{strip_at, strips_at, strip_eq}
use Rattle.reading.specs.Reading.{numbers, measure_words, last_words, sheet_words}
use Rattle.reading.specs.declared.Measure.{Measure}
use Rattle.reading.specs.declared.Measure.TheVariants.{Marks}
use Rattle.reading.specs.declared.SheetWords.{SheetWords}
use Rattle.reading.specs.Inner.{measure_from, Kinds}
use Rattle.cue.specs.Sizes.{size_limit}

-- the marks of a line, all present
mark_words : {n : ℕ} {t : List (List E)} → RowsOf mark 1 n t → strip (table t 0) ≡ strip (numbers n (λ j. val (table t 0 j)))
mark_words {n} {t} R = strip_eq _ _ (λ j. go j (dec_lt j n))
  where
    go : (j : ℕ) → Dec (j < n) → table t 0 j ≡ numbers n (λ j. val (table t 0 j)) j
    go j (yes q) = rw (lt-ltb j n q) (there (table t 0 j) (none_at absent? absent (get_or t 0 []) j (row_passes R 0 (omega arith)).1
        (let l = row_long R 0 (omega arith) in omega arith)))
    go j (no q) = rw (le-ltb j n (omega arith)) (get_or-eq_default (get_or t 0 []) absent (let l = row_long R 0 (omega arith) in omega arith))

-- the last moments, where there are any
last_row : (m : ℕ) (last : maybe.Option Mat) (s : List ℕ) {x : List ℕ} → optional (last_kind m) s ≡ got last x →
    option_map (λ ws. get_or ws 0 []) (strips_given last) ≡ last_words m (moments last)
last_row m maybe.none s e = refl
last_row m (maybe.some c) s e =
    let (t, R, same) = optional_of (last_kind m) s e in
    ap Some (strips_at c 0 (omega arith) ∙ rw (← same) (mark_words R))

-- one floor line and one due line, or none
pub mark_few : (two : Bool) {k : ℕ} → k ≡ mark_lines two → k ≤ size_limit
mark_few two e = rw e (go two)
  where
    go : (two : Bool) → mark_lines two ≤ size_limit
    go true = omega arith
    go false = omega arith

-- a kind with no lines
pub no_rows : {r : Content} {n : ℕ} {t : List (List E)} → RowsOf r 0 n t → t ≡ []
no_rows {t = []} R = refl
no_rows {t = es ∷ t} R = absurd (let m = R.many in let x : ⊥ = omega arith in x)

-- what is measured: under rule 2 the spread, else by the first rows of the marks
measure_is : (two : Bool) (m n : ℕ) (s : List ℕ) {ts : List (List (List E))} {x : List ℕ} → sections (tables two m n) s ≡ got ts x →
    {floor due : List (List ℕ)} → floor ≡ strips (table (part ts floor_line)) → due ≡ strips (table (part ts due_line)) →
    measure_from two (get_or floor 0 []) (get_or due 0 []) ≡ measure_words n (measure_of two ts)
measure_is true m n s e p q = refl
measure_is false m n s {ts} e p q = ap₂ Marks (ap (λ l. get_or l 0 []) p ∙ strips_at (table (part ts floor_line)) 0 (omega arith))
    (ap (λ l. get_or l 0 []) q ∙ strips_at (table (part ts due_line)) 0 (omega arith) ∙
    mark_words (sections_of (tables false m n) s e due_line refl))

-- a size line's word
module _ {ws : List (List ℕ)} {t : List (List E)} (w : ws ≡ strips (table t)) where
  pub size_word : RowsOf size 1 1 t → (up (val (entry (get_or (get_or ws 0 []) 0 0))) ≡ count t) × (count t ≤ size_limit)
  unfolding val
  size_word R =
      let (m, q, l) = size_read R in
      let word = ap (λ l. get_or (get_or l 0 []) 0 0) w ∙ ap (λ l. get_or l 0 0) (strips_at (table t) 0 (omega arith)) ∙ strip_at (table t 0) 0 (omega arith) in
      let e = entry_word (table t 0 0) (λ z f. rw (← num_inj (sym q ∙ f)) (omega arith)) in
      (ap (λ w. up (val (entry w))) word ∙ ap (λ e. up (val e)) e, rw q l)

-- ---- the whole sheet
module _ {two : Bool} {m n : ℕ} {ts : List (List (List E))} {land last : maybe.Option Mat} (K : Kinds two m n ts land last) where
  pub words_read : {lag floor due after : List (List ℕ)} → lag ≡ strips (table (part ts lag_lines)) → floor ≡ strips (table (part ts floor_line)) →
      due ≡ strips (table (part ts due_line)) → after ≡ strips (table (part ts after_lines)) →
      {measure : Measure} → measure ≡ measure_from two (get_or floor 0 []) (get_or due 0 []) →
      {lands : Option (List (List ℕ))} → lands ≡ strips_given land →
      {lasts : Option (List ℕ)} → lasts ≡ option_map (λ ws. get_or ws 0 []) (strips_given last) →
      ◌≡◌ {A = SheetWords}
      (record { panels = m; triggers = n; lag = lag; measure = measure; after = after; land = lands; last = lasts })
      (sheet_words (sheet_of two m n ts land last))
  words_read a b c d e f g =
      rw (a, d, e ∙ measure_is two m n K.start K.of_tables b c, f, g ∙ last_row m last K.past_land K.of_last)
