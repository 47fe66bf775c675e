-- Laws of items: a drawn number lies from −1,000 to 1,000; the words of drawn rows stand for the items, and so are put as such.
use Rattle.std.proofs.Common.{◌≡◌, ℕ, ◌%◌, ◌≤◌, Bool, true, false, cond, eqb, ltb, List, refl, arith}
use lib.IntN.{sub_ℕ}
use Rattle.maxplus.specs.Whole.{up, dn}
use Rattle.maxplus.specs.Entry.{E, absent, num}
use Rattle.maxplus.proofs.EntryLaws.{num_inj}
use Rattle.words.specs.Words.{word, entry, Close}
use Rattle.words.proofs.Laws.{entry_zero, close_none, number_word}
use Rattle.tables.specs.Held.{meant, Closely}
use Rattle.cue.specs.Results.{Within}
use Rattle.sheet.specs.Sheet.{limit}
use Rattle.sheet.proofs.WithinLaws.{within_absent}
use Rattle.sheet_text.specs.SheetText.{rows_text}
use Rattle.sheet_text.proofs.LineText.{rows_same}
use Rattle.hiring.specs.Hiring.{Absence, by_sevens, never, always, drawn_number, drawn_item, Kind, drawn_items}
use Rattle.hiring.specs.Inner.{RowsDrawn}

-- ---- one item
pub number_small : (u : ℕ) → (up (drawn_number u) ≤ 1000) × (dn (drawn_number u) ≤ 1000)
unfolding drawn_number
number_small u = go (ltb (u % 2001) 1000) refl
  where
    go : (t : Bool) → ltb (u % 2001) 1000 ≡ t → (up (sub_ℕ (u % 2001) 1000) ≤ 1000) × (dn (sub_ℕ (u % 2001) 1000) ≤ 1000)
    go true e = rw e (omega arith)
    go false e = rw e (omega arith)

-- what is true of absent and of every drawn number is true of every item
pub of_items : (P : E → Type 0) → P absent → ((u : ℕ) → P (num (drawn_number u))) → (a : Absence) (u : ℕ) → P (drawn_item a u)
unfolding drawn_item
of_items P none some by_sevens u = go (eqb (u % 7) 0)
  where
    go : (t : Bool) → P (cond t absent (num (drawn_number u)))
    go true = none
    go false = some u
of_items P none some never u = some u
of_items P none some always u = none

pub made_within : (a : Absence) (u : ℕ) → Within limit limit (drawn_item a u)
made_within = of_items (Within limit limit) within_absent near
  where
    near : (u : ℕ) → Within limit limit (num (drawn_number u))
    near u =
        let h = number_small u in
        record { low = record { above = λ z e. rw (← num_inj e) (omega arith) }; high = record { below = λ z e. rw (← num_inj e) (omega arith) } }

made_word : (a : Absence) (u v : ℕ) → v ≡ word (drawn_item a u) → (entry v ≡ drawn_item a u) × Close limit v
unfolding word
made_word a u = of_items (λ e. (v : ℕ) → v ≡ word e → (entry v ≡ e) × Close limit v) none some a u
  where
    none : (v : ℕ) → v ≡ 0 → (entry v ≡ absent) × Close limit v
    none v e = rw e (entry_zero, close_none limit)

    some : (u v : ℕ) → v ≡ word (num (drawn_number u)) → (entry v ≡ num (drawn_number u)) × Close limit v
    some u v e = let h = number_small u in number_word limit (drawn_number u) v (omega arith) (omega arith) (omega arith) e

-- ---- drawn rows
module _ {k : Kind} {n s m state : ℕ} {rows : List (List ℕ)} (d : RowsDrawn k n s rows state m) where
  pub rows_close : Closely m n limit rows
  unfolding drawn_items
  rows_close = record { at = λ i j h q. (made_word _ _ _ (d.at i j h q)).1 }

  pub drawn_text : (key : List ℕ) → rows_text key m n (meant rows) ≡ rows_text key m n (drawn_items k n s)
  unfolding drawn_items meant
  drawn_text key = rows_same key m n _ _ (λ i j h q. (made_word _ _ _ (d.at i j h q)).0)
