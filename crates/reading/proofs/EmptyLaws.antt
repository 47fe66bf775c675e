-- Rows without an entry, by their words.
use mathlib.Core.Path.{◌≡◌, refl, ap, sym, ◌∙◌}
use mathlib.Core.List.{List, [], ◌∷◌}
use mathlib.Core.Bool.{true, false, not}
use Prim.Native.Nat.{ℕ, zero, suc, ◌≤◌, ◌<◌}
use native.Mathlib.Omega.{arith}
use borrow.Author.Tests.{ltb-false}
use lib.Dec.{ltb}
use lib.ListN.{length, get_or}
use Rattle.maxplus.specs.Whole.{up, dn}
use Rattle.maxplus.specs.Entry.{E, absent, num, present?}
use Rattle.maxplus.proofs.EntryLaws.{num_inj, absent_not}
use Rattle.words.specs.Words.{word, entry}
use Rattle.words.proofs.Laws.{entry_word}
use Rattle.sheet.specs.Good.{RowsOf}
use Rattle.sheet.specs.Sheet as sheet
use Rattle.sheet.specs.Sheet.{limit, out_of_range, absent?, any, all, row, table}
use Rattle.sheet.proofs.LineLaws.{true_not_false, none_or, any_none, any_at}
use Rattle.sheet.proofs.SectionLaws.{row_long, row_passes}
use Rattle.rows.specs.Grid.{strips}
use Rattle.rows.proofs.PlaceLaws.{strip_at, strips_at}
use Rattle.reading.specs.Inner.{EmptyWords}
use Rattle.cue.specs.Sizes.{size_limit}

-- the word of an entry within the limit stands for it, and so does that of an absent one past the last
pub word_back : (e : E) → out_of_range e ≡ false → entry (word e) ≡ e
word_back absent h = entry_word absent (λ z q. absurd (absent_not q))
word_back (num x) h =
    let b = ltb-false limit (dn x) (none_or (ltb limit (up x)) _ h).1 in
    entry_word (num x) (λ z q. rw (← num_inj q) (omega arith))

row_in_range : (es : List E) (j : ℕ) → any out_of_range es ≡ false → out_of_range (row es j) ≡ false
unfolding any
row_in_range [] j h = refl
row_in_range (e ∷ es) zero h = (none_or (out_of_range e) (any out_of_range es) h).0
row_in_range (e ∷ es) (suc j) h = row_in_range es j (none_or (out_of_range e) (any out_of_range es) h).1

inside : (es : List E) (j : ℕ) → present? (row es j) ≡ true → j < length es
inside [] j h = absurd (true_not_false (sym h))
inside (e ∷ es) zero h = omega arith
inside (e ∷ es) (suc j) h = let q = inside es j h in omega arith

module _ (ws : List (List ℕ)) (lines n : ℕ) (t : List (List E)) (six : lines ≤ size_limit) (few : n ≤ size_limit) (R : RowsOf sheet.entry lines n t)
    (w : ws ≡ strips (table t)) where
  pub entry_there : (k j : ℕ) → k < lines → j < 6 → present? (entry (get_or (get_or ws k []) j 0)) ≡ present? (table t k j)
  entry_there k j h q =
      let w = ap (λ l. get_or (get_or l k []) j 0) w ∙ ap (λ r. get_or r j 0) (strips_at (table t) k (omega arith)) ∙ strip_at (table t k) j q in
      ap (λ w. present? (entry w)) w ∙ ap present? (word_back (table t k j) (row_in_range (get_or t k []) j (row_passes R k h)))

  pub empty_found : (k : ℕ) → k < lines → EmptyWords (get_or ws k []) true → any (all absent?) t ≡ true
  empty_found k h e = any_at (all absent?) [] t k (let p = R.many in omega arith) (ap not
      (any_none (λ e. not (absent? e)) absent (get_or t k []) (λ j q.
      let l = row_long R k h in
      ap (λ b. not (not b)) (sym (entry_there k j h (omega arith)) ∙ e j (omega arith)))))

  pub empty_none : ((k : ℕ) → k < lines → EmptyWords (get_or ws k []) false) → any (all absent?) t ≡ false
  empty_none e = any_none (all absent?) [] t (λ k q.
      let h : k < lines = (let p = R.many in omega arith) in
      let (j, l, f) = e k h in
      let there : present? (table t k j) ≡ true = sym (entry_there k j h l) ∙ f in
      ap not (any_at (λ e. not (absent? e)) absent (get_or t k []) j (inside (get_or t k []) j there) (ap (λ b. not (not b)) there)))
