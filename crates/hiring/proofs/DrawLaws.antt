-- Laws of draws: an item's word by its cases; one draw behind others; a row and rows of items, as a loop draws them.
use Rattle.std.proofs.Common.{◌≡◌, ℕ, zero, suc, ◌+◌, ◌*◌, ◌%◌, ◌<◌, ◌≤◌, List, [], length, get_or, set, sym, refl, ap, ◌∙◌, add-zero, add-suc, suc-mul, zero-mul, add-one, arith, length-set, get_or-set_other, get_or-set_same, le-ltb, lt-ltb, eq-eqb, ne_eqb}
use native.Mathlib.Decide.{ℕ_discrete}
use Rattle.maxplus.specs.Entry.{num}
use Rattle.words.specs.Words.{word}
use Rattle.tables.specs.Held.{cell}
use Rattle.hiring.specs.Hiring.{next, upper, drawn, drawn_number, drawn_item, absence, by_sevens}
use Rattle.hiring.specs.Hiring.{Kind, first_there, all_there, below_diagonal, drawn_items}
use Rattle.hiring.specs.Inner.{RowDrawn, RowsDrawn}

-- ---- one item
module _ (u : ℕ) where
  pub seventh : u % 7 ≡ 0 → 0 ≡ word (drawn_item by_sevens u)
  unfolding drawn_item word
  seventh h = rw (eq-eqb (u % 7) 0 h)

  pub not_seventh : ¬ (u % 7 ≡ 0) → word (num (drawn_number u)) ≡ word (drawn_item by_sevens u)
  unfolding drawn_item
  not_seventh h = rw (ne_eqb (u % 7) 0 h)

  module _ (i j : ℕ) where
    pub first_item : j ≡ 0 → word (num (drawn_number u)) ≡ word (drawn_item (absence first_there i j) u)
    unfolding drawn_item absence
    first_item h = rw (eq-eqb j 0 h)

    pub later_item : ¬ (j ≡ 0) → word (drawn_item by_sevens u) ≡ word (drawn_item (absence first_there i j) u)
    unfolding absence
    later_item h = rw (ne_eqb j 0 h)

    pub every_item : word (num (drawn_number u)) ≡ word (drawn_item (absence all_there i j) u)
    unfolding drawn_item absence
    every_item = refl

    pub below_item : j < i → word (drawn_item by_sevens u) ≡ word (drawn_item (absence below_diagonal i j) u)
    unfolding absence
    below_item h = rw (lt-ltb j i h)

    pub above_item : i ≤ j → 0 ≡ word (drawn_item (absence below_diagonal i j) u)
    unfolding drawn_item absence word
    above_item h = rw (le-ltb j i h)

-- ---- one draw behind others
pub drawn_more : (s j : ℕ) → drawn s (suc j) ≡ next (drawn s j)
unfolding drawn
drawn_more s j = refl

pub drawn_add : (s j k : ℕ) → drawn (drawn s j) k ≡ drawn s (j + k)
unfolding drawn
drawn_add s j zero = ap (drawn s) (sym (add-zero j))
drawn_add s j (suc k) = ap next (drawn_add s j k) ∙ ap (drawn s) (sym (add-suc j k))

-- ---- a row, item by item
module _ (k : Kind) (i s : ℕ) where
  pub row_none : (row : List ℕ) → length row ≡ 6 → RowDrawn k i s row s 0
  unfolding drawn
  row_none row h = record { size = h; state_is = refl; at = λ l q. absurd (let x : ⊥ = omega arith in x) }

  pub row_more : {row : List ℕ} {state j x t : ℕ} → RowDrawn k i s row state j → j < 6 → t ≡ next state →
      x ≡ word (drawn_item (absence k i j) (upper t)) → RowDrawn k i s (set row j x) t (j + 1)
  row_more {row} {state} {j} {x} {t} r h d e =
      record {
        size = length-set row j x ∙ r.size;
        state_is = behind ∙ ap (drawn s) (sym (add-one j));
        at = λ l q. go l q (ℕ_discrete l j);
      }
    where
      behind : t ≡ drawn s (suc j)
      behind = d ∙ ap next r.state_is ∙ sym (drawn_more s j)

      go : (l : ℕ) → l < j + 1 → Dec (l ≡ j) → get_or (set row j x) l 0 ≡ word (drawn_item (absence k i l) (upper (drawn s (suc l))))
      go l q (yes p) = rw p (get_or-set_same row j x 0 (let z = r.size in omega arith) ∙ e ∙ ap (λ t. word (drawn_item (absence k i j) (upper t))) behind)
      go l q (no p) = get_or-set_other row j l x 0 p ∙ r.at l (omega arith)

-- ---- rows, line by line
module _ (k : Kind) (n s : ℕ) where
  pub rows_none : (rows : List (List ℕ)) → length rows ≡ 6 → RowsDrawn k n s rows s 0
  unfolding drawn
  rows_none rows h =
      record {
        size = h;
        state_is = ap (drawn s) (sym (zero-mul n));
        at = λ h j q. absurd (let x : ⊥ = omega arith in x);
      }

  pub rows_more : {rows : List (List ℕ)} {row : List ℕ} {state i t : ℕ} → RowsDrawn k n s rows state i → i < 6 → RowDrawn k i state row t n →
      RowsDrawn k n s (set rows i row) t (i + 1)
  unfolding drawn_items
  rows_more {rows} {row} {state} {i} {t} r h d =
      record {
        size = length-set rows i row ∙ r.size;
        state_is = d.state_is ∙ ap (λ x. drawn x n) r.state_is ∙ drawn_add s (i * n) n ∙
            ap (drawn s) (more i);
        at = λ l j p q. go l j p q (ℕ_discrete l i);
      }
    where
      more : (i : ℕ) → i * n + n ≡ (i + 1) * n
      more i = sym (suc-mul i n) ∙ ap (λ h. h * n) (sym (add-one i))

      here : (j : ℕ) → drawn state (suc j) ≡ drawn s (suc (i * n + j))
      here j = ap (λ x. drawn x (suc j)) r.state_is ∙ drawn_add s (i * n) (suc j) ∙ ap (drawn s) (add-suc (i * n) j)

      go : (l j : ℕ) → l < i + 1 → j < n → Dec (l ≡ i) → cell (set rows i row) l j ≡ word (drawn_items k n s l j)
      go l j p q (yes e) = rw e (ap (λ w. get_or w j 0) (get_or-set_same rows i row [] (let z = r.size in omega arith)) ∙ d.at j q ∙
          ap (λ x. word (drawn_item (absence k i j) (upper x))) (here j))
      go l j p q (no e) = ap (λ w. get_or w j 0) (get_or-set_other rows i l row [] e) ∙ r.at l j (omega arith) q
