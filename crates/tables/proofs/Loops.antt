-- What loops build: the largest of what they pass; an array written place by place and a table written row by row, where Q holds of
-- every place written so far.
use mathlib.Core.Path.{◌≡◌, refl, ap}
use mathlib.Core.List.{List, []}
use mathlib.Core.Bool.{Bool, true, false, not}
use Prim.Native.Nat.{ℕ, ◌+◌, ◌≤◌, ◌<◌}
use native.Mathlib.Omega.{arith}
use native.Mathlib.Decide.{ℕ_discrete, dec_lt}
use native.Mathlib.Numerals.{add-one}
use lib.ListN.{length, get_or, set, length-set, replicate, get_or-replicate, get_or-eq_default}
use lib.Seq.{get_or-set_same, get_or-set_other}
use Rattle.maxplus.specs.Entry.{E, ◌⊕◌}
use Rattle.maxplus.specs.Tables.{sup}
use Rattle.words.specs.Words.{entry}
use Rattle.words.proofs.Laws.{entry_zero}
use Rattle.tables.specs.Held.{cell, Says, Square}

-- ---- the answer of a test that is tested
pub says_yes : {P : Type 0} (b : Bool) → not b ≡ false → Says P b → P
says_yes true e h = h
says_yes false e h = let z : ◌≡◌ {A = ℕ} 0 1 = cc in let x : ⊥ = omega arith in absurd x

pub says_no : {P : Type 0} (b : Bool) → not b ≡ true → Says P b → ¬ P
says_no true e h = let z : ◌≡◌ {A = ℕ} 0 1 = cc in let x : ⊥ = omega arith in absurd x
says_no false e h = h

pub says_true : {P : Type 0} (b : Bool) → b ≡ true → Says P b → P
says_true true e h = h
says_true false e h = let z : ◌≡◌ {A = ℕ} 0 1 = cc in let x : ⊥ = omega arith in absurd x

pub says_false : {P : Type 0} (b : Bool) → b ≡ false → Says P b → ¬ P
says_false true e h = let z : ◌≡◌ {A = ℕ} 0 1 = cc in let x : ⊥ = omega arith in absurd x
says_false false e h = h

-- ---- a largest, from the word 0 on
pub largest_none : (f : ℕ → E) → entry 0 ≡ sup 0 f
unfolding sup
largest_none f = entry_zero

pub largest_more : (f : ℕ → E) (k s b r : ℕ) → entry s ≡ f k → entry b ≡ sup k f → entry r ≡ entry s ⊕ entry b → entry r ≡ sup (k + 1) f
unfolding sup
largest_more f k s b r e g h = rw (add-one, ← e, ← g) h

-- ---- an array of six
pub blank_word : (i : ℕ) → ◌≡◌ {A = ℕ} (get_or (replicate 6 0) i 0) 0
blank_word i = elim (dec_lt i 6) [ yes h ↦ get_or-replicate 6 i 0 0 h | no h ↦ get_or-eq_default (replicate 6 0) 0 {n = i} (omega arith) ]

module _ {A : Type 0} (Q : ℕ → A → Type 0) (d : A) where
  pub record Filled (r : List A) (i : ℕ) : Type 0 where
    pub size : length r ≡ 6
    pub done : (k : ℕ) → k < i → Q k (get_or r k d)

  pub filled_none : (a : A) → Filled (replicate 6 a) 0
  filled_none a = record { size = refl; done = λ k h. let e : ⊥ = omega arith in absurd e }

  pub filled_more : (r : List A) (i : ℕ) (v : A) → i < 6 → Filled r i → Q i v → Filled (set r i v) (i + 1)
  filled_more r i v h f q = record {
    size = simp length-set f.size;
    done = λ k l. elim (ℕ_discrete k i) [
      | yes e ↦ rw (e, get_or-set_same r i v d (rw f.size h)) q
      | no n ↦ rw (get_or-set_other r i k v d n) (f.done k (omega arith))
    ];
  }

-- ---- a table of six by six
pub blank_square : Square (replicate 6 (replicate 6 0))
blank_square = record { rows = refl; row = λ a h. ap length (get_or-replicate 6 a (replicate 6 0) [] h) }

pub square_set : {t : List (List ℕ)} (r : List ℕ) (i : ℕ) → i < 6 → Square t → length r ≡ 6 → Square (set t i r)
square_set {t} r i h s e = record {
  rows = simp length-set s.rows;
  row = λ a ha. elim (ℕ_discrete a i) [
    | yes d ↦ rw (d, get_or-set_same t i r [] (rw s.rows h)) e
    | no d ↦ rw (get_or-set_other t i a r [] d) (s.row a ha)
  ];
}

-- ---- one of which n columns are written
abbrev pub put : List (List ℕ) → ℕ → ℕ → ℕ → List (List ℕ)
put r i j v = set r i (set (get_or r i []) j v)

module _ (Q : ℕ → ℕ → ℕ → Type 0) (n : ℕ) where
  -- the rows above row i, and in row i the places before j
  pub record Rows (r : List (List ℕ)) (i : ℕ) : Type 0 where
    pub square : Square r
    pub done : (a b : ℕ) → a < i → b < n → Q a b (cell r a b)

  pub record Cells (r : List (List ℕ)) (i j : ℕ) : Type 0 where
    pub rows : Rows r i
    pub here : (b : ℕ) → b < j → Q i b (cell r i b)

  pub rows_none : Rows (replicate 6 (replicate 6 0)) 0
  rows_none = record {
    square = blank_square;
    done = λ a b h k. let e : ⊥ = omega arith in absurd e;
  }

  pub cells_none : (r : List (List ℕ)) (i : ℕ) → Rows r i → Cells r i 0
  cells_none r i f = record { rows = f; here = λ b h. let e : ⊥ = omega arith in absurd e }

  pub rows_more : (r : List (List ℕ)) (i j : ℕ) → n ≤ j → Cells r i j → Rows r (i + 1)
  rows_more r i j h f = record {
    square = f.rows.square;
    done = λ a b k l. elim (ℕ_discrete a i) [ yes e ↦ rw e (f.here b (omega arith)) | no x ↦ f.rows.done a b (omega arith) l ];
  }

  pub cells_more : (r : List (List ℕ)) (i j v : ℕ) → i < 6 → j < 6 → Cells r i j → Q i j v → Cells (put r i j v) i (j + 1)
  cells_more r i j v hi hj f q = record {
    rows = record {
      square = square_set _ i hi s (simp length-set (s.row i hi));
      done = λ a b k l. rw (other a (λ e. omega arith)) (f.rows.done a b k l);
    };
    here = λ b k. elim (ℕ_discrete b j) [
      | yes e ↦ rw (e, same, get_or-set_same (get_or r i []) j v 0 (rw (s.row i hi) hj)) q
      | no x ↦ rw (same, get_or-set_other (get_or r i []) j b v 0 x) (f.here b (omega arith))
    ];
  }
    where
      s : Square r
      s = f.rows.square

      same : get_or (put r i j v) i [] ≡ set (get_or r i []) j v
      same = get_or-set_same r i _ [] (rw s.rows hi)

      other : (a : ℕ) → ¬ (a ≡ i) → get_or (put r i j v) a [] ≡ get_or r a []
      other a n = get_or-set_other r i a _ [] n
