-- The table of rows that were made by places is the table that they were made from, as it stands within the sizes; which rows have an entry,
-- and which triggers a lag.
use mathlib.Core.Path.{◌≡◌, refl, ap, ap₂, sym, ◌∙◌, fun_ext}
use mathlib.Core.List.{[]}
use mathlib.Core.Bool.{Bool, true, false, cond, not, ◌&&◌}
use mathlib.Core.Option.{Option, none, some}
use Prim.Native.Nat.{ℕ, ◌<◌}
use native.Mathlib.Omega.{arith}
use borrow.Author.Tests.{ltb-true, ltb-false, lt-ltb}
use lib.Dec.{T, ltb}
use lib.IntN.{ℤ, pos}
use lib.ListN.{get_or, get_or-eq_default}
use Rattle.maxplus.specs.Entry.{absent, num, val, Present, present?}
use Rattle.maxplus.specs.Tables.{Vec, Mat}
use Rattle.maxplus.proofs.EntryLaws.{absent_not}
use Rattle.maxplus.proofs.FiniteLaws.{both}
use Rattle.maxplus.proofs.EachLaws.{length_each, each_at}
use Rattle.sheet.specs.Sheet.{absent?, any, all, row, table, Measure, by_marks, by_spread, by_spread?, Sheet, given_table, lagless, spare}
use Rattle.sheet.specs.Sheet.{some_lag_missing}
use Rattle.sheet.specs.Good.{Measured}
use Rattle.sheet.proofs.LineLaws.{any_none, any_at, place_none}
use Rattle.sheet.proofs.Idle.{none_absent, none_same}
use Rattle.sheet_text.specs.SheetText.{first_entries, first_rows, first_numbers, number_line, if_given, trimmed}
use Rattle.sheet_text.proofs.LineBack.{listed, listed_rows}

-- ---- places
listed_at : {A : Type 0} (n : ℕ) (f : ℕ → A) (d : A) (j : ℕ) → get_or (listed n f) j d ≡ cond (ltb j n) (f j) d
listed_at n f d j = go (ltb j n) refl
  where
    go : (b : Bool) → ltb j n ≡ b → get_or (listed n f) j d ≡ cond b (f j) d
    go true e = each_at n j f d (ltb-true j n e)
    go false e = get_or-eq_default (listed n f) d (omega (arith, ltb-false j n e, length_each n f))

pub table_back : (m n : ℕ) (A : Mat) → table (listed_rows m n A) ≡ first_rows m n A
table_back m n A = fun_ext (λ i. fun_ext (λ j. ap (λ es. row es j) (listed_at m (λ i. listed n (A i)) [] i) ∙ go i j (ltb i m)))
  where
    go : (i j : ℕ) (b : Bool) → row (cond b (listed n (A i)) []) j ≡ cond b (first_entries n (A i) j) absent
    go i j true = listed_at n (A i) absent j
    go i j false = refl

-- the numbers of a line, 0 behind its last item
pub numbers_back : (n : ℕ) (f : ℕ → ℤ) → ◌≡◌ {A = ℕ → ℤ} (λ j. val (table (listed_rows 1 n (number_line f)) 0 j)) (first_numbers n f)
unfolding val
numbers_back n f = fun_ext (λ j. ap (λ A. val (A 0 j)) (table_back 1 n (number_line f)) ∙ go j (ltb j n))
  where
    go : (j : ℕ) (b : Bool) → val (cond b (num (f j)) absent) ≡ cond b (f j) (pos 0)
    go j true = refl
    go j false = refl

-- ---- rows that have an entry
row_there : (n : ℕ) (v : Vec) → (j : ℕ) × (j < n) × Present (v j) → all absent? (listed n v) ≡ false
row_there n v (j, h, p) =
    ap not (any_at (λ e. not (absent? e)) absent (listed n v) j (omega (arith, length_each n v)) (rw (each_at n j v absent h, p.1)))

pub rows_there : (m n : ℕ) (A : Mat) → ((i : ℕ) → i < m → (j : ℕ) × (j < n) × Present (A i j)) → any (all absent?) (listed_rows m n A) ≡ false
rows_there m n A h = any_none (all absent?) [] (listed_rows m n A) (λ i q.
    let p : i < m = omega (arith, length_each m (λ i. listed n (A i))) in
    rw (each_at m i (λ i. listed n (A i)) [] p) (row_there n (A i) (h i p)))

-- ---- triggers that have a lag
-- within the sizes nothing is lost
rows_within : (m n : ℕ) (A : Mat) (i j : ℕ) → i < m → j < n → first_rows m n A i j ≡ A i j
rows_within m n A i j h q = rw (lt-ltb i m h, lt-ltb j n q)

given_within : (m n : ℕ) (o : Option Mat) (i j : ℕ) → i < m → j < n → given_table (if_given (first_rows m n) o) i j ≡ given_table o i j
given_within m n none i j h q = refl
given_within m n (some A) i j h q = rows_within m n A i j h q

module _ (t : Sheet) where
  open t use {panels, triggers, lag, after, land}

  spare_trimmed : (j : ℕ) → j < triggers → spare (trimmed t) j ≡ spare t j
  unfolding spare
  spare_trimmed j h =
      ap₂ ◌&&◌ (ap₂ ◌&&◌ (ap₂ ◌&&◌ (none_same panels _ _ (λ i q. ap present? (rows_within panels triggers lag i j q h)))
      (none_same triggers _ _ (λ k q. ap present? (rows_within triggers triggers after j k h q))))
      (none_same triggers _ _ (λ k q. ap present? (rows_within triggers triggers after k j q h))))
      (none_same panels _ _ (λ i q. ap present? (given_within triggers panels land j i h q)))

  -- 14 is not met: a trigger that is not spare has a lag within the sizes
  pub none_missing : (M : Measure) → Measured t M → by_spread? M && some_lag_missing (trimmed t) ≡ false
  none_missing (by_marks p q) reached = refl
  none_missing by_spread reached = place_none triggers (λ j. not (spare (trimmed t) j) && lagless (trimmed t) j) (λ j h. is_false _ (not_met j h))
    where
      is_false : (b : Bool) → (T b → ⊥) → b ≡ false
      is_false true h = absurd (h tt)
      is_false false h = refl

      not_met : (j : ℕ) → j < triggers → T (not (spare (trimmed t) j) && lagless (trimmed t) j) → ⊥
      not_met j h u =
          let (used, no_lag) = (both (not (spare (trimmed t) j)) (lagless (trimmed t) j)).0 u in
          let (i, q, (z, e)) = reached j h (rw (spare_trimmed j h) at used) in
          absent_not (sym ((none_absent panels (λ i. first_rows panels triggers lag i j)).0 no_lag i q) ∙ rows_within panels triggers lag i j q h ∙ e)
