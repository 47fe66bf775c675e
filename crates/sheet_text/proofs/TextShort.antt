-- How long lines are that fit their kind: no longer than the most bytes that a sheet's lines of that kind can have (sheet/proofs/Longest).
use mathlib.Core.Path.{◌≡◌, ap}
use mathlib.Core.List.{List, [], ◌∷◌, ◌++◌}
use mathlib.Core.Bool.{false}
use mathlib.Core.Option.{Option, none, some}
use Prim.Native.Nat.{ℕ, zero, suc, ◌+◌, ◌*◌, ◌≤◌, ◌<◌}
use native.Mathlib.Nat.{suc-mul}
use native.Mathlib.Omega.{arith}
use borrow.Author.Tests.{ltb-false}
use lib.Dec.{ltb}
use lib.IntN.{pos, negsuc}
use lib.ListN.{length, length-append}
use Rattle.maxplus.specs.Entry.{E, absent, num}
use Rattle.maxplus.specs.Finite.{each}
use Rattle.maxplus.specs.Tables.{Vec, Mat}
use Rattle.sheet.specs.Text.{bytes}
use Rattle.sheet.specs.Sheet.{Content, size, entry, mark, limit, out_of_range, Section}
use Rattle.sheet.proofs.LineLaws.{none_or, size_there}
use Rattle.sheet.proofs.Longest.{places, item_most, section_most, sections_most, one_ending}
use Rattle.writing.specs.Numerals.{item}
use Rattle.writing.proofs.NumeralLaws.{natural_small, signed_length}
use Rattle.sheet_text.specs.SheetText.{row_text, rows_text, section_text, sections_text, optional_text}
use Rattle.sheet_text.proofs.LineText.{ends, row_ends, first_line}
use Rattle.sheet_text.proofs.LineBack.{Allowed, Fits, AllFit, MayFit}

range_short : (e : E) → out_of_range e ≡ false → length (item e) ≤ 7
unfolding bytes
range_short absent h = omega arith
range_short (num (pos v)) h = signed_length 5 (pos v) (omega (arith, ltb-false limit v (none_or (ltb limit v) false h).0))
range_short (num (negsuc v)) h = signed_length 5 (negsuc v) (omega (arith, ltb-false limit (suc v) h))

item_short : (r : Content) (e : E) → Allowed r e → length (item e) ≤ suc (places r)
item_short size e (there, right) = let (m, q, few) = size_there e there right in rw (q, natural_small (suc m) (omega arith)) (omega arith)
item_short entry e h = range_short e h
item_short mark e (h, there) = range_short e h

module _ (r : Content) where
  ends_short : (k : ℕ) (v : Vec) → ((j : ℕ) → j < k → Allowed r (v j)) → length (ends k v) ≤ k * item_most r
  unfolding ends
  ends_short zero v h = omega arith
  ends_short (suc k) v h =
      let one = item_short r (v 0) (h 0 (omega arith)) in
      let more = ends_short k (λ j. v (suc j)) (λ j q. h (suc j) (omega arith)) in
      simp length-append (omega (arith, one_ending k, suc-mul k (item_most r)))

  module _ (key : List ℕ) (n : ℕ) (some : 1 ≤ n) where
    row_short : (v : Vec) → ((j : ℕ) → j < n → Allowed r (v j)) → length (row_text key n v) ≤ length key + n * item_most r
    row_short v h =
        let same : row_text key n v ++ [] ≡ key ++ (ends n v ++ []) = row_ends key n v [] some in
        omega (arith, ap length same, length-append (row_text key n v) [], length-append key (ends n v ++ []), length-append (ends n v) [], ends_short n v h)

    rows_short : (m : ℕ) (A : Mat) → ((i j : ℕ) → i < m → j < n → Allowed r (A i j)) →
        length (rows_text key m n A) ≤ m * (length key + n * item_most r)
    unfolding rows_text each
    rows_short zero A h = omega arith
    rows_short (suc m) A h =
        let one = row_short (A 0) (λ j. h 0 j (omega arith)) in
        let more = rows_short m (λ i. A (suc i)) (λ i j q. h (suc i) j (omega arith)) in
        omega (
          arith,
          ap length (first_line key m n A),
          length-append (row_text key n (A 0)) (rows_text key m n (λ i. A (suc i))),
          suc-mul m (length key + n * item_most r),
        )

section_short : (k : Section) (A : Mat) → Fits k A → length (section_text k A) ≤ section_most k
section_short k A F = rows_short k.content k.key k.items F.items_some k.lines A F.allowed

pub sections_short : (ks : List Section) (As : List Mat) → AllFit ks As → length (sections_text ks As) ≤ sections_most ks
sections_short [] As F = omega arith
sections_short (k ∷ ks) [] F = absurd F
sections_short (k ∷ ks) (A ∷ As) (F, G) =
    let one = section_short k A F in
    let more = sections_short ks As G in
    simp length-append (omega arith)

pub optional_short : (k : Section) (o : Option Mat) → MayFit k o → length (optional_text k o) ≤ section_most k
optional_short k none F = omega arith
optional_short k (some A) (more, F) = section_short k A F
