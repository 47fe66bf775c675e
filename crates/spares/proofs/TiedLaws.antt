-- A trigger's test in words: a largest of a table's column or row is there, from that of the words copied out.
use mathlib.Core.Path.{◌≡◌, ap, ◌∙◌}
use mathlib.Core.List.{List, []}
use mathlib.Core.Bool.{Bool, true, false}
use Prim.Native.Nat.{ℕ, ◌≤◌, ◌<◌}
use native.Mathlib.Omega.{arith}
use lib.ListN.{get_or}
use Rattle.maxplus.specs.Entry.{present?}
use Rattle.maxplus.specs.Tables.{sup, Mat}
use Rattle.maxplus.proofs.SupLaws.{sup_ext}
use Rattle.words.specs.Words.{entry}
use Rattle.cue.specs.Sizes.{size_limit}
use Rattle.tables.specs.Held.{cell, meant, meant_v}
use Rattle.spares.specs.Using.{tied}

module _ (t : List (List ℕ)) (j n l : ℕ) {b : Bool} where
  pub column_there : (w : List ℕ) → n ≤ size_limit → ((i : ℕ) → i < 6 → get_or w i 0 ≡ cell t i j) → entry l ≡ sup n (meant_v w) →
      b ≡ present? (entry l) → b ≡ present? (sup n (λ i. meant t i j))
  unfolding meant meant_v
  column_there w few copied e p = p ∙ ap present? (e ∙ sup_ext n (λ i h. ap entry (copied i (omega arith))))

  pub row_there : entry l ≡ sup n (meant_v (get_or t j [])) → b ≡ present? (entry l) → b ≡ present? (sup n (λ k. meant t j k))
  unfolding meant meant_v
  row_there e p = p ∙ ap present? e

-- by the first of the three that is there, and else by the last
module _ (m n : ℕ) (B A : Mat) (j : ℕ) where
  pub tied_lag : true ≡ present? (sup m (λ i. A i j)) → true ≡ tied m n B A j
  unfolding tied
  tied_lag p = rw (← p)

  pub tied_row : false ≡ present? (sup m (λ i. A i j)) → true ≡ present? (sup n (λ k. B j k)) → true ≡ tied m n B A j
  unfolding tied
  tied_row p q = rw (← p, ← q)

  pub tied_column : {b : Bool} → false ≡ present? (sup m (λ i. A i j)) → false ≡ present? (sup n (λ k. B j k)) →
      b ≡ present? (sup n (λ k. B k j)) → b ≡ tied m n B A j
  unfolding tied
  tied_column p q r = rw (← p, ← q) r
