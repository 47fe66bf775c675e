-- Laws of a sheet's text: a line from its first item on, several lines from the first one on; that only what stands within the sizes is written.
use mathlib.Core.Path.{◌≡◌, ap, sym, ◌∙◌}
use mathlib.Core.List.{List, [], ◌∷◌, ◌++◌, append_assoc, append-nil}
use Prim.Native.Nat.{ℕ, zero, suc, ◌≤◌, ◌<◌}
use native.Mathlib.Omega.{arith}
use Rattle.maxplus.specs.Finite.{each}
use Rattle.maxplus.specs.Tables.{Vec, Mat}
use Rattle.maxplus.proofs.EachLaws.{each_same}
use Rattle.sheet.specs.Text.{bytes}
use Rattle.sheet.specs.Sheet.{ending}
use Rattle.writing.specs.Numerals.{item}
use Rattle.writing.specs.Texts.{field, joined}
use Rattle.sheet_text.specs.SheetText.{row_text, rows_text}

-- ---- parts one after the other, from the first on
pub each_first : {A : Type 0} (n : ℕ) (f : ℕ → List A) → each (suc n) f ≡ f 0 ++ each n (λ j. f (suc j))
unfolding each
each_first zero f = sym (append-nil (f 0))
each_first (suc n) f = ap (λ l. l ++ f (suc n)) (each_first n f) ∙ append_assoc (f 0) (each n (λ j. f (suc j))) (f (suc n))

-- ---- the items of a line, each with the comma or LF behind it
unfoldable pub ends : ℕ → Vec → List ℕ
ends zero v = []
ends (suc k) v = item (v 0) ++ (ending k ++ ends k (λ j. v (suc j)))

joined_first : (v : List ℕ) (k : ℕ) (f : ℕ → List ℕ) →
    joined (v ∷ each (suc k) (λ j. f j ∷ [])) ≡ v ++ bytes "," ++ joined (each (suc k) (λ j. f j ∷ []))
unfolding joined
joined_first v k f = rw (each_first k (λ j. f j ∷ []))

-- The same bytes as those written, where there is an item: a comma in front of every item but the first, and LF, is a comma behind every
-- item but the last, and LF behind that.
ends_joined : (k : ℕ) (v : Vec) → joined (each (suc k) (λ j. item (v j) ∷ [])) ++ bytes "\n" ≡ ends (suc k) v
unfolding joined ends each
ends_joined zero v = ap (λ t. item (v 0) ++ t) (sym (append-nil (bytes "\n")))
ends_joined (suc k) v =
    let more : List ℕ = joined (each (suc k) (λ j. item (v (suc j)) ∷ [])) in
    ap (λ l. joined l ++ bytes "\n") (each_first (suc k) (λ j. item (v j) ∷ []))
    ∙ ap (λ t. t ++ bytes "\n") (joined_first (item (v 0)) k (λ j. item (v (suc j))))
    ∙ append_assoc (item (v 0) ++ bytes ",") more (bytes "\n") ∙ append_assoc (item (v 0)) (bytes ",") (more ++ bytes "\n")
    ∙ ap (λ t. item (v 0) ++ (bytes "," ++ t)) (ends_joined k (λ j. v (suc j)))

module _ (key : List ℕ) where
  -- a line: its key, then its items with what stands behind each
  pub row_ends : (n : ℕ) (v : Vec) (s : List ℕ) → 1 ≤ n → row_text key n v ++ s ≡ key ++ (ends n v ++ s)
  row_ends zero v s some = absurd (let x : ⊥ = omega arith in x)
  row_ends (suc k) v s some =
      ap (λ t. t ++ s) (append_assoc key (joined (each (suc k) (λ j. item (v j) ∷ []))) (bytes "\n") ∙ ap (λ t. key ++ t) (ends_joined k v))
      ∙ append_assoc key (ends (suc k) v) s

  module _ (m n : ℕ) where
    pub first_line : (A : Mat) → rows_text key (suc m) n A ≡ row_text key n (A 0) ++ rows_text key m n (λ i. A (suc i))
    unfolding rows_text
    first_line A = each_first m (λ i. row_text key n (A i))

    pub first_line_on : (A : Mat) (s : List ℕ) → rows_text key (suc m) n A ++ s ≡ row_text key n (A 0) ++ (rows_text key m n (λ i. A (suc i)) ++ s)
    first_line_on A s = ap (λ t. t ++ s) (first_line A) ∙ append_assoc (row_text key n (A 0)) (rows_text key m n (λ i. A (suc i))) s

    -- only what stands within the sizes is written
    pub rows_same : (A B : Mat) → ((i j : ℕ) → i < m → j < n → A i j ≡ B i j) → rows_text key m n A ≡ rows_text key m n B
    unfolding rows_text
    rows_same A B same =
        each_same m _ _ (λ i h. ap (λ l. field key (joined l)) (each_same n _ _ (λ j q. ap (λ e. item e ∷ []) (same i j h q))))
