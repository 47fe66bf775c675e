-- Steps 2 to 4 in words: pulls, marks, kept entries, and the bytes of kept triggers, panel by panel.
use mathlib.Core.Path.{◌≡◌, refl, ap, sym, ◌∙◌}
use mathlib.Core.List.{List}
use mathlib.Core.Bool.{Bool, true, false}
use Prim.Native.Nat.{ℕ, ◌+◌, ◌≤◌, ◌<◌}
use native.Mathlib.Omega.{arith}
use native.Mathlib.Decide.{ℕ_discrete}
use lib.ListN.{length-set, length, get_or, set, replicate}
use lib.Seq.{get_or-set_same, get_or-set_other}
use borrow.Author.Tests.{le-leb, lt-leb}
use Rattle.maxplus.specs.Entry.{E, ◌⊗◌, inv, unit, leq_E, present?}
use Rattle.maxplus.specs.Tables.{Vec, Mat, mv}
use Rattle.maxplus.proofs.EntryLaws.{⊗_unit, num_inj}
use Rattle.maxplus.proofs.SupLaws.{sup_ext}
use Rattle.words.specs.Words.{word, entry, Close}
use Rattle.words.proofs.Laws.{word_order, close_of, close_more, close_minus}
use Rattle.cue.specs.Cue.{overdue, shortfall}
use Rattle.tables.specs.Held.{cell, meant, meant_v, HoldsV, Closely, CloselyV}
use Rattle.thresholds.specs.Thresholds.{reaches, kept_of, KeptBytes}
use Rattle.maxplus.specs.Finite.{byte_of}
use Rattle.trigger_sets.proofs.ByteLaws.{byte_empty}
use Rattle.tables.proofs.Loops.{blank_word}
use Rattle.tables.proofs.SquareLaws.{entry_unit}
use Rattle.cue.specs.Sizes.{size_limit}

-- ---- a pull, from column j of the table
module _ {n : ℕ} (j : ℕ) (t : List (List ℕ)) (w : List ℕ) (few : n ≤ size_limit) (copied : (i : ℕ) → i < 6 → get_or w i 0 ≡ cell t i j) where
  pub column_close : {c d : ℕ} → c ≤ d → j < n → Closely n n c t → CloselyV n d w
  column_close h hj k = record { at = λ i hi. rw (copied i (omega arith)) (close_more h (k.at i j hi hj)) }

  pub column_overdue : (q : Vec) (r : ℕ) → entry r ≡ overdue n q (meant_v w) → entry r ≡ overdue n q (λ i. meant t i j)
  unfolding overdue meant meant_v
  column_overdue q r e = e ∙ sup_ext n (λ i hi. ap (λ v. entry v ⊗ inv (q i)) (copied i (omega arith)))

-- ---- the marks, which are the pulls with the sign turned: z is the word of 0
pub zero_close : {z : ℕ} (c : ℕ) → z ≡ word unit → Close c z
zero_close {z} c h = close_of c z (λ x e. rw (← num_inj (sym (ap entry h ∙ entry_unit) ∙ e)) (omega arith, omega arith))

module _ {n z : ℕ} (u : List ℕ) {r : List ℕ} (zero_word : z ≡ word unit) (h : HoldsV n (λ j. entry z ⊗ inv (meant_v u j)) r) where
  pub marks_close : {c d : ℕ} → c ≤ d → CloselyV n c u → CloselyV n d r
  unfolding meant_v
  marks_close l k = record {
    at = λ j hj. close_more (omega arith) (close_minus z (get_or u j 0) (get_or r j 0) (h.at j hj) (zero_close 0 zero_word) (k.at j hj));
  }

  mark_is : (j : ℕ) → j < n → meant_v r j ≡ inv (meant_v u j)
  mark_is j hj = h.at j hj ∙ ap (λ e. e ⊗ inv (meant_v u j)) (ap entry zero_word ∙ entry_unit) ∙ ⊗_unit _

  pub marks_shortfall : (m : ℕ) (A : Mat) (p : Vec) (s : ℕ) → entry s ≡ shortfall m n A p (meant_v r) →
      entry s ≡ shortfall m n A p (λ j. inv (meant_v u j))
  unfolding shortfall mv
  marks_shortfall m A p s e = e ∙ sup_ext m (λ i hi. ap (λ y. p i ⊗ inv y) (sup_ext n (λ j hj. ap (λ x. A i j ⊗ x) (mark_is j hj))))

-- ---- a kept entry, and a panel without a floor
pub reaches_yes : (a d : ℕ) (e : E) → entry a ≡ e → a ≤ d → leq_E e (entry d) ≡ true
reaches_yes a d e h l = rw (← h) (sym (word_order a d) ∙ le-leb a d l)

pub reaches_no : (a d : ℕ) (e : E) → entry a ≡ e → d < a → leq_E e (entry d) ≡ false
reaches_no a d e h l = rw (← h) (sym (word_order a d) ∙ lt-leb a d l)

pub floor_there : (n : ℕ) (e f a : E) (D : Mat) (u : Vec) (i r : ℕ) → present? f ≡ true → a ≡ f ⊗ inv e →
    r ≡ byte_of n (reaches a D u i) → r ≡ byte_of n (kept_of e D u f i)
unfolding kept_of byte_of
floor_there n e f a D u i r p h q = rw (p, ← h) q

pub floor_absent : (n : ℕ) (e f : E) (D : Mat) (u : Vec) (i : ℕ) → present? f ≡ false → 0 ≡ byte_of n (kept_of e D u f i)
unfolding kept_of byte_of
floor_absent n e f D u i p = sym (byte_empty n (kept_of e D u f i) (λ j. rw p))

-- ---- panel by panel
module _ (n : ℕ) (b : ℕ → ℕ → Bool) where
  pub bytes_none : KeptBytes 0 n b (replicate 6 0)
  bytes_none = record { size = refl; at = λ i h. let e : ⊥ = omega arith in absurd e; past = λ i h. blank_word i }

  pub bytes_more : (r : List ℕ) (i v : ℕ) → length r ≡ 6 → i < 6 → KeptBytes i n b r → v ≡ byte_of n (b i) → KeptBytes (i + 1) n b (set r i v)
  bytes_more r i v s h k e = record {
    size = simp length-set s;
    at = λ a l. elim (ℕ_discrete a i) [
      | yes x ↦ rw (x, get_or-set_same r i v 0 (rw s h)) e
      | no x ↦ rw (get_or-set_other r i a v 0 x) (k.at a (omega arith))
    ];
    past = λ a l. rw (get_or-set_other r i a v 0 (λ x. omega arith)) (k.past a (omega arith));
  }
