-- Laws of the unit table's words, of bounds on words as bounds on entries, and of products.
use mathlib.Core.Path.{◌≡◌, refl, ap₂, ◌∙◌}
use mathlib.Core.Bool.{false}
use mathlib.Core.Logic.{inl, inr}
use mathlib.Core.List.{List}
use Prim.Native.Nat.{ℕ, ◌+◌, ◌≤◌, ◌<◌}
use native.Mathlib.Omega.{arith}
use native.Mathlib.Numerals.{add-one}
use native.Mathlib.Decide.{ℕ_discrete}
use lib.ListN.{length, get_or, set, length-set, replicate}
use lib.Seq.{get_or-set_same, get_or-set_other}
use Rattle.maxplus.specs.Entry.{E, absent, num, ◌⊗◌, ◌⊕◌, unit, present?}
use Rattle.maxplus.specs.Tables.{sup, Vec, Mat, mm, idm}
use Rattle.maxplus.proofs.EntryLaws.{≼_refl, ≼_anti, ≼_absent, ≼_back, ⊕_r, ⊕_lub, ⊗_nothing, num_inj}
use Rattle.maxplus.proofs.SupLaws.{sup_ext}
use Rattle.maxplus.proofs.TableLaws.{idm_same, idm_eq, idm_or}
use Rattle.words.specs.Words.{word, entry, Close}
use Rattle.words.proofs.Laws.{entry_word, entry_zero, close_of, of_close, close_more}
use Rattle.cue.specs.Results.{Within}
use Rattle.tables.specs.Held.{meant, meant_v, Holds, HoldsV, Closely, CloselyV, Raised}
use Rattle.tables.proofs.Loops.{blank_word}

-- ---- the unit table
pub entry_unit : entry (word unit) ≡ unit
entry_unit = entry_word unit (λ z e. rw (← num_inj e) (omega arith))

pub unit_same : (i j v : ℕ) → v ≡ word unit → i ≡ j → entry v ≡ idm i j
unit_same i j v e h = rw (e, entry_unit, h, idm_same)

pub unit_other : (i j : ℕ) → ¬ (i ≡ j) → entry 0 ≡ idm i j
unit_other i j h = elim (idm_or i j) [ inl e ↦ absurd (h (idm_eq i j (≼_back e))) | inr e ↦ rw (e, entry_zero) ]

-- ---- a row of the product: one way between more, which raises each place; shifting by an absent entry adds nothing
pub raised_none : {n : ℕ} {x : List ℕ} (s : E) (y : Vec) → present? s ≡ false → length x ≡ 6 → Raised n s y x x
raised_none absent y e z = record { size = z; at = λ j h. rw ⊗_nothing (≼_anti (⊕_r _ _) (⊕_lub (≼_absent _) (≼_refl _))) }
raised_none (num v) y e z = absurd (let y : ◌≡◌ {A = ℕ} 0 1 = cc in let x : ⊥ = omega arith in x)

-- the first j places have been raised, the others are as they were
pub record Raising (s : E) (y : Vec) (before r : List ℕ) (j : ℕ) : Type 0 where
  pub size : length r ≡ 6
  pub done : (i : ℕ) → i < j → meant_v r i ≡ (s ⊗ y i) ⊕ meant_v before i
  pub later : (i : ℕ) → j ≤ i → get_or r i 0 ≡ get_or before i 0

module _ {s : E} {y : Vec} {before : List ℕ} where
  pub raising_none : length before ≡ 6 → Raising s y before before 0
  raising_none z = record { size = z; done = λ i h. let e : ⊥ = omega arith in absurd e; later = λ i h. refl }

  pub raising_more : {r : List ℕ} {j : ℕ} (t v : ℕ) → j < 6 → Raising s y before r j → entry t ≡ s ⊗ y j →
      entry v ≡ entry t ⊕ entry (get_or r j 0) → Raising s y before (set r j v) (j + 1)
  unfolding meant_v
  raising_more {r} {j} t v h k e f = record {
    size = simp length-set k.size;
    done = λ i l. elim (ℕ_discrete i j) [
      | yes d ↦ rw (d, get_or-set_same r j v 0 (rw k.size h), ← e, ← k.later j (omega arith)) f
      | no d ↦ rw (get_or-set_other r j i v 0 d) (unfold meant_v in k.done i (omega arith))
    ];
    later = λ i l. get_or-set_other r j i v 0 (λ x. omega arith) ∙ k.later i (omega arith);
  }

  pub raising_end : {r : List ℕ} {j n : ℕ} → Raising s y before r j → n ≤ j → Raised n s y before r
  raising_end k h = record { size = k.size; at = λ i l. k.done i (omega arith) }

pub row_none : {n : ℕ} (f : ℕ → Vec) → HoldsV n (λ j. sup 0 (λ k. f k j)) (replicate 6 0)
unfolding sup meant_v
row_none f = record { at = λ j h. rw (blank_word j) entry_zero }

pub row_more : {n : ℕ} {x r : List ℕ} {s : E} {y : Vec} (f : ℕ → Vec) (k : ℕ) → HoldsV n (λ j. sup k (λ k. f k j)) x → Raised n s y x r →
    ((j : ℕ) → j < n → s ⊗ y j ≡ f k j) → HoldsV n (λ j. sup (k + 1) (λ k. f k j)) r
unfolding sup
row_more f k h s e = record { at = λ j i. rw (add-one, ← h.at j i, ← e j i) (s.at j i) }

-- ---- bounds
pub close_within : {k l : ℕ} {e : E} (c v : ℕ) → entry v ≡ e → k ≤ c → l ≤ c → Within k l e → Close c v
close_within {k} {l} c v h p q w = close_of c v (λ z e. (
  let b = w.low.above z (rw h at e) in omega arith,
  let b = w.high.below z (rw h at e) in omega arith,
))

within_close : (c v : ℕ) → Close c v → Within c c (entry v)
within_close c v h = record { low = record { above = λ z e. (of_close c v h z e).0 }; high = record { below = λ z e. (of_close c v h z e).1 } }

pub closely_within : {m n c k l : ℕ} {A : Mat} {t : List (List ℕ)} → k ≤ c → l ≤ c → Holds m n A t →
    ((i j : ℕ) → i < m → j < n → Within k l (A i j)) → Closely m n c t
unfolding meant
closely_within {c} p q h w = record { at = λ i j hi hj. close_within c _ (h.at i j hi hj) p q (w i j hi hj) }

pub meant_within : {m n c : ℕ} {t : List (List ℕ)} → Closely m n c t → (i j : ℕ) → i < m → j < n → Within c c (meant t i j)
unfolding meant
meant_within {c} h i j hi hj = within_close c _ (h.at i j hi hj)

pub meant_v_within : {n c : ℕ} {w : List ℕ} → CloselyV n c w → (j : ℕ) → j < n → Within c c (meant_v w j)
unfolding meant_v
meant_v_within {c = c} h j hj = within_close c _ (h.at j hj)

pub closely_within_v : {n c k l : ℕ} {x : Vec} {w : List ℕ} → k ≤ c → l ≤ c → HoldsV n x w →
    ((j : ℕ) → j < n → Within k l (x j)) → CloselyV n c w
unfolding meant_v
closely_within_v {c} p q h w = record { at = λ j hj. close_within c _ (h.at j hj) p q (w j hj) }

pub closely_more : {m n c d : ℕ} {t : List (List ℕ)} → c ≤ d → Closely m n c t → Closely m n d t
closely_more h k = record { at = λ i j hi hj. close_more h (k.at i j hi hj) }

pub closely_more_v : {n c d : ℕ} {w : List ℕ} → c ≤ d → CloselyV n c w → CloselyV n d w
closely_more_v h k = record { at = λ j hj. close_more h (k.at j hj) }

-- the rows down to row i
pub closely_part : {m n c d : ℕ} {t : List (List ℕ)} (i : ℕ) → i < m → c ≤ d → Closely m n c t → Closely (i + 1) n d t
closely_part i h l k = record { at = λ a b p q. close_more l (k.at a b (omega arith) q) }

-- a product of tables that are held
pub mm_held : {m k n : ℕ} {A B : Mat} {a b r : List (List ℕ)} → Holds m k A a → Holds k n B b →
    Holds m n (mm k (meant a) (meant b)) r → Holds m n (mm k A B) r
unfolding mm
mm_held {k} h g e = record { at = λ i j hi hj. e.at i j hi hj ∙ sup_ext k (λ l hl. ap₂ ◌⊗◌ (h.at i l hi hl) (g.at l j hl hj)) }
