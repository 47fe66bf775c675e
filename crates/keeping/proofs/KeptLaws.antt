-- What the kept table's answer says: its bytes and counts are those of document 01's panels, 0 past the last.
use mathlib.Core.Path.{◌≡◌, refl, ap, sym, subst, ◌∙◌}
use mathlib.Core.Logic.{◌⊎◌, inl, inr}
use mathlib.Core.Bool.{false, not}
use mathlib.Core.List.{List, [], ◌∷◌}
use Prim.Native.Nat.{ℕ, ◌≤◌, ◌<◌}
use native.Mathlib.Omega.{arith}
use native.Mathlib.Decide.{dec_lt}
use borrow.Author.Tests.{lt-ltb}
use lib.Count.{ones}
use Rattle.std.specs.Prelude.{Result, Ok}
use Rattle.refusals.specs.declared.Refusal.{Refusal}
use lib.Dec.{T}
use lib.ListN.{length, get_or, get_or-eq_default}
use lib.Seq.{ext_get_or}
use Rattle.maxplus.specs.Finite.{each, byte_of}
use Rattle.maxplus.specs.Packing.{rank, filled}
use Rattle.maxplus.proofs.FiniteLaws.{test}
use Rattle.maxplus.proofs.PackingLaws.{rank_few, rank_more, filled_rank, filled_other}
use Rattle.maxplus.proofs.EachLaws.{length_each, each_at, each_same}
use lib.IntN.{ℤ}
use Rattle.cue.specs.Cue.{Cue}
use Rattle.cue.specs.Method.{least, floor_panels, kept, kept_byte}
use Rattle.sheet.specs.Sheet.{Got, got}
use Rattle.sheet.specs.Sheet as spec
use Rattle.sheet.specs.Cue.{used, cue_size, cue_of, Orderly, orderly?, sheet_least, sheet_kept, sheet_byte, sheet_count, sheet_steps, sheet_selections}
use Rattle.sheet.specs.Cue.{most_steps}
use Rattle.sheet.proofs.OrderedLaws.{ordered_by}
use Rattle.sheet.proofs.Fits.{all_fit}
use Rattle.preparing.proofs.Results.{kept_bit}
use Rattle.reading.proofs.Refusals.{ordered_is}
use Rattle.refusals.proofs.NumberLaws.{Known}
use Rattle.trigger_sets.specs.Sets.{bit}
use Rattle.trigger_sets.proofs.BitLaws.{bit_none}
use Rattle.trigger_sets.proofs.ByteLaws.{byte_ext, byte_empty, byte_ones}
use Rattle.tables.proofs.Loops.{Filled}
use Rattle.walk.specs.State.{counts_of, levels}
use Rattle.walk.specs.Remembers.{Asks, Remembers}
use Rattle.walk.specs.Steps.{StepTaken}
use Rattle.walk.specs.declared.Counts.{Counts}
use Rattle.walk.specs.declared.Walk.{Walk}
use Rattle.walk.specs.declared.Stepped.{Stepped}
use Rattle.walk.proofs.Stepping.{Walked, step_remembers}
use Rattle.walk.proofs.Follows.{counts_follow}
use Rattle.preparing.specs.Prepared.{MarkedAs}
use Rattle.preparing.specs.declared.Marked.{Marked}
use Rattle.keeping.specs.Keeping.{refused, kept_of, keeping, six_counts, kept_answer, table_in, StepsAtMost}
use Rattle.sheet.specs.Ordered.{ordered}
use Rattle.keeping.specs.declared.KeptTable.{KeptTable}
use Rattle.cue.specs.Sizes.{size_limit, six}

-- the byte and the number of panel i
abbrev pub Pair : Type 0
Pair = ℕ × ℕ

abbrev pair : (ℕ → ℕ) → (ℕ → ℕ) → ℕ → Pair
pair b c i = (b i, c i)

none : Pair
none = (0, 0)

module _ (m : ℕ) (b c : ℕ → ℕ) (bytes : List ℕ) (few : m ≤ size_limit) (long : length bytes ≡ 6)
    (here : (i : ℕ) → i < m → get_or bytes i 0 ≡ b i) (past : (i : ℕ) → m ≤ i → get_or bytes i 0 ≡ 0)
    (counted : (i : ℕ) → ones (b i) ≡ c i) where
  abbrev pub pairs : List Pair
  pairs = each m (λ i. pair b c i ∷ [])

  pair_at : (i : ℕ) → i < m → get_or pairs i (0, 0) ≡ pair b c i
  pair_at i h = each_at m i (pair b c) (0, 0) h

  pair_past : (i : ℕ) → m ≤ i → get_or pairs i (0, 0) ≡ none
  unfolding none
  pair_past i h = get_or-eq_default pairs (0, 0) {n = i} (let e = length_each m (pair b c) in omega arith)

  byte_there : (i : ℕ) → get_or bytes i 0 ≡ (get_or pairs i (0, 0)).0
  unfolding none
  byte_there i = elim (dec_lt i m) [
    | yes h ↦ here i h ∙ sym (ap (λ (p : Pair). p.0) (pair_at i h))
    | no h ↦ past i (omega arith) ∙ sym (ap (λ (p : Pair). p.0) (pair_past i (omega arith)))
  ]

  count_there : (i : ℕ) → ones (get_or bytes i 0) ≡ (get_or pairs i (0, 0)).1
  unfolding none ones
  count_there i = elim (dec_lt i m) [
    | yes h ↦ ap ones (here i h) ∙ counted i ∙ sym (ap (λ (p : Pair). p.1) (pair_at i h))
    | no h ↦ ap ones (past i (omega arith)) ∙ sym (ap (λ (p : Pair). p.1) (pair_past i (omega arith)))
  ]

  pub bytes_answer : bytes ≡ six (λ i. (get_or pairs i (0, 0)).0)
  bytes_answer = ext_get_or 0 bytes (six (λ i. (get_or pairs i (0, 0)).0)) (long ∙ sym (length_each 6 (λ i. (get_or pairs i (0, 0)).0)))
      (λ i h. byte_there i ∙ sym (each_at 6 i (λ i. (get_or pairs i (0, 0)).0) 0 (omega arith)))

  pub counts_answer : six_counts bytes ≡ six (λ i. (get_or pairs i (0, 0)).1)
  counts_answer = each_same 6 _ _ (λ i h. ap (λ v. v ∷ []) (count_there i))

-- six numbers, written one after the other
pub six_filled : (g : ℕ → ℕ) (r : List ℕ) → Filled (λ i v. v ≡ g i) 0 r 6 → r ≡ six g
six_filled g r F = ext_get_or 0 r (six g) (F.size ∙ sym (length_each 6 g))
    (λ i h. F.done i (let q = F.size in omega arith) ∙ sym (each_at 6 i g 0 (let q = F.size in omega arith)))

-- ---- each trigger at its own bit
module _ (t : spec.Sheet) (few : t.triggers ≤ size_limit) where
  abbrev laid_byte : ℕ → ℕ
  laid_byte set = byte_of t.triggers (filled (used t) (λ j. false) (bit set))

  abbrev own_byte : ℕ → ℕ
  own_byte i = kept_byte (cue_size t) (cue_of t) (sheet_least t) i

  -- the bits of the cue's byte are its kept triggers
  own_bit : (i k : ℕ) → k < cue_size t → bit (own_byte i) k ≡ kept (cue_size t) (cue_of t) (sheet_least t) i k
  own_bit i k h = let q = rank_few (used t) t.triggers in
      kept_bit (cue_size t) (cue_of t) (sheet_least t) i k (omega arith) (omega arith) ∙ rw (lt-ltb k (cue_size t) h)

  byte_laid : (i : ℕ) → laid_byte (own_byte i) ≡ sheet_byte t i
  unfolding sheet_byte sheet_kept
  byte_laid i = byte_ext t.triggers _ _ (λ j h. go j h (test (used t j)))
    where
      go : (j : ℕ) → j < t.triggers → T (used t j) ⊎ T (not (used t j)) →
          filled (used t) (λ j. false) (bit (own_byte i)) j ≡
          filled (used t) (λ j. false) (kept (cue_size t) (cue_of t) (sheet_least t) i) j
      go j h (inl u) = filled_rank (used t) _ _ j u ∙ own_bit i (rank (used t) j) (rank_more (used t) j t.triggers h u) ∙
          sym (filled_rank (used t) _ _ j u)
      go j h (inr u) = filled_other (used t) _ _ j u ∙ sym (filled_other (used t) _ _ j u)

  none_laid : laid_byte 0 ≡ 0
  none_laid = byte_empty t.triggers _ (λ j. go j (test (used t j)))
    where
      go : (j : ℕ) → T (used t j) ⊎ T (not (used t j)) → filled (used t) (λ j. false) (bit 0) j ≡ false
      go j (inl u) = filled_rank (used t) _ _ j u ∙ bit_none (rank (used t) j)
      go j (inr u) = filled_other (used t) _ _ j u

  ones_laid : (i : ℕ) → ones (sheet_byte t i) ≡ sheet_count t i
  unfolding sheet_byte sheet_count
  ones_laid i = byte_ones t.triggers (sheet_kept t i)

-- ---- the whole answer
same_table : {D E : ℤ} {p q : ℕ} {b c x y : List ℕ} {k l i j : ℕ} → D ≡ E → p ≡ q → b ≡ c → x ≡ y → k ≡ l → i ≡ j →
    ◌≡◌ {A = KeptTable} (record { deviation = D; panels = p; kept = b; counts = x; steps = k; selections = i })
    (record { deviation = E; panels = q; kept = c; counts = y; steps = l; selections = j })
same_table d p b x k i = cc

pub walked_answer : (t : spec.Sheet) (x : List ℕ) → t.triggers ≤ size_limit → {lags stars gains needs : List (List ℕ)} {r : Marked} →
    MarkedAs (cue_size t) (cue_of t) lags stars gains needs r → (D : ℤ) → D ≡ sheet_least t →
    (b : List ℕ) → b ≡ six (λ i. byte_of t.triggers (filled (used t) (λ j. false) (bit (get_or r.kept i 0)))) →
    (ns : List ℕ) → ns ≡ six_counts b → (k : Counts) → k ≡ counts_of r.marks.kept gains r.marks.levels →
    ◌≡◌ {A = Result KeptTable Refusal}
    (Ok (record { deviation = D; panels = r.marks.panels; kept = b; counts = ns; steps = k.steps; selections = k.selections }))
    (kept_answer (kept_of (got t x)))
walked_answer t x six-triggers {r} M D d b h ns e k f =
    ap Ok (same_table d (M.prepared.panels ∙ sym (length_each t.panels (pair (sheet_byte t) (sheet_count t))))
    (bytes_answer t.panels _ _ b few long here past (ones_laid t six-triggers))
    (e ∙ counts_answer t.panels _ _ b few long here past (ones_laid t six-triggers))
    (ap (λ c. c.steps) counted) (ap (λ c. c.selections) counted))
  where
    laid : ℕ → ℕ
    laid i = laid_byte t six-triggers (get_or r.kept i 0)

    few : t.panels ≤ size_limit
    few = M.prepared.few_panels

    long : length b ≡ 6
    long = rw h (length_each 6 laid)

    at : (i : ℕ) → i < 6 → get_or b i 0 ≡ laid i
    at i q = rw h (each_at 6 i laid 0 q)

    here : (i : ℕ) → i < t.panels → get_or b i 0 ≡ sheet_byte t i
    here i q = at i (omega arith) ∙ ap (laid_byte t six-triggers) (M.bytes i q) ∙ byte_laid t six-triggers i

    past : (i : ℕ) → t.panels ≤ i → get_or b i 0 ≡ 0
    past i q = elim (dec_lt i 6) [
      | yes p ↦ at i p ∙ ap (laid_byte t six-triggers) (M.past i q) ∙ none_laid t six-triggers
      | no p ↦ get_or-eq_default b 0 {n = i} (omega (arith, long))
    ]

    counted : ◌≡◌ {A = Counts} k (record { steps = sheet_steps t; selections = sheet_selections t })
    counted = f ∙ counts_follow M.follows

-- ---- document 02, No. 3: the kept table walks with the table that step 6's w is made of, so in every state that a step of its walk hands back
-- w is right
module _ {n : ℕ} {P : Cue} {lags stars gains needs : List (List ℕ)} {m : Marked} (M : MarkedAs n P lags stars gains needs m) where
  walk_asks : Asks n P (least n P) (floor_panels n P) m.marks.levels needs
  walk_asks = record { needed = rw M.triggers_are at M.prepared.needed }

  pub walk_remembers : {w : Walk} {seen : List (List ℕ)} {r : Stepped} → Walked m.marks.kept gains needs m.marks.levels n w seen →
      StepTaken m.marks.kept gains needs m.marks.levels w r →
      Remembers n P (least n P) (floor_panels n P) (levels m.marks.levels r.next.place) r.next
  walk_remembers b s = step_remembers b s P (least n P) (floor_panels n P) M.follows walk_asks

-- ---- the outcomes
pub keeping_of : (s : List ℕ) {g : Got spec.Sheet} → ordered s ≡ g → kept_of g ≡ keeping s
unfolding keeping
keeping_of s e = sym (ap kept_of e)

-- what is refused is one of `refusals`
pub refused_known : (s : List ℕ) (k : ℕ) → keeping s ≡ refused k → Known k
unfolding keeping
refused_known s k = go (ordered s) refl
  where
    go : (g : Got spec.Sheet) → ordered s ≡ g → kept_of g ≡ refused k → Known k
    go (spec.refused j) q e = let h : j ≡ k = cc in subst Known h (ordered_is s j q)
    go (got t r) q e = let z : ◌≡◌ {A = ℕ} 0 1 = cc in let x : ⊥ = omega arith in absurd x

-- ---- "steps is at most n + n² + ... + n to the power f"
pub steps_at_most : StepsAtMost
unfolding keeping
steps_at_most s t r e = go (orderly? t) (ordered_by s t r e)
  where
    go : (d : Dec (Orderly t)) → ordered s ≡ elim d [ yes h ↦ got t r | no h ↦ spec.refused 8 ] →
        (table_in (kept_answer (kept_of (ordered s)))).steps ≤ most_steps t
    go (yes o) q = rw q (all_fit s t r e).steps_most
    go (no o) q = rw q (omega arith)
