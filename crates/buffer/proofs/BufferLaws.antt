-- Laws of the buffer by its places: looking a line up by halves, and moving lines one place further.
use mathlib.Core.Path.{◌≡◌, refl, ap, sym, ◌∙◌}
use mathlib.Core.List.{List, ◌∷◌}
use Prim.Native.Nat.{ℕ, suc, ◌+◌, ◌-◌, ◌≤◌, ◌<◌, min}
use native.Mathlib.Omega.{arith}
use native.Mathlib.Decide.{ℕ_discrete, dec_lt}
use lib.ListN.{length, get_or, take, drop, set, length-set, length-take, length-drop, length-append, get_or-append}
use lib.Seq.{get_or-set_same, get_or-set_other, get_or-take, get_or-drop, ext_get_or, get_or-append-add, get_or_at, length-take-le}
use Rattle.maxplus.proofs.LineLaws.{lt_l_trans}
use Rattle.buffer.specs.Buffer.{row, Before, Ordered, Placed, between}

-- ---- looking up: the place is from low to high
pub record Between (buf : List (List ℕ)) (len : ℕ) (c : List ℕ) (low high : ℕ) : Type 0 where
  pub order : low ≤ high
  pub few : high ≤ len
  pub before : (k : ℕ) → k < low → Before (row buf k) c
  pub from : (k : ℕ) → high ≤ k → k < len → ¬ (Before (row buf k) c)

module _ (buf : List (List ℕ)) (len : ℕ) (c : List ℕ) where
  pub between_start : Between buf len c 0 len
  between_start = record {
    order = omega arith;
    few = omega arith;
    before = λ k h. let e : ⊥ = omega arith in absurd e;
    from = λ k h i. let e : ⊥ = omega arith in absurd e;
  }

  module _ (low high mid : ℕ) (o : Ordered len buf) (b : Between buf len c low high) (p : low ≤ mid) (q : mid < high) where
    -- the middle line stands before c, and so do those below it
    pub between_up : Before (row buf mid) c → Between buf len c (mid + 1) high
    between_up h = record {
      order = omega arith;
      few = b.few;
      before = λ k i. elim (dec_lt k mid) [
        | yes j ↦ lt_l_trans 6 _ _ _ (o.at k mid j (omega (arith, b.few))) h
        | no j ↦ let e : k ≡ mid = omega arith in rw e h
      ];
      from = b.from;
    }

    -- or does not, nor do those above it
    pub between_down : ¬ (Before (row buf mid) c) → Between buf len c low mid
    between_down h = record {
      order = p;
      few = omega (arith, b.few);
      before = b.before;
      from = λ k i j l. elim (dec_lt mid k) [
        | yes m ↦ h (lt_l_trans 6 _ _ _ (o.at mid k m j) l)
        | no m ↦ let e : k ≡ mid = omega arith in h (rw e at l)
      ];
    }

  pub between_end : (low high : ℕ) → high ≤ low → Between buf len c low high → Placed buf len c low
  between_end low high h b =
      let e : high ≡ low = omega (arith, b.order) in
      record { few = omega (arith, b.few); before = b.before; from = λ k i j. b.from k (omega arith) j }

-- ---- a value put in between
module _ {A : Type 0} (d : A) where
  between_length : (h : List A) (at : ℕ) (c : A) → at ≤ length h → length (between h at c) ≡ length h + 1
  between_length h at c k = length-append (take at h) (c ∷ drop at h) ∙ omega (arith, length-take-le at h k, length-drop at h)

  between_low : (h : List A) (at : ℕ) (c : A) (i : ℕ) → at ≤ length h → i < at → get_or (between h at c) i d ≡ get_or h i d
  between_low h at c i k l = get_or-append (take at h) (c ∷ drop at h) d i (omega (arith, length-take-le at h k)) ∙ get_or-take at h i d l

  between_high : (h : List A) (at : ℕ) (c : A) (i : ℕ) → at ≤ length h → at < i → get_or (between h at c) i d ≡ get_or h (i - 1) d
  between_high h at c i k l =
      let e : i ≡ length (take at h) + suc (i - 1 - at) = omega (arith, length-take-le at h k) in
      ap (λ i. get_or (between h at c) i d) e ∙ get_or-append-add (take at h) (c ∷ drop at h) (suc (i - 1 - at)) d ∙
      get_or-drop at h (i - 1 - at) d ∙ ap (λ i. get_or h i d) (let f : at + (i - 1 - at) ≡ i - 1 = omega arith in f)

  -- the places up to k are as they were, those above it up to e have moved
  pub record Moved (before : List A) (e k : ℕ) (buf : List A) : Type 0 where
    pub size : length buf ≡ length before
    pub low : (i : ℕ) → i ≤ k → get_or buf i d ≡ get_or before i d
    pub high : (i : ℕ) → k < i → i ≤ e → get_or buf i d ≡ get_or before (i - 1) d

  pub moved_start : (before : List A) (e : ℕ) → Moved before e e before
  moved_start before e = record { size = refl; low = λ i h. refl; high = λ i h k. let x : ⊥ = omega arith in absurd x }

  pub moved_more : (before : List A) (e k : ℕ) (buf : List A) → 0 < k → k < length before → Moved before e k buf →
      Moved before e (k - 1) (set buf k (get_or buf (k - 1) d))
  moved_more before e k buf p h m = record {
    size = length-set buf k _ ∙ m.size;
    low = λ i q. get_or-set_other buf k i _ d (λ x. let y : ⊥ = omega arith in y) ∙ m.low i (omega arith);
    high = λ i q r. elim (ℕ_discrete i k) [
      | yes x ↦ rw x (get_or-set_same buf k _ d (rw m.size h) ∙ m.low (k - 1) (omega arith))
      | no x ↦ get_or-set_other buf k i _ d x ∙ m.high i (omega arith) r
    ];
  }

  pub moved_end : (size : ℕ) (before : List A) (len at more : ℕ) (buf : List A) (c : A) → length before ≡ size → at ≤ len → len ≤ size →
      at < more → more ≡ min size (len + 1) → Moved before (more - 1) at buf →
      take more (set buf at c) ≡ take size (between (take len before) at c)
  moved_end size before len at more buf c s p q r e m = ext_get_or d _ _ sizes same
    where
      full : length (set buf at c) ≡ size
      full = length-set buf at c ∙ m.size ∙ s

      taken : length (take len before) ≡ len
      taken = length-take-le len before (omega arith)

      fits : at ≤ length (take len before)
      fits = omega (arith, taken)

      sizes : length (take more (set buf at c)) ≡ length (take size (between (take len before) at c))
      sizes = length-take-le more (set buf at c) (omega (arith, full)) ∙ e ∙
          ap (min size) (omega (arith, taken, between_length (take len before) at c fits)) ∙ sym (length-take size (between (take len before) at c))

      place : (i : ℕ) → i < more → get_or (set buf at c) i d ≡ get_or (between (take len before) at c) i d
      place i h = elim (ℕ_discrete i at) [
        | yes x ↦ rw x (get_or-set_same buf at c d (omega (arith, m.size)) ∙
            sym (get_or_at (take at (take len before)) c (drop at (take len before)) d at (length-take-le at (take len before) fits)))
        | no x ↦ get_or-set_other buf at i c d x ∙ elim (dec_lt i at) [
          | yes y ↦ m.low i (omega arith) ∙ sym (between_low (take len before) at c i fits y ∙ get_or-take len before i d (omega arith))
          | no y ↦ m.high i (omega arith) (omega arith) ∙
              sym (between_high (take len before) at c i fits (omega arith) ∙ get_or-take len before (i - 1) d (omega arith))
        ]
      ]

      same : (i : ℕ) → i < length (take more (set buf at c)) →
          get_or (take more (set buf at c)) i d ≡ get_or (take size (between (take len before) at c)) i d
      same i h =
          let k : i < more = omega (arith, length-take-le more (set buf at c) (omega (arith, full))) in
          get_or-take more (set buf at c) i d k ∙ place i k ∙ sym (get_or-take size (between (take len before) at c) i d (omega arith))
