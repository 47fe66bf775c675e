-- The places of the triggers in use: they are places of a row; and a loop finds them, one trigger more at a time.
use mathlib.Core.Path.{◌≡◌, refl, ap, sym, subst, ◌∙◌}
use mathlib.Core.Bool.{Bool, true, false, not, ◌&&◌}
use mathlib.Core.List.{List}
use Prim.Native.Nat.{ℕ, ◌+◌, ◌≤◌, ◌<◌}
use native.Mathlib.Omega.{arith}
use native.Mathlib.Decide.{ℕ_discrete}
use borrow.Author.Tests.{lt-ltb}
use lib.Dec.{T, ltb}
use lib.ListN.{length, get_or, set, length-set, replicate}
use lib.Seq.{get_or-set_same, get_or-set_other}
use Rattle.maxplus.specs.Finite.{sum, byte_of}
use Rattle.maxplus.specs.Packing.{rank, place}
use Rattle.maxplus.proofs.PackingLaws.{rank_few, rank_all, placed, place_rank}
use Rattle.cue.specs.Sizes.{size_limit}
use Rattle.trigger_sets.specs.Sets.{bit}
use Rattle.trigger_sets.proofs.BitLaws.{bit_none}
use Rattle.trigger_sets.proofs.ByteLaws.{byte_ext, byte_bit, bit_at, byte_none, byte_set, byte_clear, shifted, bit_here}
use Rattle.spares.specs.declared.Places.{Places}
use Rattle.spares.specs.Using.{PlacesOf, Pickable}
use Rattle.spares.proofs.AgreeLaws.{rank_same, place_same, rank_yes, rank_no, place_before, place_here}

pub pickable : {s : ℕ → Bool} {n : ℕ} {p : Places} → PlacesOf s n p → Pickable p
pickable {s = s} {n = n} h = record {
  few = let a = rank_few s n in let b = h.few in let c = h.count_is in omega arith;
  below = λ k q.
      let e = h.at_are k (let c = h.count_is in omega arith) in
      let b = (placed s n k (let c = h.count_is in omega arith)).below in
      let f = h.few in
      omega arith;
}

-- the set of the triggers in use has those that pass the test, since none from n on passes
pub used_bit : {s : ℕ → Bool} {n : ℕ} {p : Places} → PlacesOf s n p → (j : ℕ) → j < 6 → bit p.used j ≡ s j
used_bit {s} {n} {p} u j h = ap (λ b. bit b j) u.used_is ∙ byte_bit n s j u.few h ∙ go (s j) (u.inside j)
  where
    none : (b : Bool) → b && false ≡ false
    none true = refl
    none false = refl

    go : (b : Bool) → (T b → j < n) → ltb j n && b ≡ b
    go true i = rw (lt-ltb j n (i tt)) refl
    go false i = none (ltb j n)

-- ---- with no spare trigger all pass, and each is at its own place
pub no_spare : {s : ℕ → Bool} {n : ℕ} {p : Places} → PlacesOf s n p → p.spares ≡ 0 → (j : ℕ) → j < n → T (s j)
no_spare {s} {n} {p} u e j h = go (s j) (sym (bit_at n (λ i. not (s i)) j u.few h) ∙ ap (λ b. bit b j) (sym u.spares_are ∙ e) ∙ bit_none j)
  where
    go : (b : Bool) → not b ≡ false → T b
    go true q = tt
    go false q = absurd (subst T q tt)

pub own_rank : {s : ℕ → Bool} {n : ℕ} {p : Places} → PlacesOf s n p → p.spares ≡ 0 → (j : ℕ) → j ≤ n → rank s j ≡ j
own_rank {s} u e j h = rank_all s j (λ i l. no_spare u e i (omega arith))

pub own_place : {s : ℕ → Bool} {n : ℕ} {p : Places} → PlacesOf s n p → p.spares ≡ 0 → (k : ℕ) → k < rank s n → place s n k ≡ k
own_place {s} {n} u e k h =
    let l : k < n = (let a = rank_few s n in omega arith) in
    ap (place s n) (sym (own_rank u e k (omega arith))) ∙ place_rank s n k l (no_spare u e k l)

-- ---- the places, found by a test t
module _ (t : ℕ → Bool) where
  -- the triggers below j have been looked at
  pub record Found (at : List ℕ) (count used spares j : ℕ) : Type 0 where
    pub size : length at ≡ 6
    pub count_is : count ≡ rank t j
    pub at_are : (k : ℕ) → k < rank t j → get_or at k 0 ≡ place t j k
    pub used_is : used ≡ byte_of j t
    pub spares_are : spares ≡ byte_of j (λ i. not (t i))

  pub found_none : Found (replicate 6 0) 0 0 0 0
  found_none = record {
    size = refl;
    count_is = unfold rank sum in refl;
    at_are = λ k h. let e : rank t 0 ≡ 0 = (unfold rank sum in refl) in let x : ⊥ = omega arith in absurd x;
    used_is = byte_none _;
    spares_are = byte_none _;
  }

  module _ {at : List ℕ} {count used spares j : ℕ} (f : Found at count used spares j) where
    -- the next place is one of the array
    pub found_few : count ≤ j
    found_few = let a = rank_few t j in let b = f.count_is in omega arith

    -- one trigger more, in use or spare by the answer b of its test
    pub found_used : {b : Bool} → j < 6 → b ≡ t j → b ≡ true → Found (set at count j) (count + 1) (used + shifted j) spares (j + 1)
    found_used h p y = record {
      size = simp length-set f.size;
      count_is = rw (rank_yes t j e, f.count_is);
      at_are = λ k l. elim (ℕ_discrete k count) [
        | yes x ↦ rw (x, get_or-set_same at count j 0 (let s = f.size in let a = found_few in omega arith), f.count_is) (sym (place_here t j e))
        | no x ↦
            let r = rank_yes t j e in
            let c = f.count_is in
            let l' : k < rank t j = omega arith in
            rw (get_or-set_other at count k j 0 x, place_before t j k l') (f.at_are k l')
      ];
      used_is = byte_set t j used (shifted j) f.used_is (bit_here j h) e;
      spares_are = byte_clear _ j spares f.spares_are (ap not e);
    }
      where
        e : t j ≡ true
        e = sym p ∙ y

    pub found_spare : {b : Bool} → j < 6 → b ≡ t j → b ≡ false → Found at count used (spares + shifted j) (j + 1)
    found_spare h p y = record {
      size = f.size;
      count_is = f.count_is ∙ sym (rank_no t j e);
      at_are = λ k l.
          let r = rank_no t j e in
          let l' : k < rank t j = omega arith in
          rw (place_before t j k l') (f.at_are k l');
      used_is = byte_clear t j used f.used_is e;
      spares_are = byte_set _ j spares (shifted j) f.spares_are (bit_here j h) (ap not e);
    }
      where
        e : t j ≡ false
        e = sym p ∙ y

-- all n have been looked at; s is the same test below n, and none passes it from there on
pub found_all : {t s : ℕ → Bool} {at : List ℕ} {count used spares j n : ℕ} → n ≤ size_limit → j ≡ n →
    Found t at count used spares j →
    ((i : ℕ) → T (s i) → i < n) → ((i : ℕ) → i < n → s i ≡ t i) →
    PlacesOf s n (record { triggers = n; count = count; at = at; used = used; spares = spares })
found_all {t} {s} {at} {count} {used} {spares} {n = n} few e f inside agree = record {
  inside = inside;
  few = few;
  triggers_are = refl;
  count_is = all.count_is ∙ sym (rank_same s t n agree);
  at_are = λ k h. all.at_are k (rw (← rank_same s t n agree) h) ∙ sym (place_same s t n agree k h);
  used_is = all.used_is ∙ sym (byte_ext n s t agree);
  spares_are = all.spares_are ∙ sym (byte_ext n _ _ (λ i h. ap not (agree i h)));
}
  where
    all : Found t at count used spares n
    all = rw e at f
