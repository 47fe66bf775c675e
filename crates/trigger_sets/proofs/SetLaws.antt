-- Laws of sets of triggers: what is in a set that is joined or cut, none and one place, one set inside another, and sets that a loop builds.
use mathlib.Core.Path.{◌≡◌}
use mathlib.Core.Logic.{◌⊎◌, inl, inr, ◌↔◌}
use Prim.Native.Nat.{ℕ, ◌+◌, ◌^◌, ◌≤◌, ◌<◌}
use native.Mathlib.Decide.{ℕ_discrete}
use native.Mathlib.Omega.{arith}
use lib.Dec.{eqb→eq, eqb_refl}
use lib.Pow.{pow-lt}
use lib.Bits.{bit_and, bit_or, and_le_l, and_le_r, or_lt}
use Rattle.trigger_sets.specs.Sets.{bit, Has, SetOf}
use Rattle.trigger_sets.proofs.Tests.{all_at}
use Rattle.trigger_sets.proofs.BitLaws.{has_and, has_or, bit_none, bit_one, has_some, inside_of, inside_has}

module _ {Q R : ℕ → Type 0} {a b : ℕ} where
  pub set_and : SetOf Q a → SetOf R b → SetOf (λ j. Q j × R j) (bit_and a b)
  set_and p q = record {
    small = let h = and_le_l a b in let k = p.small in omega arith;
    has = λ j h. (
      λ t. let u = (has_and a b j).0 t in ((p.has j h).0 u.0, (q.has j h).0 u.1),
      λ u. (has_and a b j).1 ((p.has j h).1 u.0, (q.has j h).1 u.1),
    );
  }

  pub set_or : SetOf Q a → SetOf R b → SetOf (λ j. Q j ⊎ R j) (bit_or a b)
  set_or p q = record {
    small = or_lt 6 a b p.small q.small;
    has = λ j h. (
      λ t. elim ((has_or a b j).0 t) [ inl u ↦ inl ((p.has j h).0 u) | inr u ↦ inr ((q.has j h).0 u) ],
      λ u. (has_or a b j).1 (elim u [ inl x ↦ inl ((p.has j h).1 x) | inr x ↦ inr ((q.has j h).1 x) ]),
    );
  }

  -- a panel's set lies inside another exactly when each of its triggers does
  pub set_inside : SetOf Q a → SetOf R b → (bit_and a b ≡ a) ↔ ((j : ℕ) → j < 6 → Q j → R j)
  set_inside p q = (
    λ e j h u. (q.has j h).0 (inside_has a b j e ((p.has j h).1 u)),
    λ f. inside_of 6 a b p.small (λ j h t. (q.has j h).1 (f j h ((p.has j h).0 t))),
  )

pub set_same : {Q R : ℕ → Type 0} {m : ℕ} → ((j : ℕ) → j < 6 → Q j ↔ R j) → SetOf Q m → SetOf R m
set_same f p = record { small = p.small; has = λ j h. (λ t. (f j h).0 ((p.has j h).0 t), λ u. (p.has j h).1 ((f j h).1 u)) }

pub set_self : {m : ℕ} → m < 64 → SetOf (Has m) m
set_self h = record { small = h; has = λ j k. (λ t. t, λ t. t) }

-- a fact that does not speak of places
pub set_with : {A : Type 0} {Q : ℕ → Type 0} {m : ℕ} → A → SetOf Q m → SetOf (λ j. A × Q j) m
set_with a p = set_same (λ j h. (λ u. (a, u), λ u. u.1)) p

pub set_none : {Q : ℕ → Type 0} → ((j : ℕ) → j < 6 → ¬ (Q j)) → SetOf Q 0
set_none f = record { small = omega arith; has = λ j h. (λ t. absurd (rw (bit_none j) at t), λ u. absurd (f j h u)) }

pub set_one : (k : ℕ) → k < 6 → SetOf (λ j. j ≡ k) (2 ^ k)
set_one k h = record {
  small = pow-lt h;
  has = λ j l. (λ t. eqb→eq j k (rw (bit_one k j) at t), λ e. rw (bit_one k j, e) (eqb_refl k));
}

pub set_some : {Q : ℕ → Type 0} {m : ℕ} → SetOf Q m → ¬ (m ≡ 0) → (j : ℕ) × (j < 6) × Q j
set_some {m = m} p n = let (j, h, t) = has_some 6 m p.small n in (j, h, (p.has j h).0 t)

pub set_empty : {Q : ℕ → Type 0} {m : ℕ} → SetOf Q m → m ≡ 0 → (j : ℕ) → j < 6 → ¬ (Q j)
set_empty p e j h u = absurd (rw (e, bit_none j) at ((p.has j h).1 u))

-- no set of six bits holds 64
pub never_inside : (b : ℕ) → b < 64 → ¬ (bit_and 64 b ≡ 64)
never_inside b h e = let k = and_le_r 64 b in omega (arith, k, e)

-- ---- sets that a loop builds: of the places passed, those that pass a test
module _ (Q : ℕ → Type 0) where
  pub passed_none : SetOf (λ k. (k < 0) × Q k) 0
  passed_none = set_none (λ j h u. omega arith)

  pub passed_more : (j m : ℕ) → j < 6 → SetOf (λ k. (k < j) × Q k) m → Q j → SetOf (λ k. (k < j + 1) × Q k) (bit_or m (2 ^ j))
  passed_more j m h p q = set_same (λ k l. (
    λ u. elim u [ inl t ↦ (omega arith, t.1) | inr e ↦ (omega arith, rw e q) ],
    λ u. elim (ℕ_discrete k j) [ yes e ↦ inr e | no e ↦ inl (omega arith, u.1) ],
  )) (set_or p (set_one j h))

  pub passed_less : (j m : ℕ) → SetOf (λ k. (k < j) × Q k) m → ¬ (Q j) → SetOf (λ k. (k < j + 1) × Q k) m
  passed_less j m p q = set_same (λ k l. (
    λ u. (omega arith, u.1),
    λ u. elim (ℕ_discrete k j) [ yes e ↦ absurd (q (rw e at u.1)) | no e ↦ (omega arith, u.1) ],
  )) p

-- the union of the sets passed
module _ (R : ℕ → ℕ → Type 0) where
  pub union_none : SetOf (λ j. (k : ℕ) × (k < 0) × R k j) 0
  union_none = set_none (λ j h u. omega arith)

  pub union_more : (l m b : ℕ) → SetOf (λ j. (k : ℕ) × (k < l) × R k j) m → SetOf (R l) b →
      SetOf (λ j. (k : ℕ) × (k < l + 1) × R k j) (bit_or m b)
  union_more l m b p q = set_same (λ j h. (
    λ u. elim u [ inl t ↦ (t.0, omega arith, t.2) | inr t ↦ (l, omega arith, t) ],
    λ u. elim (ℕ_discrete u.0 l) [ yes e ↦ inr (rw e at u.2) | no e ↦ inl (u.0, omega arith, u.2) ],
  )) (set_or p q)

  pub union_less : (l m : ℕ) → SetOf (λ j. (k : ℕ) × (k < l) × R k j) m → ((j : ℕ) → ¬ (R l j)) →
      SetOf (λ j. (k : ℕ) × (k < l + 1) × R k j) m
  union_less l m p q = set_same (λ j h. (
    λ u. (u.0, omega arith, u.2),
    λ u. elim (ℕ_discrete u.0 l) [ yes e ↦ absurd (q j (rw e at u.2)) | no e ↦ (u.0, omega arith, u.2) ],
  )) p

-- the intersection of those sets passed that count
module _ (Q : ℕ → Type 0) (R : ℕ → ℕ → Type 0) where
  has_all : (j : ℕ) → j < 6 → Has 63 j
  has_all j h = all_at (bit 63) 6 tt j h

  pub every_none : SetOf (λ j. (k : ℕ) → k < 0 → Q k → R k j) 63
  every_none = record { small = omega arith; has = λ j h. (λ t k l. let e : ⊥ = omega arith in absurd e, λ u. has_all j h) }

  pub every_more : (l m b : ℕ) → SetOf (λ j. (k : ℕ) → k < l → Q k → R k j) m → SetOf (R l) b → Q l →
      SetOf (λ j. (k : ℕ) → k < l + 1 → Q k → R k j) (bit_and m b)
  every_more l m b p q c = set_same (λ j h. (
    λ u k i d. elim (ℕ_discrete k l) [ yes e ↦ rw e u.1 | no e ↦ u.0 k (omega arith) d ],
    λ u. (λ k i. u k (omega arith), u l (omega arith) c),
  )) (set_and p q)

  -- an intersection that is empty stays empty
  pub every_stop : (l n m : ℕ) → l ≤ n → SetOf (λ j. (k : ℕ) → k < l → Q k → R k j) m → m ≡ 0 →
      SetOf (λ j. (k : ℕ) → k < n → Q k → R k j) 0
  every_stop l n m h p e = set_none (λ j i u. set_empty p e j i (λ k q d. u k (omega arith) d))

  pub every_less : (l m : ℕ) → SetOf (λ j. (k : ℕ) → k < l → Q k → R k j) m → ¬ (Q l) →
      SetOf (λ j. (k : ℕ) → k < l + 1 → Q k → R k j) m
  every_less l m p c = set_same (λ j h. (
    λ u k i d. elim (ℕ_discrete k l) [ yes e ↦ absurd (c (rw e at d)) | no e ↦ u k (omega arith) d ],
    λ u k i. u k (omega arith),
  )) p
