-- Step 1 in words: the ways through ever more triggers, row by row, and how far from 0 they are.
use mathlib.Core.Path.{◌≡◌, refl, ap, ◌∙◌}
use mathlib.Core.Bool.{true, false}
use mathlib.Core.List.{List, []}
use Prim.Native.Nat.{ℕ, zero, suc, ◌+◌, ◌≤◌, ◌<◌}
use native.Mathlib.Omega.{arith}
use native.Mathlib.Decide.{ℕ_discrete}
use native.Mathlib.Numerals.{add-one}
use lib.ListN.{get_or, set}
use lib.Seq.{get_or-set_same, get_or-set_other}
use Rattle.maxplus.specs.Entry.{◌≼◌, ◌⊗◌, ◌⊕◌, unit}
use Rattle.maxplus.specs.Tables.{idm}
use Rattle.maxplus.proofs.EntryLaws.{◌▸◌, ≼_of, ≼_back, ⊕_comm}
use Rattle.words.specs.Words.{word, entry, far, Near}
use Rattle.words.proofs.Laws.{entry_mono, entry_reflects}
use Rattle.sheet.specs.Sizes.{order_limit}
use Rattle.cue.specs.Results.{Within}
use Rattle.cue.specs.Sizes.{size_limit}
use Rattle.cue.proofs.Bounds.{within_unit, within_passed}
use Rattle.tables.specs.Held.{cell, meant, meant_v, Square, Holds, Closely, CloselyV, Raised}
use Rattle.tables.proofs.Loops.{square_set}
use Rattle.tables.proofs.SquareLaws.{entry_unit, closely_within, closely_more, meant_within}
use Rattle.maxplus.proofs.WaysLaws.{pass, Ways, ways_none, ways_more, ways_gain, ways_order, ways_star, ways_as}
use Rattle.order.specs.Closed.{Closed, Passed}

-- ---- passing through k: the first i rows have been raised, the others are as they were
pub record Passing (n k : ℕ) (before s : List (List ℕ)) (i : ℕ) : Type 0 where
  pub square : Square s
  pub done : (a j : ℕ) → a < i → j < n → meant s a j ≡ meant before a j ⊕ meant before a k ⊗ meant before k j
  pub later : (a : ℕ) → i ≤ a → get_or s a [] ≡ get_or before a []

module _ {n k : ℕ} {before : List (List ℕ)} where
  pub passing_none : Square before → Passing n k before before 0
  passing_none z = record {
    square = z;
    done = λ a j h l. let e : ⊥ = omega arith in absurd e;
    later = λ a h. refl;
  }

  pub passing_more : {s : List (List ℕ)} {i : ℕ} {r : List ℕ} → i < 6 → Passing n k before s i →
      Raised n (meant before i k) (meant_v (get_or before k [])) (get_or before i []) r → Passing n k before (set s i r) (i + 1)
  unfolding meant meant_v
  passing_more {s} {i} {r} hi f q = record {
    square = square_set r i hi f.square q.size;
    done = λ a j h l. elim (ℕ_discrete a i) [
      | yes e ↦ rw (e, same) (q.at j l ∙ ⊕_comm _ _)
      | no e ↦ rw (get_or-set_other s i a r [] e) (f.done a j (omega arith) l)
    ];
    later = λ a h. get_or-set_other s i a r [] (λ e. omega arith) ∙ f.later a (omega arith);
  }
    where
      same : get_or (set s i r) i [] ≡ r
      same = get_or-set_same s i r [] (rw f.square.rows hi)

  module _ {s : List (List ℕ)} {i : ℕ} (f : Passing n k before s i) where
    pub passing_shift : k < n → Closely n n far before → i < n → Near (cell s i k)
    passing_shift hk c hi = rw (f.later i (omega arith)) (c.at i k hi hk)

    pub passing_raised : {r : List ℕ} → Raised n (meant s i k) (meant_v (get_or before k [])) (get_or s i []) r →
        Raised n (meant before i k) (meant_v (get_or before k [])) (get_or before i []) r
    unfolding meant
    passing_raised q = rw (f.later i (omega arith)) at q

  pub passing_row : k < n → Closely n n far before → CloselyV n far (get_or before k [])
  passing_row hk c = record { at = λ j hj. c.at k j hk hj }

  pub passing_all : {s : List (List ℕ)} {i : ℕ} → n ≤ i → Passing n k before s i → Passed n k before s
  passing_all h f = record { square = f.square; at = λ a j ha hj. f.done a j (omega arith) hj }

-- ---- how far from 0: with each trigger that is passed through, twice as far
unfoldable pub reach : ℕ → ℕ
reach zero = order_limit
reach (suc k) = reach k + reach k

-- after six no further than words can be added
pub reach_far : (k : ℕ) → k ≤ size_limit → reach k ≤ far
unfolding reach
reach_far zero h = omega arith
reach_far (suc zero) h = omega arith
reach_far (suc (suc zero)) h = omega arith
reach_far (suc (suc (suc zero))) h = omega arith
reach_far (suc (suc (suc (suc zero)))) h = omega arith
reach_far (suc (suc (suc (suc (suc zero))))) h = omega arith
reach_far (suc (suc (suc (suc (suc (suc zero)))))) h = omega arith
reach_far (suc (suc (suc (suc (suc (suc (suc k))))))) h = let e : ⊥ = omega arith in absurd e

pub unit_joined : {n : ℕ} (t : List (List ℕ)) {u s : List (List ℕ)} → n ≤ size_limit → Holds 6 6 idm u →
    Holds n n (λ i j. meant u i j ⊕ meant t i j) s → Holds n n (λ i j. idm i j ⊕ meant t i j) s
unit_joined t h e g = record {
  at = λ i j hi hj. g.at i j hi hj ∙ ap (λ a. a ⊕ meant t i j) (e.at i j (omega arith) (omega arith));
}

-- ---- the ways through the first k triggers, in words
pub record WaysHeld (n : ℕ) (order : List (List ℕ)) (k : ℕ) (s : List (List ℕ)) : Type 0 where
  pub so_far : k ≤ n
  pub square : Square s
  pub close : Closely n n (reach k) s
  pub ways : Ways n (meant order) k (meant s)

module _ {n : ℕ} {order : List (List ℕ)} where
  pub held_none : {s : List (List ℕ)} → Closely n n order_limit order → Square s → Holds n n (λ i j. idm i j ⊕ meant order i j) s →
      WaysHeld n order 0 s
  unfolding reach
  held_none c z h = record {
    so_far = omega arith;
    square = z;
    close = closely_within (omega arith) (omega arith) h (λ i j hi hj. within_unit i j (meant order i j) (meant_within c i j hi hj));
    ways = ways_as n (meant order) (λ i j hi hj. h.at i j hi hj) (ways_none n (meant order));
  }

  pub held_more : {k : ℕ} {s r : List (List ℕ)} → k < n → meant s k k ≼ unit → WaysHeld n order k s → Passed n k s r →
      WaysHeld n order (k + 1) r
  unfolding reach pass
  held_more {k} {s} {r} hk l w p = record {
    so_far = omega arith;
    square = p.square;
    close = rw add-one (closely_within (omega arith) (omega arith) held (λ i j hi hj.
        within_passed (meant s i j) (meant s i k) (meant s k j) (near i j hi hj) (near i k hi hk) (near k j hk hj)));
    ways = ways_as n (meant order) p.at (ways_more n (meant order) hk l w.ways);
  }
    where
      near : (i j : ℕ) → i < n → j < n → Within (reach k) (reach k) (meant s i j)
      near i j hi hj = meant_within w.close i j hi hj

      held : Holds n n (λ i j. meant s i j ⊕ meant s i k ⊗ meant s k j) r
      held = record { at = p.at }

  -- a way round that gains, and none
  pub held_gain : {k : ℕ} {s : List (List ℕ)} → k < n → ¬ (meant s k k ≼ unit) → WaysHeld n order k s → Closed n (meant order) s false
  held_gain hk h w = let no = ways_gain n (meant order) hk h w.ways in record { order = no; starred = λ np. absurd (no np) }

  pub held_all : {k : ℕ} {s : List (List ℕ)} → n ≤ k → WaysHeld n order k s → Closed n (meant order) s true
  held_all h w = record {
    order = ways_order n (meant order) h w.ways;
    starred = λ np. record { at = ways_star n (meant order) h w.ways };
  }

  pub held_far : {k : ℕ} {s : List (List ℕ)} → n ≤ size_limit → WaysHeld n order k s → Closely n n far s
  held_far {k} h w = closely_more (reach_far k (omega (arith, w.so_far))) w.close

-- a word at most the word of 0
pub at_most_unit : (v z : ℕ) → z ≡ word unit → v ≤ z → entry v ≼ unit
at_most_unit v z e h = entry_mono v z h ▸ ≼_of (ap entry e ∙ entry_unit)

pub above_unit : (v z : ℕ) → z ≡ word unit → z < v → ¬ (entry v ≼ unit)
above_unit v z e h k = let l = entry_reflects v z (k ▸ ≼_back (ap entry e ∙ entry_unit)) in let x : ⊥ = omega arith in x
