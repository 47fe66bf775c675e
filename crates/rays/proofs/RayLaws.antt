-- Laws of sets of rays: which are there, and below which there is one.
use mathlib.Core.Path.{◌≡◌, refl, sym, subst, ◌∙◌}
use mathlib.Core.Bool.{Bool, true, false}
use mathlib.Core.Logic.{◌⊎◌, inl, inr}
use mathlib.Core.List.{List, []}
use Prim.Native.Nat.{ℕ, ◌+◌, ◌≤◌, ◌<◌}
use native.Mathlib.Omega.{arith}
use native.Mathlib.Decide.{ℕ_discrete, dec_lt}
use lib.Dec.{T}
use lib.ListN.{length, get_or, set, take, length-set}
use lib.Seq.{get_or-set_same, get_or-set_other, get_or-take, length-take-le}
use Rattle.std.specs.List.{AllWithin, HoldsAt}
use Rattle.std.specs.Bool.{MatchBool}
use Rattle.tables.specs.Held.{Says}
use Rattle.trigger_sets.specs.Sets.{Has}
use Rattle.buffer.specs.Buffer.{row}
use Rattle.rays.specs.Rays.{places, Under, Covered, Among, Thinned, Grown, Joined, Meets, Raised, RaisedBy, RaisedAll, Branched}
use Rattle.rays.specs.Rays.{Apart, Expanded, Kept}
use Rattle.cue.specs.Sizes.{size_limit}

-- ---- below
pub under_refl : (a : List ℕ) → Under a a
under_refl a = record { at = λ j h. omega arith }

pub under_trans : {a b c : List ℕ} → Under a b → Under b c → Under a c
under_trans h k = record { at = λ j i. let x = h.at j i in let y = k.at j i in omega arith }

-- ---- covered
pub covered_trans : {set : List (List ℕ)} {many : ℕ} {a b : List ℕ} → Covered set many a → Under a b → Covered set many b
covered_trans c v = record { place = c.place; there = c.there; under = under_trans c.under v }

covered_itself : {set : List (List ℕ)} {many : ℕ} (k : ℕ) {w : List ℕ} → k < many → w ≡ row set k → Covered set many w
covered_itself k h e = record { place = k; there = h; under = rw e (under_refl _) }

-- ---- one place written
row_same : (s : List (List ℕ)) (k : ℕ) (v : List ℕ) → k < length s → row (set s k v) k ≡ v
row_same s k v h = get_or-set_same s k v [] h

row_other : (s : List (List ℕ)) (k i : ℕ) (v : List ℕ) → ¬ (i ≡ k) → row (set s k v) i ≡ row s i
row_other s k i v h = get_or-set_other s k i v [] h

-- two rays of a set, from two places
pub record Two (set : List (List ℕ)) (many : ℕ) (v w : List ℕ) : Type 0 where
  pub first : ℕ
  pub second : ℕ
  pub before : first < second
  pub there : second < many
  pub is : v ≡ row set first
  pub is_second : w ≡ row set second

two_apart : {set : List (List ℕ)} {many : ℕ} {v w : List ℕ} → Two set many v w → Apart set many → ¬ (Under v w) × ¬ (Under w v)
two_apart t a = (
  λ u. a.at t.first t.second (omega (arith, t.before, t.there)) t.there (λ e. omega (arith, t.before)) (rw (t.is, t.is_second) at u),
  λ u. a.at t.second t.first t.there (omega (arith, t.before, t.there)) (λ e. omega (arith, t.before)) (rw (t.is, t.is_second) at u),
)

-- ---- thinning: the first k have been looked at, and those from k on are as they were
pub record Thinning (before : List (List ℕ)) (w : List ℕ) (s : List (List ℕ)) (left k : ℕ) : Type 0 where
  pub size : length s ≡ places
  pub few : left ≤ k
  pub from : (i : ℕ) → i < left → Among before k (row s i)
  pub left_in : (i : ℕ) → i < k → Under w (row before i) ⊎ Among s left (row before i)
  pub beside : (i : ℕ) → i < left → ¬ (Under w (row s i))
  pub two : (i j : ℕ) → i < j → j < left → Two before k (row s i) (row s j)
  pub later : (i : ℕ) → k ≤ i → row s i ≡ row before i

module _ {before : List (List ℕ)} {w : List ℕ} where
  pub thinning_start : length before ≡ places → Thinning before w before 0 0
  thinning_start z = record {
    size = z;
    few = omega arith;
    from = λ i h. let e : ⊥ = omega arith in absurd e;
    left_in = λ i h. let e : ⊥ = omega arith in absurd e;
    beside = λ i h. let e : ⊥ = omega arith in absurd e;
    two = λ i j h l. let e : ⊥ = omega arith in absurd e;
    later = λ i h. refl;
  }

  module _ {s : List (List ℕ)} {left k : ℕ} (t : Thinning before w s left k) where
    among_more : {v : List ℕ} → Among before k v → Among before (k + 1) v
    among_more a = record { place = a.place; there = omega (arith, a.there); is = a.is }

    two_more : {v u : List ℕ} → Two before k v u → Two before (k + 1) v u
    two_more d = record {
      first = d.first;
      second = d.second;
      before = d.before;
      there = omega (arith, d.there);
      is = d.is;
      is_second = d.is_second;
    }

    pub thinning_out : Under w (row s k) → Thinning before w s left (k + 1)
    thinning_out u = record {
      size = t.size;
      few = omega (arith, t.few);
      from = λ i h. among_more (t.from i h);
      left_in = λ i h. elim (ℕ_discrete i k) [ yes e ↦ inl (rw (e, ← t.later k (omega arith)) u) | no e ↦ t.left_in i (omega arith) ];
      beside = t.beside;
      two = λ i j h l. two_more (t.two i j h l);
      later = λ i h. t.later i (omega arith);
    }

    pub thinning_keep : k < places → ¬ (Under w (row s k)) → Thinning before w (set s left (row s k)) (left + 1) (k + 1)
    thinning_keep hk u = record {
      size = simp length-set t.size;
      few = omega (arith, t.few);
      from = λ i h. elim (ℕ_discrete i left) [
        | yes e ↦ record { place = k; there = omega arith; is = rw e (row_same s left (row s k) room ∙ t.later k (omega arith)) }
        | no e ↦ rw (row_other s left i (row s k) e) (among_more (t.from i (omega arith)))
      ];
      left_in = λ i h. elim (ℕ_discrete i k) [
        | yes e ↦ inr (record { place = left; there = omega arith; is = rw e (sym (row_same s left (row s k) room ∙ t.later k (omega arith))) })
        | no e ↦ elim (t.left_in i (omega arith)) [
          | inl u ↦ inl u
          | inr a ↦ inr (record {
            place = a.place;
            there = omega (arith, a.there);
            is = a.is ∙ sym (row_other s left a.place (row s k) (λ f. omega (arith, a.there)));
          })
        ]
      ];
      beside = λ i h. elim (ℕ_discrete i left) [
        | yes e ↦ rw (e, row_same s left (row s k) room) u
        | no e ↦ rw (row_other s left i (row s k) e) (t.beside i (omega arith))
      ];
      two = λ i j h l. elim (ℕ_discrete j left) [
        | yes e ↦ rw (row_other s left i (row s k) (λ f. omega arith), e, row_same s left (row s k) room) (newest i (t.from i (omega arith)))
        | no e ↦ rw (row_other s left i (row s k) (λ f. omega arith), row_other s left j (row s k) e) (two_more (t.two i j h (omega arith)))
      ];
      later = λ i h. row_other s left i (row s k) (λ f. let l = t.few in omega arith) ∙ t.later i (omega arith);
    }
      where
        room : left < length s
        room = omega (arith, t.few, t.size)

        newest : (i : ℕ) → Among before k (row s i) → Two before (k + 1) (row s i) (row s k)
        newest i a = record {
          first = a.place;
          second = k;
          before = a.there;
          there = omega arith;
          is = a.is;
          is_second = t.later k (omega arith);
        }

    pub thinning_end : {many : ℕ} → k ≡ many → Thinned before many w s left
    thinning_end e = record {
      size = t.size;
      few = omega (arith, t.few);
      from = λ i h. rw (← e) (t.from i h);
      left = λ i h. t.left_in i (omega arith);
      beside = t.beside;
      apart = λ a. record {
        at = λ i j hi hj d. elim (dec_lt i j) [
          | yes l ↦ (two_apart {v = row s i} {w = row s j} (rw (← e) (t.two i j l hj)) a).0
          | no l ↦ (two_apart {v = row s j} {w = row s i} (rw (← e) (t.two j i (omega arith) hi)) a).1
        ];
      };
    }

-- ---- growing: not at all, and told of more
pub grown_none : {New : List ℕ → Type 0} {before : List (List ℕ)} {many : ℕ} → length before ≡ places → Grown New 0 before many before many
grown_none {before = before} z = record {
  size = z;
  few = omega arith;
  from = λ k h. inr (record { place = k; there = h; is = refl });
  old = λ i h. covered_itself i h refl;
  apart = λ a. a;
}

pub grown_as : {New New' : List ℕ → Type 0} {more more' : ℕ} {before : List (List ℕ)} {many : ℕ} {after : List (List ℕ)} {r : ℕ} →
    ((v : List ℕ) → New v → New' v) → more ≤ more' → Grown New more before many after r → Grown New' more' before many after r
grown_as f h g = record {
  size = g.size;
  few = omega (arith, g.few);
  from = λ k l. elim (g.from k l) [ inl x ↦ inl (f _ x) | inr x ↦ inr x ];
  old = g.old;
  apart = g.apart;
}

-- ---- joining
module _ {before : List (List ℕ)} {many : ℕ} {w : List ℕ} where
  pub joined_covered : length before ≡ places → Covered before many w → Joined before many w before many
  joined_covered z c = record {
    grown = grown_as (λ v e. e) (omega arith) (grown_none z);
    new = c;
  }

  pub joined_new : {s : List (List ℕ)} {left : ℕ} → many < places → ¬ (Covered before many w) → Thinned before many w s left →
      Joined before many w (set s left w) (left + 1)
  joined_new {s} {left} h u t = record {
    grown = record {
      size = simp length-set t.size;
      few = omega (arith, t.few);
      from = λ k l. elim (ℕ_discrete k left) [
        | yes e ↦ inl (rw e (row_same s left w room))
        | no e ↦ inr (rw (row_other s left k w e) (t.from k (omega arith)))
      ];
      old = λ i l. elim (t.left i l) [
        | inl u ↦ covered_trans there u
        | inr a ↦ covered_itself a.place (omega (arith, a.there)) (a.is ∙ sym (row_other s left a.place w (λ f. omega (arith, a.there))))
      ];
      apart = λ a. record { at = beside (t.apart a) };
    };
    new = there;
  }
    where
      room : left < length s
      room = omega (arith, t.few, t.size)

      there : Covered (set s left w) (left + 1) w
      there = covered_itself left (omega arith) (sym (row_same s left w room))

      -- none that was left lies above w, and none below, as none did before
      below : (k : ℕ) → k < left → ¬ (Under (row s k) w)
      below k h v = let a = t.from k h in u (record { place = a.place; there = a.there; under = rw a.is at v })

      beside : Apart s left → (i j : ℕ) → i < left + 1 → j < left + 1 → ¬ (i ≡ j) → ¬ (Under (row (set s left w) i) (row (set s left w) j))
      beside a i j hi hj d = elim (ℕ_discrete i left) [
        | yes e ↦ rw (e, row_same s left w room, row_other s left j w (λ f. d (e ∙ sym f))) (t.beside j (omega arith))
        | no e ↦ elim (ℕ_discrete j left) [
          | yes f ↦ rw (f, row_same s left w room, row_other s left i w e) (below i (omega arith))
          | no f ↦ rw (row_other s left i w e, row_other s left j w f) (a.at i j (omega arith) (omega arith) d)
        ]
      ]

-- ---- growing further: what was below something stays below it
module _ {New : List ℕ → Type 0} {more many r : ℕ} {before after : List (List ℕ)} (g : Grown New more before many after r) where
  pub grown_covered : {v : List ℕ} → Covered before many v → Covered after r v
  grown_covered c = covered_trans (g.old c.place c.there) c.under

  pub grown_then : {Old Both : List ℕ → Type 0} {first : List (List ℕ)} {none m : ℕ} → Grown Old m first none before many →
      ((v : List ℕ) → Old v → Both v) → ((v : List ℕ) → New v → Both v) → Grown Both (m + more) first none after r
  grown_then f a b = record {
    size = g.size;
    few = omega (arith, f.few, g.few);
    from = λ k h. elim (g.from k h) [
      | inl x ↦ inl (b _ x)
      | inr i ↦ elim (f.from i.place i.there) [ inl x ↦ inl (a _ (rw i.is x)) | inr x ↦ inr (rw i.is x) ]
    ];
    old = λ i h. grown_covered (f.old i h);
    apart = λ a. g.apart (f.apart a);
  }

-- ---- a test for a trigger of a mask
pub has_yes : {b c : Bool} → b ≡ c → b ≡ true → T c
has_yes e t = subst T (sym t ∙ e) tt

pub has_no : {b c : Bool} → b ≡ c → b ≡ false → ¬ (T c)
has_no e f t = subst T (sym e ∙ f) t

-- ---- raising: the first j triggers have been looked at
module _ {n : ℕ} {x : List ℕ} {mask : ℕ} {wants : List ℕ} {stars : List (List ℕ)} where
  raised_more : {k : ℕ} (v : List ℕ) → RaisedBy n x mask wants stars k v → RaisedBy n x mask wants stars (k + 1) v
  raised_more v r = record { trigger = r.trigger; below = omega (arith, r.below); kept = r.kept; raised = r.raised }

  module _ {before : List (List ℕ)} {many : ℕ} where
    pub raised_none : length before ≡ places → RaisedAll n x mask wants stars 0 before many before many
    raised_none z = record { grown = grown_none z; new = λ j h b. let e : ⊥ = omega arith in absurd e }

    module _ {j : ℕ} {s : List (List ℕ)} {held : ℕ} (t : RaisedAll n x mask wants stars j before many s held) where
      pub raised_skip : ¬ (Has mask j) → RaisedAll n x mask wants stars (j + 1) before many s held
      raised_skip h = record {
        grown = grown_as raised_more (omega arith) t.grown;
        new = λ k l b. elim (ℕ_discrete k j) [ yes e ↦ absurd (h (rw (← e) b)) | no e ↦ t.new k (omega arith) b ];
      }

      pub raised_join : {v : List ℕ} {after : List (List ℕ)} {r : ℕ} → Has mask j → Raised n x mask wants stars j v → Joined s held v after r →
          RaisedAll n x mask wants stars (j + 1) before many after r
      raised_join {v} h q g = record {
        grown = grown_then g.grown t.grown raised_more (λ u e. record { trigger = j; below = omega arith; kept = h; raised = rw e q });
        new = λ k l b. elim (ℕ_discrete k j) [
          | yes e ↦ rw e (v, q, g.new)
          | no e ↦ let (u, y, c) = t.new k (omega arith) b in (u, y, grown_covered g.grown c)
        ];
      }

    -- ---- branching: x stays, or is raised
    module _ {after : List (List ℕ)} {r : ℕ} where
      pub branched_stays : 0 < n → Meets n x mask wants → Joined before many x after r → Branched n x mask wants stars before many after r
      branched_stays h m g = record { grown = grown_as (λ v e. inl (e, m)) h g.grown; new = inl g.new }

      pub branched_rises : RaisedAll n x mask wants stars n before many after r → Branched n x mask wants stars before many after r
      branched_rises g = record { grown = grown_as (λ v q. inr q) (omega arith) g.grown; new = inr g.new }

apart_part : {set : List (List ℕ)} {part many : ℕ} → part ≤ many → Apart set many → Apart set part
apart_part h a = record { at = λ i j hi hj. a.at i j (omega arith) (omega arith) }

-- ---- expanding: the rays up to place k have had their turn
module _ {rays : List (List ℕ)} {from mask : ℕ} {wants : List ℕ} {stars : List (List ℕ)} {n : ℕ} where
  pub expanded_none : (s : List (List ℕ)) → length s ≡ places → Expanded rays from from mask wants stars n s 0
  expanded_none s z = record {
    size = z;
    few = omega arith;
    apart = λ a. record { at = λ i j h. let e : ⊥ = omega arith in absurd e };
    made = λ k h. let e : ⊥ = omega arith in absurd e;
    new = λ i h l. let e : ⊥ = omega arith in absurd e;
  }

  pub expanded_more : {k held r : ℕ} {s after : List (List ℕ)} → held + n ≤ places → from ≤ k → Expanded rays from k mask wants stars n s held →
      Branched n (row rays k) mask wants stars s held after r → Expanded rays from (k + 1) mask wants stars n after r
  expanded_more {k} hn hk t b = record {
    size = b.grown.size;
    few = omega (arith, b.grown.few, hn);
    apart = λ a. b.grown.apart (t.apart (apart_part (omega arith) a));
    made = λ i h. elim (b.grown.from i h) [
      | inl x ↦ (k, omega arith, x)
      | inr a ↦ let (m, hm, x) = t.made a.place a.there in (m, omega arith, rw a.is x)
    ];
    new = λ i h l. elim (ℕ_discrete i k) [
      | yes e ↦ rw e b.new
      | no e ↦ elim (t.new i h (omega arith)) [
        | inl c ↦ inl (grown_covered b.grown c)
        | inr f ↦ inr (λ j hj q. let (v, y, o) = f j hj q in (v, y, grown_covered b.grown o))
      ]
    ];
  }

-- the last place reached is the end
pub expanded_end : {rays s stars : List (List ℕ)} {from k to mask n held : ℕ} {wants : List ℕ} → k ≡ to →
    Expanded rays from k mask wants stars n s held → Expanded rays from to mask wants stars n s held
expanded_end e t = rw (← e) t

-- where there is no room for n more, some are held, so the place is not the first any more
pub further : {from k held n : ℕ} → from ≤ k → (k ≡ from → held ≡ 0) → n ≤ size_limit → places < held + n → from < k
further {from} {k} h f hn r = elim (ℕ_discrete k from) [ yes e ↦ let z = f e in omega arith | no e ↦ omega arith ]

-- ---- the first j triggers have not what is wanted of them
pub wants_more : {a b : ℕ} → b < a → ¬ (a ≤ b)
wants_more h l = omega arith

pub record MeetsNot (x : List ℕ) (mask : ℕ) (wants : List ℕ) (j : ℕ) : Type 0 where
  pub at : (k : ℕ) → k < j → Has mask k → ¬ (get_or wants k 0 ≤ get_or x k 0)

module _ {x : List ℕ} {mask : ℕ} {wants : List ℕ} where
  pub meets_not_none : MeetsNot x mask wants 0
  meets_not_none = record { at = λ k h. let e : ⊥ = omega arith in absurd e }

  pub meets_not_more : {j : ℕ} → MeetsNot x mask wants j → (Has mask j → ¬ (get_or wants j 0 ≤ get_or x j 0)) → MeetsNot x mask wants (j + 1)
  meets_not_more {j} t f = record { at = λ k h. elim (ℕ_discrete k j) [ yes e ↦ rw e f | no e ↦ t.at k (omega arith) ] }

  pub meets_not_all : {n j : ℕ} → MeetsNot x mask wants j → n ≤ j → ¬ (Meets n x mask wants)
  meets_not_all t h (k, hk, q, l) = t.at k (omega arith) q l

-- ---- the answer of `all` over the first rays of a set
pub all_says : (P : List ℕ → Type 0) (s : List (List ℕ)) (many : ℕ) (r : Bool) → many ≤ length s →
    MatchBool r (AllWithin P (take many s) 0 (length (take many s)))
    ((k : ℕ) × (k < length (take many s)) × HoldsAt (λ w. ¬ (P w)) (take many s) k) → Says ((k : ℕ) → k < many → P (row s k)) r
all_says P s many true h f = λ k l. rw (← get_or-take many s k [] l) (f k [] (omega arith) (omega (arith, length-take-le many s h)))
all_says P s many false h (k, l, f) = let m : k < many = omega (arith, length-take-le many s h) in
    λ u. f [] (rw (get_or-take many s k [] m) (u k m))

-- ---- the first rays of another set in their places
module _ {next : List (List ℕ)} where
  kept_covered : {many : ℕ} {after : List (List ℕ)} {w : List ℕ} → Kept next many after → Covered next many w → Covered after many w
  kept_covered t c = record { place = c.place; there = c.there; under = rw (t.rows c.place c.there) c.under }

-- ---- a whole set with one panel more: as it is, or what was kept of another
module _ {rays : List (List ℕ)} {many mask : ℕ} {wants : List ℕ} {stars : List (List ℕ)} {n : ℕ} where
  pub added_as_it_is : length rays ≡ places → many ≤ places → ((k : ℕ) → k < many → Meets n (row rays k) mask wants) →
      Expanded rays 0 many mask wants stars n rays many
  added_as_it_is z h m = record {
    size = z;
    few = h;
    apart = λ a. a;
    made = λ k l. (k, l, inl (refl, m k l));
    new = λ i h l. inl (covered_itself i l refl);
  }

  pub added_kept : {to found : ℕ} {next after : List (List ℕ)} → to ≡ many → Expanded rays 0 to mask wants stars n next found →
      Kept next found after → Expanded rays 0 many mask wants stars n after found
  added_kept {to} {found} {next} {after} e x t = subst (λ to. Expanded rays 0 to mask wants stars n after found) e (record {
    size = t.size;
    few = x.few;
    apart = λ a. record { at = λ i j hi hj d. rw (t.rows i hi, t.rows j hj) ((x.apart a).at i j hi hj d) };
    made = λ k h. rw (t.rows k h) (x.made k h);
    new = λ i h l. elim (x.new i h l) [
      | inl c ↦ inl (kept_covered t c)
      | inr f ↦ inr (λ j hj q. let (v, y, c) = f j hj q in (v, y, kept_covered t c))
    ];
  })

-- a set of which not all rays meet a panel has one
pub some_ray : {many : ℕ} {Meet : ℕ → Type 0} → ¬ ((k : ℕ) → k < many → Meet k) → 0 < many
some_ray {many} f = elim (ℕ_discrete many 0) [ yes e ↦ absurd (f (λ k h. let b : ⊥ = omega arith in absurd b)) | no e ↦ omega arith ]
