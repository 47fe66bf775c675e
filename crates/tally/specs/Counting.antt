-- What happens in the walk from a level on, how it is counted, and what is remembered of it.
use Rattle.std.specs.Prelude.{◌≡◌, List, [], ◌∷◌, ℕ, zero, suc, ◌+◌, ◌-◌, ◌/◌, ◌%◌, ◌^◌, ◌<◌, ◌≤◌, length, get_or}
use Rattle.trigger_sets.specs.Sets.{members}
use Rattle.walk.specs.Trace.{Event, fixing, for_each, cut, serves, walk_from, fixings, selections}
use Rattle.walk.specs.declared.Counts.{Counts}
use Rattle.tally.specs.declared.Seen.{Seen}
use Rattle.cue.specs.Sizes.{size_limit}

-- a word holds masks, six bits each, the first one lowest: its i-th mask
unfoldable pub digit : ℕ → ℕ → ℕ
digit w zero = w % 64
digit w (suc i) = digit (w / 64) i

-- the mask of level k, where the word speaks of the levels from l on
abbrev pub left : ℕ → ℕ → ℕ → ℕ
left l w k = digit w (k - l)

-- the word speaks of the levels from l on, and leaves them the masks o
pub record Speaks (o : ℕ → ℕ) (l w : ℕ) : Type 0 where
  pub from : l ≤ size_limit
  pub small : w < 64 ^ (size_limit - l)
  pub at : (k : ℕ) → l ≤ k → k < size_limit → left l w k ≡ o k

-- of a level that has seen nothing: no triggers, which give nothing
abbrev pub unseen : Seen
unseen = record { left = 0; counts = record { steps = 0; selections = 0 } }

module _ (gains : List (List ℕ)) where
  -- what fixing trigger j at level l leaves of the masks behind it
  abbrev pub behind : ℕ → ℕ → ℕ → ℕ → ℕ
  behind l w j k = cut j (serves gains l j k) (left l w k)

  module _ (f : ℕ) where
    -- from level l on, where these triggers are left
    unfoldable pub ahead : ℕ → ℕ → List Event
    ahead l w = walk_from gains (f - l) l (left l w) []

    -- the triggers m of level l are tried
    unfoldable pub tried : ℕ → ℕ → ℕ → List Event
    tried l w m = for_each (members m) (λ j. fixing ∷ walk_from gains (f - (l + 1)) (l + 1) (behind l w j) (j ∷ []))

    -- each level remembers a word and what happens from there on with it
    pub record Remembered (seen : List Seen) : Type 0 where
      pub size : length seen ≡ 6
      pub at : (l : ℕ) → l < f →
          ((get_or seen l unseen).counts.steps ≡ fixings (ahead l (get_or seen l unseen).left)) ×
          ((get_or seen l unseen).counts.selections ≡ length (selections (ahead l (get_or seen l unseen).left)))

    pub record CountReady (seen : List Seen) : Type 0 where
      pub few : f ≤ size_limit
      pub remembered : Remembered seen

    -- the events are counted, and what is remembered holds
    pub record Counted (es : List Event) (r : Counts) (seen : List Seen) : Type 0 where
      pub steps_are : r.steps ≡ fixings es
      pub selections_are : r.selections ≡ length (selections es)
      pub remembered : Remembered seen
