-- What the functions inside a step may be asked and promise: from where a panel is to be tried, and from where one has just been fixed; w asked
-- of one trigger more, and put back.
use Rattle.std.specs.Prelude.{◌≡◌, List, [], ◌∷◌, ◌++◌, ℕ, suc, ◌+◌, ◌%◌, ◌<◌, length, get_or, set}
use Rattle.maxplus.specs.Entry.{◌⊕◌}
use Rattle.words.specs.Words.{entry}
use Rattle.walk.specs.Trace.{Masks}
use Rattle.walk.specs.State.{marks, pending, fixed, given_up, Sound, FixedSound, Ended}
use Rattle.walk.specs.Steps.{word_size, Gives, Remembering}
use Rattle.walk.specs.declared.Place.{Place}
use Rattle.walk.specs.declared.Walk.{Walk}
use Rattle.walk.specs.declared.Stepped.{Stepped}
use Rattle.walk.specs.declared.Outcome.TheVariants.{End}

module _ (kept : List ℕ) (gains : List (List ℕ)) where
  -- before a call where a panel is to be tried, and where one has just been fixed
  pub record TryReady (f : ℕ) (p : Place) : Type 0 where
    pub sound : Sound f p
    pub masks : Masks kept
    pub room : p.fixings + length (pending kept gains f p) < word_size

  pub record FixedReady (f : ℕ) (p : Place) : Type 0 where
    pub sound : FixedSound f p
    pub masks : Masks kept
    pub room : p.fixings + length (fixed kept gains f p) < word_size

  module _ (needs : List (List ℕ)) (f : ℕ) (w : Walk) where
    -- what a step gives, from there
    pub record Tried (r : Stepped) : Type 0 where
      pub gives : Gives kept gains f (marks w.place.fixings ++ pending kept gains f w.place) r
      pub again : Ended w.place → r ≡ record { next = w; outcome = End }
      pub remembers : Remembering kept gains f needs (suc w.place.depth) w r.next

    pub record Descends (r : Stepped) : Type 0 where
      pub gives : Gives kept gains f (marks w.place.fixings ++ fixed kept gains f w.place) r
      pub remembers : Remembering kept gains f needs w.place.depth w r.next

-- one word of w raised to what is asked of it
pub record Asked (before : List ℕ) (j ask : ℕ) (after : List ℕ) : Type 0 where
  pub word : ℕ
  pub larger : entry word ≡ entry ask ⊕ entry (get_or before j 0)
  pub is : after ≡ set before j word

-- six words: one more comes first, or the first one goes
abbrev pub pushed : ℕ → List ℕ → List ℕ
pushed x r = x ∷ get_or r 0 0 ∷ get_or r 1 0 ∷ get_or r 2 0 ∷ get_or r 3 0 ∷ get_or r 4 0 ∷ []

abbrev pub popped : List ℕ → List ℕ
popped r = get_or r 1 0 ∷ get_or r 2 0 ∷ get_or r 3 0 ∷ get_or r 4 0 ∷ get_or r 5 0 ∷ 0 ∷ []

-- the state after the deepest panel fixed gave up its trigger: w and the words replaced
pub record GivenUp (w w' : Walk) : Type 0 where
  pub place : w'.place ≡ given_up w.place
  pub count : w'.bounds.count ≡ w.bounds.count
  pub back : w'.bounds.at ≡ set w.bounds.at (w.place.picks % 8) (get_or w.replaced 0 0)
  pub rest : w'.replaced ≡ popped w.replaced

-- where every panel was fixed it did; elsewhere nothing has changed
pub record Resumed (f : ℕ) (w w' : Walk) : Type 0 where
  pub whole : w.place.depth ≡ f → GivenUp w w'
  pub inner : ¬ (w.place.depth ≡ f) → w' ≡ w
