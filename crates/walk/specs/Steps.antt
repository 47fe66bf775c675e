-- What a step may be asked and what it gives.
use Rattle.std.specs.Prelude.{◌≡◌, Bool, true, false, ◌⊎◌, List, ◌++◌, ℕ, ◌+◌, ◌<◌, ℤ, length}
use Rattle.cue.specs.Cue.{Cue}
use Rattle.walk.specs.Trace.{Masks, Event}
use Rattle.walk.specs.State.{marks, pending, resumed, levels, Sound, FixedSound, Ended, After}
use Rattle.walk.specs.Follows.{Follows}
use Rattle.walk.specs.Remembers.{Asks, Remembers}
use Rattle.walk.specs.declared.Place.{Place}
use Rattle.walk.specs.declared.Walk.{Walk}
use Rattle.walk.specs.declared.Stepped.{Stepped}
use Rattle.walk.specs.declared.Outcome.TheVariants.{Selection, End}

-- the fixings are counted in a word of 32 bits
abbrev pub word_size : ℕ
word_size = 4294967296

-- a state that is handed back: every panel is fixed, or one is to be tried
abbrev pub HandedBack : ℕ → Place → Type 0
HandedBack f p = (FixedSound f p × (p.depth ≡ f)) ⊎ Sound f p

module _ (kept : List ℕ) (gains : List (List ℕ)) where
  -- what a step gives of the events es
  pub record Gives (f : ℕ) (es : List Event) (r : Stepped) : Type 0 where
    pub given : After kept gains f r.outcome r.next.place es

  -- where the words follow a sheet's tables, and the state before, with so many open levels, has step 6's w of the panels fixed in it, so has
  -- the state that is handed back
  abbrev pub Remembering : ℕ → List (List ℕ) → ℕ → Walk → Walk → Type 0
  Remembering f needs l w next = (n : ℕ) (P : Cue) (D : ℤ) (panels : List ℕ) → Follows n P D f kept gains panels → Asks n P D panels f needs →
      Remembers n P D panels l w → Remembers n P D panels (levels f next.place) next

  -- before a step: the fixings that are still to be given will fit their word
  pub record StepReady (f : ℕ) (p : Place) : Type 0 where
    pub stands : HandedBack f p
    pub masks : Masks kept
    pub room : p.fixings + length (pending kept gains f (resumed f p)) < word_size

  module _ (needs : List (List ℕ)) (f : ℕ) (w : Walk) where
    -- a step; after the end it gives the end again, unchanged
    pub record StepTaken (r : Stepped) : Type 0 where
      pub gives : Gives f (marks w.place.fixings ++ pending kept gains f (resumed f w.place)) r
      pub again : Ended w.place → r ≡ record { next = w; outcome = End }
      pub remembers : Remembering f needs (levels f w.place) w r.next

-- a selection was found, or the end
abbrev pub stepped : Bool → Walk → Stepped
stepped true w = record { next = w; outcome = Selection }
stepped false w = record { next = w; outcome = End }
