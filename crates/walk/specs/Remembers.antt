-- Document 02, No. 3: "keep the running w of the panels fixed so far in the walk's state and restore it on the way back. In every state a step
-- hands back it equals step 6's formula over the panels fixed in that state, absent where none chose j."
use Rattle.std.specs.Prelude.{◌≡◌, ℕ, zero, suc, ◌/◌, ◌%◌, ◌<◌, ℤ, get_or}
use mathlib.Core.List.{List, zip}
use Rattle.maxplus.specs.Entry.{◌⊗◌, inv}
use Rattle.cue.specs.Cue.{Cue}
use Rattle.cue.specs.Method as M
use Rattle.words.specs.Words.{entry}
use Rattle.tables.specs.Held.{meant, HoldsV}
use Rattle.tables.specs.Lines.{Sized}
use Rattle.trigger_sets.specs.Sets.{Has}
use Rattle.walk.specs.State.{picked}
use Rattle.walk.specs.declared.Place.{Place}
use Rattle.walk.specs.declared.Walk.{Walk}

-- the untried triggers of d open levels are among the first n
abbrev pub Untried : ℕ → ℕ → ℕ → Type 0
Untried n zero left = Unit {0}
Untried n (suc d) left = ((j : ℕ) → j < 6 → Has (left % 64) j → j < n) × Untried n d (left / 64)

module _ (n : ℕ) (P : Cue) (D : ℤ) (panels : List ℕ) where
  -- "the panels fixed in that state", each with the trigger that it chose
  abbrev pub fixed_at : Place → M.Selection
  fixed_at p = zip panels (picked p.depth p.picks)

  -- row l of needs has p(i) − Δ − d(i,j) for the l-th panel i with a floor
  pub record Asks (f : ℕ) (needs : List (List ℕ)) : Type 0 where
    pub needed : (l j : ℕ) → l < f → j < n → meant needs l j ≡ M.ask n P D (get_or panels l 0) ⊗ inv (M.through n P (get_or panels l 0) j)

  -- for each of d levels, the deepest first: its pick is one of the first n triggers, and the word for what w had there before it was fixed
  abbrev pub Replaced : ℕ → ℕ → (ℕ → ℕ) → Type 0
  Replaced zero picks had = Unit {0}
  Replaced (suc d) picks had =
      (picks % 8 < n) × (entry (had 0) ≡ M.need n P D (zip panels (picked d (picks / 8))) (picks % 8)) ×
      Replaced d (picks / 8) (λ i. had (suc i))

  -- a state with l open levels: its w is a line of n triggers, step 6's w of the panels fixed in it; and the words to be put back
  pub record Remembers (l : ℕ) (w : Walk) : Type 0 where
    pub count : w.bounds.count ≡ n
    pub sized : Sized n w.bounds.at
    pub bounds : HoldsV n (M.need n P D (fixed_at w.place)) w.bounds.at
    pub replaced : Replaced w.place.depth w.place.picks (λ i. get_or w.replaced i 0)
    pub untried : Untried n l w.place.left
