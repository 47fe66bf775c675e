-- What a test of a timing X with a sheet's words says.
use Rattle.std.specs.Prelude.{◌≡◌, List, Bool, ℕ, ℤ}
use Rattle.maxplus.specs.Entry.{num}
use Rattle.maxplus.specs.Tables.{NoGain}
use Rattle.words.specs.Words.{entry}
use Rattle.cue.specs.Cue.{Cue, timing}
use Rattle.cue.specs.Vectors.{Keeps, deviation, Tightest, Readable}
use Rattle.cue.specs.Method as method
use Rattle.tables.specs.Held.{Holds, HoldsV, Says}

-- "those that keep the order and reach the least deviation are the tightest ones"
abbrev pub Reaches : ℕ → Cue → (ℕ → ℤ) → Type 0
Reaches n P X = Keeps n P.order (timing X) × (deviation n P (timing X) ≡ num (method.least n P))

module _ (panels n : ℕ) (order lag : List (List ℕ)) (floor due : List ℕ) (least : ℕ) where
  -- the words are those of the tables P and of their least deviation
  pub record MeasuredWords (P : Cue) : Type 0 where
    pub panels_are : P.panels ≡ panels
    pub orders : Holds n n P.order order
    pub lags : Holds panels n P.lag lag
    pub floors : HoldsV panels P.floor floor
    pub dues : HoldsV n (timing P.due) due
    pub least_is : entry least ≡ num (method.least n P)

  -- whatever tables they are, the answer says whether X reaches the least deviation and, on a sheet that timings can keep the order of,
  -- whether it is tightest
  pub record TestSays (X : ℕ → ℤ) (r : Bool) : Type 0 where
    pub reaches : (P : Cue) → MeasuredWords P → Says (Reaches n P X) r
    pub tightest : (P : Cue) → MeasuredWords P → Readable n P → NoGain n P.order → Says (Tightest n P X) r
