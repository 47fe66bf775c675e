-- What a caller has made of a sheet's tables before it draws lines.
use Rattle.std.specs.Prelude.{◌≡◌, ◌&&◌, List, ℕ, ◌≤◌, ◌<◌, ltb, length, get_or}
use Rattle.maxplus.specs.Entry.{num, ◌⊗◌, inv}
use Rattle.maxplus.specs.Tables.{star, NoGain}
use Rattle.sheet.specs.Sheet.{limit}
use Rattle.sheet.specs.Sizes.{order_limit, star_size, ask_size}
use Rattle.cue.specs.Cue.{Cue}
use Rattle.cue.specs.Vectors.{Readable}
use Rattle.cue.specs.Method.{through, pull, least, floor_panels, kept, ask}
use Rattle.cue.specs.Results.{Limited}
use Rattle.tables.specs.Held.{meant, Holds, HoldsV, Closely, CloselyV}
use Rattle.trigger_sets.specs.Sets.{bit}
use Rattle.candidates.specs.declared.Marks.{Marks}
use Rattle.cue.specs.Sizes.{size_limit}

-- the tables of P, and the marks, as words: row l of needs has p(i) − Δ − d(i,j) for the l-th panel i with a floor
pub record Drawable (n : ℕ) (P : Cue) (M : Marks) (stars lags needs : List (List ℕ)) : Type 0 where
  pub some : 0 < n
  pub few : n ≤ size_limit
  pub few_panels : P.panels ≤ size_limit
  pub triggers : M.triggers ≡ n
  pub panels : M.panels ≡ P.panels
  pub levels : M.levels ≡ length (floor_panels n P)
  pub readable : Readable n P
  pub limited : Limited n limit order_limit P
  pub order : NoGain n P.order
  pub starred : Holds n n (star n P.order) stars
  pub lagged : Holds P.panels n P.lag lags
  pub pulled : HoldsV n (λ j. num (pull n P j)) M.pulls
  pub due : HoldsV n (λ j. num (P.due j)) M.due
  pub asked : HoldsV P.panels (ask n P (least n P)) M.asks
  pub needed : (l j : ℕ) → l < M.levels → j < n →
      meant needs l j ≡ ask n P (least n P) (get_or (floor_panels n P) l 0) ⊗ inv (through n P (get_or (floor_panels n P) l 0) j)
  -- the masks are the kept triggers of the panels with a floor
  pub masks : (l j : ℕ) → l < M.levels → j < 6 → bit (get_or M.kept l 0) j ≡ (ltb j n && kept n P (least n P) (get_or (floor_panels n P) l 0) j)

-- few enough of each, and words close enough to add up with a line of n triggers
pub record MarksNear (n : ℕ) (M : Marks) (stars lags : List (List ℕ)) : Type 0 where
  pub few : n ≤ size_limit
  pub few_panels : M.panels ≤ size_limit
  pub starred : Closely n n star_size stars
  pub lagged : Closely M.panels n limit lags
  pub due : CloselyV n limit M.due
  pub asked : CloselyV M.panels ask_size M.asks
