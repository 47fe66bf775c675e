-- What is known on the way from a sheet's words to what the operations are made from. The tables P are those that the words hold.
use Rattle.std.specs.Prelude.{◌≡◌, Bool, List, ℕ, ◌≤◌, ◌<◌, length, get_or, replicate, Result, Ok, Err}
use Rattle.maxplus.specs.Entry.{num}
use Rattle.maxplus.specs.Tables.{star, NoGain}
use Rattle.cue.specs.Cue as theory
use Rattle.cue.specs.Cue.{timing}
use Rattle.cue.specs.Vectors.{Readable}
use Rattle.cue.specs.Method.{through, least, kept_byte, floor_panels}
use Rattle.cue.specs.Results.{Limited}
use Rattle.words.specs.Words.{entry, Near}
use Rattle.sheet.specs.Sheet.{Got, got, refused, limit}
use Rattle.sheet.specs.Sheet as spec
use Rattle.sheet.specs.Sizes.{order_limit}
use Rattle.sheet.specs.Cue.{used, cue_size, cue_of}
use Rattle.sheet.specs.Good.{Good}
use Rattle.refusals.specs.Numbers.{number}
use Rattle.refusals.specs.declared.Refusal.{Refusal}
use Rattle.reading.specs.Reading.{sheet_words}
use Rattle.reading.specs.declared.SheetWords.{SheetWords}
use Rattle.tables.specs.Held.{Holds, HoldsV, Says}
use Rattle.spares.specs.Using.{PlacesOf}
use Rattle.moments.specs.Moments.{MomentsOf}
use Rattle.walk.specs.Follows.{Follows}
use Rattle.candidates.specs.Drawable.{Drawable}
use Rattle.preparing.specs.declared.CueWords.{CueWords}
use Rattle.preparing.specs.declared.Marked.{Marked}
use Rattle.preparing.specs.declared.Prepared.{Prepared}
use Rattle.preparing.specs.declared.Tables.{Tables}
use Rattle.cue.specs.Sizes.{size_limit}

-- tables with nothing in them
abbrev pub blank_tables : Tables
blank_tables =
    let none = replicate size_limit (replicate size_limit 0) in
    record { order = none; lag = none; star = none; gains = none; needs = none }

-- the words of a good sheet s
pub record Worded (s : spec.Sheet) (t : SheetWords) : Type 0 where
  pub words : t ≡ sheet_words s
  pub good : Good s

-- the words of a cue P that can be planned
pub record HoldsCue (P : theory.Cue) (orders lags : List (List ℕ)) (c : CueWords) : Type 0 where
  pub some : 0 < c.triggers
  pub few : c.triggers ≤ size_limit
  pub few_panels : P.panels ≤ size_limit
  pub panels_are : c.panels ≡ P.panels
  pub readable : Readable c.triggers P
  pub limited : Limited c.triggers limit order_limit P
  pub lags_are : Holds P.panels c.triggers P.lag lags
  pub floors_are : HoldsV P.panels P.floor c.floor
  pub dues_are : HoldsV c.triggers (timing P.due) c.due
  pub orders_are : Holds c.triggers c.triggers P.order orders

-- the words of the cue of a sheet s, and which of the sheet's triggers it has
pub record CueFrom (s : spec.Sheet) (orders lags : List (List ℕ)) (c : CueWords) : Type 0 where
  pub sized : c.triggers ≡ cue_size s
  pub placed : PlacesOf (used s) s.triggers c.places
  pub held : HoldsCue (cue_of s) orders lags c

-- a cue whose order can be kept; two more tables hold M* and d
pub record Fit (P : theory.Cue) (c : CueWords) (orders lags stars throughs : List (List ℕ)) : Type 0 where
  pub held : HoldsCue P orders lags c
  pub order : NoGain c.triggers P.order
  pub starred : Holds c.triggers c.triggers (star c.triggers P.order) stars
  pub reached : Holds P.panels c.triggers (through c.triggers P) throughs

-- whether it can, and then these tables
pub record Tabled (P : theory.Cue) (c : CueWords) (orders lags stars throughs : List (List ℕ)) (r : Bool) : Type 0 where
  pub order : Says (NoGain c.triggers P.order) r
  pub fit : NoGain c.triggers P.order → Fit P c orders lags stars throughs

-- all that planning and the kept table are made from: Δ and its word, each panel's byte, what the walk goes by and what the lines are drawn
-- from
pub record MarkedAs (n : ℕ) (P : theory.Cue) (lags stars gains needs : List (List ℕ)) (r : Marked) : Type 0 where
  pub triggers_are : r.marks.triggers ≡ n
  pub deviation : entry r.least ≡ num (least n P)
  pub word : (0 < r.least) × Near r.least
  pub size : length r.kept ≡ 6
  pub bytes : (i : ℕ) → i < P.panels → get_or r.kept i 0 ≡ kept_byte n P (least n P) i
  pub past : (i : ℕ) → P.panels ≤ i → get_or r.kept i 0 ≡ 0
  pub some_levels : 0 < r.marks.levels
  pub few_levels : r.marks.levels ≤ size_limit
  pub masks_size : length r.marks.kept ≡ 6
  pub follows : Follows n P (least n P) r.marks.levels r.marks.kept gains (floor_panels n P)
  pub prepared : Drawable r.marks.triggers P r.marks stars lags needs

-- a sheet whose order can be kept, with all that is made from it
pub record Made (s : spec.Sheet) (ts : Tables) (r : Prepared) : Type 0 where
  pub sized : r.cue.triggers ≡ cue_size s
  pub placed : PlacesOf (used s) s.triggers r.cue.places
  pub held : HoldsCue (cue_of s) ts.order ts.lag r.cue
  pub order : NoGain (cue_size s) (cue_of s).order
  pub marked : MarkedAs (cue_size s) (cue_of s) ts.lag ts.star ts.gains ts.needs r.marked
  pub moments : MomentsOf s r.moments
  pub good : Good s

-- what reading and the order check came to: a refusal, or a sheet with all that is made from it
abbrev pub PreparedAs : Got spec.Sheet → Tables → Result Prepared Refusal → Type 0
PreparedAs g ts (Ok r) = (s : spec.Sheet) × (x : List ℕ) × (g ≡ got s x) × Made s ts r
PreparedAs g ts (Err e) = g ≡ refused (number e)
