-- What is gathered, and from which rays.
use Rattle.std.specs.Prelude.{◌≡◌, Bool, true, List, ◌++◌, ℕ, ◌≤◌, ◌<◌, length, get_or, take}
use Rattle.maxplus.specs.Entry.{◌≼◌}
use Rattle.maxplus.specs.Finite.{In, map_l}
use Rattle.maxplus.specs.Tables.{Vec, normal}
use Rattle.maxplus.specs.Line.{Line, line, lt_l}
use Rattle.maxplus.specs.Sorted.{sift}
use Rattle.maxplus.proofs.FiniteLaws.{dec_×}
use Rattle.maxplus.proofs.LineLaws.{strict}
use Rattle.maxplus.specs.Above.{gt?, above}
use Rattle.cue.specs.Cue.{Cue}
use Rattle.cue.specs.Method.{least, lines}
use Rattle.cue.specs.Closures.{Common}
use Rattle.cue.specs.Vectors.{Keeps}
use Rattle.cue.proofs.Rays.{OnMark, first_ray}
use Rattle.cue.proofs.Closure.{common?}
use Rattle.sheet.specs.Sizes.{starred_size}
use Rattle.tables.specs.Held.{meant, meant_v, CloselyV}
use Rattle.trigger_sets.specs.Sets.{Has}
use Rattle.tables.specs.Lines.{line_of, Sized}
use Rattle.candidates.specs.Drawable.{Drawable}
use Rattle.candidates.specs.declared.Marks.{Marks}
use Rattle.buffer.specs.Buffer.{room, row, Stored}
use Rattle.rays.specs.Rays.{places, Apart, Rows}

module _ (n : ℕ) (P : Cue) (last : Line n) where
  -- a candidate that comes after last in the list
  abbrev pub Wanted : Line n → Type 0
  Wanted c = lt_l n last c × Common n P (least n P) c

  unfoldable pub wanted? : (c : Line n) → Dec (Wanted c)
  wanted? c = dec_× (gt? (lt_l n) (strict n) last c) (common? n P (least n P) c)

  -- the least of those among C, as many as there is room for
  unfoldable pub first : List (Line n) → List (Line n)
  first C = take room (sift (lt_l n) (strict n) wanted? C)

-- the buffer holds the least of those among C
pub record Gathered (n : ℕ) (P : Cue) (last : List ℕ) (C : List (Line n)) (len : ℕ) (buf : List (List ℕ)) : Type 0 where
  pub stored : Stored n len buf (first n P (line_of n last) C)

-- the line of a ray
unfoldable pub drawn : (n : ℕ) → List ℕ → Line n
drawn n w = line n (normal n (meant_v w))

-- where it is known, each line of a set's rays is extreme
abbrev pub Sure : Bool → (n : ℕ) → Cue → List (List ℕ) → ℕ → Type 0
Sure known n P set many = known ≡ true → (k : ℕ) → k < many → Common n P (least n P) (drawn n (row set k))

-- of level l some kept trigger is asked for no more than b has
abbrev pub Met : Marks → List (List ℕ) → ℕ → Vec → Type 0
Met M needs l b = (j : ℕ) × (j < M.triggers) × Has (get_or M.kept l 0) j × (meant needs l j ≼ b j)

-- a ray of t, for the first l levels
pub record RayTo (M : Marks) (stars needs : List (List ℕ)) (t l : ℕ) (w : List ℕ) : Type 0 where
  pub trigger : t < M.triggers
  pub sized : Sized M.triggers w
  pub close : CloselyV M.triggers starred_size w
  pub on : (P : Cue) (lags : List (List ℕ)) → Drawable M.triggers P M stars lags needs → OnMark M.triggers P t (meant_v w)
  pub met : (P : Cue) (lags : List (List ℕ)) → Drawable M.triggers P M stars lags needs → (k : ℕ) → k < l → Met M needs k (meant_v w)

abbrev pub RaysTo : Marks → List (List ℕ) → List (List ℕ) → ℕ → ℕ → List (List ℕ) → ℕ → Type 0
RaysTo M stars needs t l set many = (k : ℕ) → k < many → RayTo M stars needs t l (row set k)

-- w lies below b
abbrev pub Below : ℕ → List ℕ → Vec → Type 0
Below n w b = (j : ℕ) → j < n → meant_v w j ≼ b j

-- the lines of some rays of all levels have been considered, and below each vector that keeps the order, meets the levels from `level` on and
-- has a ray of the set from a place on below it, there is one of them
pub record Spread (M : Marks) (stars lags needs : List (List ℕ)) (last : List ℕ) (set : List (List ℕ)) (from many level : ℕ)
    (len : ℕ) (buf : List (List ℕ)) (r : ℕ) (after : List (List ℕ)) : Type 0 where
  pub used : List (List ℕ)
  pub rays : (t : ℕ) → RaysTo M stars needs t level set many → (w : List ℕ) → In w used → RayTo M stars needs t M.levels w
  pub gathered : (P : Cue) (C : List (Line M.triggers)) → Drawable M.triggers P M stars lags needs →
      Gathered M.triggers P last C len buf → Gathered M.triggers P last (C ++ map_l (drawn M.triggers) used) r after
  pub covers : (P : Cue) → Drawable M.triggers P M stars lags needs → (b : Vec) → Keeps M.triggers P.order b →
      ((l : ℕ) → level ≤ l → l < M.levels → Met M needs l b) →
      (k : ℕ) → from ≤ k → k < many → Below M.triggers (row set k) b → (w : List ℕ) × In w used × Below M.triggers w b

-- the least rays of t, for the first l levels: none lies below another, and below each vector that keeps the order, meets these levels and is
-- above column t at r(t) there is one
pub record Whole (M : Marks) (stars needs : List (List ℕ)) (t l : ℕ) (set : List (List ℕ)) (many : ℕ) : Type 0 where
  pub rays : RaysTo M stars needs t l set many
  pub apart : Apart set many
  pub covers : (P : Cue) (lags : List (List ℕ)) → Drawable M.triggers P M stars lags needs → (b : Vec) → Keeps M.triggers P.order b →
      ((k : ℕ) → k < l → Met M needs k b) → ((j : ℕ) → j < M.triggers → first_ray M.triggers P t j ≼ b j) →
      (k : ℕ) × (k < many) × Below M.triggers (row set k) b

-- a set of one ray has been carried on to a level
pub record CarriedTo (M : Marks) (stars needs set after : List (List ℕ)) (level many : ℕ) : Type 0 where
  pub so_far : level ≤ M.levels
  pub few : many ≤ places
  pub size : length after ≡ places
  pub words : Rows M.triggers many after
  pub whole : (t : ℕ) → Whole M stars needs t 0 set 1 → Whole M stars needs t level after many

-- the lines of some rays of t have been considered, and below each vector that keeps the order, meets all levels and is above column t at r(t)
-- there is one of them
pub record Considered (M : Marks) (stars lags needs : List (List ℕ)) (last : List ℕ) (t : ℕ) (len : ℕ) (buf : List (List ℕ)) (r : ℕ)
    (after : List (List ℕ)) : Type 0 where
  pub used : List (List ℕ)
  pub rays : (w : List ℕ) → In w used → RayTo M stars needs t M.levels w
  pub gathered : (P : Cue) (C : List (Line M.triggers)) → Drawable M.triggers P M stars lags needs →
      Gathered M.triggers P last C len buf → Gathered M.triggers P last (C ++ map_l (drawn M.triggers) used) r after
  pub covers : (P : Cue) → Drawable M.triggers P M stars lags needs → (b : Vec) → Keeps M.triggers P.order b →
      ((l : ℕ) → l < M.levels → Met M needs l b) → ((j : ℕ) → j < M.triggers → first_ray M.triggers P t j ≼ b j) →
      (w : List ℕ) × In w used × Below M.triggers w b

-- and so for the rays of the first t triggers, from their columns on
pub record Turned (M : Marks) (stars lags needs : List (List ℕ)) (last : List ℕ) (t len : ℕ) (buf : List (List ℕ)) : Type 0 where
  pub so_far : t ≤ M.triggers
  pub used : List (List ℕ)
  pub rays : (w : List ℕ) → In w used → (s : ℕ) × RayTo M stars needs s M.levels w
  pub gathered : (P : Cue) → Drawable M.triggers P M stars lags needs →
      Gathered M.triggers P last (map_l (drawn M.triggers) used) len buf
  pub covers : (P : Cue) → Drawable M.triggers P M stars lags needs → (s : ℕ) → s < t → (b : Vec) → Keeps M.triggers P.order b →
      ((l : ℕ) → l < M.levels → Met M needs l b) → ((j : ℕ) → j < M.triggers → first_ray M.triggers P s j ≼ b j) →
      (w : List ℕ) × In w used × RayTo M stars needs s M.levels w × Below M.triggers w b

-- the lines above last
abbrev pub rest : (n : ℕ) → Cue → Line n → List (Line n)
rest n P last = above (lt_l n) (strict n) last (lines n P)

-- the buffer holds the least of them, as many as there is room for
pub record Filled (n : ℕ) (P : Cue) (last : List ℕ) (len : ℕ) (buf : List (List ℕ)) : Type 0 where
  pub stored : Stored n len buf (take room (rest n P (line_of n last)))
