-- From sheet to lines (document 01, steps 2 to 7; step 1's star is maxplus's), in its order. P is a sheet's tables, n its triggers.
use Rattle.std.specs.Prelude.{List, [], ◌∷◌, Bool, cond, ◌&&◌, ℕ, suc, eqb, ℤ}
use Rattle.maxplus.specs.Whole.{neg}
use Rattle.maxplus.specs.Entry.{E, num, ◌⊗◌, ◌⊕◌, val, leq_E, inv, present?}
use Rattle.maxplus.specs.Finite.{each, only_if, map_l, sum, count_if, byte_of}
use Rattle.maxplus.specs.Tables.{sup_l, Vec, Mat, mv, mm, idm, star, normal}
use Rattle.maxplus.specs.Line.{Line, line}
use Rattle.cue.specs.Minimal.{minimal}
use Rattle.cue.specs.Cue.{Cue, timing, overdue, shortfall}

-- which entries (panel, trigger) the walk still has, and the entries that it fixed, in sheet order
abbrev pub Entries : Type 0
Entries = ℕ → ℕ → Bool

abbrev pub Selection : Type 0
Selection = List (ℕ × ℕ)

module _ (n : ℕ) (P : Cue) where
  open P use {panels, lag, floor, due, order}

  -- step 2: "d is a times M*."
  unfoldable pub through : Mat
  through = mm n lag (star n order)

  -- "The new due mark r(j) is minus the largest of M*(i,j) − q(i)."
  unfoldable pub pull_E : Vec
  pull_E j = overdue n (timing due) (λ i. star n order i j)

  unfoldable pub pull : ℕ → ℤ
  pull j = val (pull_E j)

  abbrev pub mark : ℕ → ℤ
  mark j = neg (pull j)

  -- step 3: "The least deviation Δ is the largest, over panels with a floor, of p(i) minus the largest d(i,j) + r(j)."
  unfoldable pub least_E : E
  least_E = shortfall panels n through floor (timing mark)

  unfoldable pub least : ℤ
  least = val least_E

  -- "panels with a floor in sheet order"
  unfoldable pub floor_panels : List ℕ
  floor_panels = each panels (λ i. only_if (present? (floor i)) (i ∷ []))

  -- step 5: "d(k,j) − p(k) ≥ d(i,j) − p(i)"
  unfoldable pub serves_as_well : ℕ → ℕ → ℕ → Bool
  serves_as_well i j k = leq_E (through i j ⊗ inv (floor i)) (through k j ⊗ inv (floor k))

  -- "Fixing (i,j) leaves only (k,j) in a later such panel k when (k,j) is still kept and d(k,j) − p(k) ≥ d(i,j) − p(i)."
  unfoldable pub cut : ℕ → ℕ → Entries → Entries
  cut i j o k l = cond (o k j && serves_as_well i j k) (eqb l j) (o k l)

  -- "The walk takes panels with a floor in sheet order, triggers ascending. … Fixing an entry goes down to the next panel; when that is
  -- used up, the walk returns to the next trigger of the panel above, with the entries restored. A selection is complete when each panel
  -- with a floor has its trigger."
  unfoldable pub walk : List ℕ → Entries → List Selection
  walk [] o = [] ∷ []
  walk (i ∷ is) o = each n (λ j. only_if (o i j) (map_l (λ s. (i, j) ∷ s) (walk is (cut i j o))))

  -- "Steps counts each fixing, panels with one trigger left included."
  unfoldable pub fixings : List ℕ → Entries → ℕ
  fixings [] o = 0
  fixings (i ∷ is) o = sum n (λ j. count_if (o i j) (suc (fixings is (cut i j o))))

  -- steps 4 to 6, for any D in the place of Δ
  module _ (D : ℤ) where
    -- p(i) − Δ
    abbrev pub ask : ℕ → E
    ask i = floor i ⊗ num (neg D)

    -- step 4: "Entry d(i,j) is kept if it is present and at least p(i) − Δ − r(j). Panels without a floor keep none."
    unfoldable pub kept : Entries
    kept i j = present? (floor i) && leq_E (ask i ⊗ num (pull j)) (through i j)

    -- "The kept triggers of a panel are given as six bits in a byte, bit 0 for trigger 1"
    unfoldable pub kept_byte : ℕ → ℕ
    kept_byte i = byte_of n (kept i)

    unfoldable pub selections : List Selection
    selections = walk floor_panels kept

    unfoldable pub steps : ℕ
    steps = fixings floor_panels kept

    -- step 6: "A selection gives w(j): the largest p(i) − Δ − d(i,j) over panels that chose j, absent if none."
    unfoldable pub need : Selection → Vec
    need s t = sup_l s (λ f. idm f.1 t ⊗ (ask f.0 ⊗ inv (through f.0 f.1)))

    -- "For each trigger t, take the vector with 0 at t and absent elsewhere, join it by componentwise largest with w minus r(t)"
    unfoldable pub seed : Selection → ℕ → Vec
    seed s t j = idm t j ⊕ need s j ⊗ num (pull t)

    -- "apply M*"
    unfoldable pub ray : Selection → ℕ → Vec
    ray s t = mv n (star n order) (seed s t)

    -- "and shift so that the greatest component is 0. These are the candidates."
    unfoldable pub candidate : Selection → ℕ → Line n
    candidate s t = line n (normal n (ray s t))

    unfoldable pub candidates : List (Line n)
    candidates = each n (λ t. map_l (λ s. candidate s t) selections)

  -- step 7: "The list holds each distinct candidate that is no combination of the other distinct candidates, where here weights may also
  -- be absent. … It is sorted by component 1, then 2 and so on, absent lowest."
  unfoldable pub lines : List (Line n)
  lines = minimal n (candidates least)
