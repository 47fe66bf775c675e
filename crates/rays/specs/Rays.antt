-- Sets of rays, each six words. Of the rays that come of a panel only the least matter.
use Rattle.std.specs.Prelude.{◌≡◌, ◌⊎◌, List, Bool, true, false, ℕ, ◌+◌, ◌≤◌, ◌<◌, length, get_or}
use Rattle.maxplus.specs.Entry.{E, ◌⊗◌, ◌⊕◌}
use Rattle.maxplus.specs.Tables.{Vec, Mat}
use Rattle.tables.specs.Held.{meant, meant_v, CloselyV}
use Rattle.tables.specs.Lines.{Sized, WordsOf}
use Rattle.trigger_sets.specs.Sets.{Has}
use Rattle.buffer.specs.Buffer.{row}
use Rattle.sheet.specs.Sizes.{starred_size}

-- how many rays a set has room for
abbrev pub places : ℕ
places = 48

-- a lies below b in every component: the order of entries is the order of their words
pub record Under (a b : List ℕ) : Type 0 where
  pub at : (j : ℕ) → j < 6 → get_or a j 0 ≤ get_or b j 0

-- some ray of the set lies below w
pub record Covered (set : List (List ℕ)) (many : ℕ) (w : List ℕ) : Type 0 where
  pub place : ℕ
  pub there : place < many
  pub under : Under (row set place) w

-- w is one of the set
pub record Among (set : List (List ℕ)) (many : ℕ) (w : List ℕ) : Type 0 where
  pub place : ℕ
  pub there : place < many
  pub is : w ≡ row set place

-- no ray of the set lies below another one
pub record Apart (set : List (List ℕ)) (many : ℕ) : Type 0 where
  pub at : (i j : ℕ) → i < many → j < many → ¬ (i ≡ j) → ¬ (Under (row set i) (row set j))

-- of the rays before, those that do not lie above w
pub record Thinned (before : List (List ℕ)) (many : ℕ) (w : List ℕ) (after : List (List ℕ)) (r : ℕ) : Type 0 where
  pub size : length after ≡ places
  pub few : r ≤ many
  pub from : (k : ℕ) → k < r → Among before many (row after k)
  pub left : (i : ℕ) → i < many → Under w (row before i) ⊎ Among after r (row before i)
  pub beside : (k : ℕ) → k < r → ¬ (Under w (row after k))
  pub apart : Apart before many → Apart after r

-- the rays afterwards are old or new, below each old one there is one, none comes to lie below another, and there are at most so many more
pub record Grown (New : List ℕ → Type 0) (more : ℕ) (before : List (List ℕ)) (many : ℕ) (after : List (List ℕ)) (r : ℕ) : Type 0 where
  pub size : length after ≡ places
  pub few : r ≤ many + more
  pub from : (k : ℕ) → k < r → New (row after k) ⊎ Among before many (row after k)
  pub old : (i : ℕ) → i < many → Covered after r (row before i)
  pub apart : Apart before many → Apart after r

-- w has joined
pub record Joined (before : List (List ℕ)) (many : ℕ) (w : List ℕ) (after : List (List ℕ)) (r : ℕ) : Type 0 where
  pub grown : Grown (λ v. v ≡ w) 1 before many after r
  pub new : Covered after r w

-- some trigger of the mask has what is wanted of it
abbrev pub Meets : ℕ → List ℕ → ℕ → List ℕ → Type 0
Meets n x mask wants = (j : ℕ) × (j < n) × Has mask j × (get_or wants j 0 ≤ get_or x j 0)

-- x joined with column s of M*, shifted by a
unfoldable pub joined_of : Mat → Vec → E → ℕ → Vec
joined_of S x a s j = x j ⊕ a ⊗ S j s

module _ (n : ℕ) (x : List ℕ) (mask : ℕ) (wants : List ℕ) (stars : List (List ℕ)) where
  -- the words of x joined with column s, so that s has what is wanted of it
  abbrev pub Raised : ℕ → List ℕ → Type 0
  Raised s v = WordsOf n starred_size (joined_of (meant stars) (meant_v x) (meant_v wants s) s) v

  -- by one of the first k triggers of the mask
  pub record RaisedBy (k : ℕ) (v : List ℕ) : Type 0 where
    pub trigger : ℕ
    pub below : trigger < k
    pub kept : Has mask trigger
    pub raised : Raised trigger v

  -- x has been raised by each of them
  pub record RaisedAll (k : ℕ) (before : List (List ℕ)) (many : ℕ) (after : List (List ℕ)) (r : ℕ) : Type 0 where
    pub grown : Grown (RaisedBy k) k before many after r
    pub new : (j : ℕ) → j < k → Has mask j → (v : List ℕ) × Raised j v × Covered after r v

  -- what comes of x with one panel more: x itself where it meets the panel
  abbrev pub Next : List ℕ → Type 0
  Next v = ((v ≡ x) × Meets n x mask wants) ⊎ RaisedBy n v

  -- below x there is a ray of the set, or below x raised by each trigger of the mask
  abbrev pub NextCovered : List (List ℕ) → ℕ → Type 0
  NextCovered set many = Covered set many x ⊎ ((j : ℕ) → j < n → Has mask j → (v : List ℕ) × Raised j v × Covered set many v)

  pub record Branched (before : List (List ℕ)) (many : ℕ) (after : List (List ℕ)) (r : ℕ) : Type 0 where
    pub grown : Grown Next n before many after r
    pub new : NextCovered after r

-- so have all rays of a set from one place to another
pub record Expanded (rays : List (List ℕ)) (from to mask : ℕ) (wants : List ℕ) (stars : List (List ℕ)) (n : ℕ) (after : List (List ℕ))
    (r : ℕ) : Type 0 where
  pub size : length after ≡ places
  pub few : r ≤ places
  pub apart : Apart rays to → Apart after r
  pub made : (k : ℕ) → k < r → (i : ℕ) × (i < to) × Next n (row rays i) mask wants stars (row after k)
  pub new : (i : ℕ) → from ≤ i → i < to → NextCovered n (row rays i) mask wants stars after r

-- rays as words
pub record Rows (n many : ℕ) (rays : List (List ℕ)) : Type 0 where
  pub sized : (k : ℕ) → k < many → Sized n (row rays k)
  pub close : (k : ℕ) → k < many → CloselyV n starred_size (row rays k)

-- the first rays of a set are those of another
pub record Kept (next : List (List ℕ)) (many : ℕ) (after : List (List ℕ)) : Type 0 where
  pub size : length after ≡ places
  pub rows : (k : ℕ) → k < many → row after k ≡ row next k

-- a panel was added, or the set is as it was
abbrev pub Added : List (List ℕ) → ℕ → ℕ → List ℕ → List (List ℕ) → ℕ → List (List ℕ) → ℕ → Bool → Type 0
Added rays many mask wants stars n after r true = Expanded rays 0 many mask wants stars n after r
Added rays many mask wants stars n after r false = (after ≡ rays) × (r ≡ many)
