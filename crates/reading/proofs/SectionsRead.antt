-- Kinds of line that are read one after the other: the first refusal is the sheet's, and what was read of each is what was read of all.
use mathlib.Core.Path.{◌≡◌, refl}
use mathlib.Core.List.{List, [], ◌∷◌}
use Prim.Native.Nat.{ℕ}
use Rattle.maxplus.specs.Entry.{E}
use Rattle.sheet.specs.Sheet.{got, refused, Section, section, sections}

module _ (k : Section) (ks : List Section) (x : List ℕ) where
  pub first_refused : (f : ℕ) → section k x ≡ refused f → sections (k ∷ ks) x ≡ refused f
  unfolding sections
  first_refused f p = rw p

  module _ (t : List (List E)) (y : List ℕ) (p : section k x ≡ got t y) where
    pub later_refused : (f : ℕ) → sections ks y ≡ refused f → sections (k ∷ ks) x ≡ refused f
    unfolding sections
    later_refused f q = rw (p, q)

    pub later_read : (ts : List (List (List E))) (z : List ℕ) → sections ks y ≡ got ts z → sections (k ∷ ks) x ≡ got (t ∷ ts) z
    unfolding sections
    later_read ts z q = rw (p, q)

pub none_read : (x : List ℕ) → sections [] x ≡ got [] x
unfolding sections
none_read x = refl
