-- A line of the list reaches each panel with a floor: it is past due somewhere, so that such a panel asks something of it, and gets it.
use mathlib.Core.Path.{refl}
use Prim.Native.Nat.{ℕ, ◌<◌}
use Rattle.maxplus.specs.Whole.{neg, ◌+z◌}
use Rattle.maxplus.specs.Entry.{E, ◌⊗◌, Present}
use Rattle.maxplus.specs.Finite.{In}
use Rattle.maxplus.specs.Line.{Line, at}
use Rattle.maxplus.specs.Tables.{NoGain}
use Rattle.maxplus.proofs.EntryLaws.{◌▸◌, ≼_back, num_⊗, present_of}
use Rattle.cue.specs.Cue.{Cue}
use Rattle.cue.specs.Vectors.{landing}
use Rattle.cue.specs.Method.{least, lines}
use Rattle.cue.proofs.Deviation.{overdue_there}
use Rattle.cue.proofs.Extreme.{lines_extreme}

pub ⊗_present : (a b : E) → Present a → Present b → Present (a ⊗ b)
⊗_present a b (x, e) (y, f) = (x +z y, rw (e, f) (num_⊗ x y))

pub line_reaches : (n : ℕ) (P : Cue) → NoGain n P.order → (c : Line n) → In c (lines n P) → (i : ℕ) → i < P.panels →
    Present (P.floor i) → Present (landing n P (at n c) i)
line_reaches n P np c h i hi (p, e) =
    let x = (lines_extreme n P np c).0 h in
    let asked = ⊗_present _ _ (⊗_present _ _ (p, e) (neg (least n P), refl))
    (_, overdue_there n P.due (at n c) x.where_at x.in_range x.there) in
    present_of _ (≼_back asked.1 ▸ x.inside.landed i hi)
