-- Where lines land: each at some panel with a floor; and how late, against last moments.
use mathlib.Core.Path.{◌≡◌, ap, ◌∙◌}
use Prim.Native.Nat.{ℕ, ◌<◌}
use native.Mathlib.Omega.{arith}
use lib.IntN.{ℤ}
use Rattle.maxplus.specs.Whole.{neg}
use Rattle.maxplus.specs.Entry.{E, num, ◌⊗◌, Present}
use Rattle.maxplus.specs.Finite.{In}
use Rattle.maxplus.specs.Line.{Line, at}
use Rattle.maxplus.specs.Tables.{mv}
use Rattle.maxplus.specs.Packing.{layout}
use Rattle.maxplus.proofs.EntryLaws.{⊗_nothing}
use Rattle.maxplus.proofs.FiniteLaws.{map_in}
use Rattle.maxplus.proofs.SupLaws.{sup_ext}
use Rattle.maxplus.proofs.PackingLaws.{sup_places}
use Rattle.maxplus.proofs.LayoutLaws.{layout_place}
use Rattle.cue.specs.Vectors as vectors
use Rattle.cue.specs.Method.{lines}
use Rattle.cue.proofs.Reaches.{line_reaches}
use Rattle.sheet.specs.Sheet.{Sheet}
use Rattle.sheet.specs.Meaning.{line_landing}
use Rattle.sheet.specs.Cue.{used, cue_size, trigger_at, cue_of, Orderly, sheet_lines}
use Rattle.sheet.specs.Good.{Good}
use Rattle.sheet.proofs.Spares.{unused_idle}

module _ (t : Sheet) where
  open t use {panels, triggers, lag}

  -- ---- "Every line reaches some panel": each with a floor
  line_landing_cue : (c : Line (cue_size t)) (i : ℕ) → i < panels →
      line_landing t (layout (used t) (cue_size t) triggers c) i ≡ vectors.landing (cue_size t) (cue_of t) (at (cue_size t) c) i
  unfolding line_landing mv
  line_landing_cue c i hi =
      sup_places (used t) triggers (λ j. lag i j ⊗ at triggers (layout (used t) (cue_size t) triggers c) j)
      (λ j hj u. ap (λ e. e ⊗ at triggers (layout (used t) (cue_size t) triggers c) j) ((unused_idle t j hj u).no_lag i hi) ∙ ⊗_nothing _) ∙
      sup_ext (cue_size t) (λ k hk. ap (λ e. lag i (trigger_at t k) ⊗ e) (layout_place (used t) triggers triggers (omega arith) c k hk))

  pub reaches : Good t → Orderly t → (c : Line triggers) → In c (sheet_lines t) → (i : ℕ) × (i < panels) × Present (line_landing t c i)
  unfolding sheet_lines
  reaches G o c h =
      let (d, hd, e) = map_in (layout (used t) (cue_size t) triggers) (lines (cue_size t) (cue_of t)) c h in
      let (i, hi, p) = G.readable.floored in
      let (z, f) = line_reaches (cue_size t) (cue_of t) o d hd i hi p in
      (i, hi, (z, ap (λ c. line_landing t c i) e ∙ line_landing_cue d i hi ∙ f))

  -- a line's landings less the last moments, of which its cap is minus the largest
  unfoldable pub late : (ℕ → ℤ) → Line triggers → ℕ → E
  late b c i = line_landing t c i ⊗ num (neg (b i))
