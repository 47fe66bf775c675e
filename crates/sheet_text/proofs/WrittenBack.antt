-- Writing and reading undo one another: each sheet that is read is the one text of its tables, and it is read back.
use mathlib.Core.Path.{◌≡◌, ap, sym, ◌∙◌}
use mathlib.Core.List.{List, []}
use Prim.Native.Nat.{ℕ, ◌<◌}
use native.Mathlib.Omega.{arith}
use Rattle.maxplus.specs.Entry.{Present}
use Rattle.maxplus.proofs.PackingLaws.{placed}
use Rattle.cue.specs.Results.{Within}
use Rattle.sheet.specs.Sheet.{got, limit, Measure, by_marks, by_spread, own_floor, Sheet, read}
use Rattle.sheet.specs.Good.{Good}
use Rattle.sheet.specs.Cue.{floor_by, used, trigger_at}
use Rattle.sheet.proofs.WithinLaws.{within_absent}
use Rattle.sheet.proofs.Good.{read_good}
use Rattle.sheet_text.specs.SheetText.{trimmed, Floored, Sound, IsWrittenBack}
use Rattle.sheet_text.proofs.ReadBack.{read_back}
use Rattle.sheet_text.proofs.ReadOnly.{read_only}

-- a lag that the method has at its k-th trigger, the sheet has at the trigger which that is
good_sound : (t : Sheet) → Good t → Sound t
good_sound t G =
    let (i, below, there) = G.readable.floored in
    record {
      panels_some = omega arith;
      panels_few = G.panels_few;
      triggers_some = G.triggers_some;
      triggers_few = G.triggers_few;
      lags = G.lags;
      floors = floors t.measure G.limited.floors;
      dues = G.dues;
      afters = G.afters;
      lands = G.lands;
      lasts = G.lasts;
      lagged = λ i h. let (k, q, p) = G.readable.lagged i h in (trigger_at t k, (placed (used t) t.triggers k q).below, p);
      floored = floored t.measure G.readable.floored;
      measured = G.measured;
    }
  where
    floors : (M : Measure) → ((i : ℕ) → i < t.panels → Within limit limit (floor_by M i)) →
        (i : ℕ) → i < t.panels → Within limit limit (own_floor M i)
    floors (by_marks p q) w i h = w i h
    floors by_spread w i h = within_absent

    floored : (M : Measure) → (i : ℕ) × (i < t.panels) × Present (floor_by M i) → Floored t M
    floored (by_marks p q) there = there
    floored by_spread there = tt

-- Reading the bytes again gives the tables, and reading their text gives what stands within the sizes: there is nothing else.
pub written_back : IsWrittenBack
written_back s t r e =
    let text = read_only s t r e in
    let sound = good_sound t (read_good s t r e) in
    let back = read_back t sound in
    let whole : trimmed t ≡ t = (let p : got (trimmed t) [] ≡ got t r = sym back ∙ ap read text ∙ e in cc) in
    record { sound = sound; whole = whole; text = text; again = back ∙ ap (λ u. got u []) whole }

-- no two sheets have the same tables
pub one_text : (s₁ s₂ : List ℕ) (t : Sheet) (r₁ r₂ : List ℕ) → read s₁ ≡ got t r₁ → read s₂ ≡ got t r₂ → s₁ ≡ s₂
one_text s₁ s₂ t r₁ r₂ e f = sym (read_only s₁ t r₁ e) ∙ read_only s₂ t r₂ f
