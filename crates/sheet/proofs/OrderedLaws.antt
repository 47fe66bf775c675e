-- What `ordered` gives for a sheet's bytes: reading's refusal, 8, or the sheet.
use mathlib.Core.Path.{◌≡◌, refl, sym, ◌∙◌}
use mathlib.Core.List.{List}
use Prim.Native.Nat.{ℕ}
use Rattle.sheet.specs.Sheet.{Got, got, ◌>>=◌, Sheet, refused, read}
use Rattle.sheet.specs.Cue.{Orderly, orderly?}
use Rattle.sheet.specs.Ordered.{ordered}
use Rattle.sheet.proofs.LineLaws.{not_got}

module _ (s : List ℕ) where
  pub ordered_refused : (k : ℕ) → read s ≡ refused k → ordered s ≡ refused k
  unfolding ordered
  ordered_refused k e = rw e

  module _ (t : Sheet) (r : List ℕ) (e : read s ≡ got t r) where
    pub ordered_by : ordered s ≡ elim (orderly? t) [ yes h ↦ got t r | no h ↦ refused 8 ]
    unfolding ordered
    ordered_by = rw e

    pub ordered_8 : ¬ (Orderly t) → ordered s ≡ refused 8
    ordered_8 f = ordered_by ∙ go (orderly? t)
      where
        go : (d : Dec (Orderly t)) → ◌≡◌ {A = Got Sheet} (elim d [ yes h ↦ got t r | no h ↦ refused 8 ]) (refused 8)
        go (yes h) = absurd (f h)
        go (no h) = refl

    pub ordered_got : Orderly t → ordered s ≡ got t r
    ordered_got np = ordered_by ∙ go (orderly? t)
      where
        go : (d : Dec (Orderly t)) → ◌≡◌ {A = Got Sheet} (elim d [ yes h ↦ got t r | no h ↦ refused 8 ]) (got t r)
        go (yes h) = refl
        go (no h) = absurd (h np)

    pub not_orderly : (k : ℕ) → ordered s ≡ refused k → ¬ (Orderly t)
    not_orderly k q np = not_got (sym q ∙ ordered_got np)

  -- a sheet whose order can be kept was read
  pub ordered_read : (t : Sheet) (x : List ℕ) → ordered s ≡ got t x → read s ≡ got t x
  unfolding ordered
  ordered_read t x e = go (read s) refl e
    where
      checked : (u : Sheet) (r : List ℕ) (d : Dec (Orderly u)) →
          ◌≡◌ {A = Got Sheet} (elim d [ yes h ↦ got u r | no h ↦ refused 8 ]) (got t x) → got u r ≡ got t x
      checked u r (yes h) q = q
      checked u r (no h) q = absurd (not_got q)

      go : (g : Got Sheet) → read s ≡ g → (g >>= λ u r. elim (orderly? u) [ yes h ↦ got u r | no h ↦ refused 8 ]) ≡ got t x → read s ≡ got t x
      go (got u r) p q = p ∙ checked u r (orderly? u) q
      go (refused k) p q = absurd (not_got q)
