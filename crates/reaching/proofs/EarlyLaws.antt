-- The words of a wish made early enough.
use mathlib.Core.Path.{◌≡◌, refl, ap, sym, subst, ◌∙◌}
use mathlib.Core.Bool.{false, true≢false}
use mathlib.Core.List.{List}
use mathlib.Core.Option as maybe
use Prim.Native.Nat.{ℕ, ◌≤◌}
use lib.IntN.{ℤ}
use Rattle.std.specs.Prelude.{None}
use Rattle.maxplus.specs.Entry.{num}
use Rattle.cue.specs.Sizes.{size_limit}
use Rattle.words.specs.declared.LineWords.{LineWords}
use Rattle.sheet.specs.Sheet.{Sheet, given}
use Rattle.sheet.specs.Sizes.{cap_down}
use Rattle.sheet.specs.Meaning.{Timing}
use Rattle.sheet.specs.Overruns.{lower, lowered, overruns_by}
use Rattle.sheet.specs.Good.{Good}
use Rattle.sheet.specs.Times.{far_limit}
use Rattle.tables.specs.Held.{meant_v, CloselyV}
use Rattle.timing.specs.Times.{TimingWords}
use Rattle.moments.specs.Moments.{MomentsOf, OverrunsOf}

module _ (t : Sheet) {r : List ℕ} where
  pub lowered_asks : Good t → OverrunsOf t r → {X : Timing} {x : LineWords} → TimingWords t.triggers X x →
      (x.count ≤ size_limit) × CloselyV x.count far_limit x.at × CloselyV x.count cap_down r
  lowered_asks G m w = rw w.count (G.triggers_few, w.words.close, m.close)

  pub early_words : OverrunsOf t r → {X : Timing} {x y : LineWords} → TimingWords t.triggers X x →
      ((Y : Timing) → TimingWords x.count Y x → TimingWords x.count (λ j. lower (Y j) (meant_v r j)) y) →
      TimingWords t.triggers (lowered t X) y
  unfolding lowered
  early_words m {X} {x} {y} w f =
      let g = subst (λ n. TimingWords n (λ j. lower (X j) (meant_v r j)) y) w.count
      (f X (subst (λ n. TimingWords n X x) (sym w.count) w)) in
      record {
        count = g.count;
        words = record {
          sized = g.words.sized;
          is = record { at = λ j h. g.words.is.at j h ∙ ap (λ e. num (lower (X j) e)) (m.holds.at j h) };
          close = g.words.close;
        };
      }

-- a sheet without last moments
pub early_as_it_is : (t : Sheet) → MomentsOf t None → {X : Timing} {x : LineWords} → TimingWords t.triggers X x →
    TimingWords t.triggers (lowered t X) x
unfolding lowered
early_as_it_is t m {X} w = record {
  count = w.count;
  words = record { sized = w.words.sized; is = record { at = λ j h. w.words.is.at j h ∙ ap num (same t.last m (X j) j) }; close = w.words.close };
}
  where
    same : (last : maybe.Option (ℕ → ℤ)) → given last ≡ false → (z : ℤ) (j : ℕ) → z ≡ lower z (overruns_by t last j)
    same maybe.none e z j = refl
    same (maybe.some b) e z j = absurd (true≢false e)
