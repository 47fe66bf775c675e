-- The last moments of a good sheet as words: how late each of its triggers lands, or nothing where it has no last line.
use mathlib.Core.Path.{◌≡◌, refl, ap, sym, subst, ◌∙◌}
use mathlib.Core.List.{List}
use mathlib.Core.Bool.{false}
use mathlib.Core.Option as maybe
use Prim.Native.Nat.{ℕ}
use native.Mathlib.Omega.{arith}
use lib.IntN.{ℤ}
use Rattle.std.specs.Prelude.{Some, None}
use Rattle.std.proofs.lemmas.Option.{none-some, same_Some}
use Rattle.maxplus.proofs.SupLaws.{sup_ext}
use Rattle.cue.specs.Cue.{timing, overdue}
use Rattle.sheet.specs.Sheet.{Sheet, given, limit}
use Rattle.sheet.specs.Overruns.{overrun, overruns_by}
use Rattle.sheet.proofs.Overruns.{overrun_within}
use Rattle.reading.specs.Reading.{last_words}
use Rattle.reading.specs.declared.SheetWords.{SheetWords}
use Rattle.tables.specs.Held.{meant, meant_v, HoldsV, Closely, CloselyV}
use Rattle.tables.proofs.SquareLaws.{closely_within, closely_within_v}
use Rattle.moments.specs.Moments.{MomentsOf}
use Rattle.preparing.specs.Prepared.{Worded}
use Rattle.preparing.proofs.Preparing.{triggers_of, panels_of, lags_of}
use Rattle.preparing.proofs.Results.{first_held}

module _ {s : Sheet} {t : SheetWords} (W : Worded s t) where
  -- ---- without a last line
  pub no_moments : t.last ≡ None → MomentsOf s None
  no_moments e = go s.last (sym (ap (λ t. t.last) W.words) ∙ e)
    where
      go : (last : maybe.Option (ℕ → ℤ)) → last_words s.panels last ≡ None → given last ≡ false
      go maybe.none e = refl
      go (maybe.some b) e = absurd (none-some _ (sym e))

  -- ---- with one
  module _ {words : List ℕ} (e : t.last ≡ Some words) where
    some_moments : (last : maybe.Option (ℕ → ℤ)) → last_words s.panels last ≡ Some words → (b : ℕ → ℤ) × (last ≡ maybe.some b)
    some_moments maybe.none e = absurd (none-some _ e)
    some_moments (maybe.some b) e = (b, refl)

    abbrev last_is : last_words s.panels s.last ≡ Some words
    last_is = sym (ap (λ t. t.last) W.words) ∙ e

    abbrev moment : ℕ → ℤ
    moment = (some_moments s.last last_is).0

    abbrev moment_is : s.last ≡ maybe.some moment
    moment_is = (some_moments s.last last_is).1

    last_of : HoldsV s.panels (timing moment) words
    last_of = subst (HoldsV s.panels (timing moment))
        (same_Some _ _ (sym (ap (last_words s.panels) moment_is) ∙ last_is))
        (first_held s.panels moment W.good.panels_few (W.good.lasts moment moment_is))

    pub overruns_asks : Closely t.panels t.triggers limit t.lag × CloselyV t.panels limit words
    overruns_asks = rw (panels_of W, triggers_of W) (
      closely_within (omega arith) (omega arith) (lags_of W) W.good.lags,
      closely_within_v (omega arith) (omega arith) last_of (W.good.lasts moment moment_is),
    )

    late_held : {r : List ℕ} → HoldsV t.triggers (λ j. overdue t.panels (meant_v words) (λ i. meant t.lag i j)) r →
        HoldsV s.triggers (overrun s moment) r
    unfolding overrun overdue
    late_held k = record {
      at = λ j q. (rw (triggers_of W, panels_of W) at k).at j q ∙ sup_ext s.panels (λ i p. rw ((lags_of W).at i j p q, last_of.at i p));
    }

    pub moments_held : {r : List ℕ} → HoldsV t.triggers (λ j. overdue t.panels (meant_v words) (λ i. meant t.lag i j)) r → MomentsOf s (Some r)
    moments_held {r = r} k = let held = late_held k in record {
      given_is = ap given moment_is;
      holds = subst (λ o. HoldsV s.triggers (overruns_by s o) r) (sym moment_is) held;
      close = closely_within_v (omega arith) (omega arith) held (overrun_within s W.good moment moment_is);
    }
