-- What the measuring of a timing asks of a cue's words and of the overruns, and is told.
use mathlib.Core.Path.{◌≡◌, ap, sym, subst, ◌∙◌}
use mathlib.Core.Bool.{Bool, true, false, true≢false}
use mathlib.Core.Option as maybe
use lib.IntN.{ℤ}
use mathlib.Core.List.{List}
use Prim.Native.Nat.{ℕ, ◌≤◌, ◌<◌}
use Rattle.maxplus.specs.Entry.{num, ◌≼◌, ◌⊗◌, unit}
use Rattle.maxplus.proofs.EntryLaws.{◌▸◌, ≼_absent, ≼_of, ≼_back}
use Rattle.maxplus.specs.Tables.{NoGain}
use Rattle.cue.specs.Cue as theory
use Rattle.cue.specs.Cue.{timing}
use Rattle.cue.specs.Vectors as vectors
use Rattle.cue.specs.Method.{least}
use Rattle.cue.specs.Sizes.{size_limit}
use Rattle.words.specs.Words.{entry}
use Rattle.words.specs.declared.LineWords.{LineWords}
use Rattle.timing.specs.Times.{TimingWords}
use Rattle.timing.specs.Deviation.{SheetClose}
use Rattle.timing.specs.Test.{MeasuredWords, TestSays}
use Rattle.sheet.specs.Sheet.{Sheet, given}
use Rattle.sheet.specs.Sizes.{order_limit, cap_down}
use Rattle.sheet.specs.Overruns.{overruns, overruns_by}
use Rattle.sheet.specs.Meaning.{Timing, Tightest, InTime, TightestInTime}
use Rattle.sheet.specs.Times.{far_limit}
use Rattle.sheet.specs.Cue.{cue_size, cue_of}
use Rattle.sheet.specs.Good.{Good}
use Rattle.sheet.proofs.Seam.{at_used, tightest_cue}
use Rattle.sheet.proofs.Overruns.{in_time_early}
use Rattle.tables.specs.Held.{meant_v, HoldsV, Closely, CloselyV, Says}
use Rattle.preparing.specs.declared.CueWords.{CueWords}
use Rattle.preparing.specs.declared.Prepared.{Prepared}
use Rattle.preparing.specs.declared.Tables.{Tables}
use Rattle.moments.specs.Moments.{MomentsOf, OverrunsOf}
use Rattle.std.specs.Prelude.{None}
use Rattle.preparing.specs.Prepared.{HoldsCue, Made}
use Rattle.preparing.proofs.Results.{lags_close, floors_close, dues_close, orders_close}

module _ {P : theory.Cue} {orders lags : List (List ℕ)} {c : CueWords} (H : HoldsCue P orders lags c) where
  sheet_close : SheetClose c.panels c.triggers lags c.floor c.due
  sheet_close =
      record {
        few_panels = rw H.panels_are H.few_panels;
        few_triggers = H.few;
        lags = rw H.panels_are (lags_close H);
        floors = rw H.panels_are (floors_close H);
        dues = dues_close H;
      }

  sheet_words : (e : ℕ) → entry e ≡ num (least c.triggers P) → MeasuredWords c.panels c.triggers orders lags c.floor c.due e P
  sheet_words e d =
      record {
        panels_are = sym H.panels_are;
        orders = H.orders_are;
        lags = rw H.panels_are H.lags_are;
        floors = rw H.panels_are H.floors_are;
        dues = H.dues_are;
        least_is = d;
      }

-- tightest on the cue is tightest on the sheet
over_seam : (t : Sheet) → Good t → (X : Timing) (v : Bool) → Says (vectors.Tightest (cue_size t) (cue_of t) (at_used t X)) v → Says (Tightest t X) v
over_seam t G X true h = (tightest_cue t G.measured X).1 h
over_seam t G X false h = λ g. h ((tightest_cue t G.measured X).0 g)

module _ {s : Sheet} {ts : Tables} {r : Prepared} (M : Made s ts r) where
  tested_on : (X : Timing) (v : Bool) →
      TestSays r.cue.panels r.cue.triggers ts.order ts.lag r.cue.floor r.cue.due r.marked.least (at_used s X) v →
      Says (Tightest s X) v
  tested_on X v T = over_seam s M.good X v (subst (λ n. Says (vectors.Tightest n (cue_of s) (at_used s X)) v) M.sized
      (T.tightest (cue_of s)
      (sheet_words M.held r.marked.least (M.marked.deviation ∙ ap (λ n. num (least n (cue_of s))) (sym M.sized)))
      M.held.readable
      (subst (λ n. NoGain n (cue_of s).order) (sym M.sized) M.order)))

  -- x has the words of X's components at the triggers in use, by its own count
  module _ (X : Timing) {x : LineWords} (w : TimingWords (cue_size s) (at_used s X) x) where
    size : x.count ≡ r.cue.triggers
    size = w.count ∙ sym M.sized

    pub tested_asks : SheetClose r.cue.panels x.count ts.lag r.cue.floor r.cue.due × Closely x.count x.count order_limit ts.order ×
        CloselyV x.count far_limit x.at
    tested_asks = (rw size (sheet_close M.held), rw size (orders_close M.held), rw w.count w.words.close)

    tested_says : (v : Bool) → ((Y : Timing) → HoldsV x.count (timing Y) x.at →
        TestSays r.cue.panels x.count ts.order ts.lag r.cue.floor r.cue.due r.marked.least Y v) → Says (Tightest s X) v
    tested_says v f = tested_on X v (rw size at (f (at_used s X) (rw w.count w.words.is)))

    -- of a timing that is in time
    pub answer_says : InTime s X → (v : Bool) → ((Y : Timing) → HoldsV x.count (timing Y) x.at →
        TestSays r.cue.panels x.count ts.order ts.lag r.cue.floor r.cue.due r.marked.least Y v) → Says (TightestInTime s X) v
    answer_says i v f = both v (tested_says v f)
      where
        both : (v : Bool) → Says (Tightest s X) v → Says (TightestInTime s X) v
        both true h = record { tightest = h; in_time = i }
        both false h = λ g. h g.tightest

-- ---- x has the words of X at all triggers
module _ {s : Sheet} (G : Good s) (X : Timing) {x : LineWords} (w : TimingWords s.triggers X x) where
  module _ {overruns-words : List ℕ} (M : OverrunsOf s overruns-words) where
    pub in_time_asks : (x.count ≤ size_limit) × CloselyV x.count far_limit x.at × CloselyV x.count cap_down overruns-words
    in_time_asks = rw w.count (G.triggers_few, w.words.close, M.close)

    sums : (j : ℕ) → j < s.triggers → meant_v overruns-words j ⊗ meant_v x.at j ≡ overruns s j ⊗ num (X j)
    sums j h = rw (M.holds.at j h, w.words.is.at j h)

    abbrev Early : Type 0
    Early = (j : ℕ) → j < x.count → meant_v overruns-words j ⊗ meant_v x.at j ≼ unit

    pub early_says : (v : Bool) → Says Early v → Says (InTime s X) v
    early_says true f = (in_time_early s X).1 (λ j h. ≼_back (sums j h) ▸ f j (rw w.count h))
    early_says false f = λ i. f (λ j q. let k = rw w.count at q in ≼_of (sums j k) ▸ (in_time_early s X).0 i j k)

  -- a sheet without last moments
  pub always_early : MomentsOf s None → InTime s X
  unfolding ◌⊗◌
  always_early e = (in_time_early s X).1 (λ j h. go j s.last e)
    where
      go : (j : ℕ) (last : maybe.Option (ℕ → ℤ)) → given last ≡ false → overruns_by s last j ⊗ num (X j) ≼ unit
      go j maybe.none f = ≼_absent unit
      go j (maybe.some b) f = absurd (true≢false f)
