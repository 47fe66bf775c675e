-- What is asked about the bytes of sheets is decided: being tightest and in time by the least deviation and the overruns, being alike by the
-- two lists (demand 3).
use mathlib.Core.Path.{◌≡◌, refl}
use mathlib.Core.List.{List}
use Prim.Native.Nat.{ℕ}
use native.Mathlib.Decide.{map_dec, ℕ_discrete}
use lib.ListN.{length}
use Rattle.maxplus.proofs.WholeLaws.{same_whole?}
use Rattle.maxplus.proofs.FiniteLaws.{dec_×, all_dec, same_test?, same_list?}
use Rattle.cue.specs.Written.{list_words}
use Rattle.cue.proofs.Deviation as theory
use Rattle.sheet.specs.Sheet.{Got, got, refused, Sheet, read, spare}
use Rattle.sheet.specs.Meaning.{Timing, Tightest, TightestInTime, SameSpares, SameTimings}
use Rattle.sheet.specs.Asked.{TightestOn, Alike}
use Rattle.sheet.specs.Cue.{cue_size, cue_of, Orderly, orderly?, sheet_lines}
use Rattle.sheet.specs.Good.{Good}
use Rattle.sheet.proofs.Good.{read_good}
use Rattle.sheet.proofs.Overruns.{in_time?}
use Rattle.sheet.proofs.Seam.{at_used, tightest_cue}
use Rattle.sheet.proofs.Demands.{order_kept, deviation_reached, tightest_test, demand_3}

-- ---- a timing
-- where no timing keeps the order none is tightest
none_tightest : (t : Sheet) → ¬ (Orderly t) → (X : Timing) → ¬ (Tightest t X)
none_tightest t f X h = f ((order_kept t).0 (X, h.keeps))

tightest_on? : (t : Sheet) → Good t → (X : Timing) → Dec (Tightest t X)
tightest_on? t G X = go (orderly? t)
  where
    go : Dec (Orderly t) → Dec (Tightest t X)
    go (yes o) = let both = tightest_cue t G.measured X in
        map_dec both.1 both.0 (theory.tightest? (cue_size t) (cue_of t) G.readable o (at_used t X))
    go (no f) = no (none_tightest t f X)

in_time_on? : (t : Sheet) → Good t → (X : Timing) → Dec (TightestInTime t X)
in_time_on? t G X = map_dec (λ p. record { tightest = p.0; in_time = p.1 }) (λ h. (h.tightest, h.in_time))
    (dec_× (tightest_on? t G X) (in_time? t X))

pub tightest? : (s : List ℕ) (X : Timing) → Dec (TightestOn (read s) X)
tightest? s X = go (read s) refl
  where
    go : (g : Got Sheet) → read s ≡ g → Dec (TightestOn g X)
    go (got t r) e = in_time_on? t (read_good s t r e) X
    go (refused k) e = no (λ x. x)

-- ---- two sheets
-- a sheet whose order can be kept has a tightest timing
some_tightest : (t : Sheet) → Good t → Orderly t → (X : Timing) × Tightest t X
some_tightest t G o = let (X, k, d) = deviation_reached t G o in (X, (tightest_test t G o X).1 (k, d))

same_timings? : (t u : Sheet) → Good t → Good u → t.triggers ≡ u.triggers → SameSpares t u → Dec (SameTimings t u)
same_timings? t u G H e same = go (orderly? t) (orderly? u)
  where
    go : Dec (Orderly t) → Dec (Orderly u) → Dec (SameTimings t u)
    go (yes o) (yes p) = let d = demand_3 t u G H o p e same in
        map_dec d.0 d.1
        (dec_× (ℕ_discrete (length (sheet_lines t)) (length (sheet_lines u)))
        (same_list? same_whole? (list_words t.triggers (sheet_lines t)) (list_words u.triggers (sheet_lines u))))
    go (yes o) (no g) = no (λ f. let (X, h) = some_tightest t G o in none_tightest u g X ((f X).0 h))
    go (no f) (yes p) = no (λ g. let (X, h) = some_tightest u H p in none_tightest t f X ((g X).1 h))
    go (no f) (no g) = yes (λ X. (λ h. absurd (none_tightest t f X h), λ h. absurd (none_tightest u g X h)))

same_spares? : (t u : Sheet) → Dec (SameSpares t u)
same_spares? t u = all_dec (λ j. spare t j ≡ spare u j) (λ j. same_test? (spare t j) (spare u j)) t.triggers

pub alike? : (s₁ s₂ : List ℕ) → Dec (Alike (read s₁) (read s₂))
alike? s₁ s₂ = go (read s₁) refl (read s₂) refl
  where
    by_size : (t u : Sheet) → Good t → Good u → Dec (t.triggers ≡ u.triggers) →
        Dec ((t.triggers ≡ u.triggers) × SameSpares t u × SameTimings t u)
    by_size t u G H (yes e) = by_spares (same_spares? t u)
      where
        by_spares : Dec (SameSpares t u) → Dec ((t.triggers ≡ u.triggers) × SameSpares t u × SameTimings t u)
        by_spares (yes s) = map_dec (λ f. (e, s, f)) (λ p. p.2) (same_timings? t u G H e s)
        by_spares (no f) = no (λ p. f p.1)
    by_size t u G H (no f) = no (λ p. f p.0)

    go : (g : Got Sheet) → read s₁ ≡ g → (h : Got Sheet) → read s₂ ≡ h → Dec (Alike g h)
    go (got t r) e (got u x) f = by_size t u (read_good s₁ t r e) (read_good s₂ u x f) (ℕ_discrete t.triggers u.triggers)
    go (got t r) e (refused k) f = no (λ x. x)
    go (refused k) e h f = no (λ x. x)
