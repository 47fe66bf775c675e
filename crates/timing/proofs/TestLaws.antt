-- What the words of a sheet and of a timing say of the order and the deviation, and the test's two answers.
use mathlib.Core.Path.{◌≡◌, refl, ap, ap₂, sym, ◌∙◌}
use mathlib.Core.List.{List}
use mathlib.Core.Bool.{Bool, true, false}
use Prim.Native.Nat.{ℕ, ◌<◌}
use borrow.Author.Tests.{eqb-true, eqb-false}
use lib.Dec.{eqb}
use lib.IntN.{ℤ}
use Rattle.maxplus.specs.Entry.{◌⊗◌, inv}
use Rattle.maxplus.specs.Tables.{Vec, Mat, mv, NoGain}
use Rattle.maxplus.proofs.SupLaws.{sup_ext}
use Rattle.words.specs.Words.{entry}
use Rattle.words.proofs.Laws.{entry_inj}
use Rattle.cue.specs.Cue.{Cue, timing, overdue, shortfall}
use Rattle.cue.specs.Vectors.{Keeps, deviation, Tightest, Readable}
use Rattle.cue.proofs.Demands.{tightest_test}
use Rattle.tables.specs.Held.{meant, meant_v, HoldsV, Says}
use Rattle.timing.specs.Deviation.{deviation_of}
use Rattle.timing.specs.Test.{Reaches, MeasuredWords, TestSays}

-- the order looks at the first places only
keeps_same : {n : ℕ} {A B : Mat} {x y : Vec} → ((i j : ℕ) → i < n → j < n → A i j ≡ B i j) → ((j : ℕ) → j < n → x j ≡ y j) →
    Keeps n A x → Keeps n B y
unfolding Keeps
keeps_same e f k i j hi hj = rw (← e i j hi hj, ← f j hj, ← f i hi) (k i j hi hj)

-- "Otherwise yes exactly when the timing is tightest, else no."
pub reaches_tightest : {n : ℕ} {P : Cue} (X : ℕ → ℤ) → Readable n P → NoGain n P.order → (r : Bool) → Says (Reaches n P X) r →
    Says (Tightest n P X) r
reaches_tightest {n} {P} X R np true h = (tightest_test n P R np X).1 h
reaches_tightest {n} {P} X R np false h = λ t. h ((tightest_test n P R np X).0 t)

module _ {panels n : ℕ} {order lag : List (List ℕ)} {floor due : List ℕ} {least : ℕ} {X : ℕ → ℤ} {x : List ℕ} (w : HoldsV n (timing X) x) where
  module _ {P : Cue} (s : MeasuredWords panels n order lag floor due least P) where
    -- ---- words and what they mean
    order_of_words : Keeps n (meant order) (meant_v x) → Keeps n P.order (timing X)
    order_of_words = keeps_same s.orders.at w.at

    order_in_words : Keeps n P.order (timing X) → Keeps n (meant order) (meant_v x)
    order_in_words = keeps_same (λ i j hi hj. sym (s.orders.at i j hi hj)) (λ j hj. sym (w.at j hj))

    overdue_words : overdue n (meant_v due) (meant_v x) ≡ overdue n (timing P.due) (timing X)
    unfolding overdue
    overdue_words = sup_ext n (λ j hj. ap₂ ◌⊗◌ (w.at j hj) (ap inv (s.dues.at j hj)))

    landing_words : (i : ℕ) → i < panels → mv n (meant lag) (meant_v x) i ≡ mv n P.lag (timing X) i
    unfolding mv
    landing_words i hi = sup_ext n (λ j hj. ap₂ ◌⊗◌ (s.lags.at i j hi hj) (w.at j hj))

    shortfall_words : shortfall panels n (meant lag) (meant_v floor) (meant_v x) ≡ shortfall P.panels n P.lag P.floor (timing X)
    unfolding shortfall
    shortfall_words = rw s.panels_are (sup_ext panels (λ i hi. ap₂ ◌⊗◌ (s.floors.at i hi) (ap inv (landing_words i hi))))

    pub deviation_words : deviation_of panels n (meant lag) (meant_v floor) (meant_v due) (meant_v x) ≡ deviation n P (timing X)
    unfolding deviation_of deviation
    deviation_words = ap₂ ◌⊗◌ overdue_words shortfall_words

    -- ---- the test's answers
    reaches_word : (d : ℕ) → Keeps n (meant order) (meant_v x) →
        entry d ≡ deviation_of panels n (meant lag) (meant_v floor) (meant_v due) (meant_v x) → Says (Reaches n P X) (eqb d least)
    reaches_word d k e = go (eqb d least) refl
      where
        go : (b : Bool) → eqb d least ≡ b → Says (Reaches n P X) b
        go true q = (order_of_words k, sym (e ∙ deviation_words) ∙ ap entry (eqb-true d least q) ∙ s.least_is)
        go false q = λ r. eqb-false d least q (entry_inj (e ∙ deviation_words ∙ r.1 ∙ sym s.least_is))

  pub tested_kept : (d : ℕ) → Keeps n (meant order) (meant_v x) →
      entry d ≡ deviation_of panels n (meant lag) (meant_v floor) (meant_v due) (meant_v x) → TestSays panels n order lag floor due least X (eqb d least)
  tested_kept d k e = record {
    reaches = λ P s. reaches_word s d k e;
    tightest = λ P s R np. reaches_tightest X R np (eqb d least) (reaches_word s d k e);
  }

  pub tested_broken : ¬ (Keeps n (meant order) (meant_v x)) → TestSays panels n order lag floor due least X false
  tested_broken h = record { reaches = λ P s r. h (order_in_words s r.0); tightest = λ P s R np t. h (order_in_words s t.keeps) }
