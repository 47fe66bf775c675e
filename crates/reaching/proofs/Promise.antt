-- Document 02's No. 1 from the bytes to the timing and the words (specs/Promise states it): what is admitted has one latest timing, and the
-- list is planning's.
use mathlib.Core.Path.{◌≡◌, refl, ap, ap₂, sym, subst, ◌∙◌}
use mathlib.Core.Bool.{Bool, true, false, cond, decide}
use mathlib.Core.List.{List}
use mathlib.Core.Option.{Option}
use Prim.Native.Nat.{ℕ, ◌/◌, ◌<◌}
use native.Mathlib.Omega.{arith}
use lib.Dec.{leb}
use lib.IntN.{ℤ}
use lib.ListN.{length}
use Rattle.maxplus.specs.Line.{Line}
use Rattle.cue.specs.Written.{width}
use Rattle.sheet.specs.Sheet.{Got, got, Sheet, spare}
use Rattle.sheet.specs.Sheet as sheet
use Rattle.sheet.specs.Meaning.{Timing}
use Rattle.sheet.specs.Cue.{sheet_least, sheet_steps, sheet_selections, sheet_caps, sheet_lines}
use Rattle.sheet.specs.Good.{Good}
use Rattle.sheet.specs.Admitted.{admitted}
use Rattle.sheet.proofs.AdmittedLaws.{Admits, admitted_as}
use Rattle.sheet.proofs.Good.{read_good}
use Rattle.sheet.proofs.Decided.{tightest?}
use Rattle.sheet.proofs.Demands.{order_kept}
use Rattle.sheet.proofs.Latest.{latest_formula, latest_one, latest_same, latest_exists}
use Rattle.sheet.proofs.OrderedLaws.{ordered_got}
use Rattle.timing.proofs.NumberLaws.{component_of}
use Rattle.planning.specs.Planning.{PlanOutcome, planned, full, plan_of, planning, space_after, plan_answer, extent_of}
use Rattle.reaching.specs.Reaching.{ReachOutcome, reached, reaching, reached_space}
use Rattle.reaching.specs.Reaching as outcome
use Rattle.testing.specs.Testing.{tests, testing}
use Rattle.testing.specs.Testing as tested
use Rattle.reaching.specs.Promise.{Succeeds, timing_reached, Reaches, OneExists, Request1, Refusals, ThoseOfTesting}
use Rattle.reaching.proofs.ReachLaws.{reaching_of}

module _ (s : List ℕ) (count : ℕ) (G : Timing) (space : List ℤ) (t : Sheet) (x : List ℕ) (e : admitted s count G ≡ got t x) where
  abbrev admits : Admits s count G t x
  admits = admitted_as s count G t x e

  abbrev good : Good t
  good = read_good s t x admits.read_is

  abbrev wide : ℕ
  wide = width (sheet_caps t)

  abbrev room : Bool
  room = leb (length (sheet_lines t)) (length space / wide)

  abbrev whole : ReachOutcome
  whole = reached t.triggers (latest_exists s count G t x e).0 (sheet_caps t) (sheet_lines t)

  abbrev plan : PlanOutcome
  plan = planned t.triggers (spare t) (sheet_least t) (sheet_steps t) (sheet_selections t) (sheet_caps t) (sheet_lines t)

  planning_is : planning s space ≡ cond room plan (full wide (length (sheet_lines t)))
  unfolding planning
  planning_is = ap (plan_of (λ wide. length space / wide)) (ordered_got s t x admits.read_is admits.orderly)

  handed : (j : ℕ) → j < t.triggers → (latest_exists s count G t x e).0 j ≡ timing_reached whole j
  handed j h = sym (component_of t.triggers _ j good.triggers_few h)

  -- where there is room
  reaches : planning s space ≡ plan → Reaches s t G space whole
  unfolding space_after reached_space
  reaches p =
      let latest = latest_same t good handed (latest_exists s count G t x e).1 in
      record {
        latest = latest;
        only = λ X h j q. latest_one h latest j q;
        planned = rw p tt;
        width = ap (λ o. (extent_of (plan_answer o)).width) (sym p);
        count = ap (λ o. (extent_of (plan_answer o)).count) (sym p);
        list = ap (λ o. space_after o space) (sym p);
      }

  by_room : Succeeds (reaching s count G space) → Reaches s t G space (reaching s count G space)
  by_room h = go room planning_is (reaching_of s count G space e)
    where
      go : (b : Bool) → planning s space ≡ cond b plan (full wide (length (sheet_lines t))) →
          reaching s count G space ≡ cond b whole (outcome.full wide (length (sheet_lines t))) → Reaches s t G space (reaching s count G space)
      go true p q = subst (Reaches s t G space) (sym q) (reaches p)
      go false p q = absurd (subst Succeeds q h)

-- ---- outcomes of different kinds, and of one kind
clash : ◌≡◌ {A = ℕ} 0 1 → ⊥
clash e = omega arith

same_refused : {j k : ℕ} → outcome.refused j ≡ outcome.refused k → j ≡ k
same_refused e = cc

same_full : {v w j k : ℕ} → outcome.full v j ≡ outcome.full w k → (v ≡ w) × (j ≡ k)
same_full e = (cc, cc)

same_tested : {j k : ℕ} → tested.refused j ≡ tested.refused k → j ≡ k
same_tested e = cc

same_planned : {v w j k : ℕ} → full v j ≡ full w k → (v ≡ w) × (j ≡ k)
same_planned e = (cc, cc)

refused_full : {j w k : ℕ} → outcome.refused j ≡ outcome.full w k → ⊥
refused_full e = clash cc

refused_answer : {j : ℕ} {b : Bool} → tested.refused j ≡ tested.answer b → ⊥
refused_answer e = clash cc

reached_refused : {n k : ℕ} {X : Timing} {caps : Option (Line n → ℤ)} {L : List (Line n)} → reached n X caps L ≡ outcome.refused k → ⊥
reached_refused e = clash cc

reached_full : {n w k : ℕ} {X : Timing} {caps : Option (Line n → ℤ)} {L : List (Line n)} → reached n X caps L ≡ outcome.full w k → ⊥
reached_full e = clash cc

planned_full : {n a b w k : ℕ} {s : ℕ → Bool} {D : ℤ} {caps : Option (Line n → ℤ)} {L : List (Line n)} →
    planned n s D a b caps L ≡ full w k → ⊥
planned_full e = clash cc

same_sheet : {t u : Sheet} {r x : List ℕ} → got t r ≡ got u x → t ≡ u
same_sheet e = cc

pub request_1 : Request1
request_1 s t r count G space q h = go (admitted s count G) refl
  where
    go : (g : Got Sheet) → admitted s count G ≡ g → Reaches s t G space (reaching s count G space)
    go (sheet.refused k) e = absurd (subst Succeeds (reaching_of s count G space e) h)
    go (got u x) e = subst (λ t. Reaches s t G space (reaching s count G space))
        (same_sheet (sym (admitted_as s count G u x e).read_is ∙ q)) (by_room s count G space u x e h)

pub one_exists : OneExists
one_exists s t r e k G = (_, latest_formula t (read_good s t r e) ((order_kept t).0 k) G)

-- ---- the refusals
module _ (s : List ℕ) (count : ℕ) (G : Timing) (space : List ℤ) where
  abbrev asked : Bool
  asked = decide (tightest? s G)

  testing_of : {g : Got Sheet} → admitted s count G ≡ g → testing s count G ≡ tests g asked
  unfolding testing
  testing_of e = ap (λ g. tests g asked) e

  -- what is not admitted
  refuses : (j : ℕ) → admitted s count G ≡ sheet.refused j → Refusals s count G space
  refuses j e = let p = reaching_of s count G space e in let q = testing_of e in record {
    of_testing = λ k. (λ h. q ∙ ap tested.refused (same_refused (sym p ∙ h)), λ h. p ∙ ap outcome.refused (same_tested (sym q ∙ h)));
    then_nine = λ w k. (λ h. absurd (refused_full (sym p ∙ h)), λ h. absurd (refused_answer (sym q ∙ h.0.1)));
  }

  -- what is
  admits_all : (t : Sheet) (x : List ℕ) → admitted s count G ≡ got t x → Refusals s count G space
  admits_all t x e = go (room s count G space t x e) (planning_is s count G space t x e) (reaching_of s count G space e)
    where
      answered : testing s count G ≡ tested.answer asked
      answered = testing_of e

      go : (b : Bool) → planning s space ≡ cond b (plan s count G space t x e) (full (wide s count G space t x e) (length (sheet_lines t))) →
          reaching s count G space ≡ cond b (whole s count G space t x e) (outcome.full (wide s count G space t x e) (length (sheet_lines t))) →
          Refusals s count G space
      go true p q = record {
        of_testing = λ k. (λ h. absurd (reached_refused (sym q ∙ h)), λ h. absurd (refused_answer (sym h ∙ answered)));
        then_nine = λ w k. (λ h. absurd (reached_full (sym q ∙ h)), λ h. absurd (planned_full (sym p ∙ h.1)));
      }
      go false p q = record {
        of_testing = λ k. (λ h. absurd (refused_full (sym h ∙ q)), λ h. absurd (refused_answer (sym h ∙ answered)));
        then_nine = λ w k. (
          λ h. let (v, m) = same_full (sym q ∙ h) in ((asked, answered), p ∙ ap₂ full v m),
          λ h. let (v, m) = same_planned (sym p ∙ h.1) in q ∙ ap₂ outcome.full v m,
        );
      }

pub those_of_testing : ThoseOfTesting
those_of_testing s count G space = go (admitted s count G) refl
  where
    go : (g : Got Sheet) → admitted s count G ≡ g → Refusals s count G space
    go (sheet.refused k) e = refuses s count G space k e
    go (got t x) e = admits_all s count G space t x e
