-- The outcomes of testing a timing: the refusals with which it begins, and the answer.
use mathlib.Core.Path.{◌≡◌, refl, ap, sym, subst, ◌∙◌}
use mathlib.Core.Bool.{Bool, true, false, decide}
use mathlib.Core.List.{List}
use Prim.Native.Nat.{ℕ, ◌≤◌}
use native.Mathlib.Omega.{arith}
use Rattle.maxplus.proofs.FiniteLaws.{decided_yes, decided_no}
use Rattle.sheet.specs.Meaning.{Timing, TightestInTime}
use Rattle.sheet.specs.Sheet.{Got, got, Sheet}
use Rattle.sheet.specs.Sheet as spec
use Rattle.sheet.specs.Asked.{TightestOn}
use Rattle.sheet.specs.Admitted.{admitted}
use Rattle.sheet.proofs.AdmittedLaws.{admitted_as}
use Rattle.sheet.proofs.Decided.{tightest?}
use Rattle.admitting.proofs.Known.{admitted_is}
use Rattle.tables.specs.Held.{Says}
use Rattle.std.specs.Prelude.{Result, Ok, Err}
use Rattle.refusals.specs.Numbers.{refusal_of}
use Rattle.refusals.specs.declared.Refusal.{Refusal}
use Rattle.refusals.proofs.NumberLaws.{Known, of_number, known_within}
use Rattle.testing.specs.Testing.{TestOutcome, answer, refused, tests, testing, test_answer}

-- a decision that was found otherwise
decided_as : {P : Type 0} (d : Dec P) (b : Bool) → Says P b → decide d ≡ b
decided_as d true p = decided_yes d p
decided_as d false p = decided_no d p

module _ (s : List ℕ) (count : ℕ) (X : Timing) where
  abbrev asked : Bool
  asked = decide (tightest? s X)

  pub testing_refused : (k : ℕ) → admitted s count X ≡ spec.refused k → refused k ≡ testing s count X
  unfolding testing
  testing_refused k e = sym (ap (λ g. tests g asked) e)

  pub testing_says : (t : Sheet) (r : List ℕ) → admitted s count X ≡ got t r → (b : Bool) → Says (TightestInTime t X) b →
      answer b ≡ testing s count X
  unfolding testing
  testing_says t r e b h = sym (ap (λ g. tests g asked) e ∙ ap answer found)
    where
      found : asked ≡ b
      found = decided_as (tightest? s X) b (subst (λ g. Says (TightestOn g X) b) (sym (admitted_as s count X t r e).read_is) h)

-- ---- a refusal's number is one of document 01's
refused_same : {j k : ℕ} → ◌≡◌ {A = TestOutcome} (refused k) (refused j) → j ≡ k
refused_same e = cc

pub refusal_is : (s : List ℕ) (count : ℕ) (X : Timing) (k : ℕ) → refused k ≡ testing s count X → Known k
unfolding testing
refusal_is s count X k a = go (admitted s count X) refl a
  where
    go : (g : Got Sheet) → admitted s count X ≡ g → refused k ≡ tests g (decide (tightest? s X)) → Known k
    go (spec.refused j) e a = let h = refused_same a in let (r, q) = admitted_is s count X j e in (r, sym h ∙ q)
    go (got t r) e a = let z : ◌≡◌ {A = ℕ} 0 1 = cc in let x : ⊥ = omega arith in absurd x

pub known_number : (s : List ℕ) (count : ℕ) (X : Timing) (k : ℕ) → refused k ≡ testing s count X → (1 ≤ k) × (k ≤ 14)
known_number s count X k a = known_within k (refusal_is s count X k a)

-- ---- no two answers stand for one outcome
abbrev tested_as : TestOutcome → Result Bool Refusal
tested_as (answer b) = Ok b
tested_as (refused k) = Err (refusal_of k)

back : (q : Result Bool Refusal) → tested_as (test_answer q) ≡ q
back (Ok b) = refl
back (Err r) = ap Err (of_number r)

pub tested_one : (q r : Result Bool Refusal) → test_answer q ≡ test_answer r → q ≡ r
tested_one q r e = sym (back q) ∙ ap tested_as e ∙ back r
