-- Each refusal is the one of its number, 1 to 14, and each number that a refusal has is the number of the one that it gives. Assumes nothing.
use Rattle.std.proofs.Common.{◌≡◌, ℕ, ◌≤◌, refl, sym, ap, ◌∙◌, arith}
use Rattle.refusals.specs.declared.Refusal.{Refusal}
use Rattle.refusals.specs.declared.Refusal.TheVariants as refusal
use Rattle.refusals.specs.Numbers.{number, refusal_of}

pub of_number : (r : Refusal) → refusal_of (number r) ≡ r
unfolding refusal_of
of_number refusal.SheetTooLong = refl
of_number refusal.WrongForm = refl
of_number refusal.NoSize = refl
of_number refusal.OutOfRange = refl
of_number refusal.MarkAbsent = refl
of_number refusal.PanelWithoutLag = refl
of_number refusal.NoFloor = refl
of_number refusal.NoTimes = refl
of_number refusal.WrongCount = refl
of_number refusal.TimeTooFar = refl
of_number refusal.NoLoadSize = refl
of_number refusal.SpaceTooShort = refl
of_number refusal.TriggerWithoutLag = refl

-- 9 is none of these
pub not_nine : (r : Refusal) → ¬ (number r ≡ 9)
unfolding refusal_of
not_nine r e = let q = ap number (sym (of_number r) ∙ ap refusal_of e) in let x : ⊥ = omega (arith, q, e) in x

-- a number that a refusal has
abbrev pub Known : ℕ → Type 0
Known k = (r : Refusal) × (k ≡ number r)

pub number_of : (k : ℕ) → Known k → number (refusal_of k) ≡ k
number_of k (r, e) = ap (λ k. number (refusal_of k)) e ∙ ap number (of_number r) ∙ sym e

pub number_within : (r : Refusal) → (1 ≤ number r) × (number r ≤ 14)
number_within refusal.SheetTooLong = (omega arith, omega arith)
number_within refusal.WrongForm = (omega arith, omega arith)
number_within refusal.NoSize = (omega arith, omega arith)
number_within refusal.OutOfRange = (omega arith, omega arith)
number_within refusal.MarkAbsent = (omega arith, omega arith)
number_within refusal.PanelWithoutLag = (omega arith, omega arith)
number_within refusal.NoFloor = (omega arith, omega arith)
number_within refusal.NoTimes = (omega arith, omega arith)
number_within refusal.WrongCount = (omega arith, omega arith)
number_within refusal.TimeTooFar = (omega arith, omega arith)
number_within refusal.NoLoadSize = (omega arith, omega arith)
number_within refusal.SpaceTooShort = (omega arith, omega arith)
number_within refusal.TriggerWithoutLag = (omega arith, omega arith)

pub known_within : (k : ℕ) → Known k → (1 ≤ k) × (k ≤ 14)
known_within k (r, e) = let n = number_within r in (omega (arith, n.0), omega (arith, n.1))
