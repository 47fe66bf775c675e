-- Laws of the whole program: from a call, as it is held, to the two texts.
use Rattle.std.proofs.Common.{◌≡◌, ℕ, ◌≤◌, List, [], length, take, Some, None, refl, arith}
use Rattle.sheet.specs.Sheet.{Got, got, refused}
use Rattle.writing.specs.Writing.{Writes}
use Rattle.advice.proofs.AdviceLaws.{answered}
use Rattle.hire.specs.Call.{Wanted, asked}
use Rattle.hire.specs.Output.{hire_text, hire_complaint, program_hire, usage, call_text, call_complaint, program_text, program_complaint}
use Rattle.hire.specs.Inner.{held}
use Rattle.hire.specs.declared.asking.Call.{Call}

-- the two texts that a program writes, each with the count of its bytes
abbrev Both : (out errors : List ℕ) (r q : ℕ) (T S : List ℕ) → Type 0
Both out errors r q T S = ((r ≤ length out) × (r ≡ length (take r out))) ×
    ((take r out ≡ T) × (((q ≤ length errors) × (q ≡ length (take q errors))) × (take q errors ≡ S)))

module _ (p t s k out errors : List ℕ) where
  -- a wrong call: nothing, and how to call the program
  pub wrong_out : {q : ℕ} → None ≡ held (asked p t s k) → Writes errors q usage → Both out errors 0 q (program_text p t s k) (program_complaint p t s k)
  unfolding program_text program_complaint
  wrong_out {q} e w = go (asked p t s k) e
    where
      go : (g : Got Wanted) → None ≡ held g → Both out errors 0 q (call_text g) (call_complaint g)
      go (got v x) f = absurd (let z : ◌≡◌ {A = ℕ} 0 1 = cc in let y : ⊥ = omega arith in y)
      go (refused j) f = answered {out = out} (record { within = omega arith; text = refl }) refl w refl

  -- a good one
  pub good_out : {r q : ℕ} (a : Call) → Some a ≡ held (asked p t s k) →
      ((w : Wanted) → Some a ≡ held (got w []) → Writes out r (hire_text (program_hire w)) × Writes errors q (hire_complaint (program_hire w))) →
      Both out errors r q (program_text p t s k) (program_complaint p t s k)
  unfolding program_text program_complaint
  good_out {r} {q} a e w = go (asked p t s k) e
    where
      go : (g : Got Wanted) → Some a ≡ held g → Both out errors r q (call_text g) (call_complaint g)
      go (got v x) f = let (a, b) = w v f in answered a refl b refl
      go (refused j) f = absurd (let z : ◌≡◌ {A = ℕ} 0 1 = cc in let y : ⊥ = omega arith in y)
