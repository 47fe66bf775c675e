-- A success is no refusal, and two that are the same hold the same. Assumes nothing.
use Rattle.std.proofs.Common.{◌≡◌, ℕ, arith}
use Rattle.std.specs.Prelude.{Result, Ok, Err}

module _ {A E : Type 0} where
  pub ok_not_err : {C : Type 0} (a : A) (e : E) → ◌≡◌ {A = Result A E} (Ok a) (Err e) → C
  ok_not_err a e h = let z : ◌≡◌ {A = ℕ} 0 1 = cc in let x : ⊥ = omega arith in absurd x

  pub same_ok : (a b : A) → ◌≡◌ {A = Result A E} (Ok a) (Ok b) → a ≡ b
  same_ok a b h = cc

  pub same_err : (a b : E) → ◌≡◌ {A = Result A E} (Err a) (Err b) → a ≡ b
  same_err a b h = cc
