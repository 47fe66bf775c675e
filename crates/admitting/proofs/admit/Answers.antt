-- `admitting::admit` meets its contract, refusal by refusal in their order. Assumes nothing.
use mathlib.Core.Path.{◌≡◌, sym, subst, ◌∙◌}
use mathlib.Core.Bool.{Bool, true, false}
use Prim.Native.Nat.{ℕ}
use native.Mathlib.Omega.{arith}
use Rattle.sheet.specs.Meaning.{Timing}
use Rattle.sheet.specs.Times.{some_beyond}
use Rattle.sheet.proofs.AdmittedLaws.{admitted_refused, admitted_10, admitted_11, admitted_on}
use Rattle.std.proofs.lemmas.Result.{err_from_is_err_and}
use Rattle.preparing.proofs.Preparing.{reading_refused, reading_good, triggers_of}
use Rattle.admitting.proofs.admit.Goals as goal

-- the components that are looked at
near_by : {b : Bool} {n m : ℕ} (X : Timing) → b ≡ some_beyond n X → n ≡ m → (v : Bool) → b ≡ v → some_beyond m X ≡ v
near_by X e q v h = subst (λ n. some_beyond n X ≡ v) q (sym e ∙ h)

pub returns-in_err-sheet : goal.returns-in_err-sheet
returns-in_err-sheet c =
    let p = err_from_is_err_and c.from_residual.result c.from_residual.ensures.1 in
    rw (p.1, p.2) (admitted_refused _ _ _ _ (reading_refused _ c.in_err-sheet.ensures))

pub returns-then-timing-n : goal.returns-then-timing-n
returns-then-timing-n c =
    let (t, r, e, W) = reading_good _ c.in_ok-sheet.ensures in
    admitted_10 _ _ _ t r e (λ q. c.if-timing-n.true (q ∙ sym (triggers_of W)))

pub beyond-requires : goal.beyond-requires
beyond-requires c =
    let (t, r, e, W) = reading_good _ c.in_ok-sheet.ensures in
    omega (arith, triggers_of W, W.good.triggers_few)

pub returns-then-beyond : goal.returns-then-beyond
returns-then-beyond c =
    let (t, r, e, W) = reading_good _ c.in_ok-sheet.ensures in
    admitted_11 _ _ _ t r e (c.if-timing-n.false ∙ triggers_of W) (near_by _ c.beyond.ensures (triggers_of W) true c.if-beyond.true)

pub prepare_sheet-requires : goal.prepare_sheet-requires
prepare_sheet-requires c = let (t, r, e, W) = reading_good _ c.in_ok-sheet.ensures in (t, W)

pub returns : goal.returns
returns c =
    let (t, r, e, W) = reading_good _ c.in_ok-sheet.ensures in
    rw
    (admitted_on _ _ _ t r e (c.if-timing-n.false ∙ triggers_of W) (near_by _ c.beyond.ensures (triggers_of W) false c.if-beyond.false))
    (c.prepare_sheet.ensures _ t r e W)
