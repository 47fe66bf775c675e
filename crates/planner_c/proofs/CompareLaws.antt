-- Comparing's answer from the bytes: its counts are small enough, and its number and words are those of what was compared.
use mathlib.Core.Path.{◌≡◌, ap, sym, subst, ◌∙◌}
use mathlib.Core.Bool.{Bool, true, false, cond, not, ◌||◌, decide}
use mathlib.Core.List.{List}
use Prim.Native.Nat.{ℕ}
use lib.Dec.{eqb}
use lib.IntN.{ℤ}
use Rattle.sheet.proofs.Decided.{alike?}
use Rattle.std.specs.Prelude.{Result, Ok, Err}
use Rattle.planning.specs.Planning.{planning, plan_answer, extent_of}
use Rattle.planning.specs.declared.Unplanned.{Unplanned}
use Rattle.planning.specs.declared.CuePlan.{CuePlan}
use Rattle.comparing.specs.Comparing.{Comparison, answer, unlike, compares, comparing}
use Rattle.answer_words.specs.Words.{compare_number, compare_words}
use Rattle.answer_words.specs.Inner.{Few, Counted}
use Rattle.planner_c.proofs.Few.{plan_few}

-- ---- the counts
compares_counted : (p q : Result CuePlan Unplanned) (same : Bool) → Few (extent_of p) → Few (extent_of q) → Counted (compares p q same)
compares_counted (Err e) q same a b = a
compares_counted (Ok p) (Err e) same a b = b
compares_counted (Ok p) (Ok q) same a b = go (not (eqb p.triggers q.triggers) || not (eqb p.spares q.spares))
  where
    go : (z : Bool) → Counted (cond z (unlike (extent_of (Ok p)) (extent_of (Ok q))) (answer same (extent_of (Ok p)) (extent_of (Ok q))))
    go true = (a, b)
    go false = (a, b)

pub counted : (s₁ s₂ : List ℕ) (left right : List ℤ) {o : Comparison} → o ≡ comparing s₁ s₂ left right → Counted o
unfolding comparing
counted s₁ s₂ left right e = subst Counted (sym e) (compares_counted (plan_answer (planning s₁ left)) (plan_answer (planning s₂ right))
    (decide (alike? s₁ s₂)) (plan_few s₁ left) (plan_few s₂ right))

-- the number and the words of what was compared
pub answered : (s₁ s₂ : List ℕ) (left right lent : List ℤ) {a : List ℤ} {n : ℕ} {o : Comparison} → o ≡ comparing s₁ s₂ left right →
    n ≡ compare_number o → a ≡ compare_words o lent →
    (n ≡ compare_number (comparing s₁ s₂ left right)) × (a ≡ compare_words (comparing s₁ s₂ left right) lent)
answered s₁ s₂ left right lent e n a = (n ∙ ap compare_number e, a ∙ ap (λ o. compare_words o lent) e)
