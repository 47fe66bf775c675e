-- `planner_c::tuzhelar_test` meets its contract. Assumes nothing.
use mathlib.Core.Path.{◌≡◌, ap, sym, ◌∙◌}
use mathlib.Core.List.{List}
use Prim.Native.Nat.{ℕ, ◌≤◌}
use lib.IntN.{ℤ}
use lib.ListN.{length}
use Rattle.cue.specs.Sizes.{size_limit, six}
use Rattle.timing.specs.Times.{component}
use Rattle.testing.specs.Testing.{refused, testing, test_answer}
use Rattle.std.specs.Prelude.{Result}
use Rattle.refusals.specs.declared.Refusal.{Refusal}
use Rattle.std.proofs.Common.{Bool}
use Rattle.testing.proofs.TestLaws.{testing_refused}
use Rattle.planner_c.proofs.TimesLaws.{as_lent}
use Rattle.answer_words.specs.Words.{test_number}
use Rattle.planner_c.proofs.tuzhelar_test.Goals as goal

-- the number of what was found of the timing that was made of the times
found : (s : List ℕ) (lent : List ℤ) {at : List ℤ} {count : ℕ} {r q : Result Bool Refusal} → r ≡ q → test_answer r ≡ testing s count (component at) →
    count ≡ length lent → (length lent ≤ size_limit → at ≡ six (component lent)) →
    test_number (test_answer q) ≡ test_number (testing s (length lent) (component lent))
found s lent {at} d h n e =
    ap test_number (ap test_answer (sym d) ∙ h ∙ as_lent s (testing s) refused (λ count X k e. sym (testing_refused s count X k e)) lent at n e)

pub returns-in-Ok-true : goal.returns-in-Ok-true
returns-in-Ok-true c =
    let t = c.lent_timing.ensures in
    found _ c.args.times.now (rw c.in-Ok-true.field-0-test at c.in-Ok-true.is) c.test_timing.ensures t.number t.times

pub returns-in-Ok-false : goal.returns-in-Ok-false
returns-in-Ok-false c =
    let t = c.lent_timing.ensures in
    found _ c.args.times.now (rw c.in-Ok-false.field-0-test at c.in-Ok-false.is) c.test_timing.ensures t.number t.times

pub returns-in-Err : goal.returns-in-Err
returns-in-Err c =
    let t = c.lent_timing.ensures in
    c.from.ensures ∙ c.number.ensures ∙ found _ c.args.times.now c.in-Err.is c.test_timing.ensures t.number t.times
