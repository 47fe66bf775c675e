-- Reaching's answer, its number, list and words, is that of the times lent.
use mathlib.Core.Path.{◌≡◌, ap, ◌∙◌}
use mathlib.Core.List.{List}
use Prim.Native.Nat.{ℕ, ◌≤◌}
use lib.IntN.{ℤ}
use lib.ListN.{length}
use Rattle.cue.specs.Sizes.{size_limit, six}
use Rattle.timing.specs.Times.{component}
use Rattle.reaching.specs.Reaching.{refused, reaching, reached_space, reach_answer}
use Rattle.reaching.proofs.ReachLaws.{reaching_of}
use Rattle.std.specs.Prelude.{Result}
use Rattle.planning.specs.Planning.{unplanned_number}
use Rattle.planning.specs.declared.Unplanned.{Unplanned}
use Rattle.reaching.specs.declared.Reached.{Reached}
use Rattle.answer_words.specs.Words.{reach_words, number_by, reach_number}
use Rattle.planner_c.proofs.Numbered.{reach_numbered}
use Rattle.planner_c.proofs.TimesLaws.{as_lent}

-- what was reached for the timing that was made of the times
module _ (s : List ℕ) (space lent : List ℤ) {at : List ℤ} {count : ℕ} (n : count ≡ length lent)
    (e : length lent ≤ size_limit → at ≡ six (component lent)) where
  asked : reaching s count (component at) space ≡ reaching s (length lent) (component lent) space
  asked = as_lent s (λ count G. reaching s count G space) refused (λ count G k h. reaching_of s count G space h) lent at n e

  pub space_told : {after : List ℤ} → after ≡ reached_space (reaching s count (component at) space) space →
      after ≡ reached_space (reaching s (length lent) (component lent) space) space
  space_told es = es ∙ ap (λ o. reached_space o space) asked

  module _ {r : Result Reached Unplanned} (er : r ≡ reach_answer (reaching s count (component at) space)) where
    pub number_told : {k : ℕ} → k ≡ number_by unplanned_number r → k ≡ reach_number (reaching s (length lent) (component lent) space)
    number_told ek = ek ∙ ap (number_by unplanned_number) (er ∙ ap reach_answer asked) ∙ reach_numbered s _ _ space

    pub words_told : (answer : List ℤ) {a : List ℤ} → a ≡ reach_words r answer →
        a ≡ reach_words (reach_answer (reaching s (length lent) (component lent) space)) answer
    words_told answer ea = ea ∙ ap (λ r. reach_words r answer) (er ∙ ap reach_answer asked)
