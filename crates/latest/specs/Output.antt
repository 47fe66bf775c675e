-- What the program writes (document 02, No. 1, and document 01, "A refusal is written `refused=` and its number, LF"): on standard output the latest
-- timing or a refusal; on standard error nothing for a timing, a sentence for a refusal.
use Rattle.std.specs.Prelude.{refl, List, [], ℕ}
use Rattle.sheet.specs.Admitted.{admitted}
use Rattle.sheet.specs.Meaning.{Timing}
use Rattle.writing.specs.Texts.{latest_text, full_text, refusal_text}
use Rattle.advice.specs.Advice.{advice}
use Rattle.refusals.specs.Numbers.{number}
use Rattle.planning.specs.declared.Unplanned.{Unplanned}
use Rattle.planning.specs.declared.Unplanned.TheVariants.{Refused, NoRoom}
use Rattle.reaching.specs.Reaching.{ReachOutcome, reached, full, refused, reach_of}

abbrev pub reached_text : ReachOutcome → List ℕ
reached_text (reached n X caps L) = latest_text n X
reached_text (full w k) = full_text k
reached_text (refused k) = refusal_text k

-- the text where there is no timing
abbrev pub unplanned_text : Unplanned → List ℕ
unplanned_text (Refused r) = refusal_text (number r)
unplanned_text (NoRoom needed) = full_text needed.count

abbrev pub reached_complaint : ReachOutcome → List ℕ
reached_complaint (reached n X caps L) = []
reached_complaint (full w k) = advice 9
reached_complaint (refused k) = advice k

-- "The program lends space for 2,000 lines", as document 01 has it of `plan`
abbrev pub program_reach : List ℕ → ℕ → Timing → ReachOutcome
program_reach s count G = reach_of s count G (λ wide. 2000) (admitted s count G) refl

unfoldable pub program_text : List ℕ → ℕ → Timing → List ℕ
program_text s count G = reached_text (program_reach s count G)

unfoldable pub program_complaint : List ℕ → ℕ → Timing → List ℕ
program_complaint s count G = reached_complaint (program_reach s count G)
