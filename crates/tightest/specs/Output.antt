-- The texts of a test's outcome (document 01, "Testing a timing", and "A refusal is written `refused=` and its number, LF").
use Rattle.std.specs.Prelude.{true, false, List, [], ℕ}
use Rattle.sheet.specs.Text.{bytes}
use Rattle.advice.specs.Advice.{advice}
use Rattle.writing.specs.Texts.{refusal_text}
use Rattle.testing.specs.Testing.{TestOutcome, answer, refused}

abbrev pub tested_text : TestOutcome → List ℕ
tested_text (answer true) = bytes "tightest=yes\n"
tested_text (answer false) = bytes "tightest=no\n"
tested_text (refused k) = refusal_text k

-- on standard error: nothing for yes or no, a sentence for a refusal
abbrev pub tested_complaint : TestOutcome → List ℕ
tested_complaint (answer b) = []
tested_complaint (refused k) = advice k
