-- The texts of a kept table's outcome (document 01, "Kept table and walk", and "A refusal is written `refused=` and its number, LF").
use Rattle.std.specs.Prelude.{List, [], ℕ}
use Rattle.advice.specs.Advice.{advice}
use Rattle.writing.specs.Texts.{kept_text, refusal_text}
use Rattle.keeping.specs.Keeping.{KeptOutcome, kept, refused}

abbrev pub kept_output : KeptOutcome → List ℕ
kept_output (kept D panels k l) = kept_text D panels k l
kept_output (refused k) = refusal_text k

-- on standard error: nothing for a table, a sentence for a refusal
abbrev pub kept_complaint : KeptOutcome → List ℕ
kept_complaint (kept D panels k l) = []
kept_complaint (refused k) = advice k
