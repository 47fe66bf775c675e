-- What the program writes (document 02, No. 6): on standard output the sheet or a refusal, on standard error a sentence for a refusal; for a wrong call
-- nothing, and how to call it.
use Rattle.std.specs.Prelude.{ℕ, List, []}
use Rattle.sheet.specs.Sheet.{Got, got}
use Rattle.sheet.specs.Sheet as sheet
use Rattle.sheet.specs.Text.{bytes}
use Rattle.writing.specs.Texts.{refusal_text}
use Rattle.advice.specs.Advice.{advice}
use Rattle.hiring.specs.Hiring.{chained, HireOutcome, hired, refused, hiring}
use Rattle.hire.specs.Call.{Wanted, asked}

abbrev pub hire_text : HireOutcome → List ℕ
hire_text (hired t x) = t
hire_text (refused k) = refusal_text k

abbrev pub hire_complaint : HireOutcome → List ℕ
hire_complaint (hired t x) = []
hire_complaint (refused k) = advice k

-- the program lends as many bytes as a sheet may have
abbrev pub program_hire : Wanted → HireOutcome
program_hire w = hiring w.panels w.triggers (chained w.panels w.triggers w.state w.before) 2048

-- how to call it
abbrev pub usage : List ℕ
usage =
    bytes "usage: hire PANELS TRIGGERS STATE [NUMBER], where STATE is from 0 to 4294967295 and NUMBER, 1 where none is given, tells which sheet of the chain\n"

abbrev pub call_text : Got Wanted → List ℕ
call_text (got w s) = hire_text (program_hire w)
call_text (sheet.refused k) = []

abbrev pub call_complaint : Got Wanted → List ℕ
call_complaint (got w s) = hire_complaint (program_hire w)
call_complaint (sheet.refused k) = usage

unfoldable pub program_text : (panels triggers state number : List ℕ) → List ℕ
program_text p t s k = call_text (asked p t s k)

unfoldable pub program_complaint : (panels triggers state number : List ℕ) → List ℕ
program_complaint p t s k = call_complaint (asked p t s k)
