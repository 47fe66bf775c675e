-- The answer of a refusal.
use mathlib.Core.Path.{◌≡◌, ap, sym, ◌∙◌}
use Rattle.std.specs.Prelude.{Err}
use Rattle.refusals.specs.Numbers.{number}
use Rattle.refusals.specs.declared.Refusal.{Refusal}
use Rattle.refusals.proofs.NumberLaws.{of_number}
use Rattle.sheet.specs.Sheet.{Got, refused, Sheet}
use Rattle.reading.specs.Reading.{answer}

pub refused_answer : {g : Got Sheet} (e : Refusal) → g ≡ refused (number e) → Err e ≡ answer g
refused_answer e p = ap Err (sym (of_number e)) ∙ ap answer (sym p)
