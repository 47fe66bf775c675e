-- `planner_c::tuzhelar_kept` meets its contract. Assumes nothing.
use mathlib.Core.Path.{ap, ◌∙◌}
use Rattle.refusals.specs.Numbers.{number}
use Rattle.answer_words.specs.Words.{number_by}
use Rattle.planner_c.proofs.Few.{if_panels}
use Rattle.planner_c.proofs.Numbered.{kept_numbered}
use Rattle.planner_c.proofs.tuzhelar_kept.Goals as goal

pub write_kept-requires : goal.write_kept-requires
write_kept-requires c = if_panels _ c.kept_table-r.ensures

pub returns-clause-returned : goal.returns-clause-returned
returns-clause-returned c = c.write_kept.ensures.number ∙ ap (number_by number) c.kept_table-r.ensures ∙ kept_numbered _
