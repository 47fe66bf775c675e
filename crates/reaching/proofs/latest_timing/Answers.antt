-- `reaching::latest_timing` meets its contract: what testing refuses, then the list, then the timing that its lines make. Assumes nothing.
use mathlib.Core.Path.{refl, ap, sym, ◌∙◌}
use Rattle.std.specs.Prelude.{Err}
use Rattle.planning.specs.declared.Unplanned.TheVariants.{Refused}
use Rattle.sheet.specs.Cue.{cue_of}
use Rattle.std.proofs.lemmas.Result.{err_from_is_err_and}
use Rattle.refusals.proofs.NumberLaws.{of_number}
use Rattle.moments.proofs.GivenLaws.{given_moments}
use Rattle.laying.proofs.WidthLaws.{room_same}
use Rattle.laying.proofs.SheetLaws.{listing, listed_lines, listed_full}
use Rattle.reaching.proofs.WordsLaws.{near, weighable, handed}
use Rattle.reaching.proofs.ReachLaws.{does_refused, does_lines, does_full}
use Rattle.reaching.proofs.latest_timing.Goals as goal

pub returns-in_err-prepared-clause-answer : goal.returns-in_err-prepared-clause-answer
returns-in_err-prepared-clause-answer c =
    let p = err_from_is_err_and c.from_residual.result c.from_residual.ensures.1 in
    (does_refused _ _ _ _ _ c.in_err-prepared.ensures (p.1 ∙ ap Err (p.2 ∙ ap Refused (sym (of_number _))))).answer

pub returns-in_err-prepared-clause-written : goal.returns-in_err-prepared-clause-written
returns-in_err-prepared-clause-written c =
    let p = err_from_is_err_and c.from_residual.result c.from_residual.ensures.1 in
    (does_refused _ _ _ _ _ c.in_err-prepared.ensures (p.1 ∙ ap Err (p.2 ∙ ap Refused (sym (of_number _))))).written

pub early_enough-within-requires : goal.early_enough-within-requires
early_enough-within-requires c = let (t, x, e, M) = c.in_ok-prepared.ensures in (t, M.placed, M.moments, M.good, near _ _ _ t x e)

pub latest-times-requires : goal.latest-times-requires
latest-times-requires c =
    let (t, x, e, M) = c.in_ok-prepared.ensures in
    let answers = c.in-Ok.ensures (cue_of t) M.marked.prepared in
    let words = c.early_enough-within.ensures t M.placed M.moments M.good (near _ _ _ t x e) in
    (cue_of t, _, weighable _ _ _ t x e _ M.marked.triggers_are _ _ answers words)

pub returns-in-Err-clause-answer : goal.returns-in-Err-clause-answer
returns-in-Err-clause-answer c =
    let (t, x, e, M) = c.in_ok-prepared.ensures in
    let wide = c.width-words.ensures t (c.is_some.ensures ∙ given_moments t _ M.moments) in
    let answers = c.in-Err.ensures (cue_of t) M.marked.prepared in
    (does_full _ _ _ _ t x e _ _ wide refl (listed_full t M.marked.triggers_are _ (room_same _ wide) answers)).answer

pub returns-in-Err-clause-written : goal.returns-in-Err-clause-written
returns-in-Err-clause-written c =
    let (t, x, e, M) = c.in_ok-prepared.ensures in
    let wide = c.width-words.ensures t (c.is_some.ensures ∙ given_moments t _ M.moments) in
    let answers = c.in-Err.ensures (cue_of t) M.marked.prepared in
    (does_full _ _ _ _ t x e _ _ wide refl (listed_full t M.marked.triggers_are _ (room_same _ wide) answers)).written

pub returns-in-Ok-clause-answer : goal.returns-in-Ok-clause-answer
returns-in-Ok-clause-answer c =
    let (t, x, e, M) = c.in_ok-prepared.ensures in
    let wide = c.width-words.ensures t (c.is_some.ensures ∙ given_moments t _ M.moments) in
    let answers = c.in-Ok.ensures (cue_of t) M.marked.prepared in
    let same = M.marked.triggers_are in
    let words = c.early_enough-within.ensures t M.placed M.moments M.good (near _ _ _ t x e) in
    let told = c.latest-times.ensures (cue_of t) _ (weighable _ _ _ t x e _ same _ _ answers words) in
    let back = handed _ _ _ t x e words.count told _ (c.handed_back.ensures _ _ M.placed) in
    let ready = listing t same _ (room_same _ wide) M.good M.order M.placed M.moments answers in
    (does_lines _ _ _ _ t x e _ _ wide _ back (listed_lines t same _ (room_same _ wide) answers (c.finish.ensures t _ ready))).answer

pub returns-in-Ok-clause-written : goal.returns-in-Ok-clause-written
returns-in-Ok-clause-written c =
    let (t, x, e, M) = c.in_ok-prepared.ensures in
    let wide = c.width-words.ensures t (c.is_some.ensures ∙ given_moments t _ M.moments) in
    let answers = c.in-Ok.ensures (cue_of t) M.marked.prepared in
    let same = M.marked.triggers_are in
    let words = c.early_enough-within.ensures t M.placed M.moments M.good (near _ _ _ t x e) in
    let told = c.latest-times.ensures (cue_of t) _ (weighable _ _ _ t x e _ same _ _ answers words) in
    let back = handed _ _ _ t x e words.count told _ (c.handed_back.ensures _ _ M.placed) in
    let ready = listing t same _ (room_same _ wide) M.good M.order M.placed M.moments answers in
    (does_lines _ _ _ _ t x e _ _ wide _ back (listed_lines t same _ (room_same _ wide) answers (c.finish.ensures t _ ready))).written
