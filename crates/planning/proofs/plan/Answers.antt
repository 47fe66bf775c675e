-- `planning::plan` meets its contract: the list is drawn from the sheet's tables. Assumes nothing.
use mathlib.Core.Path.{◌≡◌, ap, sym, subst, ◌∙◌}
use mathlib.Core.List.{List}
use Prim.Native.Nat.{ℕ}
use lib.IntN.{ℤ}
use Rattle.std.specs.Prelude.{Result, Err}
use Rattle.std.proofs.lemmas.Result.{err_from_is_err_and}
use Rattle.refusals.specs.Numbers.{number}
use Rattle.refusals.specs.declared.Refusal.{Refusal}
use Rattle.refusals.proofs.NumberLaws.{of_number}
use Rattle.sheet.specs.Sheet.{refused}
use Rattle.sheet.specs.Ordered.{ordered}
use Rattle.moments.proofs.GivenLaws.{given_moments}
use Rattle.laying.specs.Laying.{Lists}
use Rattle.lines.specs.declared.NoRoom as lines
use Rattle.planning.specs.Planning.{planning}
use Rattle.planning.specs.Inner.{Does}
use Rattle.planning.specs.declared.CuePlan.{CuePlan}
use Rattle.planning.specs.declared.Unplanned.{Unplanned}
use Rattle.planning.specs.declared.Unplanned.TheVariants.{Refused, NoRoom}
use borrow.Author.Rules.{rules}
use mir.Syntax.{w64}
use mir.Val.{to_z, of_z}
use mir.Facts.{to_z-of_z}
use Rattle.maxplus.proofs.EntryLaws.{num_inj}
use Rattle.sheet.proofs.Spares.{unused_byte}
use Rattle.walk.proofs.Follows.{counts_follow}
use Rattle.planning.proofs.PlanLaws.{err_named, ok_named, does_refused, does_lines, does_full}
use Rattle.planning.proofs.plan.Goals as goal

-- the refusal of a list with more lines than there is space for
abbrev no_room : ℕ → lines.NoRoom → Unplanned
no_room words e = NoRoom (record { count = e.count; width = words })

module _ (s : List ℕ) (space : List ℤ) where
  -- a refusal that is passed on
  passed : (e : Refusal) {r : Result CuePlan Unplanned} {u : Unplanned} → ordered s ≡ refused (number e) → r ≡ Err u → u ≡ Refused e →
      Does (planning s space) space space r
  passed e o p q = does_refused s space _ o (p ∙ ap Err (q ∙ ap Refused (sym (of_number e))))

pub prepare-requires : goal.prepare-requires
prepare-requires c = (_, c.read_sheet.ensures)

pub returns-in_err-prepared-clause-answer : goal.returns-in_err-prepared-clause-answer
returns-in_err-prepared-clause-answer c =
    let p = err_from_is_err_and c.from_residual.result c.from_residual.ensures.1 in
    (passed _ _ _ (c.in_err-prepared.ensures _ c.read_sheet.ensures) p.1 p.2).answer

pub returns-in_err-prepared-clause-written : goal.returns-in_err-prepared-clause-written
returns-in_err-prepared-clause-written c =
    let p = err_from_is_err_and c.from_residual.result c.from_residual.ensures.1 in
    (passed _ _ _ (c.in_err-prepared.ensures _ c.read_sheet.ensures) p.1 p.2).written

pub tally-counts-requires : goal.tally-counts-requires
tally-counts-requires c =
    let (s, x, q, Q) = c.in_ok-prepared.ensures _ c.read_sheet.ensures in
    (Q.marked.few_levels, Q.marked.follows.small, Q.marked.masks_size)

pub number-deviation-requires : goal.number-deviation-requires
number-deviation-requires c =
    let (s, x, q, Q) = c.in_ok-prepared.ensures _ c.read_sheet.ensures in
    Q.marked.word

pub list_sheet-requires : goal.list_sheet-requires
list_sheet-requires c =
    let (s, x, q, Q) = c.in_ok-prepared.ensures _ c.read_sheet.ensures in
    let wide = c.width-words.ensures s (c.is_some.ensures ∙ given_moments s _ Q.moments) in
    (s, Q, wide)

pub returns-in_err-count-clause-answer : goal.returns-in_err-count-clause-answer
returns-in_err-count-clause-answer c =
    let (s, x, q, Q) = c.in_ok-prepared.ensures _ c.read_sheet.ensures in
    let wide = c.width-words.ensures s (c.is_some.ensures ∙ given_moments s _ Q.moments) in
    let (n, listed, named) = err_named (no_room c.width-words.result) _ c.map_err.ensures.cases c.in_err-count.was in
    let p = err_from_is_err_and c.from_residual-in_err-count.result c.from_residual-in_err-count.ensures.1 in
    (does_full _ _ s x q _ _ (p.1 ∙ ap Err (p.2 ∙ named)) wide (subst (Lists s _ _) listed (c.list_sheet.ensures s Q wide))).answer

pub returns-in_err-count-clause-written : goal.returns-in_err-count-clause-written
returns-in_err-count-clause-written c =
    let (s, x, q, Q) = c.in_ok-prepared.ensures _ c.read_sheet.ensures in
    let wide = c.width-words.ensures s (c.is_some.ensures ∙ given_moments s _ Q.moments) in
    let (n, listed, named) = err_named (no_room c.width-words.result) _ c.map_err.ensures.cases c.in_err-count.was in
    let p = err_from_is_err_and c.from_residual-in_err-count.result c.from_residual-in_err-count.ensures.1 in
    (does_full _ _ s x q _ _ (p.1 ∙ ap Err (p.2 ∙ named)) wide (subst (Lists s _ _) listed (c.list_sheet.ensures s Q wide))).written

pub returns-clause-answer : goal.returns-clause-answer
returns-clause-answer c =
    let (s, x, q, Q) = c.in_ok-prepared.ensures _ c.read_sheet.ensures in
    let wide = c.width-words.ensures s (c.is_some.ensures ∙ given_moments s _ Q.moments) in
    let listed = ok_named (no_room c.width-words.result) _ c.map_err.ensures.cases c.in_ok-count.was in
    let z : to_z w64 (of_z w64 c.number-deviation.result) ≡ c.number-deviation.result = to_z-of_z {w = w64} (search rules) in
    (does_lines _ _ s x q _ _ _ _ _ _ _ Q.placed.triggers_are (Q.placed.spares_are ∙ unused_byte s)
    (z ∙ num_inj (sym c.number-deviation.ensures ∙ Q.marked.deviation)) (c.tally-counts.ensures ∙ counts_follow Q.marked.follows) wide
    (subst (Lists s _ _) listed (c.list_sheet.ensures s Q wide))).answer

pub returns-clause-written : goal.returns-clause-written
returns-clause-written c =
    let (s, x, q, Q) = c.in_ok-prepared.ensures _ c.read_sheet.ensures in
    let wide = c.width-words.ensures s (c.is_some.ensures ∙ given_moments s _ Q.moments) in
    let listed = ok_named (no_room c.width-words.result) _ c.map_err.ensures.cases c.in_ok-count.was in
    let z : to_z w64 (of_z w64 c.number-deviation.result) ≡ c.number-deviation.result = to_z-of_z {w = w64} (search rules) in
    (does_lines _ _ s x q _ _ _ _ _ _ _ Q.placed.triggers_are (Q.placed.spares_are ∙ unused_byte s)
    (z ∙ num_inj (sym c.number-deviation.ensures ∙ Q.marked.deviation)) (c.tally-counts.ensures ∙ counts_follow Q.marked.follows) wide
    (subst (Lists s _ _) listed (c.list_sheet.ensures s Q wide))).written
