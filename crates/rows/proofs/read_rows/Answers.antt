-- `rows::read_rows` meets its contract. Loop invariants: what was read stands in front of what is left, and its words are stored. Assumes
-- nothing.
use Prim.Native.Nat.{ℕ, ◌+◌}
use mathlib.Core.Path.{◌≡◌, refl, sym, subst, ◌∙◌}
use mathlib.Core.List.{List}
use lib.ListN.{set}
use Rattle.std.proofs.lemmas.Option.{none-some}
use Rattle.maxplus.specs.Finite.{each, map_l}
use Rattle.words.specs.Words.{word}
use Rattle.rows.specs.Grid.{strip, strips}
use Rattle.rows.specs.Inner.{content_of}
use Rattle.rows.proofs.RowsLaws.{items_none, items_stop, items_step, items_line, items_words}
use Rattle.rows.proofs.RowsLaws.{RowsRead, rows_none, rows_stop, rows_step, rows_done, line_key, line_items}
use Rattle.refusals.specs.declared.Refusal.TheVariants as refusal
use Rattle.rows.proofs.read_rows.Goals as goal
use Rattle.rows.proofs.read_rows.Goals.{else-lines-test, then-lines-test+then-not-literal_at, then-lines-test+else-not-literal_at+then-items-test+in-None, then-lines-test+else-not-literal_at+else-items-test+in-Some-first_fault}

pub lines-init : goal.lines-init
unfolding strips strip word each
lines-init c = (rows_none c.requires.0 refl, refl)

pub items-init : goal.items-init
unfolding strip word each map_l
items-init c = (items_none c.if-not-literal_at.ensures.1 refl, c.lines.invariant.1)

pub items-preserved : goal.items-preserved
items-preserved c =
    let (e, p, q, b) = c.in-Some.ensures in
    (items_step c.items.invariant.0 c.items-test.true c.requires.2 e _ _ p q b, c.items.invariant.1)

pub lines-preserved : goal.lines-preserved
lines-preserved c =
    let i = c.items in
    let a = c.args in (
      subst (λ (w : List ℕ). RowsRead a.s.now a.key.now a.from (content_of a.content) a.lines a.count
          (set c.lines.rows c.lines.i w) i.at (c.lines.i + 1))
          (sym (items_words i.invariant.0 c.items-test.false c.in-None-first_fault.ensures refl))
          (rows_step c.lines.invariant.0 c.lines-test.true c.requires.1 i.invariant.0.es i.at
          (items_line c.items.invariant.0 c.items-test.false c.in-None-first_fault.ensures _ _ c.if-not-literal_at.ensures.0) i.invariant.0.within),
      i.invariant.1,
    )

pub returns-in-Some-met : goal.returns-in-Some-met
returns-in-Some-met c =
    let a = c.args in
    let stop = rows_stop c.lines.invariant.0 in
    elim c.lines-test.branch [
      | else-lines-test w ↦ absurd (none-some _ (sym (sym c.in-Some-met.is ∙ w.met-is ∙ c.lines.invariant.1)))
      | then-lines-test+then-not-literal_at w ↦
          let is : c.in-Some-met.refusal ≡ refusal.WrongForm = (let e = sym c.in-Some-met.is ∙ w.met-is in cc) in
          rw is (stop w.lines-test.true 2 (line_key a.key.now (content_of a.content) a.count _ 2 w.if-not-literal_at.ensures))
      | then-lines-test+else-not-literal_at+then-items-test+in-None w ↦
          let is : c.in-Some-met.refusal ≡ refusal.WrongForm = (let e = sym c.in-Some-met.is ∙ w.met-is in cc) in
          rw is (stop w.lines-test.true 2 (line_items a.key.now (content_of a.content) a.count _ _ 2 w.if-not-literal_at.ensures.0
          (items_stop w.items.invariant.0 w.items-test.true w.in-None.ensures)))
      | then-lines-test+else-not-literal_at+else-items-test+in-Some-first_fault w ↦
          let is : c.in-Some-met.refusal ≡ w.refusal.result = (let e = sym c.in-Some-met.is ∙ w.met-is in cc) in
          rw (is, w.refusal.ensures) (stop w.lines-test.true _
          (items_line w.items.invariant.0 w.items-test.false w.in-Some-first_fault.ensures _ _ w.if-not-literal_at.ensures.0))
    ]

pub returns-in-None-met : goal.returns-in-None-met
returns-in-None-met c =
    elim c.lines-test.branch [
      | else-lines-test w ↦
          rw w.at-is (record {
            value = c.lines.invariant.0.t;
            is = rows_done c.lines.invariant.0 w.lines-test.false;
            within = c.lines.invariant.0.within;
            words = c.lines.invariant.0.words;
          })
      | then-lines-test+then-not-literal_at w ↦ absurd (none-some _ (sym (sym w.met-is ∙ c.in-None-met.is)))
      | then-lines-test+else-not-literal_at+then-items-test+in-None w ↦ absurd (none-some _ (sym (sym w.met-is ∙ c.in-None-met.is)))
      | then-lines-test+else-not-literal_at+else-items-test+in-Some-first_fault w ↦ absurd (none-some _ (sym (sym w.met-is ∙ c.in-None-met.is)))
    ]
