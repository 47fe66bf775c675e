-- `argument::times` meets its contract. The loop's invariant: the first `count` numbers are read, and what is left from `place` on gives
-- the others. Assumes nothing.
use mathlib.Core.Path.{ap, sym, ◌∙◌}
use native.Mathlib.Omega.{arith}
use Rattle.argument.specs.Inner.{times_of}
use Rattle.argument.proofs.TimesLaws.{six_none, word_near, word_read, found, lone_minus, no_item}
use Rattle.argument.proofs.TimesLaws.{read_none, read_faulty, read_other, read_more, times_last}
use Rattle.argument.proofs.times.Goals as goal

pub loop-item-init : goal.loop-item-init
loop-item-init c = read_none _ _ six_none

pub returns-then-not-present : goal.returns-then-not-present
returns-then-not-present c =
    let none = lone_minus _ c.loop-item.place c.in_ok-item.ensures (sym c.present.ensures ∙ c.if-not-present.true) in
    ap times_of (sym (read_faulty c.loop-item.invariant none))

pub number-requires : goal.number-requires
number-requires c =
    let f = found _ _ c.loop-item.invariant.within c.in_ok-item.ensures (sym c.present.ensures ∙ c.if-not-present.false) in
    word_near f.number_is _ f.word_is

pub returns-then-item-s : goal.returns-then-item-s
returns-then-item-s c =
    let f = found _ _ c.loop-item.invariant.within c.in_ok-item.ensures (sym c.present.ensures ∙ c.if-not-present.false) in
    times_last c.loop-item.invariant f c.if-item-s.true (word_read f.number_is _ f.word_is _ c.number.ensures) c.put.ensures

pub returns-then-s-item-ne44 : goal.returns-then-s-item-ne44
returns-then-s-item-ne44 c =
    let f = found _ _ c.loop-item.invariant.within c.in_ok-item.ensures (sym c.present.ensures ∙ c.if-not-present.false) in
    let left = c.if-item-s.false in
    let k = f.within in
    ap times_of (sym (read_other c.loop-item.invariant f (omega arith) c.if-s-item-ne44.true))

pub loop-item-smaller : goal.loop-item-smaller
loop-item-smaller c =
    let f = found _ _ c.loop-item.invariant.within c.in_ok-item.ensures (sym c.present.ensures ∙ c.if-not-present.false) in
    let k = f.within in
    let o = f.on in
    omega arith

pub loop-item-preserved : goal.loop-item-preserved
loop-item-preserved c =
    let f = found _ _ c.loop-item.invariant.within c.in_ok-item.ensures (sym c.present.ensures ∙ c.if-not-present.false) in
    let left = c.if-item-s.false in
    let k = f.within in
    read_more c.loop-item.invariant f (omega arith) c.if-s-item-ne44.false (word_read f.number_is _ f.word_is _ c.number.ensures) c.put.ensures

pub returns-in_err-item : goal.returns-in_err-item
returns-in_err-item c =
    let none = no_item c.args.s.now c.loop-item.place c.in_err-item.ensures in
    c.from_residual.ensures ∙ ap times_of (sym (read_faulty c.loop-item.invariant none))
