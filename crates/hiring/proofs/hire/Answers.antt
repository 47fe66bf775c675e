-- hire: the outcome in each case, by the tests of the sizes and of the room; the text comes to the front
use Rattle.std.proofs.Common.{rules, ◌≡◌, length, sym, refl, ap, ◌∙◌, ap₂, arith}
use Rattle.std.specs.Prelude.{Ok, Err}
use Rattle.refusals.specs.declared.Refusal.TheVariants.{NoLoadSize, SpaceTooShort}
use Rattle.refusals.proofs.NumberLaws.{of_number}
use Rattle.writing.proofs.WriterLaws.{written}
use Rattle.hiring.specs.Hiring.{hiring, refused}
use Rattle.hiring.proofs.HireLaws.{size_there, no_panels, no_triggers, no_room, room_there, does, made_length, delivered}
use Rattle.hiring.proofs.hire.Goals.{then-not-is_size-via-then-not-is_size, then-not-is_size-via-else-not-is_size+then-not-is_size-2}
use Rattle.hiring.proofs.hire.Goals as goal

pub returns-then-not-is_size-clause-returned : goal.returns-then-not-is_size-clause-returned
returns-then-not-is_size-clause-returned c =
    let none : hiring c.args.panels c.args.triggers c.args.state (length c.args.out.now) ≡ refused 12 = (elim c.then-not-is_size.branch [
      | then-not-is_size-via-then-not-is_size w ↦ no_panels _ _ _ _ (sym c.is_size.ensures ∙ w.if-not-is_size.true)
      | then-not-is_size-via-else-not-is_size+then-not-is_size-2 w ↦
          no_triggers _ _ _ _ (sym c.is_size.ensures ∙ w.if-not-is_size.false) (sym w.is_size-else-not-is_size.ensures ∙ w.if-not-is_size-2.true)
    ]) in
    (does _ _ _ _ c.args.out.now none (ap Err (sym (of_number NoLoadSize))) refl).0

pub returns-then-not-is_size-clause-written : goal.returns-then-not-is_size-clause-written
returns-then-not-is_size-clause-written c =
    let none : hiring c.args.panels c.args.triggers c.args.state (length c.args.out.now) ≡ refused 12 = (elim c.then-not-is_size.branch [
      | then-not-is_size-via-then-not-is_size w ↦ no_panels _ _ _ _ (sym c.is_size.ensures ∙ w.if-not-is_size.true)
      | then-not-is_size-via-else-not-is_size+then-not-is_size-2 w ↦
          no_triggers _ _ _ _ (sym c.is_size.ensures ∙ w.if-not-is_size.false) (sym w.is_size-else-not-is_size.ensures ∙ w.if-not-is_size-2.true)
    ]) in
    (does _ _ _ _ c.args.out.now none (ap Err (sym (of_number NoLoadSize))) refl).1

pub put_sheet-next-requires : goal.put_sheet-next-requires
put_sheet-next-requires c =
    let m = sym c.is_size.ensures ∙ c.if-not-is_size.false in
    let n = sym c.is_size-else-not-is_size.ensures ∙ c.if-not-is_size-2.false in
    (omega (arith, ap length c.new-sheet.ensures.kept), (size_there _ m).1, (size_there _ n).1)

pub returns-then-out-length-clause-returned : goal.returns-then-out-length-clause-returned
returns-then-out-length-clause-returned c =
    let m = sym c.is_size.ensures ∙ c.if-not-is_size.false in
    let n = sym c.is_size-else-not-is_size.ensures ∙ c.if-not-is_size-2.false in
    let made = made_length (written c.new-sheet.ensures.front c.put_sheet-next.ensures.text) in
    (does _ _ _ _ c.args.out.now (no_room _ _ _ _ m n (omega arith)) (ap Err (sym (of_number SpaceTooShort))) refl).0

pub returns-then-out-length-clause-written : goal.returns-then-out-length-clause-written
returns-then-out-length-clause-written c =
    let m = sym c.is_size.ensures ∙ c.if-not-is_size.false in
    let n = sym c.is_size-else-not-is_size.ensures ∙ c.if-not-is_size-2.false in
    let made = made_length (written c.new-sheet.ensures.front c.put_sheet-next.ensures.text) in
    (does _ _ _ _ c.args.out.now (no_room _ _ _ _ m n (omega arith)) (ap Err (sym (of_number SpaceTooShort))) refl).1

pub returns : goal.returns
returns c =
    let m = sym c.is_size.ensures ∙ c.if-not-is_size.false in
    let n = sym c.is_size-else-not-is_size.ensures ∙ c.if-not-is_size-2.false in
    let s = c.put_sheet-next.ensures in
    let w = written c.new-sheet.ensures.front s.text in
    let made = made_length w in
    let (p, q) = does _ _ _ _ c.args.out.now (room_there _ _ _ _ m n (omega arith))
    (ap₂ (λ l x. Ok (record { length = l; state = x })) made s.state) (delivered c.put_bytes.ensures (search rules)) in
    record { returned = p; written = q }
