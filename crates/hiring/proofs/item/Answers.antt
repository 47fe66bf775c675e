-- item: in each arm the kind is known, and the item is that of its case
use Rattle.std.proofs.Common.{ℕ, sym, ap, ◌∙◌}
use Rattle.words.specs.Words.{word}
use Rattle.hiring.specs.Hiring.{drawn_item, absence}
use Rattle.hiring.specs.Inner.{kind_of}
use Rattle.hiring.specs.declared.Lines.{Lines}
use Rattle.hiring.proofs.DrawLaws.{first_item, later_item, every_item, below_item, above_item}
use Rattle.hiring.proofs.item.Goals as goal

-- the item of a kind that is known
abbrev of-kind : (i j u : ℕ) → Lines → ℕ
of-kind i j u k = word (drawn_item (absence (kind_of k) i j) u)

pub returns-then-j-eq0 : goal.returns-then-j-eq0
returns-then-j-eq0 c = c.number.ensures ∙ first_item _ _ _ c.if-j-eq0.true ∙ sym (ap (of-kind c.args.i c.args.j c.args.u) c.in-FirstThere.is)

pub returns-else-j-eq0 : goal.returns-else-j-eq0
returns-else-j-eq0 c = c.by_sevens.ensures ∙ later_item _ _ _ c.if-j-eq0.false ∙ sym (ap (of-kind c.args.i c.args.j c.args.u) c.in-FirstThere.is)

pub returns-in-AllThere : goal.returns-in-AllThere
returns-in-AllThere c = c.number-in-AllThere.ensures ∙ every_item _ _ _ ∙ sym (ap (of-kind c.args.i c.args.j c.args.u) c.in-AllThere.is)

pub returns-then-j-i : goal.returns-then-j-i
returns-then-j-i c = c.by_sevens-then-j-i.ensures ∙ below_item _ _ _ c.if-j-i.true ∙ sym (ap (of-kind c.args.i c.args.j c.args.u) c.in-BelowDiagonal.is)

pub returns-else-j-i : goal.returns-else-j-i
returns-else-j-i c = above_item _ _ _ c.if-j-i.false ∙ sym (ap (of-kind c.args.i c.args.j c.args.u) c.in-BelowDiagonal.is)
