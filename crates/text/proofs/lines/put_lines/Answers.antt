-- `text::lines::put_lines` meets its contract. The loop's invariant: the lines that are passed are put, and the words of the others are left.
-- Assumes nothing.
use Rattle.std.proofs.Common.{◌≡◌, ◌+◌, ◌-◌, sym, ap, ◌∙◌, arith}
use Rattle.std.specs.Iterator.Adapters.{take_count, take_source}
use Rattle.std.specs.Slice.Iter.{chunks_exact_rest, chunks_exact_size}
use Rattle.trigger_sets.specs.Sets.{bit}
use Rattle.writing.proofs.LineLaws.{text_part, pass_none, pass, all_passed}
use Rattle.writing.proofs.WriterLaws.{put_as}
use Rattle.writing.proofs.TextLaws.{grown_none, grown_more, grown_as, texts_none, texts_more}
use Rattle.text.proofs.lines.put_lines.Goals as goal

pub loop-line-init : goal.loop-line-init
loop-line-init c =
    let i = c.into_iter-line-iterator.ensures.into_iter_gives in
    let t = c.take-line-items.ensures in
    let left : take_count c.into_iter-line-iterator.result ≡ c.args.count = ap take_count i ∙ t.count in
    let source = ap take_source i ∙ t.source in
    let none : c.args.count - take_count c.into_iter-line-iterator.result ≡ 0 = omega arith in
    record {
      passing = pass_none left (ap chunks_exact_size source ∙ c.chunks_exact.ensures.size) (ap chunks_exact_rest source ∙ c.chunks_exact.ensures.rest);
      grown = grown_as _ 100 (sym none) (grown_none _ 100 _ (texts_none _ _ _ _) (omega arith));
    }

pub loop-line-preserved : goal.loop-line-preserved
loop-line-preserved c =
    let v = c.loop-line.invariant in
    let p = c.put_capped.ensures in
    let ((same, here, _), fewer) = c.in-Some.ensures.steps in
    let few = v.passing.few in
    let one : c.args.count - take_count c.loop-line.line-iterator + 1 ≡ c.args.count - take_count c.next.new.self = omega arith in
    let text = text_part c.args.n c.requires.1 (bit c.args.spares) c.requires.2 c.args.words.now c.in-Some.line.now _ _
    (sym v.passing.rest_is ∙ here.0) (here.1 ∙ v.passing.size_is) in
    record {
      passing = pass v.passing c.in-Some.line.now fewer same here.0 here.1;
      grown = grown_as _ 100 one (grown_more _ 100 (texts_more _ _ _ _ _) v.grown (put_as text p.puts) (omega (arith, p.short)));
    }

pub returns : goal.returns
returns c =
    let v = c.loop-line.invariant in
    let all = all_passed v.passing c.requires.3 (λ h. (c.in-None.ensures.steps h).1.0) in
    (grown_as _ 100 all v.grown).puts
