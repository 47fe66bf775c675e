-- `text::lines::put_lines` meets its contract. The loop's invariant: the lines that are passed are put, and the words of the others are left.
-- Assumes nothing.
use Rattle.std.proofs.Common.{◌-◌}
use Rattle.std.specs.Iterator.Adapters.{take_count, take_source}
use Rattle.std.specs.Slice.Iter.{chunks_exact_rest, chunks_exact_size}
use Rattle.trigger_sets.specs.Sets.{bit}
use Rattle.writing.specs.Writing.{texts_of}
use Rattle.writing.proofs.LineLaws.{Passing}
use Rattle.writing.proofs.TextLaws.{Grown}
use Rattle.text.proofs.lines.put_lines.Given as goal

abbrev pub invariant-loop-line : goal.invariant-loop-line
invariant-loop-line l =
    record {
      passing : Passing l.words l.wide l.count (take_count l.line-iterator) (chunks_exact_size (take_source l.line-iterator))
          (chunks_exact_rest (take_source l.line-iterator));
      grown : Grown (λ k. texts_of l.n (bit l.spares) l.wide k l.words) 100 l.initial.w l.w (l.count - take_count l.line-iterator);
    }
