use Rattle.std.proofs.Common.{◌≡◌, ◌+◌}
use Rattle.std.specs.Slice.Iter.{chunks_rest, chunks_size}
use Rattle.forms.specs.Text.{occurs}
use Rattle.forms.specs.Reading.{block}
use Rattle.forms.proofs.text.occurs.Given as goal

abbrev pub invariant-loop-part : goal.invariant-loop-part
invariant-loop-part l = (goal.iterator-loop-part).can_next l.part-iterator × (goal.iterator-loop-part).is_finite l.part-iterator
    × (chunks_size l.part-iterator ≡ block) × (occurs l.b l.bytes ≡ l.count + occurs l.b (chunks_rest l.part-iterator))
