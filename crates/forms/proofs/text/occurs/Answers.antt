-- `forms::text::occurs` meets its contract: what is left of the bytes still decides.
use Rattle.std.proofs.Common.{◌≡◌, ◌+◌, refl, ◌∙◌, ap, arith}
use Rattle.std.specs.Slice.Iter.{chunks_rest}
use Rattle.forms.specs.Text.{occurs}
use Rattle.forms.specs.TextLaws.{occurs_length}
use Rattle.forms.specs.Reading.{occurs_append, occurs_empty}
use Rattle.forms.proofs.text.occurs.Goals as goal
use Rattle.forms.proofs.text.occurs.Goals.{After-occurs_in_block}

pub loop-part-init : goal.loop-part-init
loop-part-init c =
    let i = c.into_iter-part-iterator.ensures.into_iter_gives in
    let k = c.chunks-part-items.ensures in
    rw (i, k.rest, k.size) (omega arith, tt, refl, omega arith)

pub occurs_in_block-requires : goal.occurs_in_block-requires
occurs_in_block-requires c = let s = c.in-Some.ensures.steps in omega (arith, s.1.1, c.loop-part.invariant.2)

-- what the block adds
added : (c : After-occurs_in_block) → occurs c.args.b c.args.bytes.now ≡ c.loop-part.count + c.occurs_in_block.result + occurs c.args.b (chunks_rest c.next.new.self)
added c =
    let s = c.in-Some.ensures.steps in
    omega (arith, c.loop-part.invariant.3, ap (occurs c.args.b) s.1.0, occurs_append c.args.b c.in-Some.part.now (chunks_rest c.next.new.self), c.occurs_in_block.ensures)

pub overflow_add-count : goal.overflow_add-count
overflow_add-count c = omega (arith, added c, occurs_length c.args.b c.args.bytes.now, c.well_formed)

pub loop-part-preserved : goal.loop-part-preserved
loop-part-preserved c =
    let s = c.in-Some.ensures.steps in
    (omega (arith, s.0, c.loop-part.invariant.0), tt, s.0 ∙ c.loop-part.invariant.2, added c)

pub returns : goal.returns
returns c = let s = c.in-None.ensures.steps in omega (arith, c.loop-part.invariant.3, occurs_empty c.args.b (chunks_rest c.loop-part.part-iterator) s.1.0)
