-- `forms::text::occurs_in_block` meets its contract: what is left of the bytes still decides.
use Rattle.std.proofs.Common.{arith}
use Rattle.forms.specs.Reading.{occurs_same, occurs_other, occurs_end}
use Rattle.forms.proofs.text.occurs_in_block.Goals as goal
use Rattle.forms.proofs.text.occurs_in_block.Goals.{then-x-b, else-x-b}

pub loop-x-preserved : goal.loop-x-preserved
loop-x-preserved c =
    let b = c.args.b in
    let l = c.args.bytes.now in
    let i = c.loop-x.x-index in
    elim c.if-x-b.branch [ then-x-b w ↦ (omega arith, omega (arith, occurs_same b l i (omega arith) w.if-x-b.true)) | else-x-b w ↦ (omega arith, omega (arith, occurs_other b l i (omega arith) w.if-x-b.false)) ]

pub returns : goal.returns
returns c = omega (arith, c.loop-x.invariant, occurs_end c.args.b c.args.bytes.now c.loop-x.x-index (omega arith))
