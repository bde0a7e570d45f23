-- `forms::text::find` meets its contract: what is left of the bytes still decides.
use Rattle.std.proofs.Common.{arith}
use Rattle.forms.specs.Reading.{find_next, find_here, find_none}
use Rattle.forms.proofs.text.find.Goals as goal

pub loop-i-preserved : goal.loop-i-preserved
loop-i-preserved c = omega (arith, c.loop-i.invariant, find_next c.args.b c.args.bytes.now c.loop-i.i (omega arith) c.if-x-b.false)

pub returns-then-x-b : goal.returns-then-x-b
returns-then-x-b c = omega (arith, c.loop-i.invariant, find_here c.args.b c.args.bytes.now c.loop-i.i (omega arith) c.if-x-b.true)

pub returns : goal.returns
returns c = omega (arith, c.loop-i.invariant, find_none c.args.b c.args.bytes.now c.loop-i.i (omega arith))
