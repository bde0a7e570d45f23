-- `saved_state::writing::stamps_of` meets its contract. The loop's invariant: the first i stamps are those of the first i variables.
use native.Mathlib.Omega.{arith}
use lib.ListN.{get_or}
use Rattle.saved_state.specs.Loops.{mapped_next}
use Rattle.saved_state.proofs.writing.stamps_of.Goals as goal

pub loop-i-preserved : goal.loop-i-preserved
loop-i-preserved c =
    let a = c.args in
    mapped_next (λ v. get_or a.ts.now v 0) a.order.now 0 c.loop-i.invariant (omega arith)
