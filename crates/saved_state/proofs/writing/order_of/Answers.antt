-- `saved_state::writing::order_of` meets its contract. The loop's invariant: the first i variables are the list's, and curr leads on to the others.
use native.Mathlib.Omega.{arith}
use Rattle.saved_state.specs.Loops.{walk_in, walk_next}
use Rattle.saved_state.proofs.writing.order_of.Goals as goal

pub bounds-next-curr : goal.bounds-next-curr
bounds-next-curr c = walk_in c.loop-place.invariant (omega arith)

pub loop-place-preserved : goal.loop-place-preserved
loop-place-preserved c = walk_next c.loop-place.invariant (omega arith)
