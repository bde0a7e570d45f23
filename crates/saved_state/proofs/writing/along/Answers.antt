-- `saved_state::writing::along` meets its contract. The loop's invariant: the first i numbers are those of the first i codes.
use native.Mathlib.Omega.{arith}
use lib.ListN.{get_or}
use Rattle.lit.specs.Lits.{index}
use Rattle.saved_state.specs.Loops.{mapped_next}
use Rattle.saved_state.proofs.writing.along.Goals as goal

pub loop-i-preserved : goal.loop-i-preserved
loop-i-preserved c =
    let a = c.args in
    rw c.index.ensures (mapped_next (λ v. get_or a.table.now (index v) 0) a.codes.now 0 c.loop-i.invariant (omega arith))
