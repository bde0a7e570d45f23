-- `saved_state::loading::doubles` meets its contract. The loop's invariant: the first i activities are those of the bits.
use native.Mathlib.Omega.{arith}
use lib.Ieee.{binary64, of_bits}
use Rattle.saved_state.specs.Loops.{mapped_next}
use Rattle.saved_state.proofs.loading.doubles.Goals as goal

pub loop-i-preserved : goal.loop-i-preserved
loop-i-preserved c =
    let bits = c.args.bits.now in
    rw c.double.ensures (mapped_next (of_bits binary64) bits 0 c.loop-i.invariant (omega arith))
