use lib.ListN.{length}
use Rattle.saved_state.specs.Loops.{Front}
use Rattle.saved_state.proofs.writing.widened.Given as goal

abbrev pub invariant-loop-i : goal.invariant-loop-i
invariant-loop-i l = Front (length l.switches) l.switches l.out l.i
