use lib.ListN.{length}
use Rattle.saved_state.specs.Loops.{Front}
use Rattle.saved_state.proofs.copying.copy_front.Given as goal

abbrev pub invariant-loop-i : goal.invariant-loop-i
invariant-loop-i g l = Front (length l.initial.out) l.front l.out l.i
