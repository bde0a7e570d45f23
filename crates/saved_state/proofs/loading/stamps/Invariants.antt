use lib.ListN.{length}
use Rattle.saved_state.specs.Loops.{Along}
use Rattle.saved_state.proofs.loading.stamps.Given as goal

abbrev pub invariant-loop-i : goal.invariant-loop-i
invariant-loop-i l = Along (length l.order) l.order l.stamps l.initial.ts l.ts l.i
