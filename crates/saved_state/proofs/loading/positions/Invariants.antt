use lib.ListN.{length}
use Rattle.laws.specs.InPlace.{up_to}
use Rattle.saved_state.specs.Loops.{Along}
use Rattle.saved_state.proofs.loading.positions.Given as goal

abbrev pub invariant-loop-i : goal.invariant-loop-i
invariant-loop-i l = Along (length l.members) l.members (up_to (length l.members)) l.initial.indices l.indices l.i
