use lib.ListN.{length}
use Rattle.saved_state.specs.Written.{along}
use Rattle.saved_state.specs.Loops.{Front}
use Rattle.saved_state.proofs.writing.along.Given as goal

abbrev pub invariant-loop-i : goal.invariant-loop-i
invariant-loop-i l = Front (length l.codes) (along l.codes l.table) l.out l.i
