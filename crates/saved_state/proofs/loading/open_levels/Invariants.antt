use lib.ListN.{length}
use Rattle.saved_state.specs.Loops.{Opened}
use Rattle.saved_state.proofs.loading.open_levels.Given as goal

abbrev pub invariant-loop-i : goal.invariant-loop-i
invariant-loop-i l = Opened (length l.initial.opened) l.levels l.opened l.level l.count l.i
