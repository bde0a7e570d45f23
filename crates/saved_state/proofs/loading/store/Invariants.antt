use mathlib.Core.List.{map}
use lib.ListN.{length}
use Rattle.lit.specs.Lits.{index}
use Rattle.saved_state.specs.Loops.{Along}
use Rattle.saved_state.proofs.loading.store.Given as goal

abbrev pub invariant-loop-i : goal.invariant-loop-i
invariant-loop-i l = Along (length l.codes) (map index l.codes) l.numbers l.initial.out l.out l.i
