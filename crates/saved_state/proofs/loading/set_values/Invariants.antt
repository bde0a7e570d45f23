use mathlib.Core.List.{map}
use lib.ListN.{length}
use Rattle.lit.specs.Lits.{index, polarity}
use Rattle.saved_state.specs.Loops.{Along}
use Rattle.saved_state.proofs.loading.set_values.Given as goal

abbrev pub invariant-loop-code : goal.invariant-loop-code
invariant-loop-code l = Along (length l.codes) (map index l.codes) (map polarity l.codes) l.initial.values l.values l.code-index
