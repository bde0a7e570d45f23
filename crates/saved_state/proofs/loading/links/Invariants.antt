use mathlib.Core.Path.{◌≡◌}
use mathlib.Core.List.{◌∷◌}
use lib.ListN.{length, get_or}
use Rattle.lit.specs.Numbers.{NONE}
use Rattle.saved_state.specs.OfList.{behind_each}
use Rattle.saved_state.specs.Loops.{Along}
use Rattle.saved_state.proofs.loading.links.Given as goal

abbrev pub invariant-loop-i : goal.invariant-loop-i
invariant-loop-i l = Along (length l.order) l.order (behind_each l.order) l.initial.next l.next l.i × Along (length l.order) l.order (NONE ∷ l.order) l.initial.prev l.prev l.i × (l.before ≡ get_or (NONE ∷ l.order) l.i 0)
