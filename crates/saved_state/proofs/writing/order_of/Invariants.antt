use lib.ListN.{length}
use Rattle.saved_state.specs.Loops.{Walked}
use Rattle.saved_state.proofs.writing.order_of.Given as goal

abbrev pub invariant-loop-place : goal.invariant-loop-place
invariant-loop-place l = Walked l.next l.start (length l.initial.out) l.out l.curr l.place-index
