-- `tick`: after the largest stamp the list is what `rescore` leaves, else only the timestamp moves.
use borrow.Author.Tests.{eq-eqb, ne_eqb}
use Rattle.vmtf.specs.Vmtf.{tick}
use Rattle.move_to_front.proofs.tick.Goals as goal

pub returns-then-list-clause-ticked : goal.returns-then-list-clause-ticked
unfolding tick
returns-then-list-clause-ticked c = rw (eq-eqb _ _ c.if-list.true) c.rescore.ensures.rescored

pub returns-else-list-clause-ticked : goal.returns-else-list-clause-ticked
unfolding tick
returns-else-list-clause-ticked c = rw (ne_eqb _ _ c.if-list.false)
