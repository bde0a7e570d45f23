-- `relink`: the stores are those of the definition, in its order.
use borrow.Author.Tests.{eq-eqb, ne_eqb}
use Rattle.vmtf.specs.Vmtf.{relink}
use Rattle.move_to_front.proofs.relink.Goals as goal
use Rattle.move_to_front.proofs.relink.Goals.{then-after, else-after}

pub returns-clause-relinked : goal.returns-clause-relinked
unfolding relink
returns-clause-relinked c = elim c.if-after.branch [ then-after w ↦ rw (w.list-is, ne_eqb _ _ w.if-after.true) | else-after w ↦ rw (w.list-is, eq-eqb _ _ w.if-after.false) ]
