-- `trail::enq_assignment` meets its contract: each store is the definition's.
use Rattle.trail.specs.Trail.{enq_assignment}
use Rattle.trail.proofs.enq_assignment.Goals as goal

pub returns : goal.returns
unfolding enq_assignment
returns c = rw (c.index-v.ensures, c.set_assignment.ensures)
