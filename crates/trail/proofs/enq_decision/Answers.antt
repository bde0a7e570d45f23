-- `trail::enq_decision` meets its contract: each store is the definition's.
use Rattle.trail.specs.Trail.{enq_decision}
use Rattle.trail.proofs.enq_decision.Goals as goal

pub returns : goal.returns
unfolding enq_decision
returns c = rw c.new.ensures
