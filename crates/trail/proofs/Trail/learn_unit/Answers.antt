-- `trail::Trail::learn_unit` meets its contract: the enqueue follows the going back.
use Rattle.trail.specs.Trail.{learn_unit}
use Rattle.trail.proofs.Trail.learn_unit.Goals as goal

pub returns-clause-learnt : goal.returns-clause-learnt
unfolding learn_unit
returns-clause-learnt c = cc
