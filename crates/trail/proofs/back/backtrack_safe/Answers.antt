-- `trail::back::backtrack_safe` meets its contract, by the test on the level.
use borrow.Author.Tests.{lt-ltb, le-ltb}
use Rattle.trail.specs.Trail.{backtrack_safe}
use Rattle.trail.proofs.back.backtrack_safe.Goals as goal

pub returns-then-level-s : goal.returns-then-level-s
unfolding backtrack_safe
returns-then-level-s c = rw (lt-ltb _ _ c.if-level-s.true) c.backtrack_to.ensures

pub returns : goal.returns
unfolding backtrack_safe
returns c = rw (le-ltb _ _ c.if-level-s.false)
