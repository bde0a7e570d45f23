-- `trail::Trail::make_fresh` meets its contract: each list is filled.
use Rattle.trail.specs.Trail.{fresh_trail}
use Rattle.trail.proofs.Trail.make_fresh.Goals as goal

pub returns-clause-fresh : goal.returns-clause-fresh
unfolding fresh_trail
returns-clause-fresh c = cc (c.fill.ensures.after (λ y e. e), c.fill-2.ensures.after (λ y e. e), c.fill-3.ensures.after (λ y e. e), c.fill-4.ensures.after (λ y e. e))
