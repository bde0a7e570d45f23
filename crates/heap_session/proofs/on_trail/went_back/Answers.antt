-- `went_back` meets its contract: what is undone is offered to the heap, then taken off the trail.
use mathlib.Core.Path.{ap}
use Rattle.trail.specs.Trail.{Trail}
use Rattle.heap_session.specs.Held.{both}
use Rattle.trail.specs.Memory.{trail_in}
use Rattle.vsids.specs.Memory.{vsids_in}
use Rattle.heap_session.proofs.on_trail.Going.{stayed, went}
use Rattle.heap_session.proofs.on_trail.went_back.Goals as goal

-- the session is named, since to find it takes long
pub returns-then-level-t-clause-went_back : goal.returns-then-level-t-clause-went_back
returns-then-level-t-clause-went_back c =
    λ n m lits ends.
    let e = c.view-shown.ensures in
    went n m lits ends c.args.level (both n m lits ends (trail_in c.args.t.now) (vsids_in c.args.h.now)) c.if-level-t.true _ _ c.backtrack_to.ensures.went_back
    (rw (ap (λ (t : Trail). t.trail) e, ap (λ (t : Trail). t.opened) e, ap (λ (t : Trail). t.len) e) at c.offer_undone.ensures.offered)

pub returns-else-level-t-clause-went_back : goal.returns-else-level-t-clause-went_back
returns-else-level-t-clause-went_back c = λ n m lits ends. stayed n m lits ends _ _ c.if-level-t.false
