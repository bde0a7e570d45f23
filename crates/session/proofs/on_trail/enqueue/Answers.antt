-- `session::on_trail::enqueue` meets its contract: a variable that is not refused has room on the trail.
use Rattle.session.proofs.OnTrail.{enqueue_room, enqueue_put}
use Rattle.session.proofs.on_trail.enqueue.Goals as goal

pub enq_assignment-requires : goal.enq_assignment-requires
enq_assignment-requires c =
    let g = c.requires in
    rw g.1.lengths.values_long (enqueue_room _ _ _ _ _ c.in_ok-enqueue_refusal.ensures g.0 g.1)

pub returns-clause-answered : goal.returns-clause-answered
returns-clause-answered c = enqueue_put _ _ _ _ _ c.in_ok-enqueue_refusal.ensures c.enq_assignment.ensures.enqueued
