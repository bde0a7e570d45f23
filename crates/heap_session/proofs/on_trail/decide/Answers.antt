-- `decide` meets its contract: by what `get_next` found; the variable that it picks has room on the trail.
use Prim.Native.Nat.{◌<◌}
use mathlib.Core.Path.{sym, ap}
use borrow.Author.Tests.{le-ltb}
use lib.ListN.{length}
use Rattle.trail.specs.Trail.{Trail}
use Rattle.trail.specs.Memory.{trail_in, RoomFor}
use Rattle.vsids.proofs.Choice.{chose_right}
use Rattle.choosers.specs.Heap.{next_of}
use Rattle.book.specs.Session.{call}
use Rattle.session.proofs.OnTrail.{decision_room}
use Rattle.session.proofs.Outcomes.{failed, chosen, none_open}
use Rattle.heap_session.proofs.on_trail.Needed.{picked_free}
use Rattle.heap_session.proofs.on_trail.decide.Goals as goal
use Rattle.heap_session.proofs.on_trail.decide.Goals.{In-Some}

pub returns-then-p-ge2-clause-answered : goal.returns-then-p-ge2-clause-answered
unfolding call
returns-then-p-ge2-clause-answered c = λ n m lits ends. failed _ (le-ltb _ _ c.if-p-ge2.true)

-- the variable that was found has room
room : (c : In-Some) → let t = c.args.t.now in let n = length t.values.now in RoomFor n c.in-Some.v (trail_in t) × ((t.at.level < n) × (c.args.p < 2))
room c =
    let k = c.requires in
    let r = chose_right _ k.heap (sym (rw (ap (λ (t : Trail). t.values) c.view.ensures) at c.in-Some.ensures.found)) in
    decision_room _ _ k.small k.trail r.var c.if-p-ge2.false (picked_free k.trail _ _ r.var r.chosen_open)

pub enq_decision-requires-clause-room_for : goal.enq_decision-requires-clause-room_for
enq_decision-requires-clause-room_for c = (room (goal.at.enq_decision-requires-clause-room_for c).In-Some).0

pub enq_decision-requires-clause-level_in_bounds : goal.enq_decision-requires-clause-level_in_bounds
enq_decision-requires-clause-level_in_bounds c = (room (goal.at.enq_decision-requires-clause-level_in_bounds c).In-Some).1

pub returns-in-Some-clause-answered : goal.returns-in-Some-clause-answered
returns-in-Some-clause-answered c =
    λ n m lits ends. chosen c.if-p-ge2.false (ap next_of (sym (rw (ap (λ (t : Trail). t.values) c.view.ensures) at c.in-Some.ensures.found))) c.enq_decision.ensures.decided

pub returns-in-None-clause-answered : goal.returns-in-None-clause-answered
returns-in-None-clause-answered c =
    λ n m lits ends. none_open c.if-p-ge2.false (ap next_of (sym (rw (ap (λ (t : Trail). t.values) c.view.ensures) at c.in-None.ensures.found)))
