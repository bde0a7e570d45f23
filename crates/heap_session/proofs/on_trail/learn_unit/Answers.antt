-- `learn_unit` meets its contract: a variable that is not refused has room once level 0 is reached.
use mathlib.Core.List.{[]}
use native.Mathlib.Omega.{arith}
use Rattle.std.proofs.lemmas.Result.{err_from_is_err_and}
use Rattle.lit.specs.Refusals.{refusal_above}
use Rattle.session.proofs.OnTrail.{unit_room, unit_refused, unit_learnt}
use Rattle.heap_session.proofs.on_trail.Going.{back_trail}
use Rattle.heap_session.proofs.on_trail.learn_unit.Goals as goal

pub returns-in_err-unit_refusal-clause-answered : goal.returns-in_err-unit_refusal-clause-answered
returns-in_err-unit_refusal-clause-answered c =
    λ m lits ends.
    let e = c.in_err-unit_refusal in
    let p = err_from_is_err_and c.from_residual.result c.from_residual.ensures.1 in
    rw (p.1, p.2) (unit_refused _ _ (e.ensures _ c.requires.trail) (λ z. omega (arith, refusal_above e.field-0.0)))

pub enq_assignment-requires : goal.enq_assignment-requires
enq_assignment-requires c =
    let k = c.requires in
    let e = back_trail 0 0 [] [] 0 _ _ (c.went_back.ensures.went_back 0 0 [] []) in
    let r = rw (← e) at (unit_room _ _ _ (c.in_ok-unit_refusal.ensures _ k.trail) k.small k.trail) in
    rw r.room.lengths.values_long r

pub returns-clause-answered : goal.returns-clause-answered
returns-clause-answered c =
    λ m lits ends. unit_learnt _ _ (c.in_ok-unit_refusal.ensures _ c.requires.trail) _ (c.went_back.ensures.went_back _ m lits ends) _ c.enq_assignment.ensures.enqueued
