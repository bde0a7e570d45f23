-- `session::on_trail::learn_unit` meets its contract: a variable that is not refused has room once level 0 is reached.
use Rattle.std.proofs.lemmas.Result.{err_from_is_err_and}
use Rattle.session.proofs.Outcomes.{refused_by}
use Rattle.session.proofs.OnTrail.{unit_room, unit_put}
use Rattle.session.proofs.on_trail.learn_unit.Goals as goal

pub returns-in_err-unit_refusal-clause-answered : goal.returns-in_err-unit_refusal-clause-answered
returns-in_err-unit_refusal-clause-answered c =
    let p = err_from_is_err_and c.from_residual.result c.from_residual.ensures.1 in
    rw (p.1, p.2) (refused_by _ _ (c.in_err-unit_refusal.ensures _ c.requires.1.1))

pub learn_unit-requires-clause-room_for : goal.learn_unit-requires-clause-room_for
learn_unit-requires-clause-room_for c =
    let g = c.requires in
    rw g.1.1.lengths.values_long (unit_room _ _ _ (c.in_ok-unit_refusal.ensures _ g.1.1) g.0 g.1.1)

pub returns-clause-answered : goal.returns-clause-answered
returns-clause-answered c = unit_put _ _ _ (c.in_ok-unit_refusal.ensures _ c.requires.1.1) c.learn_unit.ensures.learnt
