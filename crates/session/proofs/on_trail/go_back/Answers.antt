-- `session::on_trail::go_back` meets its contract: going back puts nothing on the trail.
use Rattle.std.proofs.Common.{◌-◌, ap, refl, arith}
use Rattle.trail.specs.Trail.{Trail}
use Rattle.trail.specs.Back.{back_len}
use Rattle.session.specs.OnTrail.{go_back_on}
use Rattle.session.proofs.on_trail.go_back.Goals as goal

pub overflow_sub-result : goal.overflow_sub-result
overflow_sub-result c = omega (arith, ap (λ (t : Trail). t.len) c.backtrack_safe.ensures.went_back, back_len c.args.level c.requires.1.1)

pub returns-clause-answered : goal.returns-clause-answered
unfolding go_back_on
returns-clause-answered c = let e = c.backtrack_safe.ensures.went_back in record { status = refl; reply = ap (λ (t : Trail). c.args.t.now.at.len - t.len) e; session = e }
