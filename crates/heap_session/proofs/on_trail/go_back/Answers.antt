-- `go_back` meets its contract: going back puts nothing on the trail.
use mathlib.Core.Path.{ap}
use mathlib.Core.List.{[]}
use native.Mathlib.Omega.{arith}
use Rattle.trail.specs.Trail.{Trail}
use Rattle.trail.specs.Back.{back_len}
use Rattle.heap_session.proofs.on_trail.Going.{back_trail}
use Rattle.heap_session.proofs.on_trail.Outcomes.{gone_back}
use Rattle.heap_session.proofs.on_trail.go_back.Goals as goal

pub overflow_sub-result : goal.overflow_sub-result
overflow_sub-result c = omega (arith, ap (λ (t : Trail). t.len) (back_trail 0 0 [] [] _ _ _ (c.went_back.ensures.went_back 0 0 [] [])), back_len c.args.level c.requires.trail)

pub returns-clause-answered : goal.returns-clause-answered
returns-clause-answered c = λ n m lits ends. gone_back n m lits ends _ _ _ (c.went_back.ensures.went_back n m lits ends)
