-- `check`: one check after the other.
use mathlib.Core.Path.{sym, ◌∙◌}
use Rattle.list_session.specs.Check.{state_ok}
use Rattle.list_session.proofs.ListView.check.Goals as goal

pub returns-then-check_trail : goal.returns-then-check_trail
unfolding state_ok
returns-then-check_trail c = rw (sym c.check_trail.ensures ∙ c.if-check_trail.true) c.check.ensures

pub returns-else-check_trail : goal.returns-else-check_trail
unfolding state_ok
returns-else-check_trail c = rw (sym c.check_trail.ensures ∙ c.if-check_trail.false, c.if-check_trail.false)
