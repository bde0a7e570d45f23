-- `trail_check::reasons_ok` meets its contract: the first that fails fails the whole.
use Rattle.std.proofs.Common.{sym, arith}
use Rattle.laws.specs.Every.{every_not}
use Rattle.trail_check.specs.Check.{reasons_ok}
use Rattle.trail_check.proofs.reasons_ok.Goals as goal

pub returns-then-not-reason_ok : goal.returns-then-not-reason_ok
unfolding reasons_ok
returns-then-not-reason_ok c = sym (every_not _ _ c.loop-v.v (omega arith) (sym c.if-not-reason_ok.ensures))
