-- `trail_check::opened_ok` meets its contract: the first that fails fails the whole.
use Rattle.std.proofs.Common.{sym, arith}
use Rattle.laws.specs.Every.{every_not}
use Rattle.trail_check.specs.Check.{opened_ok}
use Rattle.trail_check.proofs.opened_ok.Goals as goal

pub returns-then-not-level_ok : goal.returns-then-not-level_ok
unfolding opened_ok
returns-then-not-level_ok c = sym (every_not _ _ c.loop-k.k (omega arith) (sym c.if-not-level_ok.ensures))
