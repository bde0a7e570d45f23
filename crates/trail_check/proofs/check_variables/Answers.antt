-- `trail_check::check_variables` meets its contract: where no variable has a reason, every reason is good.
use Rattle.std.proofs.Common.{sym}
use Rattle.trail_check.proofs.Reasons.{no_reasons}
use Rattle.trail_check.proofs.check_variables.Goals as goal

pub returns-then-unused_ok : goal.returns-then-unused_ok
returns-then-unused_ok c = rw (c.if-unused_ok.true, sym c.if-values_ok.ensures, no_reasons c.args.m _ _ c.requires (sym c.if-unused_ok.ensures))
