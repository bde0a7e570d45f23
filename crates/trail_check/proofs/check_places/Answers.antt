-- `trail_check::check_places` meets its contract: the marks set up are enough, and mark nothing.
use Rattle.lit.specs.Numbers.{max_vars}
use Rattle.trail_check.proofs.Marks.{no_marks}
use Rattle.trail_check.proofs.check_places.Goals as goal

pub check_marked-requires-clause-marked : goal.check_marked-requires-clause-marked
check_marked-requires-clause-marked c = no_marks _ _ 64 c.if-t-le-FEW.true

pub check_marked-requires-2-clause-marked : goal.check_marked-requires-2-clause-marked
check_marked-requires-2-clause-marked c = no_marks _ _ max_vars c.requires.0
