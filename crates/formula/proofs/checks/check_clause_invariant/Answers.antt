-- `check_clause_invariant`: the pass over the clause begins with fresh marks.
use Rattle.lit.specs.Numbers.{max_vars}
use Rattle.formula.proofs.Marks.{fresh_marks}
use Rattle.formula.proofs.checks.check_clause_invariant.Goals as goal

pub check_clause-requires : goal.check_clause-requires
check_clause-requires c = fresh_marks max_vars c.in_ok-check_vars.ensures.few
