-- `check_lits`: each literal passes the test.
use Rattle.std.proofs.Common.{rules}
use Rattle.formula.specs.Clauses.{var_below, vars_below}
use Rattle.formula.proofs.Alls.{every_is}
use Rattle.formula.proofs.check_lits.Goals as goal

pub returns : goal.returns
unfolding vars_below var_below
returns c = every_is (var_below c.args.n c.args.codes.now) _ (search rules)
