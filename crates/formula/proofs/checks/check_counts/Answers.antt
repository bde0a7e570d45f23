-- `check_counts`: a list that passes has the shape of one.
use Rattle.std.proofs.Common.{sym, ◌∙◌}
use Rattle.formula.specs.Good.{list_facts}
use Rattle.formula.proofs.checks.check_counts.Goals as goal

pub returns-clause-good : goal.returns-clause-good
returns-clause-good c = (list_facts _ _).0 (sym c.check_list.ensures ∙ c.if-not-check_list.false)
