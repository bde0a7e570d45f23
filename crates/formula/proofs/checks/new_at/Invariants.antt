use Rattle.laws.specs.Every.{Passed}
use Rattle.formula.specs.Checks.{differ}
use Rattle.formula.proofs.checks.new_at.Given as goal

abbrev pub invariant-loop-code : goal.invariant-loop-code
invariant-loop-code l = Passed (differ l.codes l.i) l.i l.code-index
