use Rattle.formula.proofs.checks.Marked.{Marked}
use Rattle.formula.proofs.checks.check_clause.Given as goal

abbrev pub invariant-loop-code : goal.invariant-loop-code
invariant-loop-code l = Marked l.n l.codes l.mark l.code-index l.marks
