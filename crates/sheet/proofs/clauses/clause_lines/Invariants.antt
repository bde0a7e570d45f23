use Rattle.sheet.specs.Running.{SoFar}
use Rattle.sheet.proofs.clauses.clause_lines.Given as goal

abbrev pub invariant-loop-out : goal.invariant-loop-out
invariant-loop-out l = SoFar l.n l.sheet l.initial.u l.initial.out l.initial.lits l.initial.ends l.u l.out l.lits l.ends

abbrev pub decreases-loop-out : goal.decreases-loop-out
decreases-loop-out l = l.u.place.left
