use Rattle.std.proofs.Common.{◌≡◌, ◌+◌, drop}
use Rattle.formula.specs.Clauses.{clauses}
use Rattle.formula.specs.Checks.{check_each}
use Rattle.formula.specs.Marks.{Unmarked}
use Rattle.formula.proofs.checks.check_each.Given as goal

-- the answer is that of the clauses from i on, and no variable has the mark of clause i or a later one
abbrev pub invariant-loop-i : goal.invariant-loop-i
invariant-loop-i l = record {
  rest : check_each l.n (clauses l.list.lits.now l.list.ends.now) ≡ check_each l.n (drop l.i (clauses l.list.lits.now l.list.ends.now));
  marks : Unmarked l.n (l.i + 1) l.marks;
}
