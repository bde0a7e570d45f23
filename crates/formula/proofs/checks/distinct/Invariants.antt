use Rattle.std.proofs.Common.{◌≡◌, true}
use Rattle.laws.specs.Every.{every}
use Rattle.formula.specs.Checks.{new_at}
use Rattle.formula.proofs.checks.distinct.Given as goal

abbrev pub invariant-loop-i : goal.invariant-loop-i
invariant-loop-i l = every (new_at l.codes) l.i ≡ true
