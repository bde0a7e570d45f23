use Rattle.std.proofs.Common.{◌≡◌}
use Rattle.laws.specs.Every.{every}
use Rattle.trail_check.specs.Check.{covered_at}
use Rattle.trail_check.proofs.covered_ok.Given as goal

abbrev pub invariant-loop-v : goal.invariant-loop-v
invariant-loop-v l = l.ok ≡ every (covered_at l.values l.marks) l.v
