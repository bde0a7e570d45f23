use Rattle.std.proofs.Common.{◌≡◌}
use Rattle.laws.specs.Every.{every}
use Rattle.trail_check.specs.Check.{value_ok}
use Rattle.trail_check.proofs.facts.values_ok.Given as goal

abbrev pub invariant-loop-value : goal.invariant-loop-value
invariant-loop-value l = l.ok ≡ every (value_ok l.values) l.value-index
