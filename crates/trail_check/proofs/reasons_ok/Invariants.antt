use Rattle.std.proofs.Common.{◌≡◌, true}
use Rattle.laws.specs.Every.{every}
use Rattle.trail_check.specs.Check.{reason_ok}
use Rattle.trail_check.proofs.reasons_ok.Given as goal

abbrev pub invariant-loop-v : goal.invariant-loop-v
invariant-loop-v l = every (reason_ok l.m l.t.values.now l.t.reasons.now) l.v ≡ true
